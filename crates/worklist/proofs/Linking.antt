-- The table of links, and what one more line does to it.
use Prim.Native.Nat.{ℕ, zero, suc, ◌+◌, ◌-◌, ◌<◌, ◌≤◌}
use mathlib.Core.Path.{◌≡◌, refl, ap, ◌∙◌, sym}
use mathlib.Core.Logic.{◌≢◌}
use mathlib.Core.Bool.{Bool, true, false, true≢false}
use mathlib.Core.List.{List, [], ◌∷◌, ◌++◌}
use native.Mathlib.Decide.{ℕ_discrete}
use native.Mathlib.Omega.{arith}
use borrow.Author.Tests.{eqb-true}
use lib.Dec.{eqb}
use lib.Seq.{get_or-drop, drop-drop}
use lib.ListN.{length, get_or, drop, length-drop}
use Rattle.determine_side_effects.specs.graph_crate.Check.{Graph}
use Rattle.determine_side_effects.specs.graph_access_crate.Names.{owner}
use Rattle.determine_side_effects.specs.index_crate.declared.ModuleIdx.{ModuleIdx}
use Rattle.determine_side_effects.specs.index_crate.declared.SymbolIdx.{SymbolIdx}
use Rattle.determine_side_effects.specs.facts_crate.declared.Fact.{Fact}
use Rattle.determine_side_effects.specs.facts_crate.declared.Fact.TheVariants.{Module, Statement, Use, CheckedUse, Forward, Bailout}
use Rattle.determine_side_effects.specs.facts_crate.Facts.{kind_of, module_fact}
use Rattle.determine_side_effects.specs.graph_access_crate.Words.{symbol_of}
use Rattle.keep_record.specs.declared.Line.{Line}
use Rattle.worklist.specs.Drain.{line, forwards_to, is_module, module_line}
use Rattle.worklist.specs.Links.{first_forward, last_forward}

abbrev pub no_line : Line
no_line = line (module_fact 0) 0 0 0

-- a line of a kind
module _ (g : Graph) (m : ℕ) (l : Line) where
  pub forward_is : (s : SymbolIdx) → l.fact ≡ Forward s → forwards_to g m l ≡ eqb (owner (symbol_of g s.0)) m
  unfolding forwards_to
  forward_is s e = rw e

  pub forward_not : kind_of l.fact ≢ 5 → forwards_to g m l ≡ false
  unfolding forwards_to
  forward_not n = go l.fact refl
    where
      go : (f : Fact) → l.fact ≡ f → forwards_to g m l ≡ false
      go (Module a) e = rw e
      go (Statement a b) e = rw e
      go (Use a b) e = rw e
      go (CheckedUse a b) e = rw e
      go (Forward s) e = absurd (n (ap kind_of e))
      go (Bailout a) e = rw e

  -- a forward to module m is that of a symbol which m owns
  pub forward_of : forwards_to g m l ≡ true → (s : SymbolIdx) × (l.fact ≡ Forward s) × (owner (symbol_of g s.0) ≡ m)
  forward_of t = go l.fact refl
    where
      no : kind_of l.fact ≢ 5 → (s : SymbolIdx) × (l.fact ≡ Forward s) × (owner (symbol_of g s.0) ≡ m)
      no n = let z : ◌≡◌ {A = Bool} true false = sym t ∙ forward_not n in absurd (true≢false z)

      go : (f : Fact) → l.fact ≡ f → (s : SymbolIdx) × (l.fact ≡ Forward s) × (owner (symbol_of g s.0) ≡ m)
      go (Module a) e = let k = ap kind_of e in no (λ q. omega (arith, k, q))
      go (Statement a b) e = let k = ap kind_of e in no (λ q. omega (arith, k, q))
      go (Use a b) e = let k = ap kind_of e in no (λ q. omega (arith, k, q))
      go (CheckedUse a b) e = let k = ap kind_of e in no (λ q. omega (arith, k, q))
      go (Forward s) e = (s, e, eqb-true _ _ (sym (forward_is s e) ∙ t))
      go (Bailout a) e = let k = ap kind_of e in no (λ q. omega (arith, k, q))

  pub module_is : (n : ModuleIdx) → l.fact ≡ Module n → is_module m l ≡ eqb n.0 m
  unfolding is_module
  module_is n e = rw e

  pub module_not : kind_of l.fact ≢ 1 → is_module m l ≡ false
  unfolding is_module
  module_not n = go l.fact refl
    where
      go : (f : Fact) → l.fact ≡ f → is_module m l ≡ false
      go (Module a) e = absurd (n (ap kind_of e))
      go (Statement a b) e = rw e
      go (Use a b) e = rw e
      go (CheckedUse a b) e = rw e
      go (Forward s) e = rw e
      go (Bailout a) e = rw e

  pub module_of : is_module m l ≡ true → (n : ModuleIdx) × (l.fact ≡ Module n) × (n.0 ≡ m)
  module_of t = go l.fact refl
    where
      no : kind_of l.fact ≢ 1 → (n : ModuleIdx) × (l.fact ≡ Module n) × (n.0 ≡ m)
      no n = let z : ◌≡◌ {A = Bool} true false = sym t ∙ module_not n in absurd (true≢false z)

      go : (f : Fact) → l.fact ≡ f → (n : ModuleIdx) × (l.fact ≡ Module n) × (n.0 ≡ m)
      go (Module a) e = (a, e, eqb-true _ _ (sym (module_is a e) ∙ t))
      go (Statement a b) e = let k = ap kind_of e in no (λ q. omega (arith, k, q))
      go (Use a b) e = let k = ap kind_of e in no (λ q. omega (arith, k, q))
      go (CheckedUse a b) e = let k = ap kind_of e in no (λ q. omega (arith, k, q))
      go (Forward a) e = let k = ap kind_of e in no (λ q. omega (arith, k, q))
      go (Bailout a) e = let k = ap kind_of e in no (λ q. omega (arith, k, q))

-- the line of module m
module _ (m : ℕ) where
  module_here : (i : ℕ) (l : Line) (ls : List Line) → is_module m l ≡ true → module_line m i (l ∷ ls) ≡ i + 1
  unfolding module_line
  module_here i l ls e = rw (e, module_line)

  module_there : (i : ℕ) (l : Line) (ls : List Line) → is_module m l ≡ false → module_line m i (l ∷ ls) ≡ module_line m (i + 1) ls
  unfolding module_line
  module_there i l ls e = rw (e, module_line)

  pub module_line_same : (i : ℕ) (ls : List Line) (l : Line) → is_module m l ≡ false → module_line m i (ls ++ (l ∷ [])) ≡ module_line m i ls
  unfolding module_line
  module_line_same i [] l e = module_there i l [] e
  module_line_same i (x ∷ xs) l e = go (is_module m x) refl (module_line_same (i + 1) xs l e)
    where
      go : (b : Bool) → is_module m x ≡ b → module_line m (i + 1) (xs ++ (l ∷ [])) ≡ module_line m (i + 1) xs → module_line m i (x ∷ (xs ++ (l ∷ []))) ≡ module_line m i (x ∷ xs)
      go true q r = module_here i x (xs ++ (l ∷ [])) q ∙ sym (module_here i x xs q)
      go false q r = module_there i x (xs ++ (l ∷ [])) q ∙ r ∙ sym (module_there i x xs q)

  pub module_line_new : (i : ℕ) (ls : List Line) (l : Line) → is_module m l ≡ true → ((k : ℕ) → k < length ls → is_module m (get_or ls k no_line) ≡ false) → module_line m i (ls ++ (l ∷ [])) ≡ i + length ls + 1
  module_line_new i [] l e n = let z : i + 1 ≡ i + 0 + 1 = omega arith in module_here i l [] e ∙ z
  module_line_new i (x ∷ xs) l e n =
      let z : i + 1 + length xs + 1 ≡ i + suc (length xs) + 1 = omega arith in
      module_there i x (xs ++ (l ∷ [])) (n 0 (omega arith)) ∙ module_line_new (i + 1) xs l e (λ k h. n (suc k) (omega (arith, h))) ∙ z

-- the first and the last forward to module m
module _ (g : Graph) (m : ℕ) where
  pub first_here : (i : ℕ) (l : Line) (ls : List Line) → forwards_to g m l ≡ true → first_forward g m i (l ∷ ls) ≡ i + 1
  unfolding first_forward
  first_here i l ls e = rw (e, first_forward)

  pub first_there : (i : ℕ) (l : Line) (ls : List Line) → forwards_to g m l ≡ false → first_forward g m i (l ∷ ls) ≡ first_forward g m (i + 1) ls
  unfolding first_forward
  first_there i l ls e = rw (e, first_forward)

  last_here : (none i : ℕ) (l : Line) (ls : List Line) → forwards_to g m l ≡ true → last_forward g m none i (l ∷ ls) ≡ last_forward g m (i + 1) (i + 1) ls
  unfolding last_forward
  last_here none i l ls e = rw (e, last_forward)

  last_there : (none i : ℕ) (l : Line) (ls : List Line) → forwards_to g m l ≡ false → last_forward g m none i (l ∷ ls) ≡ last_forward g m none (i + 1) ls
  unfolding last_forward
  last_there none i l ls e = rw (e, last_forward)

  no_first : (i : ℕ) → first_forward g m i [] ≡ 0
  unfolding first_forward
  no_first i = refl

  no_last : (none i : ℕ) → last_forward g m none i [] ≡ none
  unfolding last_forward
  no_last none i = refl

  pub first_same : (i : ℕ) (ls : List Line) (l : Line) → forwards_to g m l ≡ false → first_forward g m i (ls ++ (l ∷ [])) ≡ first_forward g m i ls
  first_same i [] l e = first_there i l [] e ∙ no_first (i + 1) ∙ sym (no_first i)
  first_same i (x ∷ xs) l e = go (forwards_to g m x) refl (first_same (i + 1) xs l e)
    where
      go : (b : Bool) → forwards_to g m x ≡ b → first_forward g m (i + 1) (xs ++ (l ∷ [])) ≡ first_forward g m (i + 1) xs → first_forward g m i (x ∷ (xs ++ (l ∷ []))) ≡ first_forward g m i (x ∷ xs)
      go true q r = first_here i x (xs ++ (l ∷ [])) q ∙ sym (first_here i x xs q)
      go false q r = first_there i x (xs ++ (l ∷ [])) q ∙ r ∙ sym (first_there i x xs q)

  pub first_old : (i : ℕ) (ls : List Line) (l : Line) → first_forward g m i ls ≢ 0 → first_forward g m i (ls ++ (l ∷ [])) ≡ first_forward g m i ls
  first_old i [] l n = absurd (n (no_first i))
  first_old i (x ∷ xs) l n = go (forwards_to g m x) refl (λ r. first_old (i + 1) xs l r)
    where
      go : (b : Bool) → forwards_to g m x ≡ b → (first_forward g m (i + 1) xs ≢ 0 → first_forward g m (i + 1) (xs ++ (l ∷ [])) ≡ first_forward g m (i + 1) xs) → first_forward g m i (x ∷ (xs ++ (l ∷ []))) ≡ first_forward g m i (x ∷ xs)
      go true q r = first_here i x (xs ++ (l ∷ [])) q ∙ sym (first_here i x xs q)
      go false q r = first_there i x (xs ++ (l ∷ [])) q ∙ r (λ z. n (first_there i x xs q ∙ z)) ∙ sym (first_there i x xs q)

  pub first_new : (i : ℕ) (ls : List Line) (l : Line) → forwards_to g m l ≡ true → first_forward g m i ls ≡ 0 → first_forward g m i (ls ++ (l ∷ [])) ≡ i + length ls + 1
  first_new i [] l e n = let z : i + 1 ≡ i + 0 + 1 = omega arith in first_here i l [] e ∙ z
  first_new i (x ∷ xs) l e n = go (forwards_to g m x) refl (λ r. first_new (i + 1) xs l e r)
    where
      go : (b : Bool) → forwards_to g m x ≡ b → (first_forward g m (i + 1) xs ≡ 0 → first_forward g m (i + 1) (xs ++ (l ∷ [])) ≡ i + 1 + length xs + 1) → first_forward g m i (x ∷ (xs ++ (l ∷ []))) ≡ i + length (x ∷ xs) + 1
      go true q r = absurd (omega (arith, n, first_here i x xs q))
      go false q r =
          let z : i + 1 + length xs + 1 ≡ i + suc (length xs) + 1 = omega arith in
          first_there i x (xs ++ (l ∷ [])) q ∙ r (sym (first_there i x xs q) ∙ n) ∙ z

  pub last_same : (none i : ℕ) (ls : List Line) (l : Line) → forwards_to g m l ≡ false → last_forward g m none i (ls ++ (l ∷ [])) ≡ last_forward g m none i ls
  unfolding last_forward
  last_same none i [] l e = last_there none i l [] e
  last_same none i (x ∷ xs) l e = last_same (elim (forwards_to g m x) [ true ↦ i + 1 | false ↦ none ]) (i + 1) xs l e

  pub last_new : (none i : ℕ) (ls : List Line) (l : Line) → forwards_to g m l ≡ true → last_forward g m none i (ls ++ (l ∷ [])) ≡ i + length ls + 1
  unfolding last_forward
  last_new none i [] l e = let z : i + 1 ≡ i + 0 + 1 = omega arith in last_here none i l [] e ∙ z
  last_new none i (x ∷ xs) l e = let z : i + 1 + length xs + 1 ≡ i + suc (length xs) + 1 = omega arith in last_new (elim (forwards_to g m x) [ true ↦ i + 1 | false ↦ none ]) (i + 1) xs l e ∙ z

  -- no first, no last
  pub last_none : (none i : ℕ) (ls : List Line) → first_forward g m i ls ≡ 0 → last_forward g m none i ls ≡ none
  last_none none i [] n = no_last none i
  last_none none i (x ∷ xs) n = go (forwards_to g m x) refl (λ r. last_none none (i + 1) xs r)
    where
      go : (b : Bool) → forwards_to g m x ≡ b → (first_forward g m (i + 1) xs ≡ 0 → last_forward g m none (i + 1) xs ≡ none) → last_forward g m none i (x ∷ xs) ≡ none
      go true q r = absurd (omega (arith, n, first_here i x xs q))
      go false q r = last_there none i x xs q ∙ r (sym (first_there i x xs q) ∙ n)

  -- a forward is one that the first is not behind
  first_some : (i k : ℕ) (ls : List Line) → k < length ls → forwards_to g m (get_or ls k no_line) ≡ true → first_forward g m i ls ≢ 0
  first_some i k [] h t z = absurd (omega (arith, h))
  first_some i zero (x ∷ xs) h t z = omega (arith, z, first_here i x xs t)
  first_some i (suc k) (x ∷ xs) h t z = go (forwards_to g m x) refl (λ r. first_some (i + 1) k xs (omega (arith, h)) t r)
    where
      go : (b : Bool) → forwards_to g m x ≡ b → (first_forward g m (i + 1) xs ≡ 0 → ⊥) → ⊥
      go true q r = omega (arith, z, first_here i x xs q)
      go false q r = r (sym (first_there i x xs q) ∙ z)

-- the last forward: number k, and none behind it
record Last (g : Graph) (m none i : ℕ) (ls : List Line) : Type 0 where
  pub number : ℕ
  pub inside : number < length ls
  pub is : last_forward g m none i ls ≡ i + number + 1
  pub forward : forwards_to g m (get_or ls number no_line) ≡ true
  pub ends : first_forward g m (i + number + 1) (drop (number + 1) ls) ≡ 0

module _ (g : Graph) (m : ℕ) where
  further : (none i : ℕ) (x : Line) (xs : List Line) (none' : ℕ) → last_forward g m none i (x ∷ xs) ≡ last_forward g m none' (i + 1) xs → Last g m none' (i + 1) xs → Last g m none i (x ∷ xs)
  further none i x xs none' e r =
      let z : i + 1 + r.number + 1 ≡ i + suc r.number + 1 = omega arith in
      record {
        number = suc r.number;
        inside = omega (arith, r.inside);
        is = e ∙ r.is ∙ z;
        forward = r.forward;
        ends = let y : suc r.number + 1 ≡ suc (r.number + 1) = omega arith in rw y (ap (λ j. first_forward g m j (drop (r.number + 1) xs)) (sym z) ∙ r.ends);
      }

  last_of : (none i : ℕ) (ls : List Line) → first_forward g m i ls ≢ 0 → Last g m none i ls
  last_of none i [] n = absurd (n (no_first g m i))
  last_of none i (x ∷ xs) n = go (forwards_to g m x) refl (ℕ_discrete (first_forward g m (i + 1) xs) 0) (λ a r. last_of a (i + 1) xs r)
    where
      go : (b : Bool) → forwards_to g m x ≡ b → Dec (first_forward g m (i + 1) xs ≡ 0) → ((a : ℕ) → first_forward g m (i + 1) xs ≢ 0 → Last g m a (i + 1) xs) → Last g m none i (x ∷ xs)
      go true q (yes e) r =
          let z : i + 1 ≡ i + 0 + 1 = omega arith in
          record {
            number = 0;
            inside = omega arith;
            is = last_here g m none i x xs q ∙ last_none g m (i + 1) (i + 1) xs e ∙ z;
            forward = q;
            ends = ap (λ j. first_forward g m j xs) (sym z) ∙ e;
          }
      go true q (no e) r = further none i x xs (i + 1) (last_here g m none i x xs q) (r (i + 1) e)
      go false q (yes e) r = absurd (n (first_there g m i x xs q ∙ e))
      go false q (no e) r = further none i x xs none (last_there g m none i x xs q) (r none e)

  -- a forward with none behind it is the last
  last_is : (none i k : ℕ) (ls : List Line) → k < length ls → forwards_to g m (get_or ls k no_line) ≡ true → first_forward g m (i + k + 1) (drop (k + 1) ls) ≡ 0 → last_forward g m none i ls ≡ i + k + 1
  unfolding last_forward
  last_is none i k [] h t e = absurd (omega (arith, h))
  last_is none i zero (x ∷ xs) h t e =
      let z : i + 0 + 1 ≡ i + 1 = omega arith in
      let r : first_forward g m (i + 1) xs ≡ 0 = rw z at e in
      last_here g m none i x xs t ∙ last_none g m (i + 1) (i + 1) xs r ∙ sym z
  last_is none i (suc k) (x ∷ xs) h t e =
      let z : i + suc k + 1 ≡ i + 1 + k + 1 = omega arith in
      let y : suc k + 1 ≡ suc (k + 1) = omega arith in
      let r : first_forward g m (i + 1 + k + 1) (drop (k + 1) xs) ≡ 0 = rw (z, y) at e in
      last_is (elim (forwards_to g m x) [ true ↦ i + 1 | false ↦ none ]) (i + 1) k xs (omega (arith, h)) t r ∙ sym z

-- the same by the numbers of all lines, of which those from `base` on count
pub record OwnLast (g : Graph) (m base : ℕ) (lines : List Line) : Type 0 where
  pub number : ℕ
  pub behind : base ≤ number
  pub inside : number < length lines
  pub is : last_forward g m 0 base (drop base lines) ≡ number + 1
  pub forward : forwards_to g m (get_or lines number no_line) ≡ true
  pub ends : first_forward g m (number + 1) (drop (number + 1) lines) ≡ 0

module _ (g : Graph) (m base : ℕ) (lines : List Line) where
  pub own_last : first_forward g m base (drop base lines) ≢ 0 → OwnLast g m base lines
  own_last n =
      let x = last_of g m 0 base (drop base lines) n in
      let z : base + (x.number + 1) ≡ base + x.number + 1 = omega arith in
      record {
        number = base + x.number;
        behind = omega arith;
        inside = omega (arith, x.inside, length-drop base lines);
        is = x.is;
        forward = ap (forwards_to g m) (sym (get_or-drop base lines x.number no_line)) ∙ x.forward;
        ends = ap (first_forward g m (base + x.number + 1)) (sym (drop-drop (x.number + 1) base lines ∙ ap (λ j. drop j lines) z)) ∙ x.ends;
      }

  module _ (k : ℕ) (b : base ≤ k) (h : k < length lines) (t : forwards_to g m (get_or lines k no_line) ≡ true) where
    place : base + (k - base) ≡ k
    place = omega (arith, b)

    inside : k - base < length (drop base lines)
    inside = omega (arith, b, h, length-drop base lines)

    forward : forwards_to g m (get_or (drop base lines) (k - base) no_line) ≡ true
    forward = ap (forwards_to g m) (get_or-drop base lines (k - base) no_line) ∙ ap (λ j. forwards_to g m (get_or lines j no_line)) place ∙ t

    pub own-some : first_forward g m base (drop base lines) ≢ 0
    own-some = first_some g m base (k - base) (drop base lines) inside forward

    pub own-last-is : first_forward g m (k + 1) (drop (k + 1) lines) ≡ 0 → last_forward g m 0 base (drop base lines) ≡ k + 1
    own-last-is e =
        let z : base + (k - base + 1) ≡ k + 1 = omega (arith, b) in
        let y : base + (k - base) + 1 ≡ k + 1 = omega (arith, b) in
        let x : drop (k - base + 1) (drop base lines) ≡ drop (k + 1) lines = drop-drop (k - base + 1) base lines ∙ ap (λ j. drop j lines) z in
        last_is g m 0 base (k - base) (drop base lines) inside forward (ap (λ j. first_forward g m j (drop (k - base + 1) (drop base lines))) y ∙ ap (first_forward g m (k + 1)) x ∙ e) ∙ y
