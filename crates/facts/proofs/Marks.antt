-- Different facts have different marks, and each mark is one of those that are counted.
use Prim.Native.Nat.{ℕ, ◌+◌, ◌*◌, ◌<◌, ◌≤◌}
use mathlib.Core.Path.{◌≡◌, refl, ap, ◌∙◌, sym}
use mathlib.Core.Bool.{true, false}
use mathlib.Core.List.{List}
use native.Mathlib.Omega.{arith}
use borrow.Author.Tests.{lt-ltb, le-ltb}
use lib.Dec.{ltb}
use Rattle.graph_access.specs.graph_tables_crate.Tables.{header_in, first_of}
use Rattle.graph_access.specs.graph_crate.Check.{graph_in}
use Rattle.facts.specs.declared.Fact.{Fact}
use Rattle.facts.specs.declared.Fact.TheVariants.{Module, Statement, Use, CheckedUse, Forward, Bailout}
use Rattle.facts.specs.Facts.{module_fact, statement_fact, use_fact, checked_fact, forward_fact, bailout_fact, kind_of, first_part, second_part, fact_of, Good, mark_of, mark_count}
use Rattle.graph_access.specs.graph_crate.Loaded.{Loaded}
use Rattle.facts.proofs.Marking.{good_module, good_bailout, good_forward, good_use, good_checked, good_statement, good-number, module_mark, bailout-mark, statement-mark, forward-mark, use-mark, checked-mark}
use Rattle.graph_access.proofs.Indexes.{statement_number_injective}

-- the kind of the facts that a mark may be of, where there are m modules, n statements and y symbols
module _ (m n y x : ℕ) where
  unfoldable kind_at : ℕ
  kind_at =
      elim (ltb x m) [
        | true ↦ 1
        | false ↦ elim (ltb x (2 * m)) [
          | true ↦ 6
          | false ↦ elim (ltb x (2 * m + n)) [
            | true ↦ 2
            | false ↦ elim (ltb x (2 * m + n + y)) [ true ↦ 5 | false ↦ elim (ltb x (2 * m + n + 32 * y)) [ true ↦ 3 | false ↦ 4 ] ]
          ]
        ]
      ]

  at_module : x < m → 1 ≡ kind_at
  unfolding kind_at
  at_module a = rw (lt-ltb x m a, kind_at)

  at_bailout : m ≤ x → x < 2 * m → 6 ≡ kind_at
  unfolding kind_at
  at_bailout a b = rw (le-ltb x m a, lt-ltb x (2 * m) b, kind_at)

  at_statement : 2 * m ≤ x → x < 2 * m + n → 2 ≡ kind_at
  unfolding kind_at
  at_statement a b = let p : m ≤ x = omega arith in rw (le-ltb x m p, le-ltb x (2 * m) a, lt-ltb x (2 * m + n) b, kind_at)

  at_forward : 2 * m + n ≤ x → x < 2 * m + n + y → 5 ≡ kind_at
  unfolding kind_at
  at_forward a b =
      let p : m ≤ x = omega arith in
      let q : 2 * m ≤ x = omega arith in
      rw (le-ltb x m p, le-ltb x (2 * m) q, le-ltb x (2 * m + n) a, lt-ltb x (2 * m + n + y) b, kind_at)

  at_use : 2 * m + n + y ≤ x → x < 2 * m + n + 32 * y → 3 ≡ kind_at
  unfolding kind_at
  at_use a b =
      let p : m ≤ x = omega arith in
      let q : 2 * m ≤ x = omega arith in
      let r : 2 * m + n ≤ x = omega arith in
      rw (le-ltb x m p, le-ltb x (2 * m) q, le-ltb x (2 * m + n) r, le-ltb x (2 * m + n + y) a, lt-ltb x (2 * m + n + 32 * y) b, kind_at)

  at_checked : 2 * m + n + 32 * y ≤ x → 4 ≡ kind_at
  unfolding kind_at
  at_checked a =
      let p : m ≤ x = omega arith in
      let q : 2 * m ≤ x = omega arith in
      let r : 2 * m + n ≤ x = omega arith in
      let s : 2 * m + n + y ≤ x = omega arith in
      rw (le-ltb x m p, le-ltb x (2 * m) q, le-ltb x (2 * m + n) r, le-ltb x (2 * m + n + y) s, le-ltb x (2 * m + n + 32 * y) a, kind_at)

-- a fact is that of its numbers
pub fact_back : (f : Fact) → f ≡ fact_of (kind_of f) (first_part f) (second_part f)
unfolding fact_of
fact_back (Module m) = refl
fact_back (Statement m i) = refl
fact_back (Use s x) = refl
fact_back (CheckedUse s x) = refl
fact_back (Forward s) = refl
fact_back (Bailout m) = refl

by_kind : (f : Fact) {k : ℕ} → k ≡ kind_of f → f ≡ fact_of k (first_part f) (second_part f)
by_kind f e = fact_back f ∙ ap (λ k. fact_of k (first_part f) (second_part f)) (sym e)

module _ {numbers tables : List ℕ} (t : Loaded numbers tables) where
  pub mark_below : (f : Fact) → Good (graph_in numbers) f → mark_of (graph_in numbers) f < mark_count (graph_in numbers)
  mark_below (Module m) g = let k = module_mark t (header_in numbers) refl (Module m) g m.0 refl in omega (arith, k.0, k.1)
  mark_below (Bailout m) g = let k = bailout-mark t (header_in numbers) refl (Bailout m) g m.0 refl in omega (arith, k.0, k.1)
  mark_below (Statement m i) g = let k = statement-mark t (header_in numbers) refl (Statement m i) g m.0 i.0 _ refl refl in omega (arith, k.0, k.1)
  mark_below (Forward s) g = let k = forward-mark t (header_in numbers) refl (Forward s) g s.0 refl in omega (arith, k.0, k.1)
  mark_below (Use s x) g = let k = use-mark t (header_in numbers) refl (Use s x) g s.0 x.bits refl in omega (arith, k.0, k.1)
  mark_below (CheckedUse s x) g = let k = checked-mark t (header_in numbers) refl (CheckedUse s x) g s.0 x.bits refl in omega (arith, k.0, k.1)

  -- the mark tells the kind
  kind_told : (f : Fact) → Good (graph_in numbers) f → kind_of f ≡ kind_at (header_in numbers).modules (header_in numbers).statements (header_in numbers).symbols (mark_of (graph_in numbers) f)
  kind_told (Module m) g =
      let k = (module_mark t (header_in numbers) refl (Module m) g m.0 refl).0 in
      at_module _ _ _ _ (rw (sym k) (good_module t (header_in numbers) refl (Module m) g m.0 refl))
  kind_told (Bailout m) g =
      let k = (bailout-mark t (header_in numbers) refl (Bailout m) g m.0 refl).0 in
      let b = good_bailout t (header_in numbers) refl (Bailout m) g m.0 refl in
      let p : (header_in numbers).modules ≤ mark_of (graph_in numbers) (Bailout m) = omega (arith, k) in
      let q : mark_of (graph_in numbers) (Bailout m) < 2 * (header_in numbers).modules = omega (arith, k, b) in
      at_bailout _ _ _ _ p q
  kind_told (Statement m i) g =
      let k = (statement-mark t (header_in numbers) refl (Statement m i) g m.0 i.0 _ refl refl).0 in
      let b = good-number t (header_in numbers) refl (Statement m i) g m.0 i.0 _ refl refl in
      let p : 2 * (header_in numbers).modules ≤ mark_of (graph_in numbers) (Statement m i) = omega (arith, k) in
      let q : mark_of (graph_in numbers) (Statement m i) < 2 * (header_in numbers).modules + (header_in numbers).statements = omega (arith, k, b) in
      at_statement _ _ _ _ p q
  kind_told (Forward s) g =
      let k = (forward-mark t (header_in numbers) refl (Forward s) g s.0 refl).0 in
      let b = good_forward t (header_in numbers) refl (Forward s) g s.0 refl in
      let p : 2 * (header_in numbers).modules + (header_in numbers).statements ≤ mark_of (graph_in numbers) (Forward s) = omega (arith, k) in
      let q : mark_of (graph_in numbers) (Forward s) < 2 * (header_in numbers).modules + (header_in numbers).statements + (header_in numbers).symbols = omega (arith, k, b) in
      at_forward _ _ _ _ p q
  kind_told (Use s x) g =
      let k = (use-mark t (header_in numbers) refl (Use s x) g s.0 x.bits refl).0 in
      let b = good_use t (header_in numbers) refl (Use s x) g s.0 x.bits refl in
      let p : 2 * (header_in numbers).modules + (header_in numbers).statements + (header_in numbers).symbols ≤ mark_of (graph_in numbers) (Use s x) = omega (arith, k) in
      let q : mark_of (graph_in numbers) (Use s x) < 2 * (header_in numbers).modules + (header_in numbers).statements + 32 * (header_in numbers).symbols = omega (arith, k, b.0, b.1, b.2) in
      at_use _ _ _ _ p q
  kind_told (CheckedUse s x) g =
      let k = (checked-mark t (header_in numbers) refl (CheckedUse s x) g s.0 x.bits refl).0 in
      let p : 2 * (header_in numbers).modules + (header_in numbers).statements + 32 * (header_in numbers).symbols ≤ mark_of (graph_in numbers) (CheckedUse s x) = omega (arith, k) in
      at_checked _ _ _ _ p

  same_kind : (f e : Fact) → Good (graph_in numbers) f → Good (graph_in numbers) e → mark_of (graph_in numbers) f ≡ mark_of (graph_in numbers) e → kind_of f ≡ kind_of e
  same_kind f e g h s = kind_told f g ∙ ap (kind_at (header_in numbers).modules (header_in numbers).statements (header_in numbers).symbols) s ∙ sym (kind_told e h)

  -- of one kind
  same_fact : (f e : Fact) → Good (graph_in numbers) f → Good (graph_in numbers) e → mark_of (graph_in numbers) f ≡ mark_of (graph_in numbers) e → kind_of f ≡ kind_of e → f ≡ e
  unfolding fact_of mark_of graph_in
  same_fact (Module m) e g h s k =
      let is : e ≡ module_fact (first_part e) = by_kind e k in
      let b = (module_mark t (header_in numbers) refl e h (first_part e) is).0 in
      ap (λ a. module_fact a) (s ∙ sym b) ∙ sym is
  same_fact (Bailout m) e g h s k =
      let is : e ≡ bailout_fact (first_part e) = by_kind e k in
      let b = (bailout-mark t (header_in numbers) refl e h (first_part e) is).0 in
      let z : m.0 ≡ first_part e = omega (arith, s, b) in
      ap (λ a. bailout_fact a) z ∙ sym is
  same_fact (Forward a) e g h s k =
      let is : e ≡ forward_fact (first_part e) = by_kind e k in
      let b = (forward-mark t (header_in numbers) refl e h (first_part e) is).0 in
      let z : a.0 ≡ first_part e = omega (arith, s, b) in
      ap (λ a. forward_fact a) z ∙ sym is
  same_fact (Statement m i) e g h s k =
      let is : e ≡ statement_fact (first_part e) (second_part e) = by_kind e k in
      let b = (statement-mark t (header_in numbers) refl e h (first_part e) (second_part e) _ is refl).0 in
      let w = good_statement t (header_in numbers) refl e h (first_part e) (second_part e) is in
      let n : first_of (graph_in numbers).modules m.0 + i.0 ≡ first_of (graph_in numbers).modules (first_part e) + second_part e = omega (arith, s, b) in
      let z = statement_number_injective t m.0 i.0 (first_part e) (second_part e) g.0 w.0 g.1 w.1 n in
      ap (λ a. statement_fact a i.0) z.0 ∙ ap (λ j. statement_fact (first_part e) j) z.1 ∙ sym is
  same_fact (Use a x) e g h s k =
      let is : e ≡ use_fact (first_part e) (second_part e) = by_kind e k in
      let b = (use-mark t (header_in numbers) refl e h (first_part e) (second_part e) is).0 in
      let w = good_use t (header_in numbers) refl e h (first_part e) (second_part e) is in
      let n : 31 * a.0 + x.bits ≡ 31 * first_part e + second_part e = omega (arith, s, b, g.1, w.1) in
      let y : a.0 ≡ first_part e = omega (arith, n, g.1, g.2, w.1, w.2) in
      let z : x.bits ≡ second_part e = omega (arith, n, y) in
      ap (λ a. use_fact a x.bits) y ∙ ap (λ j. use_fact (first_part e) j) z ∙ sym is
  same_fact (CheckedUse a x) e g h s k =
      let is : e ≡ checked_fact (first_part e) (second_part e) = by_kind e k in
      let b = (checked-mark t (header_in numbers) refl e h (first_part e) (second_part e) is).0 in
      let w = good_checked t (header_in numbers) refl e h (first_part e) (second_part e) is in
      let n : 31 * a.0 + x.bits ≡ 31 * first_part e + second_part e = omega (arith, s, b, g.1, w.1) in
      let y : a.0 ≡ first_part e = omega (arith, n, g.1, g.2, w.1, w.2) in
      let z : x.bits ≡ second_part e = omega (arith, n, y) in
      ap (λ a. checked_fact a x.bits) y ∙ ap (λ j. checked_fact (first_part e) j) z ∙ sym is

  pub mark_injective : (f e : Fact) → Good (graph_in numbers) f → Good (graph_in numbers) e → mark_of (graph_in numbers) f ≡ mark_of (graph_in numbers) e → f ≡ e
  mark_injective f e g h s = same_fact f e g h s (same_kind f e g h s)
