-- One more line is entered into the table.
use Prim.Native.Nat.{ℕ, ◌+◌, ◌*◌, ◌-◌, ◌<◌, ◌≤◌}
use mathlib.Core.Path.{◌≡◌, refl, ap, ◌∙◌, sym}
use mathlib.Core.Logic.{◌≢◌}
use mathlib.Core.Bool.{Bool, true, false}
use mathlib.Core.List.{List, [], ◌∷◌, ◌++◌}
use native.Mathlib.Decide.{ℕ_discrete, dec_lt}
use native.Mathlib.Omega.{arith}
use borrow.Author.Tests.{eq-eqb, ne_eqb}
use lib.Seq.{get_or-set_same, get_or-set_other, get_or_at, drop-append-le}
use lib.ListN.{length, get_or, set, drop, length-set, length-append, length-drop, drop_of_length-le, get_or-append}
use Rattle.determine_side_effects.specs.graph_crate.Check.{Graph}
use Rattle.determine_side_effects.specs.graph_access_crate.Names.{owner}
use Rattle.determine_side_effects.specs.index_crate.declared.ModuleIdx.{ModuleIdx}
use Rattle.determine_side_effects.specs.index_crate.declared.SymbolIdx.{SymbolIdx}
use Rattle.determine_side_effects.specs.facts_crate.declared.Fact.TheVariants.{Module, Forward}
use Rattle.determine_side_effects.specs.facts_crate.Facts.{kind_of, first_part, module_fact, forward_fact}
use Rattle.determine_side_effects.specs.graph_access_crate.Words.{symbol_of}
use Rattle.keep_record.specs.declared.Line.{Line}
use Rattle.worklist.specs.Drain.{fact_at, forwards_to, is_module, module_line}
use Rattle.worklist.specs.Links.{first_forward, last_forward, Linked}
use Rattle.worklist.proofs.Linking.{no_line, forward_is, forward_not, forward_of, module_is, module_not, module_of, module_line_same, module_line_new, first_same, first_old, first_new, last_same, last_new, last_none, OwnLast, own_last, own-some, own-last-is}

-- facts with one number are one fact
same_module : (a b : ModuleIdx) → a.0 ≡ b.0 → Module a ≡ Module b
same_module a b e = ap (λ x. module_fact x) e

same_forward : (a b : SymbolIdx) → a.0 ≡ b.0 → Forward a ≡ Forward b
same_forward a b e = ap (λ x. forward_fact x) e

itself : (g : Graph) (m : ℕ) (l : Line) (n : ModuleIdx) → is_module m l ≡ true → n.0 ≡ m → l.fact ≡ Module n
itself g m l n t q = let o = module_of g m l t in o.1 ∙ same_module o.0 n (o.2 ∙ sym q)

-- the table of one more line, by its entries
module _ (g : Graph) (base : ℕ) (links : List ℕ) (lines : List Line) (l : Line) (over : base ≤ length lines) where
  next_entries : ((k : ℕ) (s : SymbolIdx) → base ≤ k → k < length lines → fact_at lines k ≡ Forward s
      → get_or links (3 * g.header.modules + s.0) 0 ≡ first_forward g (owner (symbol_of g s.0)) (k + 1) (drop (k + 1) lines ++ (l ∷ [])))
      → ((s : SymbolIdx) → l.fact ≡ Forward s → get_or links (3 * g.header.modules + s.0) 0 ≡ 0)
      → (k : ℕ) (s : SymbolIdx) → base ≤ k → k < length (lines ++ (l ∷ [])) → fact_at (lines ++ (l ∷ [])) k ≡ Forward s
      → get_or links (3 * g.header.modules + s.0) 0 ≡ first_forward g (owner (symbol_of g s.0)) (k + 1) (drop (k + 1) (lines ++ (l ∷ [])))
  unfolding fact_at first_forward
  next_entries old new k s own h f = go (dec_lt k (length lines))
    where
      long : length (lines ++ (l ∷ [])) ≡ length lines + 1
      long = length-append lines (l ∷ [])

      go : Dec (k < length lines) → get_or links (3 * g.header.modules + s.0) 0 ≡ first_forward g (owner (symbol_of g s.0)) (k + 1) (drop (k + 1) (lines ++ (l ∷ [])))
      go (yes b) =
          let a = ap (λ (x : Line). x.fact) (get_or-append lines (l ∷ []) no_line k b) in
          rw (drop-append-le (k + 1) lines (l ∷ []) (omega arith)) (old k s own b (sym a ∙ f))
      go (no b) =
          let e : length lines ≡ k = omega (arith, h, long, b) in
          let a = ap (λ (x : Line). x.fact) (get_or_at lines l [] no_line k e) in
          let o : length (lines ++ (l ∷ [])) ≤ k + 1 = omega (arith, long, e) in
          rw (drop_of_length-le (lines ++ (l ∷ [])) o, first_forward) (new s (sym a ∙ f))

  enter : 3 * g.header.modules + g.header.symbols ≤ length links
      → ((m : ℕ) → m < g.header.modules → get_or links m 0 ≡ module_line m 0 (lines ++ (l ∷ [])))
      → ((m : ℕ) → m < g.header.modules → get_or links (g.header.modules + m) 0 ≡ first_forward g m base (drop base lines ++ (l ∷ [])))
      → ((m : ℕ) → m < g.header.modules → get_or links (2 * g.header.modules + m) 0 ≡ last_forward g m 0 base (drop base lines ++ (l ∷ [])))
      → ((k : ℕ) (s : SymbolIdx) → base ≤ k → k < length lines → fact_at lines k ≡ Forward s
      → get_or links (3 * g.header.modules + s.0) 0 ≡ first_forward g (owner (symbol_of g s.0)) (k + 1) (drop (k + 1) lines ++ (l ∷ [])))
      → ((s : SymbolIdx) → l.fact ≡ Forward s → get_or links (3 * g.header.modules + s.0) 0 ≡ 0)
      → Linked g base links (lines ++ (l ∷ []))
  enter long mods firsts lasts old new =
      let own = drop-append-le base lines (l ∷ []) over in
      record {
        long = long;
        module_lines = mods;
        firsts = λ m h. firsts m h ∙ ap (first_forward g m base) (sym own);
        lasts = λ m h. lasts m h ∙ ap (last_forward g m 0 base) (sym own);
        nexts = next_entries old new;
      }

-- how many lines there are, counted from the base on
own_count : (base : ℕ) (lines : List Line) → base ≤ length lines → base + length (drop base lines) + 1 ≡ length lines + 1
own_count base lines h = omega (arith, h, length-drop base lines)

-- a line that is neither a module nor a forward
module _ (g : Graph) (base : ℕ) (links : List ℕ) (lines : List Line) (l : Line) (over : base ≤ length lines) (t : Linked g base links lines) where
  pub enter_other : kind_of l.fact ≢ 1 → kind_of l.fact ≢ 5 → Linked g base links (lines ++ (l ∷ []))
  enter_other a b =
      enter g base links lines l over t.long
      (λ m h. t.module_lines m h ∙ sym (module_line_same m 0 lines l (module_not g m l a)))
      (λ m h. t.firsts m h ∙ sym (first_same g m base (drop base lines) l (forward_not g m l b)))
      (λ m h. t.lasts m h ∙ sym (last_same g m 0 base (drop base lines) l (forward_not g m l b)))
      (λ k s w h f. t.nexts k s w h f ∙ sym (first_same g _ (k + 1) (drop (k + 1) lines) l (forward_not g _ l b)))
      (λ s f. let q = ap kind_of f in absurd (b q))

  -- the line of module n, which has none so far
  pub enter_module : (n : ModuleIdx) → l.fact ≡ Module n → n.0 < g.header.modules → ((k : ℕ) → k < length lines → fact_at lines k ≡ l.fact → ⊥)
      → Linked g base (set links n.0 (length lines + 1)) (lines ++ (l ∷ []))
  unfolding fact_at
  enter_module n e small new =
      enter g base (set links n.0 (length lines + 1)) lines l over
      (omega (arith, t.long, length-set links n.0 (length lines + 1)))
      mods
      (λ m h. there (g.header.modules + m) (omega arith) ∙ t.firsts m h ∙ sym (first_same g m base (drop base lines) l (forward_not g m l b)))
      (λ m h. there (2 * g.header.modules + m) (omega arith) ∙ t.lasts m h ∙ sym (last_same g m 0 base (drop base lines) l (forward_not g m l b)))
      (λ k s w h f. there (3 * g.header.modules + s.0) (omega arith) ∙ t.nexts k s w h f ∙ sym (first_same g _ (k + 1) (drop (k + 1) lines) l (forward_not g _ l b)))
      (λ s f. let q = ap kind_of f in absurd (b q))
    where
      b : kind_of l.fact ≢ 5
      b q = omega (arith, q, ap kind_of e)

      there : (j : ℕ) → n.0 < j → get_or (set links n.0 (length lines + 1)) j 0 ≡ get_or links j 0
      there j h = get_or-set_other links n.0 j (length lines + 1) 0 (λ z. omega (arith, h, z))

      none : (m : ℕ) → n.0 ≡ m → (k : ℕ) → k < length lines → is_module m (get_or lines k no_line) ≡ false
      none m q k h = go (is_module m (get_or lines k no_line)) refl
        where
          go : (c : Bool) → is_module m (get_or lines k no_line) ≡ c → is_module m (get_or lines k no_line) ≡ false
          go false r = r
          go true r = absurd (new k h (itself g m (get_or lines k no_line) n r q ∙ sym e))

      mods : (m : ℕ) → m < g.header.modules → get_or (set links n.0 (length lines + 1)) m 0 ≡ module_line m 0 (lines ++ (l ∷ []))
      mods m h = go (ℕ_discrete n.0 m)
        where
          go : Dec (n.0 ≡ m) → get_or (set links n.0 (length lines + 1)) m 0 ≡ module_line m 0 (lines ++ (l ∷ []))
          go (yes q) =
              let z : 0 + length lines + 1 ≡ length lines + 1 = omega arith in
              ap (λ j. get_or (set links n.0 (length lines + 1)) j 0) (sym q)
              ∙ get_or-set_same links n.0 (length lines + 1) 0 (omega (arith, small, t.long))
              ∙ sym (module_line_new m 0 lines l (module_is g m l n e ∙ eq-eqb n.0 m q) (none m q) ∙ z)
          go (no q) =
              get_or-set_other links n.0 m (length lines + 1) 0 (λ z. q (sym z)) ∙ t.module_lines m h ∙ sym (module_line_same m 0 lines l (module_is g m l n e ∙ ne_eqb n.0 m q))

-- the table after three writes
module _ (links : List ℕ) (a b c u v w : ℕ) where
  abbrev three : List ℕ
  three = set (set (set links a u) b v) c w

  three_long : length three ≡ length links
  three_long = length-set (set (set links a u) b v) c w ∙ length-set (set links a u) b v ∙ length-set links a u

  three_last : (j : ℕ) → c < length links → j ≡ c → get_or three j 0 ≡ w
  three_last j h e =
      let s : c < length (set (set links a u) b v) = omega (arith, h, length-set (set links a u) b v, length-set links a u) in
      ap (λ i. get_or three i 0) e ∙ get_or-set_same (set (set links a u) b v) c w 0 s

  three_second : (j : ℕ) → b < length links → j ≡ b → j ≢ c → get_or three j 0 ≡ v
  three_second j h e n =
      let s : b < length (set links a u) = omega (arith, h, length-set links a u) in
      get_or-set_other (set (set links a u) b v) c j w 0 n ∙ ap (λ i. get_or (set (set links a u) b v) i 0) e ∙ get_or-set_same (set links a u) b v 0 s

  three_first : (j : ℕ) → a < length links → j ≡ a → j ≢ b → j ≢ c → get_or three j 0 ≡ u
  three_first j h e n p =
      get_or-set_other (set (set links a u) b v) c j w 0 p ∙ get_or-set_other (set links a u) b j v 0 n ∙ ap (λ i. get_or (set links a u) i 0) e ∙ get_or-set_same links a u 0 h

  three_other : (j : ℕ) → j ≢ a → j ≢ b → j ≢ c → get_or three j 0 ≡ get_or links j 0
  three_other j m n p = get_or-set_other (set (set links a u) b v) c j w 0 p ∙ get_or-set_other (set links a u) b j v 0 n ∙ get_or-set_other links a j u 0 m

-- a forward of symbol s, which module o owns; M modules, Y symbols
module _
    (g : Graph)
    (base : ℕ)
    (links : List ℕ)
    (lines : List Line)
    (l : Line)
    (over : base ≤ length lines)
    (t : Linked g base links lines)
    (s : SymbolIdx)
    (f : l.fact ≡ Forward s)
    (o : ℕ)
    (p : o ≡ owner (symbol_of g s.0))
    (small : o < g.header.modules)
    (low : s.0 < g.header.symbols)
    (new : (k : ℕ) → base ≤ k → k < length lines → fact_at lines k ≡ l.fact → ⊥)
  where
    to-owner : forwards_to g o l ≡ true
    to-owner = forward_is g o l s f ∙ eq-eqb _ o (sym p)

    to-other : (m : ℕ) → m ≢ o → forwards_to g m l ≡ false
    to-other m n = forward_is g m l s f ∙ ne_eqb _ m (λ q. n (sym q ∙ sym p))

    others : (k : ℕ) (r : SymbolIdx) → base ≤ k → k < length lines → fact_at lines k ≡ Forward r → r.0 ≢ s.0
    others k r b h e q = new k b h (e ∙ same_forward r s q ∙ sym f)

    module _ (a : ℕ) (at : a < length links) where
      abbrev entered : List ℕ
      entered = set (set (set links a (length lines + 1)) (2 * g.header.modules + o) (length lines + 1)) (3 * g.header.modules + s.0) 0

      abbrev M : ℕ
      M = g.header.modules

      entered-mods : M ≤ a → (m : ℕ) → m < M → get_or entered m 0 ≡ module_line m 0 (lines ++ (l ∷ []))
      entered-mods b m h =
          let n : kind_of l.fact ≢ 1 = λ q. omega (arith, q, ap kind_of f) in
          three_other links a _ _ _ _ _ m (λ z. omega (arith, z, b, h)) (λ z. omega (arith, z, h)) (λ z. omega (arith, z, h)) ∙ t.module_lines m h ∙ sym (module_line_same m 0 lines l (module_not g m l n))

      entered-lasts : ((m : ℕ) → m < M → m ≢ o → 2 * M + m ≢ a) → (m : ℕ) → m < M → get_or entered (2 * M + m) 0 ≡ last_forward g m 0 base (drop base lines ++ (l ∷ []))
      entered-lasts b m h = go (ℕ_discrete m o)
        where
          go : Dec (m ≡ o) → get_or entered (2 * M + m) 0 ≡ last_forward g m 0 base (drop base lines ++ (l ∷ []))
          go (yes q) =
              let tr : forwards_to g m l ≡ true = ap (λ x. forwards_to g x l) q ∙ to-owner in
              three_second links a _ _ _ _ _ (2 * M + m) (omega (arith, small, t.long)) (ap (λ x. 2 * M + x) q) (λ z. omega (arith, z, h)) ∙ sym (last_new g m 0 base (drop base lines) l tr ∙ own_count base lines over)
          go (no q) =
              three_other links a _ _ _ _ _ (2 * M + m) (b m h q) (λ z. q (omega (arith, z))) (λ z. omega (arith, z, h)) ∙ t.lasts m h ∙ sym (last_same g m 0 base (drop base lines) l (to-other m q))

      entered-new : (r : SymbolIdx) → l.fact ≡ Forward r → get_or entered (3 * M + r.0) 0 ≡ 0
      entered-new r e =
          let q : r.0 ≡ s.0 = ap first_part (sym e ∙ f) in
          three_last links a _ _ _ _ _ (3 * M + r.0) (omega (arith, low, t.long)) (ap (λ x. 3 * M + x) q)

    -- the first of its module
    pub enter-first : last_forward g o 0 base (drop base lines) ≡ 0
        → Linked g base (set (set (set links (g.header.modules + o) (length lines + 1)) (2 * g.header.modules + o) (length lines + 1)) (3 * g.header.modules + s.0) 0) (lines ++ (l ∷ []))
    unfolding fact_at
    enter-first z =
        enter g base (entered a at) lines l over
        (omega (arith, t.long, three_long links a (2 * M + o) (3 * M + s.0) (length lines + 1) (length lines + 1) 0))
        (entered-mods a at (omega arith))
        fsts
        (entered-lasts a at (λ m h n q. omega (arith, q, h, small)))
        old
        (entered-new a at)
      where
        M : ℕ
        M = g.header.modules

        a : ℕ
        a = g.header.modules + o

        at : a < length links
        at = omega (arith, small, t.long)

        first-zero : first_forward g o base (drop base lines) ≡ 0
        first-zero = go (ℕ_discrete (first_forward g o base (drop base lines)) 0)
          where
            go : Dec (first_forward g o base (drop base lines) ≡ 0) → first_forward g o base (drop base lines) ≡ 0
            go (yes e) = e
            go (no e) = let x = own_last g o base lines e in absurd (omega (arith, x.is, z))

        fsts : (m : ℕ) → m < g.header.modules → get_or (entered a at) (g.header.modules + m) 0 ≡ first_forward g m base (drop base lines ++ (l ∷ []))
        fsts m h = go (ℕ_discrete m o)
          where
            go : Dec (m ≡ o) → get_or (entered a at) (g.header.modules + m) 0 ≡ first_forward g m base (drop base lines ++ (l ∷ []))
            go (yes q) =
                let tr : forwards_to g m l ≡ true = ap (λ x. forwards_to g x l) q ∙ to-owner in
                let zr : first_forward g m base (drop base lines) ≡ 0 = ap (λ x. first_forward g x base (drop base lines)) q ∙ first-zero in
                three_first links a _ _ _ _ _ (g.header.modules + m) at (ap (λ x. g.header.modules + x) q) (λ z. omega (arith, z, h)) (λ z. omega (arith, z, h)) ∙ sym (first_new g m base (drop base lines) l tr zr ∙ own_count base lines over)
            go (no q) =
                three_other links a _ _ _ _ _ (g.header.modules + m) (λ z. q (omega (arith, z))) (λ z. omega (arith, z, h)) (λ z. omega (arith, z, h)) ∙ t.firsts m h ∙ sym (first_same g m base (drop base lines) l (to-other m q))

        old : (k : ℕ) (r : SymbolIdx) → base ≤ k → k < length lines → fact_at lines k ≡ Forward r → get_or (entered a at) (3 * g.header.modules + r.0) 0 ≡ first_forward g (owner (symbol_of g r.0)) (k + 1) (drop (k + 1) lines ++ (l ∷ []))
        old k r b h e =
            let n : owner (symbol_of g r.0) ≢ o = λ q. own-some g o base lines k b h (forward_is g o (get_or lines k no_line) r e ∙ eq-eqb _ o q) first-zero in
            let d = others k r b h e in
            three_other links a _ _ _ _ _ (3 * g.header.modules + r.0) (λ z. omega (arith, z, small)) (λ z. omega (arith, z, small)) (λ z. d (omega (arith, z))) ∙ t.nexts k r b h e ∙ sym (first_same g _ (k + 1) (drop (k + 1) lines) l (to-other _ n))

    -- one behind the last of its module, that of the symbol `before`
    module _
        (inj : (i k : ℕ) → base ≤ i → base ≤ k → i < length lines → k < length lines → fact_at lines i ≡ fact_at lines k → i ≡ k)
        (some : last_forward g o 0 base (drop base lines) ≢ 0)
        (before : ℕ)
        (is-before : before ≡ first_part (fact_at lines (last_forward g o 0 base (drop base lines) - 1)))
        (at : 3 * g.header.modules + before < length links)
      where
        some_first : first_forward g o base (drop base lines) ≢ 0
        some_first z = some (last_none g o 0 base (drop base lines) z)

        its : OwnLast g o base lines
        its = own_last g o base lines some_first

        last-number : last_forward g o 0 base (drop base lines) - 1 ≡ its.number
        last-number = omega (arith, its.is)

        its-symbol : (r : SymbolIdx) × (fact_at lines its.number ≡ Forward r) × (owner (symbol_of g r.0) ≡ o)
        unfolding fact_at
        its-symbol = forward_of g o (get_or lines its.number no_line) its.forward

        before-is : before ≡ its-symbol.0.0
        before-is = is-before ∙ ap (λ k. first_part (fact_at lines k)) last-number ∙ ap first_part its-symbol.1

        behind-firsts : (m : ℕ) → m < g.header.modules → get_or (entered (3 * g.header.modules + before) at) (g.header.modules + m) 0 ≡ first_forward g m base (drop base lines ++ (l ∷ []))
        behind-firsts m h =
            three_other links (3 * g.header.modules + before) _ _ _ _ _ (g.header.modules + m) (λ z. omega (arith, z, h)) (λ z. omega (arith, z, h)) (λ z. omega (arith, z, h)) ∙ t.firsts m h ∙ go (ℕ_discrete m o)
          where
            go : Dec (m ≡ o) → first_forward g m base (drop base lines) ≡ first_forward g m base (drop base lines ++ (l ∷ []))
            go (yes q) = sym (first_old g m base (drop base lines) l (λ z. some_first (ap (λ x. first_forward g x base (drop base lines)) (sym q) ∙ z)))
            go (no q) = sym (first_same g m base (drop base lines) l (to-other m q))

        -- of a symbol of line k
        module _ (k : ℕ) (r : SymbolIdx) (b : base ≤ k) (h : k < length lines) (e : fact_at lines k ≡ Forward r) where
          here-last : r.0 ≡ before → k ≡ its.number
          here-last q = inj k its.number b its.behind h its.inside (e ∙ same_forward r its-symbol.0 (q ∙ before-is) ∙ sym its-symbol.1)

          behind-here : r.0 ≡ before → get_or (entered (3 * g.header.modules + before) at) (3 * g.header.modules + r.0) 0 ≡ first_forward g (owner (symbol_of g r.0)) (k + 1) (drop (k + 1) lines ++ (l ∷ []))
          behind-here q =
              let n = here-last q in
              let d = others k r b h e in
              let y : owner (symbol_of g r.0) ≡ o = ap (λ x. owner (symbol_of g x)) (q ∙ before-is) ∙ its-symbol.2 in
              let u : its.number + 1 ≡ k + 1 = omega (arith, n) in
              let ends : first_forward g o (k + 1) (drop (k + 1) lines) ≡ 0 = ap (λ x. first_forward g o x (drop x lines)) (sym u) ∙ its.ends in
              let z : k + 1 + length (drop (k + 1) lines) + 1 ≡ length lines + 1 = omega (arith, h, length-drop (k + 1) lines) in
              three_first links (3 * g.header.modules + before) _ _ _ _ _ (3 * g.header.modules + r.0) at (ap (λ x. 3 * g.header.modules + x) q) (λ z. omega (arith, z, small)) (λ z. d (omega (arith, z)))
              ∙ sym (ap (λ x. first_forward g x (k + 1) (drop (k + 1) lines ++ (l ∷ []))) y ∙ first_new g o (k + 1) (drop (k + 1) lines) l to-owner ends ∙ z)

          -- it is the last one if nothing is behind it
          not_last : r.0 ≢ before → owner (symbol_of g r.0) ≡ o → first_forward g o (k + 1) (drop (k + 1) lines) ≢ 0
          unfolding fact_at
          not_last q y z =
              let f = forward_is g o (get_or lines k no_line) r e ∙ eq-eqb _ o y in
              let p = own-last-is g o base lines k b h f z in
              let n : k ≡ its.number = omega (arith, p, its.is) in
              q (ap first_part (sym e ∙ ap (λ x. fact_at lines x) n ∙ its-symbol.1) ∙ sym before-is)

          behind-there : r.0 ≢ before → get_or (entered (3 * g.header.modules + before) at) (3 * g.header.modules + r.0) 0 ≡ first_forward g (owner (symbol_of g r.0)) (k + 1) (drop (k + 1) lines ++ (l ∷ []))
          behind-there q =
              let d = others k r b h e in
              three_other links (3 * g.header.modules + before) _ _ _ _ _ (3 * g.header.modules + r.0) (λ z. q (omega (arith, z))) (λ z. omega (arith, z, small)) (λ z. d (omega (arith, z))) ∙ t.nexts k r b h e
              ∙ go (ℕ_discrete (owner (symbol_of g r.0)) o)
            where
              go : Dec (owner (symbol_of g r.0) ≡ o) → first_forward g (owner (symbol_of g r.0)) (k + 1) (drop (k + 1) lines) ≡ first_forward g (owner (symbol_of g r.0)) (k + 1) (drop (k + 1) lines ++ (l ∷ []))
              go (yes y) = sym (first_old g _ (k + 1) (drop (k + 1) lines) l (λ z. not_last q y (ap (λ x. first_forward g x (k + 1) (drop (k + 1) lines)) (sym y) ∙ z)))
              go (no y) = sym (first_same g _ (k + 1) (drop (k + 1) lines) l (to-other _ y))

          behind-nexts : get_or (entered (3 * g.header.modules + before) at) (3 * g.header.modules + r.0) 0 ≡ first_forward g (owner (symbol_of g r.0)) (k + 1) (drop (k + 1) lines ++ (l ∷ []))
          behind-nexts = go (ℕ_discrete r.0 before)
            where
              go : Dec (r.0 ≡ before) → get_or (entered (3 * g.header.modules + before) at) (3 * g.header.modules + r.0) 0 ≡ first_forward g (owner (symbol_of g r.0)) (k + 1) (drop (k + 1) lines ++ (l ∷ []))
              go (yes q) = behind-here q
              go (no q) = behind-there q

        pub enter_behind : Linked g base (set (set (set links (3 * g.header.modules + before) (length lines + 1)) (2 * g.header.modules + o) (length lines + 1)) (3 * g.header.modules + s.0) 0) (lines ++ (l ∷ []))
        enter_behind =
            enter g base (entered (3 * g.header.modules + before) at) lines l over
            (omega (arith, t.long, three_long links (3 * g.header.modules + before) (2 * g.header.modules + o) (3 * g.header.modules + s.0) (length lines + 1) (length lines + 1) 0))
            (entered-mods (3 * g.header.modules + before) at (omega arith))
            behind-firsts
            (entered-lasts (3 * g.header.modules + before) at (λ m h n q. omega (arith, q, h, small)))
            behind-nexts
            (entered-new (3 * g.header.modules + before) at)
