-- Line k of the record is entered into the table.
use Prim.Native.Nat.{ℕ, ◌+◌, ◌*◌, ◌-◌, ◌<◌, ◌≤◌}
use mathlib.Core.Path.{◌≡◌, ap, ◌∙◌, sym, subst}
use mathlib.Core.Logic.{◌≢◌}
use mathlib.Core.Bool.{true}
use mathlib.Core.List.{List, [], ◌∷◌, ◌++◌}
use native.Mathlib.Decide.{dec_lt}
use native.Mathlib.Omega.{arith}
use lib.ListN.{length, get_or, set, take, drop, length-set}
use Rattle.determine_side_effects.specs.graph_crate.Check.{Graph}
use Rattle.determine_side_effects.specs.graph_access_crate.Names.{owner}
use Rattle.determine_side_effects.specs.index_crate.declared.ModuleIdx.{ModuleIdx}
use Rattle.determine_side_effects.specs.index_crate.declared.SymbolIdx.{SymbolIdx}
use Rattle.determine_side_effects.specs.facts_crate.declared.Fact.{Fact}
use Rattle.determine_side_effects.specs.facts_crate.declared.Fact.TheVariants.{Module, Forward}
use Rattle.determine_side_effects.specs.facts_crate.Facts.{Good, kind_of, first_part}
use Rattle.determine_side_effects.specs.graph_access_crate.Words.{symbol_of}
use Rattle.keep_record.specs.declared.Line.{Line}
use Rattle.keep_record.specs.Lines.{stays, marks_from}
use Rattle.keep_record.specs.Held.{line_at, lines_of, Distinct}
use Rattle.keep_record.proofs.Rows.{lines-length, lines_at, lines-take, lines_more}
use Rattle.keep_record.proofs.Counting.{lines_apart}
use Rattle.worklist.specs.Drain.{fact_at}
use Rattle.worklist.specs.Links.{last_forward, Linked, LinkReady}
use Rattle.worklist.proofs.Linking.{no_line, forward_of, last_none, OwnLast, own_last}
use Rattle.worklist.proofs.Entering.{enter_other, enter_module, enter-first, enter_behind}

pub set_long : (links : List ℕ) (i v : ℕ) {after : List ℕ} → after ≡ set links i v → length after ≡ length links
set_long links i v {after} e = ap length e ∙ length-set links i v

fact_in_lem : (row : List ℕ) (k i : ℕ) → i < k → fact_at (lines_of k row) i ≡ (line_at row i).fact
unfolding fact_at
fact_in_lem row k i h = ap (λ (x : Line). x.fact) (lines_at k row i no_line h)

-- two lines of one fact, the first of this stage or of a fact that stays
one_line : (g : Graph) (base : ℕ) (row : List ℕ) (count : ℕ) → Distinct (marks_from g base (lines_of count row)) → (i j : ℕ) → i < j → j < count → (i < base → stays (line_at row i).fact ≡ true)
    → (line_at row i).fact ≡ (line_at row j).fact → ⊥
one_line g base row count d i j h l s e =
    let a : get_or (lines_of count row) i no_line ≡ line_at row i = lines_at count row i no_line (omega (arith, h, l)) in
    let b : get_or (lines_of count row) j no_line ≡ line_at row j = lines_at count row j no_line l in
    lines_apart g no_line base (lines_of count row) d i j h (omega (arith, l, lines-length count row)) (λ q. ap (λ (x : Line). stays x.fact) a ∙ s q)
    (ap (λ (x : Line). x.fact) a ∙ e ∙ ap (λ (x : Line). x.fact) (sym b))

module _ (g : Graph) (base : ℕ) (row : List ℕ) (count k : ℕ) (f : Fact) (r : LinkReady g base row count k f) (links : List ℕ) (t : Linked g base links (take k (lines_of count row))) where
  size : length (lines_of k row) ≡ k
  size = lines-length k row

  over : base ≤ length (lines_of k row)
  over = omega (arith, size, r.behind_base)

  table : Linked g base links (lines_of k row)
  table = subst (λ x. Linked g base links x) (lines-take count row k (omega (arith, r.inside))) t

  more : (after : List ℕ) → Linked g base after (lines_of k row ++ (line_at row k ∷ [])) → Linked g base after (take (k + 1) (lines_of count row))
  more after h = subst (λ x. Linked g base after x) (sym (lines-take count row (k + 1) (omega (arith, r.inside)) ∙ lines_more k row)) h

  fresh : (i : ℕ) → (i < base → stays (line_at row i).fact ≡ true) → i < length (lines_of k row) → fact_at (lines_of k row) i ≡ (line_at row k).fact → ⊥
  fresh i s h e =
      let b : i < k = omega (arith, h, size) in one_line g base row count r.apart i k b r.inside s (sym (fact_in_lem row k i b) ∙ e)

  own_fresh : (i : ℕ) → base ≤ i → i < length (lines_of k row) → fact_at (lines_of k row) i ≡ (line_at row k).fact → ⊥
  own_fresh i o = fresh i (λ q. absurd (omega (arith, o, q)))

  module_fresh : (n : ModuleIdx) → f ≡ Module n → (i : ℕ) → i < length (lines_of k row) → fact_at (lines_of k row) i ≡ (line_at row k).fact → ⊥
  module_fresh n e i h q =
      let b : i < k = omega (arith, h, size) in fresh i (λ _. ap stays (sym (fact_in_lem row k i b) ∙ q ∙ r.is ∙ e)) h q

  differ : (i j : ℕ) → base ≤ i → base ≤ j → i < length (lines_of k row) → j < length (lines_of k row) → fact_at (lines_of k row) i ≡ fact_at (lines_of k row) j → i ≡ j
  differ i j p q h l e = go (dec_lt i j) (dec_lt j i)
    where
      a : i < k
      a = omega (arith, h, size)

      b : j < k
      b = omega (arith, l, size)

      same : (line_at row i).fact ≡ (line_at row j).fact
      same = sym (fact_in_lem row k i a) ∙ e ∙ fact_in_lem row k j b

      go : Dec (i < j) → Dec (j < i) → i ≡ j
      go (yes z) y = absurd (one_line g base row count r.apart i j z (omega (arith, b, r.inside)) (λ w. absurd (omega (arith, w, p))) same)
      go (no z) (yes y) = absurd (one_line g base row count r.apart j i y (omega (arith, a, r.inside)) (λ w. absurd (omega (arith, w, q))) (sym same))
      go (no z) (no y) = omega (arith, z, y)

  pub row_other : kind_of f ≢ 1 → kind_of f ≢ 5 → Linked g base links (take (k + 1) (lines_of count row))
  row_other a b =
      let q = ap kind_of r.is in
      more links (enter_other g base links (lines_of k row) (line_at row k) over table (λ z. a (sym q ∙ z)) (λ z. b (sym q ∙ z)))

  pub row_module : (n : ModuleIdx) → f ≡ Module n → Linked g base (set links n.0 (k + 1)) (take (k + 1) (lines_of count row))
  row_module n e =
      let good = subst (λ x. Good g x) (r.is ∙ e) (r.good k r.inside) in
      more (set links n.0 (k + 1)) (subst (λ x. Linked g base (set links n.0 (x + 1)) (lines_of k row ++ (line_at row k ∷ []))) size (enter_module g base links (lines_of k row) (line_at row k) over table n (r.is ∙ e) good.0 (module_fresh n e)))

  pub module_low : (n : ModuleIdx) → f ≡ Module n → n.0 < g.header.modules
  module_low n e = (subst (λ x. Good g x) (r.is ∙ e) (r.good k r.inside)).0

  pub module_entry : (n : ModuleIdx) → f ≡ Module n → n.0 < length links
  module_entry n e = let good = subst (λ x. Good g x) (r.is ∙ e) (r.good k r.inside) in omega (arith, good.0, table.long)

  -- a forward of symbol s
  module _ (s : SymbolIdx) (e : f ≡ Forward s) where
    pub symbol_low : s.0 < g.header.symbols
    symbol_low = subst (λ x. Good g x) (r.is ∙ e) (r.good k r.inside)

    module _ (o : ℕ) (p : o ≡ owner (symbol_of g s.0)) (small : o < g.header.modules) where
      pub row_first : get_or links (2 * g.header.modules + o) 0 ≡ 0
          → Linked g base (set (set (set links (g.header.modules + o) (k + 1)) (2 * g.header.modules + o) (k + 1)) (3 * g.header.modules + s.0) 0) (take (k + 1) (lines_of count row))
      row_first z =
          more _ (subst (λ x. Linked g base (set (set (set links (g.header.modules + o) (x + 1)) (2 * g.header.modules + o) (x + 1)) (3 * g.header.modules + s.0) 0) (lines_of k row ++ (line_at row k ∷ []))) size
          (enter-first g base links (lines_of k row) (line_at row k) over table s (r.is ∙ e) o p small symbol_low own_fresh (sym (table.lasts o small) ∙ z)))

      -- the last forward before it
      module _ (some : get_or links (2 * g.header.modules + o) 0 ≢ 0) where
        some-last : last_forward g o 0 base (drop base (lines_of k row)) ≢ 0
        some-last z = some (table.lasts o small ∙ z)

        its : OwnLast g o base (lines_of k row)
        its = own_last g o base (lines_of k row) (λ z. some-last (last_none g o 0 base (drop base (lines_of k row)) z))

        pub last-inside : get_or links (2 * g.header.modules + o) 0 ≤ k
        last-inside = omega (arith, its.is, its.inside, size, table.lasts o small)

        last_fact : fact_at (lines_of k row) (get_or links (2 * g.header.modules + o) 0 - 1) ≡ (line_at row (get_or links (2 * g.header.modules + o) 0 - 1)).fact
        last_fact = fact_in_lem row k _ (omega (arith, last-inside, some))

        module _ (before : ℕ) (is-before : before ≡ first_part (line_at row (get_or links (2 * g.header.modules + o) 0 - 1)).fact) where
          is-symbol : before ≡ first_part (fact_at (lines_of k row) (last_forward g o 0 base (drop base (lines_of k row)) - 1))
          is-symbol = is-before ∙ sym (ap first_part last_fact) ∙ ap (λ x. first_part (fact_at (lines_of k row) (x - 1))) (table.lasts o small)

          pub before-low : before < g.header.symbols
          unfolding fact_at
          before-low =
              let y = forward_of g o _ its.forward in
              let n : last_forward g o 0 base (drop base (lines_of k row)) - 1 ≡ its.number = omega (arith, its.is) in
              let b : its.number < k = omega (arith, its.inside, size) in
              let q : (line_at row its.number).fact ≡ Forward y.0 = sym (fact_in_lem row k its.number b) ∙ y.1 in
              let good = subst (λ x. Good g x) q (r.good its.number (omega (arith, b, r.inside))) in
              let u = is-symbol ∙ ap (λ x. first_part (fact_at (lines_of k row) x)) n ∙ ap first_part y.1 in
              omega (arith, u, good)

          pub row-behind : Linked g base (set (set (set links (3 * g.header.modules + before) (k + 1)) (2 * g.header.modules + o) (k + 1)) (3 * g.header.modules + s.0) 0) (take (k + 1) (lines_of count row))
          row-behind =
              more _ (subst (λ x. Linked g base (set (set (set links (3 * g.header.modules + before) (x + 1)) (2 * g.header.modules + o) (x + 1)) (3 * g.header.modules + s.0) 0) (lines_of k row ++ (line_at row k ∷ []))) size
              (enter_behind g base links (lines_of k row) (line_at row k) over table s (r.is ∙ e) o p small symbol_low own_fresh differ some-last before is-symbol (omega (arith, before-low, table.long))))

      -- by the number of modules as the code has it
      module _ (n : ℕ) (q : n ≡ g.header.modules) where
        pub last_fits : get_or links (2 * n + o) 0 ≢ 0 → get_or links (2 * n + o) 0 ≤ k
        last_fits = subst (λ x. get_or links (2 * x + o) 0 ≢ 0 → get_or links (2 * x + o) 0 ≤ k) (sym q) last-inside

        pub before-fits : get_or links (2 * n + o) 0 ≢ 0 → (before : ℕ) → before ≡ first_part (line_at row (get_or links (2 * n + o) 0 - 1)).fact → before < g.header.symbols
        before-fits = subst (λ x. get_or links (2 * x + o) 0 ≢ 0 → (before : ℕ) → before ≡ first_part (line_at row (get_or links (2 * x + o) 0 - 1)).fact → before < g.header.symbols) (sym q) before-low

        -- the table after the first write and the other two
        pub written-first : (after : List ℕ) → get_or links (2 * n + o) 0 ≡ 0 → after ≡ set links (n + o) (k + 1) → Linked g base (set (set after (2 * n + o) (k + 1)) (3 * n + s.0) 0) (take (k + 1) (lines_of count row))
        written-first after z e =
            subst (λ x. Linked g base (set (set x (2 * n + o) (k + 1)) (3 * n + s.0) 0) (take (k + 1) (lines_of count row))) (sym e)
            (subst (λ x. get_or links (2 * x + o) 0 ≡ 0 → Linked g base (set (set (set links (x + o) (k + 1)) (2 * x + o) (k + 1)) (3 * x + s.0) 0) (take (k + 1) (lines_of count row))) (sym q) row_first z)

        pub written_behind : (after : List ℕ) → get_or links (2 * n + o) 0 ≢ 0 → (before : ℕ) → before ≡ first_part (line_at row (get_or links (2 * n + o) 0 - 1)).fact → after ≡ set links (3 * n + before) (k + 1)
            → Linked g base (set (set after (2 * n + o) (k + 1)) (3 * n + s.0) 0) (take (k + 1) (lines_of count row))
        written_behind after z before b e =
            subst (λ x. Linked g base (set (set x (2 * n + o) (k + 1)) (3 * n + s.0) 0) (take (k + 1) (lines_of count row))) (sym e)
            (subst (λ x. get_or links (2 * x + o) 0 ≢ 0 → (y : ℕ) → y ≡ first_part (line_at row (get_or links (2 * x + o) 0 - 1)).fact → Linked g base (set (set (set links (3 * x + y) (k + 1)) (2 * x + o) (k + 1)) (3 * x + s.0) 0) (take (k + 1) (lines_of count row))) (sym q) row-behind z before b)
