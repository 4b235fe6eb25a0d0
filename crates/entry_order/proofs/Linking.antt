-- Entries are chained from the last to the first.
use Prim.Native.Nat.{ℕ, suc, ◌+◌, ◌-◌, ◌<◌, ◌≤◌}
use mathlib.Core.Path.{◌≡◌, refl, ap, ◌∙◌, sym, subst}
use mathlib.Core.Bool.{Bool, true, false}
use mathlib.Core.List.{List}
use native.Mathlib.Omega.{arith}
use borrow.Author.Tests.{eqb-true, eqb-false}
use lib.Dec.{eqb}
use lib.ListN.{length, get_or, set, length-set}
use lib.Seq.{get_or-set_same, get_or-set_other}
use Rattle.facts.specs.graph_format_crate.declared.Header.{Header}
use Rattle.facts.specs.graph_tables_crate.Tables.{header_in}
use Rattle.facts.specs.graph_crate.Check.{Graph, graph_in}
use Rattle.facts.specs.graph_access_crate.Names.{entry_module}
use Rattle.facts.specs.graph_access_crate.Words.{entry_of}
use Rattle.entry_order.specs.Order.{module_of_entry}
use Rattle.entry_order.specs.Chains.{place_of, Chained, Entries}
use Rattle.entry_order.proofs.Places.{place_here, place_later}

-- the places from i on are chained
pub record Linked (g : Graph) (list : List ℕ) (count i : ℕ) (chain : List ℕ) : Type 0 where
  pub long : g.header.modules + count ≤ length chain
  pub firsts : (u : ℕ) → u < g.header.modules → get_or chain u 0 ≡ place_of g list u i (count - i)
  pub nexts : (j : ℕ) → i ≤ j → j < count → get_or chain (g.header.modules + j) 0 ≡ place_of g list (module_of_entry g (get_or list j 0)) (j + 1) (count - (j + 1))

module _ (g : Graph) (list : List ℕ) (count : ℕ) (chain : List ℕ) where
  pub link_start : g.header.modules + count ≤ length chain → ((u : ℕ) → u < g.header.modules → get_or chain u 0 ≡ 0) → Linked g list count count chain
  unfolding place_of
  link_start l z =
      let q : count - count ≡ 0 = omega arith in
      record { long = l; firsts = λ u h. z u h ∙ (rw (q, place_of)); nexts = λ j a b. absurd (omega arith) }

  pub link_done : (i : ℕ) → i ≤ 0 → Linked g list count i chain → Chained g list count chain
  link_done i h c =
      let q : i ≡ 0 = omega arith in
      let d = subst (λ (x : ℕ). Linked g list count x chain) q c in
      let s : count - 0 ≡ count = omega arith in
      record {
        long = c.long;
        firsts = λ u l. d.firsts u l ∙ ap (λ (k : ℕ). place_of g list u 0 k) s;
        nexts = λ j l. d.nexts j (omega arith) l;
      }

  module _ (i p u : ℕ) (q : i ≡ p + 1) (h : p < count) (is : u ≡ module_of_entry g (get_or list p 0)) (lu : u < g.header.modules) (c : Linked g list count i chain) where
    M : ℕ
    M = g.header.modules

    rest : count - p ≡ suc (count - (p + 1))
    rest = omega arith

    mine : place_of g list u p (count - p) ≡ p + 1
    mine = rw rest (place_here g list u p (count - (p + 1)) (sym is))

    not-mine : (v : ℕ) → (u ≡ v → ⊥) → place_of g list v p (count - p) ≡ place_of g list v (p + 1) (count - (p + 1))
    not-mine v d = rw rest (place_later g list v p (count - (p + 1)) (λ e. d (is ∙ e)))

    before : (v : ℕ) → v < g.header.modules → get_or chain v 0 ≡ place_of g list v (p + 1) (count - (p + 1))
    before v l = subst (λ (x : ℕ). get_or chain v 0 ≡ place_of g list v x (count - x)) q (c.firsts v l)

    -- the chain with the place's next, and then with the place as its module's first
    mid : List ℕ
    mid = set chain (g.header.modules + p) (get_or chain u 0)

    pub link-step : Linked g list count p (set (set chain (g.header.modules + p) (get_or chain u 0)) u (p + 1))
    unfolding mid
    link-step =
        record {
          long = (let l = c.long in let a = length-set mid u (p + 1) in let b = length-set chain (g.header.modules + p) (get_or chain u 0) in omega (arith, l, a, b));
          firsts = λ v l. go v l (eqb v u) refl;
          nexts = λ j a b. go₂ j a b (eqb j p) refl;
        }
      where
        lm : length mid ≡ length chain
        lm = length-set chain (g.header.modules + p) (get_or chain u 0)

        go : (v : ℕ) → v < g.header.modules → (b : Bool) → eqb v u ≡ b → get_or (set mid u (p + 1)) v 0 ≡ place_of g list v p (count - p)
        go v l true x = rw (eqb-true v u x) (get_or-set_same mid u (p + 1) 0 (let k = c.long in omega (arith, k, lm, lu)) ∙ sym mine)
        go v l false x =
            get_or-set_other mid u v (p + 1) 0 (eqb-false v u x)
            ∙ get_or-set_other chain (g.header.modules + p) v (get_or chain u 0) 0 (omega (arith, l))
            ∙ before v l
            ∙ sym (not-mine v (λ y. eqb-false v u x (sym y)))

        go₂ : (j : ℕ) → p ≤ j → j < count → (b : Bool) → eqb j p ≡ b → get_or (set mid u (p + 1)) (g.header.modules + j) 0 ≡ place_of g list (module_of_entry g (get_or list j 0)) (j + 1) (count - (j + 1))
        go₂ j a b true x =
            rw (eqb-true j p x)
            (get_or-set_other mid u (g.header.modules + p) (p + 1) 0 (omega (arith, lu))
            ∙ get_or-set_same chain (g.header.modules + p) (get_or chain u 0) 0 (let k = c.long in omega (arith, k, h))
            ∙ before u lu
            ∙ ap (λ (v : ℕ). place_of g list v (p + 1) (count - (p + 1))) is)
        go₂ j a b false x =
            let d = eqb-false j p x in
            get_or-set_other mid u (g.header.modules + j) (p + 1) 0 (omega (arith, lu))
            ∙ get_or-set_other chain (g.header.modules + p) (g.header.modules + j) (get_or chain u 0) 0 (omega (arith, d))
            ∙ c.nexts j (omega (arith, d)) b

-- the same of the code's numbers
module _ (numbers : List ℕ) (h : Header) (is : h ≡ header_in numbers) (list : List ℕ) (count : ℕ) where
  abbrev g : Graph
  g = graph_in numbers

  pub chain_ready : (chain₀ chain : List ℕ) → (header_in numbers).modules + count ≤ length chain₀ → length chain ≡ length chain₀ → ((u : ℕ) → u < h.modules → get_or chain u 0 ≡ 0) → Linked (graph_in numbers) list count count chain
  unfolding graph_in
  chain_ready chain₀ chain l k z = link_start g list count chain (omega (arith, l, k)) (λ u b. z u (rw is b))

  pub chain_long : (i : ℕ) (chain : List ℕ) → Linked (graph_in numbers) list count i chain → h.modules + count ≤ length chain
  unfolding graph_in
  chain_long i chain c = rw is c.long

  pub chain_turn : (i u : ℕ) (chain : List ℕ) → 0 < i → i ≤ count → (u ≡ entry_module (entry_of (graph_in numbers) (get_or list (i - 1) 0))) × (u < (header_in numbers).modules) → Linked (graph_in numbers) list count i chain
      → Linked (graph_in numbers) list count (i - 1) (set (set chain (h.modules + (i - 1)) (get_or chain u 0)) u (i - 1 + 1))
  unfolding graph_in module_of_entry
  chain_turn i u chain a b e c = rw is (link-step g list count chain i (i - 1) u (omega arith) (omega arith) e.0 e.1 c)

pub entry_below : (numbers list : List ℕ) (count i : ℕ) → Entries (graph_in numbers) list count → i < count → (i < length list) × (get_or list i 0 < (header_in numbers).entries)
unfolding graph_in
entry_below numbers list count i e h = let l = e.long in (omega (arith, l, h), e.below i h)
