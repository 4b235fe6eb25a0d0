-- Constants that are inlined, and K10: bodies on demand.
use Prim.Native.Nat.{ℕ, ◌-◌, ◌<◌}
use mathlib.Core.Path.{◌≡◌, refl, ap, ◌∙◌}
use mathlib.Core.Bool.{Bool, true, false, ◌&&◌, ◌||◌, not}
use mathlib.Core.List.{List}
use native.Mathlib.Omega.{arith}
use borrow.Author.Tests.{eq-eqb, ne_eqb, eqb-false}
use lib.Dec.{eqb}
use lib.ListN.{length}
use Rattle.determine_side_effects.specs.graph_crate.Check.{Graph}
use Rattle.determine_side_effects.specs.graph_access_crate.Names.{constant_bits}
use Rattle.determine_side_effects.specs.graph_access_crate.Words.{root_of, flag, option, symbol_of, statement_list}
use Rattle.determine_side_effects.specs.facts_crate.Facts.{statement_fact}
use Rattle.on_demand.specs.Demand.{gated, body_of}
use Rattle.keep_rules.specs.declared.Candidate.TheVariants.{Gives, Nothing}
use Rattle.keep_rules.specs.Rules.{when, bypassed, demanded, demand_candidates, demand_candidate}

-- the bits are those of the root's constant
module _ (g : Graph) (s x bits : ℕ) (e : bits ≡ constant_bits (symbol_of g (root_of g.symbols s))) where
  by : Bool → Bool → Bool → Bool → Bool → Bool
  by known common entry smart safe = known && (not common && (not entry && (not smart || safe)))

  abbrev these : Bool
  these = by (flag 0 bits) (flag 2 bits) (flag 1 x) (option g 1) (flag 1 bits)

  same : these ≡ bypassed g s x
  unfolding bypassed by
  same = ap (λ b. by (flag 0 b) (flag 2 b) (flag 1 x) (option g 1) (flag 1 b)) e

  pub unknown : flag 0 bits ≡ false → false ≡ bypassed g s x
  unfolding by
  unknown a = rw (a, by) at same

  pub common : flag 0 bits ≡ true → flag 2 bits ≡ true → false ≡ bypassed g s x
  unfolding by
  common a b = rw (a, b, by) at same

  pub entry_export : flag 0 bits ≡ true → flag 2 bits ≡ false → flag 1 x ≡ true → false ≡ bypassed g s x
  unfolding by
  entry_export a b c = rw (a, b, c, by) at same

  pub not_smart : flag 0 bits ≡ true → flag 2 bits ≡ false → flag 1 x ≡ false → option g 1 ≡ false → true ≡ bypassed g s x
  unfolding by
  not_smart a b c d = rw (a, b, c, d, by) at same

  pub smart : flag 0 bits ≡ true → flag 2 bits ≡ false → flag 1 x ≡ false → option g 1 ≡ true → flag 1 bits ≡ bypassed g s x
  unfolding by
  smart a b c d = rw (a, b, c, d, by) at same

module _ (g : Graph) (v : List ℕ) (s x : ℕ) where
  pub demanded_none : flag 4 x ≡ true → 0 ≡ demanded g v s x
  unfolding demanded
  demanded_none e = rw (e, demanded)

  pub demanded_some : (root : ℕ) {n : ℕ} → root ≡ root_of g.symbols s → flag 4 x ≡ false → n ≡ body_of g v root → n ≡ demanded g v s x
  unfolding demanded
  demanded_some root i e h = h ∙ ap (body_of g v) i ∙ rw (e, demanded)

module _ (g : Graph) (body : ℕ) where
  pub demand_none : body ≡ 0 → 0 ≡ demand_candidates g body
  unfolding demand_candidates
  demand_none e = rw (eq-eqb body 0 e, demand_candidates)

  pub demand_all : (body ≡ 0 → ⊥) → {n : ℕ} → n ≡ length (statement_list g (body - 1)) → n ≡ demand_candidates g body
  unfolding demand_candidates
  demand_all n h = h ∙ rw (ne_eqb body 0 n, demand_candidates)

  -- a place is a statement of the body
  pub demand_in : (i : ℕ) → i < demand_candidates g body → (0 < body) × (i < length (statement_list g (body - 1)))
  unfolding demand_candidates
  demand_in i h = go (eqb body 0) refl
    where
      go : (b : Bool) → eqb body 0 ≡ b → (0 < body) × (i < length (statement_list g (body - 1)))
      go true e = absurd (omega (arith, rw (e, demand_candidates) at h))
      go false e = (omega (arith, eqb-false body 0 e), rw (e, demand_candidates) at h)

  pub demand_gated : (d i : ℕ) → body ≡ d → gated g (body - 1) i ≡ true → Gives (statement_fact (body - 1) i) ≡ demand_candidate g d i
  unfolding demand_candidate when
  demand_gated d i is e = let here : Gives (statement_fact (body - 1) i) ≡ demand_candidate g body i = rw (e, demand_candidate, when) in here ∙ ap (λ b. demand_candidate g b i) is

  pub demand_free : (d i : ℕ) → body ≡ d → gated g (body - 1) i ≡ false → Nothing ≡ demand_candidate g d i
  unfolding demand_candidate when
  demand_free d i is e = let here : Nothing ≡ demand_candidate g body i = rw (e, demand_candidate, when) in here ∙ ap (λ b. demand_candidate g b i) is
