-- An entry that a try would now find dead, by the tests in turn.
use Prim.Native.Nat.{ℕ, ◌+◌}
use mathlib.Core.Path.{◌≡◌, ap, ◌∙◌, sym}
use mathlib.Core.Bool.{Bool, true, false, not}
use mathlib.Core.List.{List}
use borrow.Author.Tests.{eq-eqb, ne_eqb}
use lib.ListN.{get_or}
use Rattle.determine_side_effects.specs.graph_format_crate.declared.Header.{Header}
use Rattle.determine_side_effects.specs.graph_crate.Check.{Graph}
use Rattle.determine_side_effects.specs.graph_access_crate.Names.{entry_kind, entry_module}
use Rattle.determine_side_effects.specs.graph_access_crate.Words.{entry_of}
use Rattle.determine_side_effects.specs.facts_crate.declared.Fact.{Fact}
use Rattle.determine_side_effects.specs.Effects.{last_verdicts}
use Rattle.entry_order.specs.Order.{module_of_entry, is_dynamic}
use Rattle.entry_order.specs.Plan.{cycled_at}
use Rattle.dynamic_entries.specs.Sorted.{on_cycle}
use Rattle.dynamic_entries.specs.Alive.{is_alive}
use Rattle.dead_records.specs.Dead.{dead_now}

-- a module's word of cycles
pub cycle_word : (plan : List ℕ) (h k : Header) (at : ℕ) → at ≡ cycled_at h → h ≡ k → (m : ℕ) → get_or plan (at + m) 0 ≡ get_or plan (cycled_at k + m) 0
cycle_word plan h k at there e m = ap (λ n. get_or plan (n + m) 0) (there ∙ ap (λ (x : Header). cycled_at x) e)

module _ (g : Graph) (kept : Fact → Bool) (live : ℕ → Bool) (e kind : ℕ) (q : kind ≡ entry_kind (entry_of g e)) where
  pub not_dynamic : (kind ≡ 2 → ⊥) → false ≡ dead_now g kept live e
  unfolding dead_now is_dynamic
  not_dynamic n = rw (ne_eqb (entry_kind (entry_of g e)) 2 (λ z. n (q ∙ z)))

  module _ (d : kind ≡ 2) (m : ℕ) (z : m ≡ entry_module (entry_of g e)) where
    pub is_live : live m ≡ true → false ≡ dead_now g kept live e
    unfolding dead_now is_dynamic module_of_entry
    is_live n =
        let u : live (entry_module (entry_of g e)) ≡ true = ap (λ x. live x) (sym z) ∙ n in
        rw (eq-eqb (entry_kind (entry_of g e)) 2 (sym q ∙ d), u)

    module _ (n : live m ≡ false) where
      pub on_a_cycle : on_cycle g m ≡ true → false ≡ dead_now g kept live e
      unfolding dead_now is_dynamic module_of_entry
      on_a_cycle o =
          let u : live (entry_module (entry_of g e)) ≡ false = ap (λ x. live x) (sym z) ∙ n in
          let p : on_cycle g (entry_module (entry_of g e)) ≡ true = ap (λ x. on_cycle g x) (sym z) ∙ o in
          rw (eq-eqb (entry_kind (entry_of g e)) 2 (sym q ∙ d), u, p)

      pub by-its-statements : on_cycle g m ≡ false → (b : Bool) → b ≡ is_alive g (last_verdicts g) kept e → not b ≡ dead_now g kept live e
      unfolding dead_now is_dynamic module_of_entry
      by-its-statements o b a =
          let u : live (entry_module (entry_of g e)) ≡ false = ap (λ x. live x) (sym z) ∙ n in
          let p : on_cycle g (entry_module (entry_of g e)) ≡ false = ap (λ x. on_cycle g x) (sym z) ∙ o in
          rw (eq-eqb (entry_kind (entry_of g e)) 2 (sym q ∙ d), u, p) (ap not a)
