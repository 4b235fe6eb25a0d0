-- Closed and smallest by the rules as a relation, without a list of consequences: what demand 3's sentence says. On accepted graphs, for good
-- starts, the smallest choice by the rules is `Smallest` of `closed_choices` (`smallest_by_rules` in proofs/ByRules.antt).
use Rattle.std.specs.Prelude.{ℕ, List}
use Rattle.determine_side_effects.specs.graph_crate.Check.{Graph}
use Rattle.determine_side_effects.specs.Effects.{last_verdicts}
use Rattle.determine_side_effects.specs.facts_crate.declared.Fact.{Fact}
use Rattle.rule_relation.specs.Relation.{Gives, Joins}
use Rattle.closed_choices.specs.Choice.{Choice, HoldsStarts}

-- a choice has all that K1 joins, and all that K2 to K14 give from its facts under the last verdicts
pub record ClosedByRules (g : Graph) (C : Choice) : Type 0 where
  pub by_K1 : (a b f : Fact) → Joins g a b f → C a → C b → C f
  pub by_K2_to_K14 : (r : ℕ) (f e : Fact) → Gives g (last_verdicts g) r f e → C f → C e

-- closed, with the starts, and inside every other that is closed and holds them
pub record SmallestByRules (g : Graph) (starts : List Fact) (C : Choice) : Type 1 where
  pub holds_starts : HoldsStarts starts C
  pub closed : ClosedByRules g C
  pub inside_each : (D : Choice) → HoldsStarts starts D → ClosedByRules g D → (f : Fact) → C f → D f
