-- `gives`, which drain, closed choices and judge share, lists exactly what the relation says. The theorem is `gives_exactly` in
-- proofs/Exactly.antt.
use Rattle.std.specs.Prelude.{ℕ, ◌<◌, ◌≡◌, ◌↔◌, true, List, length, get_or}
use Rattle.determine_side_effects.specs.graph_crate.Check.{Graph}
use Rattle.determine_side_effects.specs.graph_access_crate.Words.{normal}
use Rattle.determine_side_effects.specs.facts_crate.declared.Fact.{Fact}
use Rattle.determine_side_effects.specs.facts_crate.declared.Fact.TheVariants.{Module, Statement, Use, CheckedUse, Forward, Bailout}
use Rattle.determine_side_effects.specs.facts_crate.Facts.{module_fact}
use Rattle.keep_rules.specs.Rules.{Given, gives}
use Rattle.rule_relation.specs.Relation.{Gives}

abbrev pub given : ℕ → Fact → Given
given r e = record { rule = r; fact = e }

-- a fact that stands in a list of consequences, by a rule
pub record Listed (r : ℕ) (e : Fact) (xs : List Given) : Type 0 where
  pub number : ℕ
  pub inside : number < length xs
  pub is : get_or xs number (given 0 (module_fact 0)) ≡ given r e

-- no external module
abbrev pub OfNormal : Graph → Fact → Type 0
OfNormal g (Module m) = normal g m.0 ≡ true
OfNormal g (Statement m i) = Unit {0}
OfNormal g (Use s x) = Unit {0}
OfNormal g (CheckedUse s x) = Unit {0}
OfNormal g (Forward s) = Unit {0}
OfNormal g (Bailout m) = Unit {0}

-- for every graph, verdicts, rule and facts
abbrev pub GivesExactly : Type 0
GivesExactly = (g : Graph) (v : List ℕ) (r : ℕ) (f e : Fact) → OfNormal g f → Listed r e (gives g v f) ↔ Gives g v r f e
