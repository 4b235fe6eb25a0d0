-- An accepted graph with all tables that the rules read.
use Rattle.std.specs.Prelude.{ℕ, ◌≡◌, List}
use Rattle.determine_side_effects.specs.graph_crate.Check.{Graph}
use Rattle.determine_side_effects.specs.graph_crate.Loaded.{Loaded}
use Rattle.determine_side_effects.specs.facts_crate.declared.Fact.{Fact}
use Rattle.determine_side_effects.specs.facts_crate.Facts.{Good}
use Rattle.determine_side_effects.specs.Tabled.{Settled}
use Rattle.on_demand.specs.Tabled.{Demands, Keyed}
use Rattle.linking_metadata.specs.Tabled.{Named}
use Rattle.keep_rules.specs.declared.Candidate.{Candidate}
use Rattle.keep_rules.specs.declared.Candidate.TheVariants.{Gives}

pub record Prepared (numbers tables : List ℕ) : Type 0 where
  pub loaded : Loaded numbers tables
  pub settled : Settled numbers tables
  pub demands : Demands numbers tables
  pub keyed : Keyed numbers tables
  pub named : Named numbers tables

-- what a candidate gives is a good fact
pub record GoodCandidate (g : Graph) (p : Candidate) : Type 0 where
  pub known : (f : Fact) → p ≡ Gives f → Good g f
