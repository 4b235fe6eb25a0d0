-- The section of the verdicts.
use Rattle.std.specs.Prelude.{ℕ, ◌≡◌, List}
use Rattle.facts.specs.tables_crate.Layout.{Laid, verdicts_in, at_on_demand}
use Rattle.facts.specs.graph_tables_crate.Tables.{header_in}
use Rattle.facts.specs.graph_crate.Check.{graph_in}
use Rattle.facts.specs.graph_crate.Loaded.{Loaded}
use Rattle.determine_side_effects.specs.Effects.{last_verdicts}

-- an accepted graph with room for its verdicts
pub record HasVerdicts (numbers tables : List ℕ) : Type 0 where
  pub loaded : Loaded numbers tables
  pub laid : Laid (header_in numbers) at_on_demand tables

-- the section holds the last verdicts
pub record Settled (numbers tables : List ℕ) : Type 0 where
  pub laid : Laid (header_in numbers) at_on_demand tables
  pub are_last : verdicts_in tables ≡ last_verdicts (graph_in numbers)
