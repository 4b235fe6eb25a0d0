-- A reference and where it stands.
use Rattle.std.specs.Prelude.{ℕ, ◌<◌, List, [], length, get_or}
use Rattle.determine_side_effects.specs.graph_crate.Check.{graph_in}
use Rattle.determine_side_effects.specs.graph_access_crate.Names.{references}
use Rattle.determine_side_effects.specs.graph_access_crate.References.{ReferenceAt}
use Rattle.determine_side_effects.specs.graph_access_crate.Words.{statement_list, statement_of}

-- reference r of statement i of module m stands at `place`
pub record Here (numbers : List ℕ) (m i r place : ℕ) : Type 0 where
  pub module_inside : m < (graph_in numbers).header.modules
  pub statement_inside : i < length (statement_list (graph_in numbers) m)
  pub reference_inside : r < length (references (statement_of (graph_in numbers) m i))
  pub stands : ReferenceAt numbers place (get_or (references (statement_of (graph_in numbers) m i)) r [])
