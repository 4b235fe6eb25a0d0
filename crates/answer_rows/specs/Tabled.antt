-- The section of the modules' first bytes in the statement row.
use Rattle.std.specs.Prelude.{ℕ, ◌<◌, ◌≤◌, ◌≡◌, List, length, get_or}
use Rattle.determine_side_effects.specs.tables_crate.Layout.{Laid, first_bytes_in, all_sections}
use Rattle.determine_side_effects.specs.graph_tables_crate.Tables.{header_in}
use Rattle.determine_side_effects.specs.graph_crate.Check.{Graph, graph_in}
use Rattle.answer_rows.specs.Shown.{bytes_before}

pub record FirstByteTable (g : Graph) (table : List ℕ) : Type 0 where
  pub long : g.header.modules ≤ length table
  pub has : (m : ℕ) → m < g.header.modules → get_or table m 0 ≡ bytes_before g.statements m

-- as a part of the one slice
pub record FirstBytes (numbers tables : List ℕ) : Type 0 where
  pub laid : Laid (header_in numbers) all_sections tables
  pub of_bytes : FirstByteTable (graph_in numbers) (first_bytes_in tables)
