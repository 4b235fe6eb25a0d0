use mathlib.Core.List.{List}
use Rattle.graph_tables.specs.rows_crate.Walk.{Item}
use Rattle.graph_tables.specs.graph_format_crate.Format.{entry_at, following}
use Rattle.graph_tables.specs.tables_crate.Layout.{start_of, at_entries}
use Rattle.graph_tables.specs.Tables.{modules_in}
use Rattle.graph_tables.proofs.Filling.{Filling}
use Rattle.graph_entries.proofs.entries.Given as goal

abbrev pub invariant-loop-k : goal.invariant-loop-k
invariant-loop-k l = (done : List Item) × Filling (entry_at l.h (modules_in l.numbers) l.numbers) following l.h.entries 0 l.at (start_of l.h at_entries) l.initial.tables l.tables l.k l.q l.k done
