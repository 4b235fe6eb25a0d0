use mathlib.Core.List.{List}
use Rattle.tables.specs.rows_crate.Walk.{Item}
use Rattle.tables.specs.graph_format_crate.Format.{symbol_at, following}
use Rattle.tables.specs.Layout.{start_of, at_symbols}
use Rattle.graph_tables.specs.Tables.{modules_in}
use Rattle.graph_tables.proofs.Filling.{Filling}
use Rattle.graph_tables.proofs.symbols.Given as goal

abbrev pub invariant-loop-k : goal.invariant-loop-k
invariant-loop-k l = (done : List Item) × Filling (symbol_at l.h (modules_in l.numbers) l.numbers) following l.h.symbols 0 l.at (start_of l.h at_symbols) l.initial.tables l.tables l.k l.q l.k done
