use mathlib.Core.List.{List}
use Rattle.tables.specs.rows_crate.Walk.{Item}
use Rattle.tables.specs.graph_format_crate.Format.{statement_at, following}
use Rattle.graph_tables.proofs.Filling.{Filling}
use Rattle.graph_tables.proofs.module_statements.Given as goal

abbrev pub invariant-loop-k : goal.invariant-loop-k
invariant-loop-k l = (done : List Item) × Filling (statement_at l.h l.imports l.numbers) following l.count 0 l.at l.first l.initial.tables l.tables l.k l.q l.k done
