use Prim.Native.Nat.{ℕ}
use mathlib.Core.List.{List, []}
use Rattle.graph_tables.specs.rows_crate.Walk.{firsts}
use Rattle.graph_tables.specs.Tables.{modules_in}
use Rattle.graph_tables.proofs.rows_crate.Many.{Going}
use Rattle.graph_tables.specs.graph_format_crate.Format.{related_at}
use Rattle.graph_entries.proofs.related_rows.Given as goal

abbrev pub invariant-loop-k : goal.invariant-loop-k
invariant-loop-k l = (s : List ℕ) × (done : List (List ℕ)) × Going (related_at l.h (modules_in l.numbers) l.numbers) firsts l.count [] l.at l._k l.q s done
