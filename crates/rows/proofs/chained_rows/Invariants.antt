use Prim.Native.Nat.{ℕ, ◌+◌, ◌*◌}
use mathlib.Core.Path.{◌≡◌}
use mathlib.Core.List.{List, []}
use Rattle.rows.specs.Walk.{firsts, firsts_at, distinct_row, columns_of}
use Rattle.rows.proofs.Many.{Going}
use Rattle.rows.specs.Chain.{Chained}
use Rattle.rows.proofs.chained_rows.Given as goal

abbrev pub invariant-loop-k : goal.invariant-loop-k
invariant-loop-k l = (done : List (List ℕ)) × (l.place ≡ l.at + l.width * l.k) × Going (distinct_row (columns_of l.width l.a l.b l.c) l.numbers) firsts l.count [] l.at l.k l.place (firsts_at l.numbers l.at l.width l.k) done × Chained l.numbers l.at l.width l.k l.heads l.nexts
