use Prim.Native.Nat.{ℕ}
use mathlib.Core.List.{List, []}
use Rattle.rows.specs.Walk.{firsts, plain_row, columns_of}
use Rattle.rows.proofs.Many.{Going}
use Rattle.rows.proofs.plain_rows.Given as goal

abbrev pub invariant-loop-i : goal.invariant-loop-i
invariant-loop-i l = (s : List ℕ) × (done : List (List ℕ)) × Going (plain_row (columns_of l.width l.a l.b l.c) l.numbers) firsts l.count [] l.at l._i l.q s done
