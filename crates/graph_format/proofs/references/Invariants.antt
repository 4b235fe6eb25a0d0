use Prim.Native.Nat.{ℕ}
use mathlib.Core.List.{List, []}
use Rattle.rows.proofs.Many.{Going}
use Rattle.rows.specs.Walk.{firsts}
use Rattle.graph_format.specs.Format.{reference_at}
use Rattle.graph_format.proofs.references.Given as goal

abbrev pub invariant-loop-k : goal.invariant-loop-k
invariant-loop-k l = (s : List ℕ) × (done : List (List ℕ)) × Going (reference_at l.symbols l.numbers) firsts l.count [] l.at l._k l.q s done
