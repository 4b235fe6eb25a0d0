use native.Mathlib.Omega.{arith}
use Rattle.entry_graph.proofs.Successors.{cell_small}
use Rattle.entry_graph.proofs.cell.Goals as goal

pub overflow_add-result : goal.overflow_add-result
overflow_add-result c = omega (arith, cell_small c.args.width c.args.row c.requires.0 c.requires.1)
