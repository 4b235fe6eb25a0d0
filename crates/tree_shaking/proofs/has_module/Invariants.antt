use Rattle.tree_shaking.proofs.Modules.{Looking}
use Rattle.tree_shaking.proofs.has_module.Given as goal

abbrev pub invariant-loop-k : goal.invariant-loop-k
invariant-loop-k l = Looking l.lines l.from l.to l.k
