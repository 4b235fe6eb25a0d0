use lib.ListN.{take, drop}
use Rattle.entry_graph.specs.Memory.{succs_in}
use Rattle.cycles.proofs.Steps.{Going}
use Rattle.cycles.proofs.complete_all.Given as goal

abbrev pub invariant-loop-i : goal.invariant-loop-i
invariant-loop-i l =
    Going (succs_in l.modules l.cap l.outs l.succs) l.modules l.modules (take l.n l.nodes) l.initial.seen l.initial.order l.initial.c (drop l.i (take l.n l.nodes)) l.seen l.order l.c
