use Prim.Native.Nat.{◌-◌}
use Rattle.entry_graph.specs.Memory.{succs_in}
use Rattle.cycles.proofs.Steps.{Going, Entered}
use Rattle.cycles.proofs.Successors.{succs_from}
use Rattle.cycles.proofs.+complete.Given as goal

abbrev pub decreases-complete : goal.decreases-complete
decreases-complete l = l.fuel

-- at the loop the node is entered
abbrev pub invariant-loop-k : goal.invariant-loop-k
invariant-loop-k l =
    record {
      entered : Entered l.modules l.t l.fn.seen l.fn.order l.count l.initial.seen;
      going : Going (succs_in l.modules l.cap l.outs l.succs) (l.fuel - 1) l.modules (succs_from l.cap l.outs l.succs l.t 0) l.initial.seen l.initial.order l.initial.c (succs_from l.cap l.outs l.succs l.t l.k) l.seen l.order l.c;
    }
