use Prim.Native.Nat.{◌+◌, ◌-◌, ◌*◌, ◌<◌, ◌≤◌}
use mathlib.Core.Path.{◌≡◌}
use mathlib.Core.Bool.{true}
use Rattle.bit_row.specs.Row.{bit_at}
use Rattle.cycles.specs.Walked.{preds_in}
use Rattle.cycles.proofs.Steps.{Going, Entered}
use Rattle.cycles.proofs.Sources.{sources_from}
use Rattle.cycles.proofs.+collect.Given as goal

abbrev pub decreases-collect : goal.decreases-collect
decreases-collect l = l.fuel

-- at the loop the node is entered
abbrev pub invariant-loop-u : goal.invariant-loop-u
invariant-loop-u l =
    record {
      inside : l.u ≤ l.modules;
      found : l.u < l.modules → bit_at l.edges (l.t * l.modules + l.u) ≡ true;
      entered : Entered l.modules l.t l.fn.seen l.fn.group l.count l.initial.seen;
      going : Going (preds_in l.modules l.edges) (l.fuel - 1) l.modules (sources_from l.modules l.edges l.t 0) l.initial.seen l.initial.group l.initial.c (sources_from l.modules l.edges l.t l.u) l.seen l.group l.c;
    }

abbrev pub decreases-loop-u : goal.decreases-loop-u
decreases-loop-u l = l.modules - l.u
