use mathlib.Core.Path.{refl}
use Rattle.cycles.proofs.Steps.{go_start, go_room, go_step}
use Rattle.cycles.proofs.Roots.{nodes_turn, nodes_over, room_start, all_done}
use Rattle.cycles.proofs.complete_all.Goals as goal

pub loop-i-init : goal.loop-i-init
loop-i-init c = go_start _ _ _ _ _ _ _ _ refl

pub complete-c-requires : goal.complete-c-requires
complete-c-requires c =
    record {
      forward = (c.requires.forward.0, c.requires.n_le_modules.2 _ c.loop-i-test.true);
      room = go_room c.loop-i.invariant (room_start _ _ _ c.requires.modules_bound.0 c.requires.forward.1);
    }

pub loop-i-preserved : goal.loop-i-preserved
loop-i-preserved c = go_step c.loop-i.invariant _ _ _ _ _ (nodes_turn _ _ c.requires.n_le_modules.1 _ c.loop-i-test.true) c.complete-c.auto.seen c.complete-c.auto.order c.complete-c.ensures

pub returns : goal.returns
returns c = all_done _ _ _ _ _ _ _ _ _ c.requires.modules_bound.1 c.loop-i.invariant (nodes_over _ _ c.requires.n_le_modules.1 _ c.loop-i-test.false)
