use mathlib.Core.Path.{refl, ◌∙◌, sym}
use native.Mathlib.Omega.{arith}
use Rattle.cycles.proofs.Steps.{go_start, go_step, walk_stops, walk_old, room-below, room_for, walk_new}
use Rattle.cycles.proofs.Successors.{succs_all, succs_turn, succs_over}
use Rattle.cycles.proofs.+complete.Goals as goal

pub returns-then-fuel-eq0 : goal.returns-then-fuel-eq0
returns-then-fuel-eq0 t c = walk_stops _ _ _ _ _ _ _ c.if-fuel-eq0.true

pub returns-then-test : goal.returns-then-test
returns-then-test t c = walk_old _ _ _ _ _ _ _ c.if-fuel-eq0.false (sym c.test.ensures ∙ c.if-test.true)

pub loop-k-init : goal.loop-k-init
loop-k-init t c =
    record {
      entered = record { inside = c.requires.forward.1; new = sym c.test.ensures ∙ c.if-test.false; bits = c.set.ensures; same_seen = c.set.auto.row; room = c.requires.room };
      going = go_start _ _ _ _ _ _ _ _ refl;
    }

pub complete-c-requires : goal.complete-c-requires
complete-c-requires t c =
    let p = c.requires.forward in (
      omega (arith, c.decreases, c.if-fuel-eq0.false),
      ((p.0, rw c.wide-u.ensures (p.0.succ_below _ _ p.1 (omega arith))), room-below c.loop-k.invariant.entered c.loop-k.invariant.going),
    )

pub loop-k-preserved : goal.loop-k-preserved
loop-k-preserved t c =
    record {
      entered = c.loop-k.invariant.entered;
      going = go_step c.loop-k.invariant.going _ _ _ _ _ (succs_turn _ _ _ _ _ _ (omega arith) c.wide-u.ensures) c.complete-c.auto.seen c.complete-c.auto.order c.complete-c.ensures;
    }

pub offset_bounds-order-c : goal.offset_bounds-order-c
offset_bounds-order-c t c = omega (arith, room_for c.loop-k.invariant.entered c.loop-k.invariant.going, c.requires.forward.0.few)

pub bounds-order-c : goal.bounds-order-c
bounds-order-c t c = omega (arith, room_for c.loop-k.invariant.entered c.loop-k.invariant.going)

pub overflow_add-result : goal.overflow_add-result
overflow_add-result t c = omega (arith, room_for c.loop-k.invariant.entered c.loop-k.invariant.going, c.requires.forward.0.few)

pub returns : goal.returns
returns t c =
    walk_new c.loop-k.invariant.entered _ _ c.loop-k.invariant.going c.if-fuel-eq0.false (succs_all _ _ _ _ _ c.requires.forward.1) (succs_over _ _ _ _ _ (omega arith))
