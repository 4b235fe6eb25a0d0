use mathlib.Core.Path.{◌∙◌, sym}
use native.Mathlib.Omega.{arith}
use Rattle.cycles.proofs.Steps.{go_start, go_step, walk_stops, walk_old, room-below, room_for, walk_new}
use Rattle.cycles.proofs.Sources.{sources_all, sources_next, sources_turn, sources_over}
use Rattle.cycles.proofs.+collect.Goals as goal

pub returns-then-fuel-eq0 : goal.returns-then-fuel-eq0
returns-then-fuel-eq0 t c = walk_stops _ _ _ _ _ _ _ c.if-fuel-eq0.true

pub returns-then-test : goal.returns-then-test
returns-then-test t c = walk_old _ _ _ _ _ _ _ c.if-fuel-eq0.false (sym c.test.ensures ∙ c.if-test.true)

pub loop-u-init : goal.loop-u-init
loop-u-init t c =
    let n = c.next_source-u.ensures in
    record {
      inside = n.inside;
      found = n.found;
      entered = record { inside = c.requires.modules_bound.2; new = sym c.test.ensures ∙ c.if-test.false; bits = c.set.ensures; same_seen = c.set.auto.row; room = c.requires.room };
      going = go_start _ _ _ _ _ _ _ _ (sources_next _ _ _ _ _ n);
    }

pub collect-c-requires : goal.collect-c-requires
collect-c-requires t c = (
  omega (arith, c.decreases, c.if-fuel-eq0.false),
  ((c.requires.modules_bound.0, c.requires.modules_bound.1, c.loop-u-test.true), room-below c.loop-u.invariant.entered c.loop-u.invariant.going),
)

pub loop-u-preserved : goal.loop-u-preserved
loop-u-preserved t c =
    let n = c.next_source-u-in-loop-u.ensures in
    let l = c.loop-u.invariant in
    let h = c.loop-u-test.true in
    record {
      inside = n.inside;
      found = n.found;
      entered = l.entered;
      going = go_step l.going _ _ _ _ _ (sources_turn _ _ _ _ _ h (l.found h) n) c.collect-c.auto.seen c.collect-c.auto.group c.collect-c.ensures;
    }

pub offset_bounds-group-c : goal.offset_bounds-group-c
offset_bounds-group-c t c = omega (arith, room_for c.loop-u.invariant.entered c.loop-u.invariant.going, c.requires.modules_bound.0)

pub bounds-group-c : goal.bounds-group-c
bounds-group-c t c = omega (arith, room_for c.loop-u.invariant.entered c.loop-u.invariant.going)

pub overflow_add-result : goal.overflow_add-result
overflow_add-result t c = omega (arith, room_for c.loop-u.invariant.entered c.loop-u.invariant.going, c.requires.modules_bound.0)

pub returns : goal.returns
returns t c =
    walk_new c.loop-u.invariant.entered _ _ c.loop-u.invariant.going c.if-fuel-eq0.false (sources_all _ _ _ c.requires.modules_bound.2) (sources_over _ _ _ _ c.loop-u-test.false)
