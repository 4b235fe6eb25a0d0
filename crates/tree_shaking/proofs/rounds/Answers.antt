use mathlib.Core.Path.{◌∙◌}
use Rattle.tree_shaking.proofs.Turning.{turning_start, turning_end, turn-short, turn_more, turn_last, turn_next}
use Rattle.determine_side_effects.specs.graph_crate.Check.{graph_in}
use mathlib.Core.Path.{refl}
use native.Mathlib.Omega.{arith}
use Rattle.determine_side_effects.proofs.refusal_crate.Exits.{passed_on}
use Rattle.tree_shaking.proofs.rounds.Goals as goal

pub loop-made-init : goal.loop-made-init
unfolding graph_in
loop-made-init c = turning_start _ _ _ _ _ _ _ c.requires.working.0 c.requires.working.1

pub overflow_mul-h : goal.overflow_mul-h
overflow_mul-h c = record { fits = rw c.header_of-h.ensures (omega (arith, c.requires.prepared.loaded.few_modules)) }

pub live_before-live-requires : goal.live_before-live-requires
unfolding graph_in
live_before-live-requires c = let t = c.loop-made.invariant in (c.requires.prepared.loaded.long, t.planned.long, t.planned.few)

pub round-requires : goal.round-requires
round-requires c = let t = c.loop-made.invariant in record { prepared = c.requires.prepared; working = (t.working, t.planned, t.taken_inside) }

pub returns-in_err-n : goal.returns-in_err-n
unfolding graph_in
returns-in_err-n c =
    let at-round = rw c.header_of-h.ensures at c.loop-made-test.true in rw (passed_on c.from_residual.result _ c.from_residual.ensures.1) (turn-short _ _ _ _ _ _ _ _ _ _ c.loop-made.invariant at-round _ _ _ _ (rw c.in_err-n.was at c.round.ensures))

pub overflow_add-made : goal.overflow_add-made
overflow_add-made c =
    let at-round = rw c.header_of-h.ensures at c.loop-made-test.true in
    record { fits = omega (arith, at-round, c.requires.prepared.loaded.few_modules) }

pub goes_on-requires : goal.goes_on-requires
unfolding graph_in
goes_on-requires c =
    let at-round = rw c.header_of-h.ensures at c.loop-made-test.true in
    let r = rw c.in_ok-n.was at c.round.ensures in
    record {
      from_le_to = (turn_more _ _ _ _ _ _ _ _ _ _ c.loop-made.invariant at-round _ _ _ _ _ r, (r.working _ refl).held.room);
      in_bounds = (c.requires.prepared.loaded.long, (r.planned _ refl).long, (r.planned _ refl).few);
    }

pub returns-then-not-goes_on : goal.returns-then-not-goes_on
unfolding graph_in
returns-then-not-goes_on c =
    let at-round = rw c.header_of-h.ensures at c.loop-made-test.true in
    turn_last _ _ _ _ _ _ _ _ _ _ c.loop-made.invariant at-round _ _ _ _ _ (rw c.in_ok-n.was at c.round.ensures) _ c.live_before-live.ensures _ c.goes_on.ensures c.if-not-goes_on.true c.ended_with.ensures

pub loop-made-smaller : goal.loop-made-smaller
loop-made-smaller c =
    let at-round = rw c.header_of-h.ensures at c.loop-made-test.true in
    omega (arith, at-round)

pub loop-made-preserved : goal.loop-made-preserved
unfolding graph_in
loop-made-preserved c =
    let at-round = rw c.header_of-h.ensures at c.loop-made-test.true in
    turn_next _ _ _ _ _ _ _ _ _ _ c.loop-made.invariant at-round _ _ _ _ _ (rw c.in_ok-n.was at c.round.ensures) _ c.live_before-live.ensures _ c.goes_on.ensures c.if-not-goes_on.false

pub returns : goal.returns
unfolding graph_in
returns c = turning_end _ _ _ _ _ _ _ _ _ _ c.loop-made.invariant (rw c.header_of-h.ensures at c.loop-made-test.false) c.ended_with-2.ensures
