use native.Mathlib.Omega.{arith}
use Rattle.entry_graph.proofs.Deep.{fresh_set}
use Rattle.entry_graph.proofs.Walking.{walk_from}
use Rattle.entry_graph.proofs.Frames.{stacked_start, stacked_in, stacked_out, stacked_done, holds_full}
use Rattle.entry_graph.proofs.construct_dynamic_entry_graph.Goals as goal

pub loop-i-init : goal.loop-i-init
loop-i-init c = stacked_start c.requires.stored c.requires.first_bound.0

pub set-requires-in-UpTo : goal.set-requires-in-UpTo
set-requires-in-UpTo c = omega (arith, (c.take_records.ensures.upto_below _ _ _ _ c.in-UpTo.is).1, c.requires.first_bound.1)

pub loop-i-smaller-in-UpTo : goal.loop-i-smaller-in-UpTo
loop-i-smaller-in-UpTo c =
    let u = c.take_records.ensures.upto_below _ _ _ _ c.in-UpTo.is in
    omega (arith, fresh_set _ _ _ _ c.set-in-UpTo.ensures u.1 u.3)

pub loop-i-preserved-in-UpTo : goal.loop-i-preserved-in-UpTo
loop-i-preserved-in-UpTo c =
    stacked_in c.loop-i.invariant (rw c.header_of-h.ensures at c.take_records.ensures) _ _ _ _ c.in-UpTo.is _ c.set-in-UpTo.ensures
    (omega (arith, c.requires.numbers_in_bounds.0)) (omega (arith, c.requires.numbers_in_bounds.1))

pub returns-then-depth-eq0 : goal.returns-then-depth-eq0
returns-then-depth-eq0 c =
    stacked_done c.loop-i.invariant (rw c.header_of-h.ensures at c.take_records.ensures) _ c.in-All.is c.if-depth-eq0.true
    (walk_from _ _ _ _ _ _ _ _ _ _ _ _ c.requires.first_bound.2 c.set.ensures (omega (arith, c.requires.first_bound.0)))

pub loop-i-preserved : goal.loop-i-preserved
loop-i-preserved c = stacked_out c.loop-i.invariant (rw c.header_of-h.ensures at c.take_records.ensures) _ c.in-All.is c.if-depth-eq0.false

pub returns-in-Overfull : goal.returns-in-Overfull
returns-in-Overfull c = holds_full (c.take_records.ensures.too_many c.in-Overfull.is)
