use mathlib.Core.Path.{◌∙◌}
use Rattle.tree_shaking.proofs.Trying.{trying_begin, trying_whole, trying_on, trying_done, turn_planned, turn-working, turn_on, turn-full, progressed_same}
use Rattle.determine_side_effects.specs.graph_crate.Check.{graph_in}
use native.Mathlib.Omega.{arith}
use Rattle.determine_side_effects.proofs.refusal_crate.Exits.{passed_on}
use Rattle.tree_shaking.proofs.try_dynamic_entries.Goals as goal

pub next_live-i-requires : goal.next_live-i-requires
unfolding graph_in
next_live-i-requires c = record { prepared = c.requires.prepared; planned = ((c.requires.working.1, omega (arith, c.requires.working.1.users_are, c.requires.working.1.all), c.requires.working.0.held.wide)) }

pub loop-i-init : goal.loop-i-init
unfolding graph_in
loop-i-init c = trying_begin _ _ _ _ _ _ _ _ c.requires.working.0 _ c.requires.working.1 c.next_live-i.ensures

pub include_live_entry-requires : goal.include_live_entry-requires
unfolding graph_in
include_live_entry-requires c =
    let at_entry = rw c.header_of-h.ensures at c.loop-i-test.true in
    let t = c.loop-i.invariant in record { prepared = c.requires.prepared; working = (t.working, t.planned.long, t.planned.are_entries, at_entry) }

pub returns-in_err-total : goal.returns-in_err-total
unfolding graph_in
returns-in_err-total c =
    let at_entry = rw c.header_of-h.ensures at c.loop-i-test.true in
    let e = c.include_live_entry.ensures in rw (passed_on c.from_residual.result _ c.from_residual.ensures.1) (progressed_same _ _ _ _ (trying_whole _ _ _ _ _ _ _ _ c.requires.working.0 _ c.requires.working.1 c.next_live-i.ensures) _ _ _ _ _ (turn-full _ _ _ _ _ _ _ _ _ c.loop-i.invariant at_entry e.2 _ e.1 _ _ _ _ (rw c.in_err-total.was at e.0)))

pub next_live-i-requires-in-loop-i : goal.next_live-i-requires-in-loop-i
unfolding graph_in
next_live-i-requires-in-loop-i c =
    let at_entry = rw c.header_of-h.ensures at c.loop-i-test.true in
    let e = c.include_live_entry.ensures in let w = turn-working _ _ _ _ _ _ _ _ _ c.loop-i.invariant at_entry e.2 _ e.1 _ _ _ _ (rw c.in_ok-total.was at e.0) in record { prepared = c.requires.prepared; planned = (turn_planned _ _ _ _ _ _ _ _ _ c.loop-i.invariant at_entry e.2 _ e.1, omega (arith, at_entry), w.held.wide) }

pub loop-i-preserved : goal.loop-i-preserved
unfolding graph_in
loop-i-preserved c =
    let at_entry = rw c.header_of-h.ensures at c.loop-i-test.true in
    let t = c.loop-i.invariant in
    let h = at_entry in
    let e = c.include_live_entry.ensures in
    let s = rw c.in_ok-total.was at e.0 in
    trying_on _ _ _ _ _ _ _ _ (turn-working _ _ _ _ _ _ _ _ _ t h e.2 _ e.1 _ _ _ _ s) _ (turn_planned _ _ _ _ _ _ _ _ _ t h e.2 _ e.1) _ _ c.next_live-i-in-loop-i.ensures (turn_on _ _ _ _ _ _ _ _ _ t h e.2 _ e.1 _ _ _ _ s)

pub returns : goal.returns
unfolding graph_in
returns c = progressed_same _ _ _ _ (trying_whole _ _ _ _ _ _ _ _ c.requires.working.0 _ c.requires.working.1 c.next_live-i.ensures) _ _ _ _ _ (trying_done _ _ _ _ _ _ _ _ _ c.loop-i.invariant (rw c.header_of-h.ensures at c.loop-i-test.false))
