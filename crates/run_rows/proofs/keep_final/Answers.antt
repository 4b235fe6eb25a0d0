use Rattle.determine_side_effects.specs.graph_crate.Check.{graph_in}
use Prim.Native.Nat.{◌<◌, ◌≤◌}
use mathlib.Core.Path.{◌∙◌}
use Rattle.dead_records.proofs.Numbering.{entries_are}
use Rattle.run_rows.proofs.Keeping.{keeping_none, keeping-done, keeping-entries, entry_below, keeping-more, keeping-passed, finals_are, splits_is}
use native.Mathlib.Omega.{arith}
use Rattle.run_rows.proofs.keep_final.Goals as goal
use Rattle.run_rows.proofs.keep_final.Goals.{else-is_final, then-is_final}

pub loop-i-init : goal.loop-i-init
loop-i-init c = keeping_none _ _ _ _ c.requires.planned

pub is_final-requires : goal.is_final-requires
unfolding graph_in
is_final-requires c =
    let k = c.loop-i.invariant in
    let l : c.loop-i.i < (graph_in c.args.numbers.now).header.entries = omega (arith, c.loop-i-test.true, entries_are _ _ c.header_of-h.ensures) in record { loaded = c.requires.loaded; numbers_in_bounds = (omega (arith, k.same_length, c.requires.planned.long), l, entry_below _ _ _ _ c.requires.planned _ _ _ k l) }

pub bounds-plan-i : goal.bounds-plan-i
bounds-plan-i c = let k = c.loop-i.invariant in omega (arith, c.loop-i-test.true, entries_are _ _ c.header_of-h.ensures, k.same_length, c.requires.planned.long)

pub bounds-plan-n : goal.bounds-plan-n
bounds-plan-n c = let k = c.loop-i.invariant in omega (arith, c.loop-i-test.true, entries_are _ _ c.header_of-h.ensures, k.front, k.same_length, c.requires.planned.long)

pub loop-i-preserved : goal.loop-i-preserved
unfolding graph_in
loop-i-preserved c =
    let k = c.loop-i.invariant in
    let l : c.loop-i.i < (graph_in c.args.numbers.now).header.entries = omega (arith, c.loop-i-test.true, entries_are _ _ c.header_of-h.ensures) in
    elim c.if-is_final.branch [ then-is_final w ↦ keeping-more _ _ _ _ c.requires.planned _ _ _ k l _ c.is_final.ensures _ _ w.if-is_final.true w.plan-is w.n-is | else-is_final w ↦ keeping-passed _ _ _ _ c.requires.planned _ _ _ k l _ c.is_final.ensures _ _ w.if-is_final.false w.plan-is w.n-is ]

pub returns : goal.returns
unfolding graph_in
returns c =
    let k = c.loop-i.invariant in
    let l : (graph_in c.args.numbers.now).header.entries ≤ c.loop-i.i = omega (arith, c.loop-i-test.false, entries_are _ _ c.header_of-h.ensures) in record { plan_after = keeping-done _ _ _ _ c.requires.planned _ _ _ k l ∙ finals_are _ _ _ _ _ (splits_is _ _ _ c.header_of-h.ensures c.flag-splits.ensures) c.requires.planned; upper_bound = (omega (arith, k.front, k.inside), keeping-entries _ _ _ _ c.requires.planned _ _ _ k) }
