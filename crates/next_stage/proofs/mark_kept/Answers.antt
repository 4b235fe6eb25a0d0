use Prim.Native.Nat.{◌<◌}
use Rattle.next_stage.proofs.Staying.{marking_none, marking-set, marking-passed, line_good, marking_done, stage_held}
use native.Mathlib.Omega.{arith}
use Rattle.next_stage.proofs.mark_kept.Goals as goal
use Rattle.next_stage.proofs.mark_kept.Goals.{else-stays, then-stays}

pub loop-k-init : goal.loop-k-init
loop-k-init c = marking_none _ _ _ _ _ _ (omega arith) c.clear.ensures

pub mark_of-requires : goal.mark_of-requires
mark_of-requires c = record { loaded = c.requires.loaded; good = line_good _ _ _ _ _ _ c.requires.held c.fact_at-fact.ensures (omega (arith, c.loop-k-test.true)) }

pub loop-k-preserved : goal.loop-k-preserved
loop-k-preserved c =
    let m = c.loop-k.invariant in
    let l : c.loop-k.k < c.args.count = omega (arith, c.loop-k-test.true) in
    elim c.if-stays.branch [ then-stays w ↦ marking-set _ _ _ _ _ _ m l _ c.fact_at-fact.ensures _ _ _ _ c.stays.ensures w.if-stays.true w.mark_of.ensures.0 w.set.auto.row w.set.ensures w.marks-is | else-stays w ↦ marking-passed _ _ _ _ _ _ m l _ c.fact_at-fact.ensures _ _ c.stays.ensures w.if-stays.false w.marks-is ]

pub returns : goal.returns
returns c = stage_held c.requires.loaded _ _ _ _ c.requires.held (omega arith) (marking_done _ _ _ _ _ _ c.loop-k.invariant (omega (arith, c.loop-k-test.false)))
