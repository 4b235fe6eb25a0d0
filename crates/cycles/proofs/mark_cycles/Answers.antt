use Prim.Native.Nat.{◌-◌}
use native.Mathlib.Omega.{arith}
use Rattle.cycles.proofs.Roots.{room_start}
use Rattle.cycles.proofs.Groups.{preds_below, group_few, group_below, marking_start, mark-none, mark-all, marking_done}
use Rattle.cycles.proofs.mark_cycles.Goals as goal

pub loop-k-init : goal.loop-k-init
loop-k-init c = marking_start _ _ _ _ _ _ c.requires.modules_bound_2.1

pub collect-size-requires-clause-room : goal.collect-size-requires-clause-room
collect-size-requires-clause-room c = room_start _ _ _ (omega (arith, c.requires.modules_bound_2.0)) (omega (arith, c.requires.modules_bound_2.2))

pub mark_group-requires-clause-size_bound : goal.mark_group-requires-clause-size_bound
mark_group-requires-clause-size_bound c =
    let w = c.collect-size in
    let below = preds_below c.args.modules c.args.edges.now in
    let few = group_few _ _ below _ _ w.ensures in
    let root = c.requires.count_le_modules.2 (c.loop-k.k - 1) (omega arith) in
    (omega (arith, few), omega (arith, few, c.requires.modules_bound_2.2), group_below _ _ below _ _ w.ensures root)

pub mark_group-requires-clause-modules_in_bounds : goal.mark_group-requires-clause-modules_in_bounds
mark_group-requires-clause-modules_in_bounds c = let e = c.loop-k.invariant.others.same_length in (omega (arith, e), omega (arith, e))

pub loop-k-preserved-then-size-gt1 : goal.loop-k-preserved-then-size-gt1
loop-k-preserved-then-size-gt1 c = mark-all _ _ _ _ _ c.loop-k.invariant c.loop-k-test.true _ c.collect-size.ensures c.if-size-gt1.true _ c.mark_group.ensures

pub loop-k-preserved : goal.loop-k-preserved
loop-k-preserved c = mark-none _ _ _ _ _ c.loop-k.invariant c.loop-k-test.true _ c.collect-size.ensures c.if-size-gt1.false

pub returns : goal.returns
returns c = marking_done _ _ _ _ _ c.loop-k.invariant c.loop-k-test.false
