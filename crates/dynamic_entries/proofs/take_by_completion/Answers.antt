use borrow.Author.Rules.{part_to_end}
use native.Mathlib.Omega.{arith}
use Rattle.dynamic_entries.proofs.Completing.{completes_start, completes-done, node-place, node-room, pass-cycled, take-node}
use Rattle.dynamic_entries.proofs.Parting.{users_long, users_inside, part_read, plan_fits}
use Rattle.dynamic_entries.proofs.take_by_completion.Goals as goal

pub cycled_at-at-requires : goal.cycled_at-at-requires
cycled_at-at-requires c = plan_fits _ _ c.requires.parted.1 _ c.header_of-h.ensures

pub loop-k-init : goal.loop-k-init
loop-k-init c = completes_start _ _ _ _ _ c.requires.parted _ _ c.requires.chained.1

pub bounds-order-k : goal.bounds-order-k
bounds-order-k c = (node-place _ _ _ _ _ c.requires.parted _ _ _ _ _ c.loop-k.invariant _ c.header_of-h.ensures c.loop-k-test.true).0

pub overflow_add-at : goal.overflow_add-at
overflow_add-at c =
    let p = (node-place _ _ _ _ _ c.requires.parted _ _ _ _ _ c.loop-k.invariant _ c.header_of-h.ensures c.loop-k-test.true).2 in
    rw c.cycled_at-at.ensures (omega (arith, p))

pub offset_bounds-plan-at : goal.offset_bounds-plan-at
offset_bounds-plan-at c =
    let p = (node-place _ _ _ _ _ c.requires.parted _ _ _ _ _ c.loop-k.invariant _ c.header_of-h.ensures c.loop-k-test.true).2 in
    rw c.cycled_at-at.ensures (omega (arith, p, c.requires.parted.1.few))

pub bounds-plan-at : goal.bounds-plan-at
bounds-plan-at c = rw c.cycled_at-at.ensures (node-place _ _ _ _ _ c.requires.parted _ _ _ _ _ c.loop-k.invariant _ c.header_of-h.ensures c.loop-k-test.true).2

pub slice_bounds-append_module-count : goal.slice_bounds-append_module-count
slice_bounds-append_module-count c = users_long _ _ _ c.requires.parted.0

pub slice_bounds-append_module-start : goal.slice_bounds-append_module-start
slice_bounds-append_module-start c = users_long _ _ _ c.requires.parted.0

pub overflow_sub-count : goal.overflow_sub-count
overflow_sub-count c = users_inside _ _ _ c.requires.parted.0 _ c.header_of-h.ensures

pub append_module-total-requires-clause-chained : goal.append_module-total-requires-clause-chained
append_module-total-requires-clause-chained c =
    rw (part_to_end c.args.plan.now c.args.users)
    (rw c.header_of-h.ensures c.requires.chained.0, part_read _ _ _ c.requires.parted.0 _ c.header_of-h.ensures)

pub append_module-total-requires-clause-u_bound : goal.append_module-total-requires-clause-u_bound
append_module-total-requires-clause-u_bound c =
    rw (part_to_end c.args.plan.now c.args.users) (
      (node-place _ _ _ _ _ c.requires.parted _ _ _ _ _ c.loop-k.invariant _ c.header_of-h.ensures c.loop-k-test.true).1,
      c.requires.in_bounds.1,
      node-room _ _ _ _ _ c.requires.parted _ _ _ _ _ c.loop-k.invariant _ c.header_of-h.ensures c.loop-k-test.true (rw c.cycled_at-at.ensures at c.if-plan-at-ne1.true),
    )

pub loop-k-preserved-then-plan-at-ne1 : goal.loop-k-preserved-then-plan-at-ne1
loop-k-preserved-then-plan-at-ne1 c =
    take-node _ _ _ _ _ c.requires.parted _ _ _ _ _ c.loop-k.invariant _ c.header_of-h.ensures c.loop-k-test.true (rw c.cycled_at-at.ensures at c.if-plan-at-ne1.true) _ _ (rw (part_to_end c.args.plan.now c.args.users) at c.append_module-total.ensures)

pub loop-k-preserved : goal.loop-k-preserved
loop-k-preserved c =
    pass-cycled _ _ _ _ _ c.requires.parted _ _ _ _ _ c.loop-k.invariant _ c.header_of-h.ensures c.loop-k-test.true (rw c.cycled_at-at.ensures at c.if-plan-at-ne1.false)

pub returns : goal.returns
returns c = completes-done _ _ _ _ _ c.requires.parted _ _ _ _ _ c.loop-k.invariant c.loop-k-test.false
