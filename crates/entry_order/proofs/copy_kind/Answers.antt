use Rattle.entry_order.proofs.Linking.{entry_below}
use Rattle.entry_order.proofs.Copying.{copy_start, copy-room, copy-this, copy-other, copy_done, kind_told}
use Rattle.entry_order.proofs.copy_kind.Goals as goal
use Rattle.entry_order.proofs.copy_kind.Goals.{else-is_dynamic-dynamic, then-is_dynamic-dynamic}

pub loop-i-init : goal.loop-i-init
loop-i-init c = copy_start _ _ _ _ c.requires.entries.0.long _ _ c.requires.entries.1

pub entry_kind-is_dynamic-requires-clause-e_bound : goal.entry_kind-is_dynamic-requires-clause-e_bound
entry_kind-is_dynamic-requires-clause-e_bound c = rw c.wide-e.ensures (entry_below _ _ _ _ c.requires.entries.0 c.loop-i-test.true).1

pub bounds-plan-to : goal.bounds-plan-to
bounds-plan-to c =
    copy-room _ _ _ _ c.requires.entries.0.long _ _ _ _ _ c.loop-i.invariant c.loop-i-test.true _ c.wide-e.ensures (kind_told _ _ _ _ _ c.entry_kind-is_dynamic.ensures.0 c.if-is_dynamic-dynamic.true)

pub loop-i-preserved : goal.loop-i-preserved
loop-i-preserved c =
    let x = c.wide-e.ensures in
    let k = c.entry_kind-is_dynamic.ensures.0 in
    let i = c.loop-i.invariant in
    let h = c.loop-i-test.true in
    elim c.if-is_dynamic-dynamic.branch [
      | then-is_dynamic-dynamic w ↦
          rw (w.plan-is, w.to-is) (copy-this _ _ _ _ c.requires.entries.0.long _ _ _ _ _ i h _ x (kind_told _ _ _ _ _ k w.if-is_dynamic-dynamic.true))
      | else-is_dynamic-dynamic w ↦
          rw (w.plan-is, w.to-is) (copy-other _ _ _ _ c.requires.entries.0.long _ _ _ _ _ i h _ x (kind_told _ _ _ _ _ k w.if-is_dynamic-dynamic.false))
    ]

pub returns : goal.returns
returns c = copy_done _ _ _ _ c.requires.entries.0.long _ _ _ _ _ c.loop-i.invariant c.loop-i-test.false
