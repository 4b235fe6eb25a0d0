use mathlib.Core.Path.{◌∙◌}
use Rattle.worklist.proofs.Declared.{joined-writable, declare_start, declare-step, declare-full, declare-done}
use native.Mathlib.Omega.{arith}
use Rattle.determine_side_effects.proofs.refusal_crate.Exits.{passed_on}
use Rattle.worklist.proofs.declare.Goals as goal

pub loop-i-init : goal.loop-i-init
loop-i-init c = declare_start _ _ _ _ _ c.declaring_count-declaring.ensures.0 _ _ _ _ c.requires.held

pub declaring-statement-requires : goal.declaring-statement-requires
declaring-statement-requires c = record { loaded = c.requires.prepared.loaded; s_bound = (c.requires.s_bound.0, omega (arith, c.loop-i-test.true, c.declaring_count-declaring.ensures.0)) }

pub add-requires : goal.add-requires
add-requires c = record { loaded = c.requires.prepared.loaded; held = c.loop-i.invariant.held; writable = joined-writable _ _ _ _ _ c.declaring_count-declaring.ensures.0 _ c.loop-i-test.true _ _ c.owner-owner.ensures.0 c.declaring-statement.ensures.0 c.owner-owner.ensures.1 c.declaring-statement.ensures.1 _ (omega (arith, c.requires.s_bound.1, c.loop-i.invariant.more)) (omega (arith, c.requires.s_bound.2, c.loop-i.invariant.more)) }

pub returns-in_err-total : goal.returns-in_err-total
returns-in_err-total c = rw (passed_on c.from_residual.result _ c.from_residual.ensures.1) (declare-full _ _ _ _ _ c.declaring_count-declaring.ensures.0 _ _ _ _ _ _ _ c.loop-i.invariant c.loop-i-test.true _ _ c.owner-owner.ensures.0 c.declaring-statement.ensures.0 _ _ (rw c.in_err-total.was at c.add.ensures))

pub loop-i-preserved : goal.loop-i-preserved
loop-i-preserved c = declare-step _ _ _ _ _ c.declaring_count-declaring.ensures.0 _ _ _ _ _ _ _ c.loop-i.invariant c.loop-i-test.true _ _ c.owner-owner.ensures.0 c.declaring-statement.ensures.0 _ _ _ (rw c.in_ok-total.was at c.add.ensures)

pub returns : goal.returns
returns c = declare-done _ _ _ _ _ c.declaring_count-declaring.ensures.0 _ _ _ _ _ _ _ c.loop-i.invariant c.loop-i-test.false
