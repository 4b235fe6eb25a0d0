use Rattle.justification.proofs.Joining.{declaring_start, declaring_read, declaring_on, declaring_found, declaring_end}
use native.Mathlib.Omega.{arith}
use Rattle.justification.proofs.seek_declaring.Goals as goal

pub owner-owner-requires : goal.owner-owner-requires
owner-owner-requires c = record { loaded = c.requires.prepared.loaded; s_bound = c.requires.s_bound }

pub declaring_count-count-requires : goal.declaring_count-count-requires
declaring_count-count-requires c = record { loaded = c.requires.prepared.loaded; s_bound = c.requires.s_bound }

pub loop-i-init : goal.loop-i-init
loop-i-init c = declaring_start _ _ _ _

pub declaring-statement-requires : goal.declaring-statement-requires
declaring-statement-requires c = record { loaded = c.requires.prepared.loaded; s_bound = (c.requires.s_bound, omega (arith, c.loop-i-test.true, c.declaring_count-count.ensures.0)) }

pub returns-then-same : goal.returns-then-same
returns-then-same c = declaring_found _ _ _ _ _ (omega (arith, c.loop-i-test.true, c.declaring_count-count.ensures.0)) (declaring_read _ _ _ _ _ _ _ _ c.owner-owner.ensures.0 c.declaring-statement.ensures.0 c.same.ensures c.if-same.true)

pub loop-i-preserved : goal.loop-i-preserved
loop-i-preserved c = declaring_on _ _ _ _ _ c.loop-i.invariant (declaring_read _ _ _ _ _ _ _ _ c.owner-owner.ensures.0 c.declaring-statement.ensures.0 c.same.ensures c.if-same.false)

pub returns : goal.returns
returns c = declaring_end _ _ _ _ _ c.loop-i.invariant (omega (arith, c.loop-i-test.false, c.declaring_count-count.ensures.0))
