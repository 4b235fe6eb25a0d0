use mathlib.Core.Path.{◌∙◌}
use Rattle.entry_starts.proofs.Declaring.{declared_good, declaring_start, declaring-step, declaring-full, declaring-done}
use Rattle.determine_side_effects.specs.graph_crate.Check.{graph_in}
use Rattle.determine_side_effects.proofs.refusal_crate.Exits.{passed_on}
use Rattle.entry_starts.proofs.include_declaring_statements.Goals as goal

pub loop-i-init : goal.loop-i-init
loop-i-init c = declaring_start _ _ _ c.declaring_count-declaring.ensures.0 _ _ _ _ _ c.requires.working

pub returns-in_err-total : goal.returns-in_err-total
returns-in_err-total c = rw (passed_on c.from_residual.result _ c.from_residual.ensures.1) (declaring-full _ _ _ c.declaring_count-declaring.ensures.0 _ _ _ _ _ _ _ _ c.loop-i.invariant c.loop-i-test.true _ _ c.owner-owner.ensures.0 c.declaring.ensures.0 _ _ _ (rw c.in_err-total.was at c.start_one.ensures))

pub loop-i-preserved : goal.loop-i-preserved
loop-i-preserved c = declaring-step _ _ _ c.declaring_count-declaring.ensures.0 _ _ _ _ _ _ _ _ c.loop-i.invariant c.loop-i-test.true _ _ c.owner-owner.ensures.0 c.declaring.ensures.0 _ _ _ _ (rw c.in_ok-total.was at c.start_one.ensures)

pub returns : goal.returns
returns c = declaring-done _ _ _ c.declaring_count-declaring.ensures.0 _ _ _ _ _ _ _ _ c.loop-i.invariant c.loop-i-test.false

pub start_one-requires-clause-good : goal.start_one-requires-clause-good
unfolding graph_in
start_one-requires-clause-good c = declared_good _ _ _ c.declaring_count-declaring.ensures.0 _ c.loop-i-test.true _ _ c.owner-owner.ensures.0 c.declaring.ensures.0 c.owner-owner.ensures.1 c.declaring.ensures.1
