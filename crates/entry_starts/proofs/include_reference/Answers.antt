use Rattle.entry_starts.proofs.Referring.{started_nothing, reference_none, reference_then, reference_full}
use Rattle.entry_starts.proofs.Together.{working_after}
use Rattle.determine_side_effects.specs.graph_crate.Check.{graph_in}
use native.Mathlib.Omega.{arith}
use mathlib.Core.Path.{◌∙◌, sym}
use Rattle.determine_side_effects.proofs.refusal_crate.Exits.{passed_on}
use Rattle.entry_starts.proofs.include_reference.Goals as goal

pub returns-then-not-is_normal : goal.returns-then-not-is_normal
returns-then-not-is_normal c = started_nothing _ _ _ (reference_none _ _ _ c.owner-owner.ensures.0 (sym c.is_normal.ensures ∙ c.if-not-is_normal.true)) _ _ _ _ c.requires.working

pub returns-in_err-n : goal.returns-in_err-n
returns-in_err-n c = rw (passed_on c.from_residual.result _ c.from_residual.ensures.1) (reference_full _ _ _ c.owner-owner.ensures.0 (sym c.is_normal.ensures ∙ c.if-not-is_normal.false) _ _ _ _ _ (rw c.in_err-n.was at c.include_declaring_statements.ensures))

pub returns : goal.returns
returns c = reference_then _ _ _ c.owner-owner.ensures.0 (sym c.is_normal.ensures ∙ c.if-not-is_normal.false) _ _ _ _ _ _ _ _ _ _ (rw c.in_ok-n.was at c.include_declaring_statements.ensures) c.start_one.ensures

pub start_one-requires-clause-working : goal.start_one-requires-clause-working
start_one-requires-clause-working c = working_after _ _ _ _ _ _ _ _ (rw c.in_ok-n.was at c.include_declaring_statements.ensures)

pub start_one-requires-clause-good : goal.start_one-requires-clause-good
unfolding graph_in
start_one-requires-clause-good c = (c.requires.s_bound, omega arith, omega arith)
