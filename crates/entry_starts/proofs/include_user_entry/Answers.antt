use Rattle.entry_starts.proofs.Referring.{started_nothing, user_none, user_then, user_full}
use Rattle.entry_starts.proofs.Together.{working_after}
use Rattle.determine_side_effects.specs.graph_crate.Check.{graph_in}
use mathlib.Core.Path.{◌∙◌, sym}
use Rattle.determine_side_effects.proofs.refusal_crate.Exits.{passed_on}
use Rattle.entry_starts.proofs.include_user_entry.Goals as goal

pub returns-then-not-is_normal : goal.returns-then-not-is_normal
returns-then-not-is_normal c = started_nothing _ _ _ (user_none _ _ (sym c.is_normal.ensures ∙ c.if-not-is_normal.true)) _ _ _ _ c.requires.working

pub returns-in_err-n : goal.returns-in_err-n
returns-in_err-n c = rw (passed_on c.from_residual.result _ c.from_residual.ensures.1) (user_full _ _ (sym c.is_normal.ensures ∙ c.if-not-is_normal.false) _ _ _ _ _ (rw c.in_err-n.was at c.start_one.ensures))

pub returns : goal.returns
returns c = user_then _ _ (sym c.is_normal.ensures ∙ c.if-not-is_normal.false) _ _ _ _ _ _ _ _ _ _ (rw c.in_ok-n.was at c.start_one.ensures) c.include_entry.ensures

pub start_one-requires-clause-good : goal.start_one-requires-clause-good
unfolding graph_in
start_one-requires-clause-good c = c.requires.m_bound

pub include_entry-requires-clause-working : goal.include_entry-requires-clause-working
include_entry-requires-clause-working c = working_after _ _ _ _ _ _ _ _ (rw c.in_ok-n.was at c.start_one.ensures)
