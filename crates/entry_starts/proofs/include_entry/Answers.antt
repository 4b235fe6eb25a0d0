use Rattle.entry_starts.proofs.Referring.{started_nothing, module_none, referring_start, referring-step, referring-full, referring-last}
use Rattle.determine_side_effects.specs.graph_crate.Check.{graph_in}
use mathlib.Core.Path.{◌∙◌, sym}
use Rattle.determine_side_effects.proofs.refusal_crate.Exits.{passed_on}
use Rattle.entry_starts.proofs.include_entry.Goals as goal

pub returns-then-not-is_normal : goal.returns-then-not-is_normal
returns-then-not-is_normal c = started_nothing _ _ _ (module_none _ _ (sym c.is_normal.ensures ∙ c.if-not-is_normal.true)) _ _ _ _ c.requires.working

pub loop-k-init : goal.loop-k-init
loop-k-init c = referring_start _ _ _ c.entry_reference_count-references.ensures.0 (sym c.is_normal.ensures ∙ c.if-not-is_normal.false) _ _ _ _ _ c.requires.working

pub returns-in_err-total : goal.returns-in_err-total
returns-in_err-total c = rw (passed_on c.from_residual.result _ c.from_residual.ensures.1) (referring-full _ _ _ c.entry_reference_count-references.ensures.0 _ _ _ _ _ _ _ _ c.loop-k.invariant c.loop-k-test.true _ c.entry_reference-s.ensures.0 _ _ _ (rw c.in_err-total.was at c.include_reference.ensures))

pub loop-k-preserved : goal.loop-k-preserved
loop-k-preserved c = referring-step _ _ _ c.entry_reference_count-references.ensures.0 _ _ _ _ _ _ _ _ c.loop-k.invariant c.loop-k-test.true _ c.entry_reference-s.ensures.0 _ _ _ _ (rw c.in_ok-total.was at c.include_reference.ensures)

pub returns : goal.returns
returns c = referring-last _ _ _ c.entry_reference_count-references.ensures.0 _ _ _ _ _ _ _ _ c.loop-k.invariant c.loop-k-test.false _ _ _ _ c.start_one.ensures

pub start_one-requires-clause-good : goal.start_one-requires-clause-good
unfolding graph_in
start_one-requires-clause-good c = (c.requires.m_bound, sym c.is_normal.ensures ∙ c.if-not-is_normal.false)
