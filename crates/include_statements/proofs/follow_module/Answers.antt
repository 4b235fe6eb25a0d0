use Rattle.include_statements.proofs.Segments.{grown_on, module_quiet, module_segments_lem, segments_as, segments_both, segments_none, segments_stop}
use Rattle.keep_rules.specs.Rules.{module_segments}
use mathlib.Core.Path.{sym, ◌∙◌}
use Rattle.determine_side_effects.proofs.refusal_crate.Exits.{passed_on}
use Rattle.include_statements.proofs.follow_module.Goals as goal

pub returns-then-is_quiet_runtime : goal.returns-then-is_quiet_runtime
unfolding module_segments
returns-then-is_quiet_runtime c = rw (module_quiet _ _ _ (sym c.is_quiet_runtime.ensures ∙ c.if-is_quiet_runtime.true)) (segments_none _ _ _ _ _ _ c.requires.held)

pub returns-in_err-n1 : goal.returns-in_err-n1
unfolding module_segments
returns-in_err-n1 c = rw (passed_on c.from_residual.result _ c.from_residual.ensures.1) (segments_as _ _ _ _ _ _ _ _ _ (module_segments_lem _ _ _ (sym c.is_quiet_runtime.ensures ∙ c.if-is_quiet_runtime.false)) (segments_stop _ _ _ _ _ _ _ _ _ c.in_err-n1.was c.sweep_statements.ensures))

pub include_imports-requires : goal.include_imports-requires
include_imports-requires c = let w1 = grown_on _ _ _ _ _ _ _ _ _ c.in_ok-n1.was c.sweep_statements.ensures _ c.requires.m_bound.2 in record { prepared = c.requires.prepared; held = w1.0; m_bound = (c.requires.m_bound.0, c.requires.m_bound.1, w1.1) }

pub returns : goal.returns
unfolding module_segments
returns c = segments_as _ _ _ _ _ _ _ _ _ (module_segments_lem _ _ _ (sym c.is_quiet_runtime.ensures ∙ c.if-is_quiet_runtime.false)) (segments_both _ _ _ _ _ _ _ _ _ _ c.in_ok-n1.was c.sweep_statements.ensures _ _ _ c.include_imports.ensures)
