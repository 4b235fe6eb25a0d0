use mathlib.Core.Path.{◌∙◌}
use Rattle.include_statements.proofs.Segments.{grown_on, segments_stop, segments_both}
use Rattle.keep_rules.specs.Rules.{module_segments}
use Rattle.determine_side_effects.proofs.refusal_crate.Exits.{passed_on}
use Rattle.include_statements.proofs.include_imports.Goals as goal

pub returns-in_err-n1 : goal.returns-in_err-n1
unfolding module_segments
returns-in_err-n1 c = rw (passed_on c.from_residual.result _ c.from_residual.ensures.1) (segments_stop _ _ _ _ _ _ _ _ _ c.in_err-n1.was c.include_dependencies.ensures)

pub include_named_imports-requires : goal.include_named_imports-requires
include_named_imports-requires c = let w1 = grown_on _ _ _ _ _ _ _ _ _ c.in_ok-n1.was c.include_dependencies.ensures _ c.requires.m_bound.2 in record { prepared = c.requires.prepared; held = w1.0; m_bound = (c.requires.m_bound.0, w1.1) }

pub returns-in_err-n2 : goal.returns-in_err-n2
unfolding module_segments
returns-in_err-n2 c = rw (passed_on c.from_residual-in_err-n2.result _ c.from_residual-in_err-n2.ensures.1) (segments_both _ _ _ _ _ _ _ _ _ _ c.in_ok-n1.was c.include_dependencies.ensures _ _ _ (segments_stop _ _ _ _ _ _ _ _ _ c.in_err-n2.was c.include_named_imports.ensures))

pub include_exports-requires : goal.include_exports-requires
include_exports-requires c = let w1 = grown_on _ _ _ _ _ _ _ _ _ c.in_ok-n1.was c.include_dependencies.ensures _ c.requires.m_bound.2 in let w2 = grown_on _ _ _ _ _ _ _ _ _ c.in_ok-n2.was c.include_named_imports.ensures _ w1.1 in record { prepared = c.requires.prepared; held = w2.0; m_bound = (c.requires.m_bound.0, c.requires.m_bound.1, w2.1) }

pub returns : goal.returns
unfolding module_segments
returns c = segments_both _ _ _ _ _ _ _ _ _ _ c.in_ok-n1.was c.include_dependencies.ensures _ _ _ (segments_both _ _ _ _ _ _ _ _ _ _ c.in_ok-n2.was c.include_named_imports.ensures _ _ _ c.include_exports.ensures)
