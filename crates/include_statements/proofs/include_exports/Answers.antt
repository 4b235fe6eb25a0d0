use mathlib.Core.Path.{◌∙◌}
use Rattle.include_statements.proofs.Segments.{given_alone, grown_on, segments_both, segments_stop}
use Rattle.keep_rules.specs.Rules.{module_segments}
use mathlib.Core.Path.{refl}
use native.Mathlib.Omega.{arith}
use Rattle.determine_side_effects.proofs.refusal_crate.Exits.{passed_on}
use Rattle.include_statements.proofs.include_exports.Goals as goal

pub returns-in_err-n1 : goal.returns-in_err-n1
unfolding module_segments
returns-in_err-n1 c = rw (passed_on c.from_residual.result _ c.from_residual.ensures.1) (segments_stop _ _ _ _ _ _ _ _ _ c.in_err-n1.was c.include_export_symbols.ensures)

pub give-requires : goal.give-requires
give-requires c = let w1 = grown_on _ _ _ _ _ _ _ _ _ c.in_ok-n1.was c.include_export_symbols.ensures _ c.requires.m_bound.2 in record { prepared = c.requires.prepared; held = w1.0; rule_bound = (omega arith, c.dev_candidate.ensures.1, w1.1) }

pub returns : goal.returns
unfolding module_segments
returns c = segments_both _ _ _ _ _ _ _ _ _ _ c.in_ok-n1.was c.include_export_symbols.ensures _ _ _ (given_alone _ _ _ _ _ refl _ c.dev_candidate.ensures.0 _ _ _ c.give.ensures)
