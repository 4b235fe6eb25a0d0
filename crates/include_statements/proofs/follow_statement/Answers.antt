use mathlib.Core.Path.{◌∙◌}
use Rattle.include_statements.proofs.Segments.{grown_on, segments_both, segments_stop}
use Rattle.keep_rules.specs.Rules.{segments_of, statement_segments}
use Rattle.determine_side_effects.proofs.refusal_crate.Exits.{passed_on}
use Rattle.include_statements.proofs.follow_statement.Goals as goal

pub returns-in_err-n1 : goal.returns-in_err-n1
unfolding segments_of statement_segments
returns-in_err-n1 c = rw (passed_on c.from_residual.result _ c.from_residual.ensures.1) (segments_stop _ _ _ _ _ _ _ _ _ c.in_err-n1.was c.scan_import_records.ensures)

pub include_references-requires : goal.include_references-requires
include_references-requires c = let w1 = grown_on _ _ _ _ _ _ _ _ _ c.in_ok-n1.was c.scan_import_records.ensures _ c.requires.m_bound.2 in record { prepared = c.requires.prepared; held = w1.0; m_bound = (c.requires.m_bound.0, c.requires.m_bound.1, w1.1) }

pub returns : goal.returns
unfolding segments_of statement_segments
returns c = segments_both _ _ _ _ _ _ _ _ _ _ c.in_ok-n1.was c.scan_import_records.ensures _ _ _ c.include_references.ensures
