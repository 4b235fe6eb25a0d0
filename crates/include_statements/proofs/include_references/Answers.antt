use mathlib.Core.Path.{◌∙◌}
use Rattle.include_statements.proofs.References.{stands_here, width_inside, stand_next, references-next, references-full, references_done}
use Rattle.include_statements.proofs.Segments.{segments_start}
use Rattle.include_statements.proofs.Going.{before_more}
use Rattle.determine_side_effects.proofs.refusal_crate.Exits.{passed_on}
use Rattle.include_statements.proofs.include_references.Goals as goal

pub loop-r-init : goal.loop-r-init
loop-r-init c = (c.first_reference-place.ensures, segments_start _ _ _ _ _ _ _ c.requires.held)

pub include_reference-requires : goal.include_reference-requires
include_reference-requires c = let v = c.loop-r.invariant in record { prepared = c.requires.prepared; held = v.1.held; here = (stands_here _ _ _ _ _ _ c.reference_count-count.ensures.0 c.loop-r-test.true v.0 c.requires.m_bound.0 c.requires.m_bound.1, before_more _ _ _ c.requires.m_bound.2 v.1.more) }

pub returns-in_err-total : goal.returns-in_err-total
returns-in_err-total c = rw (passed_on c.from_residual.result _ c.from_residual.ensures.1) (references-full _ _ _ _ _ _ _ _ _ _ _ _ c.reference_count-count.ensures.0 c.loop-r.invariant.1 c.loop-r-test.true _ _ _ c.in_err-total.was c.include_reference.ensures)

pub reference_width-place-requires : goal.reference_width-place-requires
reference_width-place-requires c = width_inside _ _ _ _ _ _ c.reference_count-count.ensures.0 c.loop-r-test.true c.loop-r.invariant.0

pub loop-r-preserved : goal.loop-r-preserved
loop-r-preserved c = let v = c.loop-r.invariant in let a = c.include_reference in (stand_next _ _ _ _ _ _ c.reference_count-count.ensures.0 c.loop-r-test.true v.0 _ c.reference_width-place.ensures, references-next _ _ _ _ _ _ _ _ _ _ _ _ c.reference_count-count.ensures.0 v.1 c.loop-r-test.true _ _ _ _ c.in_ok-total.was a.ensures)

pub returns : goal.returns
returns c = references_done _ _ _ _ _ _ _ _ _ _ _ _ c.reference_count-count.ensures.0 c.loop-r.invariant.1 c.loop-r-test.false
