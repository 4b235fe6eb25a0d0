use Rattle.justification.proofs.Searches.{passing_start, gives_read, passing_on, passing_found, passing_end}
use native.Mathlib.Omega.{arith}
use Rattle.justification.proofs.seek_segment.Goals as goal

pub loop-i-init : goal.loop-i-init
loop-i-init c = passing_start _ _ _ _ _

pub segment_candidate-candidate-requires : goal.segment_candidate-candidate-requires
segment_candidate-candidate-requires c = record { prepared = c.requires.prepared; good = c.requires.good; j_in_bounds = (c.requires.j_in_bounds.0, c.requires.j_in_bounds.1, omega (arith, c.loop-i-test.true, c.segment_candidates-count.ensures)) }

pub returns-then-is_candidate : goal.returns-then-is_candidate
returns-then-is_candidate c = passing_found _ _ _ _ _ _ c.loop-i.invariant (omega (arith, c.loop-i-test.true, c.segment_candidates-count.ensures)) (gives_read _ _ _ _ _ _ _ _ c.segment_candidate-candidate.ensures.0 c.is_candidate.ensures c.if-is_candidate.true) (omega (arith, c.loop-i-test.true))

pub loop-i-preserved : goal.loop-i-preserved
loop-i-preserved c = passing_on _ _ _ _ _ _ c.loop-i.invariant (gives_read _ _ _ _ _ _ _ _ c.segment_candidate-candidate.ensures.0 c.is_candidate.ensures c.if-is_candidate.false)

pub returns : goal.returns
returns c = passing_end _ _ _ _ _ _ c.loop-i.invariant (omega (arith, c.loop-i-test.false, c.segment_candidates-count.ensures))
