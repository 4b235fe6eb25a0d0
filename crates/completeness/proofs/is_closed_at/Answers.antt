use Rattle.completeness.proofs.Walks.{placed_first, closed_start, segments_done, segment_done, segment-skips, segment-stop, segment-next}
use mathlib.Core.Path.{sym, ◌∙◌}
use native.Mathlib.Omega.{arith}
use Rattle.completeness.proofs.is_closed_at.Goals as goal
use Rattle.completeness.proofs.is_closed_at.Goals.{in-Gives+else-not-is_marked, in-Nothing}

pub segment_count-count-requires : goal.segment_count-count-requires
segment_count-count-requires c = record { prepared = c.requires.prepared; good = c.requires.good.0 }

pub loop-j-init : goal.loop-j-init
loop-j-init c = (placed_first _ _, closed_start _ _ _)

pub segment_candidates-candidates-requires : goal.segment_candidates-candidates-requires
segment_candidates-candidates-requires c = record { prepared = c.requires.prepared; good = c.requires.good.0; j_in_bounds = (omega (arith, c.loop-j-test.true, c.segment_count-count.ensures), c.loop-j.invariant.0) }

pub loop-c-init : goal.loop-c-init
loop-c-init c = c.loop-j.invariant.1

pub segment_candidate-requires : goal.segment_candidate-requires
segment_candidate-requires c = record { prepared = c.requires.prepared; good = c.requires.good.0; j_in_bounds = (omega (arith, c.loop-j-test.true, c.segment_count-count.ensures), c.loop-j.invariant.0, omega (arith, c.loop-c-test.true, c.segment_candidates-candidates.ensures)) }

pub is_marked-requires : goal.is_marked-requires
is_marked-requires c = record { loaded = c.requires.prepared.loaded; good = (c.segment_candidate.ensures.1.known _ c.in-Gives.is, c.requires.good.1) }

pub returns-then-not-is_marked : goal.returns-then-not-is_marked
returns-then-not-is_marked c = segment-stop _ _ _ _ _ _ c.loop-c.invariant _ c.segment_count-count.ensures c.loop-j-test.true _ c.segment_candidates-candidates.ensures c.loop-c-test.true _ (sym c.in-Gives.is ∙ c.segment_candidate.ensures.0) _ c.is_marked.ensures (c.if-not-is_marked.true)

pub loop-c-preserved : goal.loop-c-preserved
loop-c-preserved c =
    elim c.match-segment_candidate.branch [
      | in-Gives+else-not-is_marked w ↦ segment-next _ _ _ _ _ _ c.loop-c.invariant _ c.segment_count-count.ensures c.loop-j-test.true _ c.segment_candidates-candidates.ensures c.loop-c-test.true _ (sym w.in-Gives.is ∙ c.segment_candidate.ensures.0) _ w.is_marked.ensures w.if-not-is_marked.false
      | in-Nothing w ↦ segment-skips _ _ _ _ _ _ c.loop-c.invariant _ c.segment_count-count.ensures c.loop-j-test.true _ c.segment_candidates-candidates.ensures c.loop-c-test.true (sym w.in-Nothing.is ∙ c.segment_candidate.ensures.0)
    ]

pub place_behind-place-requires : goal.place_behind-place-requires
place_behind-place-requires c = record { prepared = c.requires.prepared; good = c.requires.good.0; j_in_bounds = (omega (arith, c.loop-j-test.true, c.segment_count-count.ensures), c.loop-j.invariant.0) }

pub loop-j-preserved : goal.loop-j-preserved
loop-j-preserved c = (c.place_behind-place.ensures, segment_done _ _ _ _ _ _ c.loop-c.invariant _ c.segment_count-count.ensures c.loop-j-test.true _ c.segment_candidates-candidates.ensures c.loop-c-test.false)

pub returns : goal.returns
returns c = segments_done _ _ _ _ _ _ c.loop-j.invariant.1 _ c.segment_count-count.ensures c.loop-j-test.false
