use mathlib.Core.Path.{◌∙◌}
use Rattle.include_statements.proofs.Segments.{segment_start, segment-step, segment-full, segment_done}
use Rattle.include_statements.proofs.Going.{before_more, below_same}
use native.Mathlib.Omega.{arith}
use Rattle.determine_side_effects.proofs.refusal_crate.Exits.{passed_on}
use Rattle.include_statements.proofs.include_writes.Goals as goal

pub loop-c-init : goal.loop-c-init
loop-c-init c = segment_start _ _ _ _ _ _ _ c.requires.held

pub write_candidate-candidate-requires : goal.write_candidate-candidate-requires
write_candidate-candidate-requires c = record { prepared = c.requires.prepared; s_bound = (c.requires.s_bound.0, below_same _ _ _ c.loop-c-test.true c.write_candidates-count.ensures) }

pub give-requires : goal.give-requires
give-requires c = let v = c.loop-c.invariant in record { prepared = c.requires.prepared; held = v.held; rule_bound = (omega arith, c.write_candidate-candidate.ensures.1, before_more _ _ _ c.requires.s_bound.1 v.more) }

pub returns-in_err-total : goal.returns-in_err-total
returns-in_err-total c = rw (passed_on c.from_residual.result _ c.from_residual.ensures.1) (segment-full _ _ _ _ _ _ _ _ _ _ _ c.loop-c.invariant c.write_candidates-count.ensures c.loop-c-test.true _ c.write_candidate-candidate.ensures.0 _ _ _ c.in_err-total.was c.give.ensures)

pub loop-c-preserved : goal.loop-c-preserved
loop-c-preserved c = segment-step _ _ _ _ _ _ _ _ _ _ _ c.loop-c.invariant c.write_candidates-count.ensures c.loop-c-test.true _ c.write_candidate-candidate.ensures.0 _ _ _ _ c.in_ok-total.was c.give.ensures

pub returns : goal.returns
returns c = segment_done _ _ _ _ _ _ _ _ _ _ _ c.loop-c.invariant c.write_candidates-count.ensures c.loop-c-test.false
