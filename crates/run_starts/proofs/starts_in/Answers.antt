use mathlib.Core.Path.{◌∙◌, sym}
use native.Mathlib.Omega.{arith}
use Rattle.rule_tables.proofs.Readying.{few_marks}
use Rattle.run_parts.proofs.Ending.{partners_fit, plan_fits}
use Rattle.run_starts.proofs.Ending.{ends_same, ends_before, outcome_refused, outcome_short, outcome_work, marks_fit, seen_fits}
use Rattle.facts.proofs.refusal_crate.Exits.{passed_on}
use Rattle.run_starts.proofs.starts_in.Goals as goal

pub ready-requires : goal.ready-requires
ready-requires c = record { header_read = c.requires.header_read; all_sections_in_bounds = c.requires.all_sections_in_bounds }

pub mark_count-requires : goal.mark_count-requires
mark_count-requires c = (c.ready.ensures.1.known c.in_ok-ready.was).0.loaded

pub bytes_for-requires : goal.bytes_for-requires
bytes_for-requires c = omega (arith, c.mark_count.ensures, few_marks _ _ (c.ready.ensures.1.known c.in_ok-ready.was).0.loaded)

pub returns-then-marks-bytes_for : goal.returns-then-marks-bytes_for
returns-then-marks-bytes_for c = ends_before _ _ _ (outcome_short _ (sym c.ready.ensures.0 ∙ c.in_ok-ready.was) c.mark_count.ensures c.bytes_for.ensures _ c.if-marks-bytes_for.true)

pub work_and_give-requires : goal.work_and_give-requires
work_and_give-requires c = let e = c.requires.header_read.is in record { prepared = (c.ready.ensures.1.known c.in_ok-ready.was).0; numbers_in_bounds = (marks_fit _ (sym c.ready.ensures.0 ∙ c.in_ok-ready.was) c.mark_count.ensures c.bytes_for.ensures _ c.if-marks-bytes_for.false, partners_fit _ _ e _ c.requires.h_in_bounds.0, c.requires.h_in_bounds.1); numbers_in_bounds_2 = (plan_fits _ _ e _ c.requires.h_in_bounds_2.0, c.requires.h_in_bounds_2.1, c.requires.h_in_bounds_2.2); numbers_bound = (seen_fits _ _ e _ c.requires.symbols_bound.0, c.requires.symbols_bound.1) }

pub returns-in_err-ready : goal.returns-in_err-ready
returns-in_err-ready c = rw (passed_on c.from_residual.result _ c.from_residual.ensures.1) (ends_before _ _ _ (outcome_refused _ _ (sym c.ready.ensures.0 ∙ c.in_err-ready.was)))

pub returns : goal.returns
returns c = ends_same _ _ _ _ _ (outcome_work _ (sym c.ready.ensures.0 ∙ c.in_ok-ready.was) c.mark_count.ensures c.bytes_for.ensures _ c.if-marks-bytes_for.false) c.work_and_give.ensures
