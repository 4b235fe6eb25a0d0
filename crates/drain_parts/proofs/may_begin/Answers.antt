use mathlib.Core.Path.{◌∙◌, sym}
use native.Mathlib.Omega.{arith}
use Rattle.rule_tables.proofs.Readying.{few_marks}
use Rattle.drain_parts.proofs.Readying.{by_check, by-starts, by-marks, by_rows, begins}
use Rattle.determine_side_effects.proofs.refusal_crate.Exits.{passed_on}
use Rattle.drain_parts.proofs.may_begin.Goals as goal

pub check-requires : goal.check-requires
check-requires c = (c.ready.ensures.1.known c.in_ok-ready.was).0.loaded

pub mark_count-requires : goal.mark_count-requires
mark_count-requires c = (c.ready.ensures.1.known c.in_ok-ready.was).0.loaded

pub bytes_for-requires : goal.bytes_for-requires
bytes_for-requires c = omega (arith, c.mark_count.ensures, few_marks _ _ (c.ready.ensures.1.known c.in_ok-ready.was).0.loaded)

pub returns-then-marks-bytes_for : goal.returns-then-marks-bytes_for
returns-then-marks-bytes_for c = by-marks _ _ _ _ _ (sym c.ready.ensures.0 ∙ c.in_ok-ready.was) (sym c.check.ensures.0 ∙ c.in_ok-check.was) c.mark_count.ensures c.bytes_for.ensures c.if-marks-bytes_for.true

pub are_long_enough-requires : goal.are_long_enough-requires
are_long_enough-requires c = let p = c.ready.ensures.1.known c.in_ok-ready.was in (p.0.loaded, p.1)

pub returns-then-not-are_long_enough : goal.returns-then-not-are_long_enough
returns-then-not-are_long_enough c = by_rows _ _ _ _ _ (sym c.ready.ensures.0 ∙ c.in_ok-ready.was) (sym c.check.ensures.0 ∙ c.in_ok-check.was) c.mark_count.ensures c.bytes_for.ensures c.if-marks-bytes_for.false c.are_long_enough.ensures c.if-not-are_long_enough.true

pub returns-in_err-ready : goal.returns-in_err-ready
returns-in_err-ready c = rw (passed_on c.from_residual.result _ c.from_residual.ensures.1) (by_check _ _ _ _ _ (sym c.ready.ensures.0 ∙ c.in_err-ready.was))

pub returns-in_err-check : goal.returns-in_err-check
returns-in_err-check c = rw (passed_on c.from_residual-in_err-check.result _ c.from_residual-in_err-check.ensures.1) (by-starts _ _ _ _ _ (sym c.ready.ensures.0 ∙ c.in_ok-ready.was) (sym c.check.ensures.0 ∙ c.in_err-check.was))

pub returns : goal.returns
returns c = begins _ _ _ _ _ (sym c.ready.ensures.0 ∙ c.in_ok-ready.was) (sym c.check.ensures.0 ∙ c.in_ok-check.was) c.mark_count.ensures c.bytes_for.ensures c.if-marks-bytes_for.false c.are_long_enough.ensures c.if-not-are_long_enough.false (c.ready.ensures.1.known c.in_ok-ready.was) (c.check.ensures.1.known _ c.in_ok-check.was)
