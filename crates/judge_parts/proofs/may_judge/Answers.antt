use mathlib.Core.Path.{◌∙◌, sym}
use Rattle.judge_parts.proofs.Readying.{by_check, by-starts, by_length, judges}
use Rattle.determine_side_effects.proofs.refusal_crate.Exits.{passed_on}
use Rattle.judge_parts.proofs.may_judge.Goals as goal

pub check-requires : goal.check-requires
check-requires c = (c.ready.ensures.1.known c.in_ok-ready.was).0.loaded

pub returns-then-lines-ne0 : goal.returns-then-lines-ne0
returns-then-lines-ne0 c = by_length _ _ _ _ (sym c.ready.ensures.0 ∙ c.in_ok-ready.was) (sym c.check.ensures.0 ∙ c.in_ok-check.was) c.if-lines-ne0.true

pub returns-in_err-ready : goal.returns-in_err-ready
returns-in_err-ready c = rw (passed_on c.from_residual.result _ c.from_residual.ensures.1) (by_check _ _ _ _ (sym c.ready.ensures.0 ∙ c.in_err-ready.was))

pub returns-in_err-check : goal.returns-in_err-check
returns-in_err-check c = rw (passed_on c.from_residual-in_err-check.result _ c.from_residual-in_err-check.ensures.1) (by-starts _ _ _ _ (sym c.ready.ensures.0 ∙ c.in_ok-ready.was) (sym c.check.ensures.0 ∙ c.in_err-check.was))

pub returns : goal.returns
returns c = judges _ _ _ _ (sym c.ready.ensures.0 ∙ c.in_ok-ready.was) (sym c.check.ensures.0 ∙ c.in_ok-check.was) c.if-lines-ne0.false (c.ready.ensures.1.known c.in_ok-ready.was).0 (c.check.ensures.1.known _ c.in_ok-check.was)
