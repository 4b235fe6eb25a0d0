use mathlib.Core.Path.{◌∙◌, sym}
use Rattle.run_parts.proofs.Readying.{begins_rejected, begins-short, begins-good}
use Rattle.determine_side_effects.proofs.refusal_crate.Exits.{passed_on}
use Rattle.run_parts.proofs.may_begin.Goals as goal

pub are_enough-requires : goal.are_enough-requires
are_enough-requires c = ((c.ready.ensures.1.known c.in_ok-ready.was).0.loaded, (c.ready.ensures.1.known c.in_ok-ready.was).1)

pub returns-then-not-are_enough : goal.returns-then-not-are_enough
returns-then-not-are_enough c = begins-short _ _ _ (sym c.ready.ensures.0 ∙ c.in_ok-ready.was) c.are_enough.ensures (c.if-not-are_enough.true)

pub returns-in_err-ready : goal.returns-in_err-ready
returns-in_err-ready c = rw (passed_on c.from_residual.result _ c.from_residual.ensures.1) (begins_rejected _ _ _ (sym c.ready.ensures.0 ∙ c.in_err-ready.was))

pub returns : goal.returns
returns c = begins-good _ _ _ (sym c.ready.ensures.0 ∙ c.in_ok-ready.was) c.are_enough.ensures (c.if-not-are_enough.false) (c.ready.ensures.1.known c.in_ok-ready.was)
