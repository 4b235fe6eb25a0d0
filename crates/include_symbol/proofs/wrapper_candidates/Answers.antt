use Rattle.include_symbol.proofs.OfTarget.{wrapper_some, wrapper_none}
use Rattle.keep_rules.specs.Rules.{wrapper_candidates}
use mathlib.Core.Path.{ap, ◌∙◌, sym}
use Rattle.include_symbol.proofs.wrapper_candidates.Goals as goal

pub returns-then-needs_wrapper : goal.returns-then-needs_wrapper
returns-then-needs_wrapper c = wrapper_some _ _ _ (sym c.needs_wrapper.ensures ∙ c.if-needs_wrapper.true) c.forward_count.ensures.0 ∙ ap (wrapper_candidates _ _) c.target_of-t.ensures.0

pub returns : goal.returns
returns c = wrapper_none _ c.args.s.0 _ (sym c.needs_wrapper.ensures ∙ c.if-needs_wrapper.false) ∙ ap (wrapper_candidates _ _) c.target_of-t.ensures.0
