use Rattle.answer_rows.proofs.OfUses.{external_none, external_these}
use Rattle.answer_rows.proofs.Listed.{set-none, set_both}
use mathlib.Core.Path.{◌∙◌, sym}
use Rattle.answer_rows.proofs.show_external.Goals as goal

pub returns-then-is_bypassed_inlined_constant : goal.returns-then-is_bypassed_inlined_constant
returns-then-is_bypassed_inlined_constant c = λ j. set-none j _ _ (external_none _ _ _ (sym c.is_bypassed_inlined_constant.ensures ∙ c.if-is_bypassed_inlined_constant.true))

pub returns : goal.returns
returns c = λ j. set_both j _ _ _ _ _ _ (external_these _ _ _ _ c.target_of.ensures.0 (sym c.is_bypassed_inlined_constant.ensures ∙ c.if-is_bypassed_inlined_constant.false)) (c.show_if_external.ensures j) (c.show_if_external-2.ensures j)
