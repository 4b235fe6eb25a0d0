use Rattle.answer_rows.proofs.OfUses.{used_none, used_these}
use Rattle.answer_rows.proofs.Listed.{set-none, set-one, set_both}
use mathlib.Core.Path.{refl, ◌∙◌, sym}
use Rattle.answer_rows.proofs.show_used.Goals as goal

pub returns-then-is_bypassed_inlined_constant : goal.returns-then-is_bypassed_inlined_constant
returns-then-is_bypassed_inlined_constant c = λ j. set-none j _ _ (used_none _ _ _ (sym c.is_bypassed_inlined_constant.ensures ∙ c.if-is_bypassed_inlined_constant.true))

pub returns : goal.returns
returns c = λ j. set_both j _ _ _ _ _ _ (used_these _ _ _ _ c.target_of-t.ensures.0 (sym c.is_bypassed_inlined_constant.ensures ∙ c.if-is_bypassed_inlined_constant.false)) (set-one j _ _ _ _ _ refl refl (c.set.ensures j)) (set-one j _ _ _ _ _ refl refl (c.set-2.ensures j))
