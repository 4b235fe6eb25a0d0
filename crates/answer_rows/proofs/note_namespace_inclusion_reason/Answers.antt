use Rattle.answer_rows.proofs.OfUses.{reason_none, reason_other, reason_first, reason_second, reason_third, reason_no}
use Rattle.answer_rows.proofs.Listed.{set-none, set-one}
use mathlib.Core.Path.{refl, ◌∙◌, sym}
use Rattle.answer_rows.proofs.note_namespace_inclusion_reason.Goals as goal

pub returns-then-is_bypassed_inlined_constant : goal.returns-then-is_bypassed_inlined_constant
returns-then-is_bypassed_inlined_constant c = λ j. set-none j _ _ (reason_none _ _ _ (sym c.is_bypassed_inlined_constant.ensures ∙ c.if-is_bypassed_inlined_constant.true))

pub returns-then-not-is_namespace : goal.returns-then-not-is_namespace
returns-then-not-is_namespace c = λ j. set-none j _ _ (reason_other _ _ _ _ c.target_of-t.ensures.0 (sym c.is_namespace.ensures ∙ c.if-not-is_namespace.true) (sym c.is_bypassed_inlined_constant.ensures ∙ c.if-is_bypassed_inlined_constant.false))

pub returns-then-flag : goal.returns-then-flag
returns-then-flag c = λ j. set-one j _ _ _ _ _ (reason_first _ _ _ _ _ c.target_of-t.ensures.0 c.owner-owner.ensures.0 (sym c.flag.ensures ∙ c.if-flag.true) (sym c.is_namespace.ensures ∙ c.if-not-is_namespace.false) (sym c.is_bypassed_inlined_constant.ensures ∙ c.if-is_bypassed_inlined_constant.false)) refl (c.set.ensures j)

pub returns-then-flag-2 : goal.returns-then-flag-2
returns-then-flag-2 c = λ j. set-one j _ _ _ _ _ (reason_second _ _ _ _ _ c.target_of-t.ensures.0 c.owner-owner.ensures.0 (sym c.flag-2.ensures ∙ c.if-flag-2.true) (sym c.flag.ensures ∙ c.if-flag.false) (sym c.is_namespace.ensures ∙ c.if-not-is_namespace.false) (sym c.is_bypassed_inlined_constant.ensures ∙ c.if-is_bypassed_inlined_constant.false)) refl (c.set-then-flag-2.ensures j)

pub returns-then-flag-3 : goal.returns-then-flag-3
returns-then-flag-3 c = λ j. set-one j _ _ _ _ _ (reason_third _ _ _ _ _ c.target_of-t.ensures.0 c.owner-owner.ensures.0 (sym c.flag-3.ensures ∙ c.if-flag-3.true) (sym c.flag-2.ensures ∙ c.if-flag-2.false) (sym c.flag.ensures ∙ c.if-flag.false) (sym c.is_namespace.ensures ∙ c.if-not-is_namespace.false) (sym c.is_bypassed_inlined_constant.ensures ∙ c.if-is_bypassed_inlined_constant.false)) refl (c.set-then-flag-3.ensures j)

pub returns-else-flag-3 : goal.returns-else-flag-3
returns-else-flag-3 c = λ j. set-none j _ _ (reason_no _ _ _ _ _ c.target_of-t.ensures.0 c.owner-owner.ensures.0 (sym c.flag-3.ensures ∙ c.if-flag-3.false) (sym c.flag-2.ensures ∙ c.if-flag-2.false) (sym c.flag.ensures ∙ c.if-flag.false) (sym c.is_namespace.ensures ∙ c.if-not-is_namespace.false) (sym c.is_bypassed_inlined_constant.ensures ∙ c.if-is_bypassed_inlined_constant.false))
