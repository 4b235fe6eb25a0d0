use Rattle.answer_rows.proofs.OfUses.{json_none, json_strange, json_typed, json_self, json_this}
use Rattle.answer_rows.proofs.Listed.{set-none, set-one}
use borrow.Author.Tests.{eq-eqb, ne_eqb}
use lib.Dec.{eqb}
use mathlib.Core.Path.{refl, ap, ◌∙◌, sym}
use Rattle.answer_rows.proofs.note_json_self_reference.Goals as goal

pub returns-then-is_bypassed_inlined_constant : goal.returns-then-is_bypassed_inlined_constant
returns-then-is_bypassed_inlined_constant c = λ j. set-none j _ _ (json_none _ _ _ (sym c.is_bypassed_inlined_constant.ensures ∙ c.if-is_bypassed_inlined_constant.true))

pub returns-then-not-is_normal : goal.returns-then-not-is_normal
returns-then-not-is_normal c = λ j. set-none j _ _ (json_strange _ _ _ _ _ c.target_of-t.ensures.0 c.owner-owner.ensures.0 (sym c.is_normal.ensures ∙ c.if-not-is_normal.true) (sym c.is_bypassed_inlined_constant.ensures ∙ c.if-is_bypassed_inlined_constant.false))

pub returns-then-module_type-ne2 : goal.returns-then-module_type-ne2
returns-then-module_type-ne2 c = λ j. set-none j _ _ (json_typed _ _ _ _ _ c.target_of-t.ensures.0 c.owner-owner.ensures.0 (ap (λ n. eqb n 2) (sym c.module_type.ensures) ∙ ne_eqb _ 2 c.if-module_type-ne2.true) (sym c.is_normal.ensures ∙ c.if-not-is_normal.false) (sym c.is_bypassed_inlined_constant.ensures ∙ c.if-is_bypassed_inlined_constant.false))

pub returns-then-flag : goal.returns-then-flag
returns-then-flag c = λ j. set-none j _ _ (json_self _ _ _ _ _ c.target_of-t.ensures.0 c.owner-owner.ensures.0 (sym c.flag.ensures ∙ c.if-flag.true) (ap (λ n. eqb n 2) (sym c.module_type.ensures) ∙ eq-eqb _ 2 c.if-module_type-ne2.false) (sym c.is_normal.ensures ∙ c.if-not-is_normal.false) (sym c.is_bypassed_inlined_constant.ensures ∙ c.if-is_bypassed_inlined_constant.false))

pub returns : goal.returns
returns c = λ j. set-one j _ _ _ _ _ (json_this _ _ _ _ _ c.target_of-t.ensures.0 c.owner-owner.ensures.0 (sym c.flag.ensures ∙ c.if-flag.false) (ap (λ n. eqb n 2) (sym c.module_type.ensures) ∙ eq-eqb _ 2 c.if-module_type-ne2.false) (sym c.is_normal.ensures ∙ c.if-not-is_normal.false) (sym c.is_bypassed_inlined_constant.ensures ∙ c.if-is_bypassed_inlined_constant.false)) refl (c.set.ensures j)
