use mathlib.Core.Path.{◌∙◌, sym}
use Rattle.record_form.proofs.Forms.{start_named, start_names, first-late, two-names, one_name}
use Rattle.record_form.proofs.names_fit.Goals as goal

pub returns-then-a-ne0 : goal.returns-then-a-ne0
returns-then-a-ne0 c = start_named _ _ _ _ c.if-rule-eq0.true c.if-a-ne0.true

pub returns-then-rule-eq0 : goal.returns-then-rule-eq0
returns-then-rule-eq0 c = start_names _ _ _ _ c.if-rule-eq0.true c.if-a-ne0.false

pub returns-then-not-is_earlier : goal.returns-then-not-is_earlier
returns-then-not-is_earlier c = first-late _ _ _ _ c.if-rule-eq0.false (sym c.is_earlier.ensures ∙ c.if-not-is_earlier.true)

pub returns-then-rule-eq1 : goal.returns-then-rule-eq1
returns-then-rule-eq1 c = two-names _ _ _ _ c.if-rule-eq0.false (sym c.is_earlier.ensures ∙ c.if-not-is_earlier.false) c.if-rule-eq1.true _ c.is_earlier-then-rule-eq1.ensures

pub returns : goal.returns
returns c = one_name _ _ _ _ c.if-rule-eq0.false (sym c.is_earlier.ensures ∙ c.if-not-is_earlier.false) c.if-rule-eq1.false
