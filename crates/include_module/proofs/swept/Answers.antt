use mathlib.Core.Logic.{inl, inr}
use Rattle.include_module.proofs.Sweeping.{never_first, swept-shaken, swept_all}
use mathlib.Core.Path.{◌∙◌, sym}
use Rattle.include_module.proofs.swept.Goals as goal
use Rattle.include_module.proofs.swept.Goals.{else-option, then-option+else-verdict-ne4}

pub returns-then-i-eq0 : goal.returns-then-i-eq0
returns-then-i-eq0 c = never_first _ _ _ _ c.if-i-eq0.true

pub returns-then-verdict-ne4 : goal.returns-then-verdict-ne4
returns-then-verdict-ne4 c = swept-shaken _ _ _ _ c.if-i-eq0.false (sym c.option.ensures ∙ c.if-option.true) c.verdict.ensures c.if-verdict-ne4.true c.swept_shaken.ensures

pub returns : goal.returns
returns c = swept_all _ _ _ _ c.if-i-eq0.false (elim c.if-option.branch [ then-option+else-verdict-ne4 w ↦ inl (sym w.verdict.ensures ∙ w.if-verdict-ne4.false) | else-option w ↦ inr (sym c.option.ensures ∙ w.if-option.false) ]) c.swept_whole.ensures
