use Rattle.include_symbol.proofs.OfTarget.{of_external, other-wrap, no-wrapper, the-wrapper}
use mathlib.Core.Path.{◌∙◌, sym}
use Rattle.include_symbol.proofs.needs_wrapper.Goals as goal

pub returns-then-not-is_normal : goal.returns-then-not-is_normal
returns-then-not-is_normal c = of_external _ _ _ c.owner-o.ensures.0 (sym c.is_normal.ensures ∙ c.if-not-is_normal.true)

pub returns-then-wrap-ne2 : goal.returns-then-wrap-ne2
returns-then-wrap-ne2 c = other-wrap _ _ _ c.owner-o.ensures.0 _ c.wrap.ensures (sym c.is_normal.ensures ∙ c.if-not-is_normal.false) c.if-wrap-ne2.true

pub returns-then-wrapper-eq0 : goal.returns-then-wrapper-eq0
returns-then-wrapper-eq0 c = no-wrapper _ _ _ c.owner-o.ensures.0 _ c.wrap.ensures (sym c.is_normal.ensures ∙ c.if-not-is_normal.false) _ c.wrapper-wrapper.ensures.0 c.if-wrap-ne2.false c.if-wrapper-eq0.true

pub returns : goal.returns
returns c = the-wrapper _ _ _ c.owner-o.ensures.0 _ c.wrap.ensures (sym c.is_normal.ensures ∙ c.if-not-is_normal.false) _ c.wrapper-wrapper.ensures.0 c.if-wrap-ne2.false c.if-wrapper-eq0.false
