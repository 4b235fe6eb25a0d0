use native.Mathlib.Omega.{arith}
use Rattle.record_form.proofs.Forms.{parts_out, rule-out, names-last}
use Rattle.record_form.proofs.is_in_form.Goals as goal

pub returns-then-not-parts_fit : goal.returns-then-not-parts_fit
returns-then-not-parts_fit c = parts_out _ _ _ _ _ _ c.wide-kind.ensures c.wide-a.ensures c.wide-b.ensures _ c.parts_fit.ensures (c.if-not-parts_fit.true)

pub returns-then-rule-ge15 : goal.returns-then-rule-ge15
returns-then-rule-ge15 c = rule-out _ _ _ _ _ _ c.wide-kind.ensures c.wide-a.ensures c.wide-b.ensures _ c.parts_fit.ensures (c.if-not-parts_fit.false) _ c.wide-rule.ensures c.if-rule-ge15.true

pub returns : goal.returns
returns c = names-last _ _ _ _ _ _ c.wide-kind.ensures c.wide-a.ensures c.wide-b.ensures _ c.parts_fit.ensures (c.if-not-parts_fit.false) _ c.wide-rule.ensures (omega (arith, c.if-rule-ge15.false)) _ _ c.wide.ensures c.wide-2.ensures _ c.names_fit.ensures
