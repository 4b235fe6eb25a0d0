use mathlib.Core.Path.{◌∙◌, sym}
use Rattle.on_demand.proofs.Deciding.{body_external, body_not, body_gated}
use Rattle.on_demand.proofs.has_body.Goals as goal

pub returns-then-not-is_normal : goal.returns-then-not-is_normal
returns-then-not-is_normal c = body_external _ _ _ (sym c.is_normal.ensures ∙ c.if-not-is_normal.true)

pub returns-then-not-is_on_demand : goal.returns-then-not-is_on_demand
returns-then-not-is_on_demand c = body_not _ _ _ (sym c.is_normal.ensures ∙ c.if-not-is_normal.false) (sym c.is_on_demand.ensures ∙ c.if-not-is_on_demand.true)

pub returns : goal.returns
returns c = body_gated _ _ _ (sym c.is_normal.ensures ∙ c.if-not-is_normal.false) (sym c.is_on_demand.ensures ∙ c.if-not-is_on_demand.false) c.has_gated_stmts.ensures
