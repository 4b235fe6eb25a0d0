use Rattle.include_symbol.proofs.Demands.{demand_none, demand_all}
use Rattle.keep_rules.specs.Rules.{demand_candidates}
use mathlib.Core.Path.{ap, ◌∙◌}
use Rattle.include_symbol.proofs.demand_candidates.Goals as goal

pub returns-then-body-eq0 : goal.returns-then-body-eq0
returns-then-body-eq0 c = demand_none _ _ c.if-body-eq0.true ∙ ap (demand_candidates _) c.demanded_body-body.ensures.0

pub returns : goal.returns
returns c = demand_all _ _ c.if-body-eq0.false c.statement_count.ensures.0 ∙ ap (demand_candidates _) c.demanded_body-body.ensures.0
