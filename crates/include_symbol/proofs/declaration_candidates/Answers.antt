use Rattle.include_symbol.proofs.OfTarget.{declared_all, declared_none}
use Rattle.keep_rules.specs.Rules.{declaration_candidates}
use mathlib.Core.Path.{ap, ◌∙◌, sym}
use Rattle.include_symbol.proofs.declaration_candidates.Goals as goal

pub returns-then-is_normal : goal.returns-then-is_normal
returns-then-is_normal c = declared_all _ _ _ c.owner-o.ensures.0 (sym c.is_normal.ensures ∙ c.if-is_normal.true) c.declaring_count.ensures.0 ∙ ap (declaration_candidates _) c.target_of-t.ensures.0

pub returns : goal.returns
returns c = declared_none _ _ _ c.owner-o.ensures.0 (sym c.is_normal.ensures ∙ c.if-is_normal.false) ∙ ap (declaration_candidates _) c.target_of-t.ensures.0
