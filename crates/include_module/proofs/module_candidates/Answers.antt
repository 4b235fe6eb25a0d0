use Rattle.keep_rules.proofs.Segments.{counted}
use Rattle.include_module.proofs.InOrder.{segment_0, segment_1, segment_2, segment_3, segment_4}
use mathlib.Core.Path.{◌∙◌}
use Rattle.include_module.proofs.module_candidates.Goals as goal

pub returns-then-j-eq0 : goal.returns-then-j-eq0
returns-then-j-eq0 c = c.statement_count.ensures.0 ∙ counted (segment_0 _ _ _ _ c.if-j-eq0.true)

pub returns-then-j-eq1 : goal.returns-then-j-eq1
returns-then-j-eq1 c = c.dependency_count.ensures.0 ∙ counted (segment_1 _ _ _ _ c.if-j-eq1.true)

pub returns-then-j-eq2 : goal.returns-then-j-eq2
returns-then-j-eq2 c = c.eval_candidates.ensures ∙ counted (segment_2 _ _ _ _ c.if-j-eq2.true)

pub returns-then-j-eq3 : goal.returns-then-j-eq3
returns-then-j-eq3 c = c.export_symbol_count.ensures.0 ∙ counted (segment_3 _ _ _ _ c.if-j-eq3.true)

pub returns : goal.returns
returns c = counted (segment_4 _ _ _ _ c.requires.m_bound.1 c.if-j-eq0.false c.if-j-eq1.false c.if-j-eq2.false c.if-j-eq3.false)
