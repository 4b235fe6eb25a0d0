use Rattle.keep_rules.proofs.Segments.{place_in, picked}
use Rattle.include_module.proofs.Following.{eval_in, dev_any}
use Rattle.include_module.proofs.InOrder.{segment_0, segment_1, segment_2, segment_3, segment_4}
use mathlib.Core.Path.{◌∙◌}
use Rattle.include_module.proofs.module_candidate.Goals as goal

pub sweep_candidate-requires : goal.sweep_candidate-requires
sweep_candidate-requires c = record { prepared = c.requires.prepared; m_bound = (c.requires.m_bound.0, place_in _ (segment_0 _ _ _ _ c.if-j-eq0.true) c.requires.m_bound.2) }

pub returns-then-j-eq0 : goal.returns-then-j-eq0
returns-then-j-eq0 c = let e = c.sweep_candidate.ensures in (e.0 ∙ picked _ (segment_0 _ _ _ _ c.if-j-eq0.true), e.1)

pub dependency_candidate-requires : goal.dependency_candidate-requires
dependency_candidate-requires c = record { prepared = c.requires.prepared; m_bound = (c.requires.m_bound.0, place_in _ (segment_1 _ _ _ _ c.if-j-eq1.true) c.requires.m_bound.2) }

pub returns-then-j-eq1 : goal.returns-then-j-eq1
returns-then-j-eq1 c = let e = c.dependency_candidate.ensures in (e.0 ∙ picked _ (segment_1 _ _ _ _ c.if-j-eq1.true), e.1)

pub eval_candidate-requires : goal.eval_candidate-requires
eval_candidate-requires c = record { prepared = c.requires.prepared; m_bound = (c.requires.m_bound.0, eval_in _ _ _ (place_in _ (segment_2 _ _ _ _ c.if-j-eq2.true) c.requires.m_bound.2)) }

pub returns-then-j-eq2 : goal.returns-then-j-eq2
returns-then-j-eq2 c = let e = c.eval_candidate.ensures in (e.0 ∙ picked _ (segment_2 _ _ _ _ c.if-j-eq2.true), e.1)

pub export_symbol_candidate-requires : goal.export_symbol_candidate-requires
export_symbol_candidate-requires c = record { prepared = c.requires.prepared; m_bound = (c.requires.m_bound.0, place_in _ (segment_3 _ _ _ _ c.if-j-eq3.true) c.requires.m_bound.2) }

pub returns-then-j-eq3 : goal.returns-then-j-eq3
returns-then-j-eq3 c = let e = c.export_symbol_candidate.ensures in (e.0 ∙ picked _ (segment_3 _ _ _ _ c.if-j-eq3.true), e.1)

pub returns : goal.returns
returns c = let e = c.dev_candidate.ensures in (e.0 ∙ dev_any _ _ _ _ ∙ picked _ (segment_4 _ _ _ _ c.requires.m_bound.1 c.if-j-eq0.false c.if-j-eq1.false c.if-j-eq2.false c.if-j-eq3.false), e.1)
