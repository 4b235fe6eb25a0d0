use Rattle.keep_rules.proofs.Segments.{place_in, picked}
use Rattle.include_symbol.proofs.InOrder.{alias_any, segment_0, segment_1, segment_2, segment_3, segment_4}
use mathlib.Core.Path.{◌∙◌}
use Rattle.determine_side_effects.specs.graph_crate.Check.{graph_in}
use Rattle.include_symbol.proofs.use_candidate.Goals as goal

pub demand_candidate-requires : goal.demand_candidate-requires
demand_candidate-requires c = record { prepared = c.requires.prepared; s_bound = (c.requires.s_bound.0, place_in _ (segment_0 _ _ _ _ _ c.if-j-eq0.true) c.requires.s_bound.2) }

pub returns-then-j-eq0 : goal.returns-then-j-eq0
returns-then-j-eq0 c = let e = c.demand_candidate.ensures in (e.0 ∙ picked _ (segment_0 _ _ _ _ _ c.if-j-eq0.true), e.1)

pub returns-then-j-eq1 : goal.returns-then-j-eq1
unfolding graph_in
returns-then-j-eq1 c = let e = c.alias_candidate.ensures in (e.0 ∙ alias_any _ _ _ _ ∙ picked _ (segment_1 _ _ _ _ _ c.if-j-eq1.true), e.1)

pub wrapper_candidate-requires : goal.wrapper_candidate-requires
wrapper_candidate-requires c = record { prepared = c.requires.prepared; s_bound = (c.requires.s_bound.0, place_in _ (segment_2 _ _ _ _ _ c.if-j-eq2.true) c.requires.s_bound.2) }

pub returns-then-j-eq2 : goal.returns-then-j-eq2
returns-then-j-eq2 c = let e = c.wrapper_candidate.ensures in (e.0 ∙ picked _ (segment_2 _ _ _ _ _ c.if-j-eq2.true), e.1)

pub declaration_candidate-requires : goal.declaration_candidate-requires
declaration_candidate-requires c = record { prepared = c.requires.prepared; s_bound = (c.requires.s_bound.0, place_in _ (segment_3 _ _ _ _ _ c.if-j-eq3.true) c.requires.s_bound.2) }

pub returns-then-j-eq3 : goal.returns-then-j-eq3
returns-then-j-eq3 c = let e = c.declaration_candidate.ensures in (e.0 ∙ picked _ (segment_3 _ _ _ _ _ c.if-j-eq3.true), e.1)

pub write_candidate-requires : goal.write_candidate-requires
write_candidate-requires c = record { prepared = c.requires.prepared; s_bound = (c.requires.s_bound.0, place_in _ (segment_4 _ _ _ _ _ c.requires.s_bound.1 c.if-j-eq0.false c.if-j-eq1.false c.if-j-eq2.false c.if-j-eq3.false) c.requires.s_bound.2) }

pub returns : goal.returns
returns c = let e = c.write_candidate.ensures in (e.0 ∙ picked _ (segment_4 _ _ _ _ _ c.requires.s_bound.1 c.if-j-eq0.false c.if-j-eq1.false c.if-j-eq2.false c.if-j-eq3.false), e.1)
