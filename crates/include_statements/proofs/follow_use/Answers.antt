use Rattle.include_statements.proofs.Segments.{given_alone, grown_on, segments_as, segments_both, segments_none, segments_stop, use_bypassed, use_segments_lem}
use Rattle.keep_rules.specs.Rules.{use_segments}
use mathlib.Core.Path.{sym, ◌∙◌}
use mathlib.Core.Path.{refl}
use native.Mathlib.Omega.{arith}
use Rattle.determine_side_effects.proofs.refusal_crate.Exits.{passed_on}
use Rattle.include_statements.proofs.follow_use.Goals as goal

pub returns-then-is_bypassed_inlined_constant : goal.returns-then-is_bypassed_inlined_constant
unfolding use_segments
returns-then-is_bypassed_inlined_constant c = rw (use_bypassed _ _ _ _ (sym c.is_bypassed_inlined_constant.ensures ∙ c.if-is_bypassed_inlined_constant.true)) (segments_none _ _ _ _ _ _ c.requires.held)

pub returns-in_err-n1 : goal.returns-in_err-n1
unfolding use_segments
returns-in_err-n1 c = rw (passed_on c.from_residual.result _ c.from_residual.ensures.1) (segments_as _ _ _ _ _ _ _ _ _ (use_segments_lem _ _ _ _ (sym c.is_bypassed_inlined_constant.ensures ∙ c.if-is_bypassed_inlined_constant.false)) (segments_stop _ _ _ _ _ _ _ _ _ c.in_err-n1.was c.demand_body.ensures))

pub give-requires : goal.give-requires
give-requires c = let w1 = grown_on _ _ _ _ _ _ _ _ _ c.in_ok-n1.was c.demand_body.ensures _ c.requires.s_bound.3 in record { prepared = c.requires.prepared; held = w1.0; rule_bound = (omega arith, c.alias_candidate.ensures.1, w1.1) }

pub returns-in_err-n2 : goal.returns-in_err-n2
unfolding use_segments
returns-in_err-n2 c = rw (passed_on c.from_residual-in_err-n2.result _ c.from_residual-in_err-n2.ensures.1) (segments_as _ _ _ _ _ _ _ _ _ (use_segments_lem _ _ _ _ (sym c.is_bypassed_inlined_constant.ensures ∙ c.if-is_bypassed_inlined_constant.false)) (segments_both _ _ _ _ _ _ _ _ _ _ c.in_ok-n1.was c.demand_body.ensures _ _ _ (segments_stop _ _ _ _ _ _ _ _ _ c.in_err-n2.was (given_alone _ _ _ _ _ refl _ c.alias_candidate.ensures.0 _ _ _ c.give.ensures))))

pub include_target-requires : goal.include_target-requires
include_target-requires c = let w1 = grown_on _ _ _ _ _ _ _ _ _ c.in_ok-n1.was c.demand_body.ensures _ c.requires.s_bound.3 in let w2 = grown_on _ _ _ _ _ _ _ _ _ c.in_ok-n2.was c.give.ensures _ w1.1 in record { prepared = c.requires.prepared; held = w2.0; s_bound = (c.requires.s_bound.0, c.requires.s_bound.1, c.requires.s_bound.2, w2.1) }

pub returns : goal.returns
unfolding use_segments
returns c = segments_as _ _ _ _ _ _ _ _ _ (use_segments_lem _ _ _ _ (sym c.is_bypassed_inlined_constant.ensures ∙ c.if-is_bypassed_inlined_constant.false)) (segments_both _ _ _ _ _ _ _ _ _ _ c.in_ok-n1.was c.demand_body.ensures _ _ _ (segments_both _ _ _ _ _ _ _ _ _ _ c.in_ok-n2.was (given_alone _ _ _ _ _ refl _ c.alias_candidate.ensures.0 _ _ _ c.give.ensures) _ _ _ c.include_target.ensures))
