use mathlib.Core.Path.{◌∙◌}
use Rattle.include_statements.proofs.Segments.{grown_on, segments_stop, segments_both}
use Rattle.keep_rules.specs.Rules.{use_segments}
use Rattle.determine_side_effects.proofs.refusal_crate.Exits.{passed_on}
use Rattle.include_statements.proofs.include_target.Goals as goal

pub returns-in_err-n1 : goal.returns-in_err-n1
unfolding use_segments
returns-in_err-n1 c = rw (passed_on c.from_residual.result _ c.from_residual.ensures.1) (segments_stop _ _ _ _ _ _ _ _ _ c.in_err-n1.was c.demand_wrapper.ensures)

pub include_declarations-requires : goal.include_declarations-requires
include_declarations-requires c = let w1 = grown_on _ _ _ _ _ _ _ _ _ c.in_ok-n1.was c.demand_wrapper.ensures _ c.requires.s_bound.3 in record { prepared = c.requires.prepared; held = w1.0; s_bound = (c.requires.s_bound.0, w1.1) }

pub returns-in_err-n2 : goal.returns-in_err-n2
unfolding use_segments
returns-in_err-n2 c = rw (passed_on c.from_residual-in_err-n2.result _ c.from_residual-in_err-n2.ensures.1) (segments_both _ _ _ _ _ _ _ _ _ _ c.in_ok-n1.was c.demand_wrapper.ensures _ _ _ (segments_stop _ _ _ _ _ _ _ _ _ c.in_err-n2.was c.include_declarations.ensures))

pub include_writes-requires : goal.include_writes-requires
include_writes-requires c = let w1 = grown_on _ _ _ _ _ _ _ _ _ c.in_ok-n1.was c.demand_wrapper.ensures _ c.requires.s_bound.3 in let w2 = grown_on _ _ _ _ _ _ _ _ _ c.in_ok-n2.was c.include_declarations.ensures _ w1.1 in record { prepared = c.requires.prepared; held = w2.0; s_bound = (c.requires.s_bound.0, w2.1) }

pub returns : goal.returns
unfolding use_segments
returns c = segments_both _ _ _ _ _ _ _ _ _ _ c.in_ok-n1.was c.demand_wrapper.ensures _ _ _ (segments_both _ _ _ _ _ _ _ _ _ _ c.in_ok-n2.was c.include_declarations.ensures _ _ _ c.include_writes.ensures)
