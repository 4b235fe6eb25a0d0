use Rattle.include_symbol.proofs.Demands.{demand_in, demand_gated, demand_free}
use Rattle.determine_side_effects.specs.graph_access_crate.Words.{statement_list}
use Prim.Native.Nat.{◌-◌, ◌<◌}
use mathlib.Core.Path.{◌∙◌, sym}
use native.Mathlib.Omega.{arith}
use lib.ListN.{length}
use Rattle.determine_side_effects.specs.graph_crate.Check.{graph_in}
use Rattle.keep_rules.proofs.Picks.{gives_good, nothing_good}
use Rattle.include_symbol.proofs.demand_candidate.Goals as goal

pub overflow_sub-b : goal.overflow_sub-b
overflow_sub-b c =
    let its : (0 < c.demanded_body-body.result) × (c.args.i.0 < length (statement_list (graph_in c.args.numbers.now) (c.demanded_body-body.result - 1))) = demand_in _ _ _ (rw (sym c.demanded_body-body.ensures.0) at c.requires.s_bound.1) in
    omega (arith, its.0)

pub is_gated_side_effect_stmt-requires : goal.is_gated_side_effect_stmt-requires
is_gated_side_effect_stmt-requires c =
    let its : (0 < c.demanded_body-body.result) × (c.args.i.0 < length (statement_list (graph_in c.args.numbers.now) (c.demanded_body-body.result - 1))) = demand_in _ _ _ (rw (sym c.demanded_body-body.ensures.0) at c.requires.s_bound.1) in record { loaded = c.requires.prepared.loaded; m_bound = (omega (arith, its.0, c.demanded_body-body.ensures.1), its.1) }

pub returns-then-is_gated_side_effect_stmt : goal.returns-then-is_gated_side_effect_stmt
unfolding graph_in
returns-then-is_gated_side_effect_stmt c =
    let its : (0 < c.demanded_body-body.result) × (c.args.i.0 < length (statement_list (graph_in c.args.numbers.now) (c.demanded_body-body.result - 1))) = demand_in _ _ _ (rw (sym c.demanded_body-body.ensures.0) at c.requires.s_bound.1) in
    (demand_gated _ _ _ _ c.demanded_body-body.ensures.0 (sym c.is_gated_side_effect_stmt.ensures ∙ c.if-is_gated_side_effect_stmt.true), gives_good (omega (arith, its.0, c.demanded_body-body.ensures.1), its.1))

pub returns : goal.returns
returns c = (demand_free _ _ _ _ c.demanded_body-body.ensures.0 (sym c.is_gated_side_effect_stmt.ensures ∙ c.if-is_gated_side_effect_stmt.false), nothing_good)
