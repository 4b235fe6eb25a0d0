use Prim.Native.Nat.{◌-◌}
use mathlib.Core.Path.{◌≡◌, ap, ◌∙◌, sym}
use native.Mathlib.Omega.{arith}
use Rattle.determine_side_effects.specs.graph_crate.Check.{graph_in}
use Rattle.determine_side_effects.specs.graph_access_crate.Words.{some, tabulate}
use Rattle.determine_side_effects.proofs.facts_crate.Folds.{some-tabulate-here, some_tabulate_next, some-tabulate-none}
use Rattle.on_demand.specs.Demand.{gated, has_gated}
use Rattle.on_demand.proofs.has_gated_stmts.Goals as goal

pub loop-i-init : goal.loop-i-init
unfolding has_gated
loop-i-init c =
    let z : c.statement_count-count.result - 0 ≡ c.statement_count-count.result = omega arith in
    ap (λ n. some (gated (graph_in c.args.numbers.now) c.args.m.0) (tabulate (λ i. i) 0 n)) (z ∙ c.statement_count-count.ensures.0)

pub returns-then-is_gated_side_effect_stmt : goal.returns-then-is_gated_side_effect_stmt
returns-then-is_gated_side_effect_stmt c =
    let e = sym c.is_gated_side_effect_stmt.ensures ∙ c.if-is_gated_side_effect_stmt.true in
    sym (some-tabulate-here _ (λ i. i) _ _ c.loop-i-test.true e) ∙ c.loop-i.invariant

pub loop-i-preserved : goal.loop-i-preserved
loop-i-preserved c =
    let e = sym c.is_gated_side_effect_stmt.ensures ∙ c.if-is_gated_side_effect_stmt.false in
    sym (some_tabulate_next _ (λ i. i) _ _ c.loop-i-test.true e) ∙ c.loop-i.invariant

pub returns : goal.returns
returns c = sym (some-tabulate-none _ (λ i. i) _ _ c.loop-i-test.false) ∙ c.loop-i.invariant
