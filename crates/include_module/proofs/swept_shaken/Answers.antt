use mathlib.Core.Logic.{◌⊎◌, inl, inr}
use Rattle.include_module.proofs.Sweeping.{swept_free, swept_ungated, swept-not, swept-declares}
use Rattle.determine_side_effects.specs.graph_access_crate.Words.{flag}
use Rattle.determine_side_effects.specs.Effects.{last_verdicts}
use Rattle.on_demand.specs.Demand.{on_demand, gated}
use Rattle.keep_rules.specs.Rules.{effect_bit}
use mathlib.Core.Path.{◌≡◌, ap, ◌∙◌, sym}
use mathlib.Core.Bool.{true, false}
use Rattle.determine_side_effects.specs.graph_crate.Check.{graph_in}
use Rattle.include_module.proofs.swept_shaken.Goals as goal
use Rattle.include_module.proofs.swept_shaken.Goals.{else-flag, then-flag+else-not-is_on_demand+else-not-is_gated_side_effect_stmt}

pub returns-then-not-is_on_demand : goal.returns-then-not-is_on_demand
returns-then-not-is_on_demand c =
    let effect : c.flag.result ≡ flag (effect_bit (graph_in c.args.numbers.now) c.args.m.0) c.bits-bits.result = c.flag.ensures ∙ ap (λ k. flag k c.bits-bits.result) c.effect_bit.ensures.0 in
    swept_free _ _ _ _ _ c.bits-bits.ensures (sym effect ∙ c.if-flag.true) (sym c.is_on_demand.ensures ∙ c.if-not-is_on_demand.true)

pub returns-then-not-is_gated_side_effect_stmt : goal.returns-then-not-is_gated_side_effect_stmt
returns-then-not-is_gated_side_effect_stmt c =
    let effect : c.flag.result ≡ flag (effect_bit (graph_in c.args.numbers.now) c.args.m.0) c.bits-bits.result = c.flag.ensures ∙ ap (λ k. flag k c.bits-bits.result) c.effect_bit.ensures.0 in
    swept_ungated _ _ _ _ _ c.bits-bits.ensures (sym effect ∙ c.if-flag.true) (sym c.is_gated_side_effect_stmt.ensures ∙ c.if-not-is_gated_side_effect_stmt.true)

pub returns-then-not-flag : goal.returns-then-not-flag
returns-then-not-flag c =
    let effect : c.flag.result ≡ flag (effect_bit (graph_in c.args.numbers.now) c.args.m.0) c.bits-bits.result = c.flag.ensures ∙ ap (λ k. flag k c.bits-bits.result) c.effect_bit.ensures.0 in
    let out : ((on_demand (graph_in c.args.numbers.now) (last_verdicts (graph_in c.args.numbers.now)) c.args.m.0 ≡ true) × (gated (graph_in c.args.numbers.now) c.args.m.0 c.args.i.0 ≡ true)) ⊎ (flag (effect_bit (graph_in c.args.numbers.now) c.args.m.0) c.bits-bits.result ≡ false) = elim c.if-flag.branch [ then-flag+else-not-is_on_demand+else-not-is_gated_side_effect_stmt w ↦ inl (sym w.is_on_demand.ensures ∙ w.if-not-is_on_demand.false, sym w.is_gated_side_effect_stmt.ensures ∙ w.if-not-is_gated_side_effect_stmt.false) | else-flag w ↦ inr (sym effect ∙ w.if-flag.false) ] in
    swept-not _ _ _ _ _ c.bits-bits.ensures out _ c.flags.ensures (sym c.flag-2.ensures ∙ c.if-not-flag.true)

pub returns : goal.returns
returns c =
    let effect : c.flag.result ≡ flag (effect_bit (graph_in c.args.numbers.now) c.args.m.0) c.bits-bits.result = c.flag.ensures ∙ ap (λ k. flag k c.bits-bits.result) c.effect_bit.ensures.0 in
    let out : ((on_demand (graph_in c.args.numbers.now) (last_verdicts (graph_in c.args.numbers.now)) c.args.m.0 ≡ true) × (gated (graph_in c.args.numbers.now) c.args.m.0 c.args.i.0 ≡ true)) ⊎ (flag (effect_bit (graph_in c.args.numbers.now) c.args.m.0) c.bits-bits.result ≡ false) = elim c.if-flag.branch [ then-flag+else-not-is_on_demand+else-not-is_gated_side_effect_stmt w ↦ inl (sym w.is_on_demand.ensures ∙ w.if-not-is_on_demand.false, sym w.is_gated_side_effect_stmt.ensures ∙ w.if-not-is_gated_side_effect_stmt.false) | else-flag w ↦ inr (sym effect ∙ w.if-flag.false) ] in
    c.flag-3.ensures ∙ swept-declares _ _ _ _ _ c.bits-bits.ensures out _ c.flags.ensures (sym c.flag-2.ensures ∙ c.if-not-flag.false)
