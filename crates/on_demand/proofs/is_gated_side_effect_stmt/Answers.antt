use mathlib.Core.Path.{ap, ◌∙◌}
use Rattle.determine_side_effects.specs.graph_access_crate.Words.{flag as flag_of}
use Rattle.on_demand.proofs.Deciding.{gated_first, gated-pure, gated-alone, gated-records}
use Rattle.on_demand.proofs.is_gated_side_effect_stmt.Goals as goal

pub returns-then-i-eq0 : goal.returns-then-i-eq0
returns-then-i-eq0 c = gated_first _ _ _ c.if-i-eq0.true

pub returns-then-not-flag : goal.returns-then-not-flag
returns-then-not-flag c = gated-pure _ _ _ c.if-i-eq0.false _ (c.flag.ensures ∙ ap (λ x. flag_of 0 x) c.bits.ensures) c.if-not-flag.true

pub returns-then-reference_count-eq0 : goal.returns-then-reference_count-eq0
returns-then-reference_count-eq0 c = gated-alone _ _ _ c.if-i-eq0.false _ (c.flag.ensures ∙ ap (λ x. flag_of 0 x) c.bits.ensures) c.if-not-flag.false _ c.reference_count.ensures.0 c.if-reference_count-eq0.true

pub returns : goal.returns
returns c = gated-records _ _ _ c.if-i-eq0.false _ (c.flag.ensures ∙ ap (λ x. flag_of 0 x) c.bits.ensures) c.if-not-flag.false _ c.reference_count.ensures.0 _ c.if-reference_count-eq0.false c.import_record_count.ensures.0
