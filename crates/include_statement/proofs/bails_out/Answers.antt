use Rattle.determine_side_effects.specs.graph_access_crate.Words.{flag}
use Rattle.include_statement.proofs.Bailing.{bails_external, bails-other, bails-import, bails-bare, bails-own, bails-several}
use Rattle.determine_side_effects.specs.Effects.{has_effects, last_verdicts}
use mathlib.Core.Logic.{◌⊎◌, inl, inr}
use mathlib.Core.Path.{◌≡◌, ◌∙◌, sym}
use mathlib.Core.Bool.{true, false}
use Rattle.determine_side_effects.specs.graph_crate.Check.{graph_in}
use Rattle.include_statement.proofs.bails_out.Goals as goal
use Rattle.include_statement.proofs.bails_out.Goals.{then-flag+else-not-has_effects, else-flag}

pub returns-then-not-is_normal : goal.returns-then-not-is_normal
returns-then-not-is_normal c = bails_external _ _ _ _ _ c.requires.m_bound.3 (sym c.is_normal.ensures ∙ c.if-not-is_normal.true)

pub returns-then-exports-ne1 : goal.returns-then-exports-ne1
returns-then-exports-ne1 c = bails-other _ _ _ _ _ c.requires.m_bound.3 (sym c.is_normal.ensures ∙ c.if-not-is_normal.false) _ c.exports.ensures c.if-exports-ne1.true

pub returns-then-import_record_kind-eq0 : goal.returns-then-import_record_kind-eq0
returns-then-import_record_kind-eq0 c = bails-import _ _ _ _ _ c.requires.m_bound.3 (sym c.is_normal.ensures ∙ c.if-not-is_normal.false) _ c.exports.ensures c.if-exports-ne1.false _ c.import_record_kind.ensures c.if-import_record_kind-eq0.true

pub returns-then-not-has_effects : goal.returns-then-not-has_effects
returns-then-not-has_effects c = bails-bare _ _ _ _ _ c.requires.m_bound.3 (sym c.is_normal.ensures ∙ c.if-not-is_normal.false) _ c.exports.ensures c.if-exports-ne1.false _ c.import_record_kind.ensures c.if-import_record_kind-eq0.false _ c.import_record_bits.ensures (sym c.flag.ensures ∙ c.if-flag.true) (sym c.has_effects.ensures ∙ c.if-not-has_effects.true)

pub returns-then-not-flag : goal.returns-then-not-flag
returns-then-not-flag c =
    -- no bare import of a module without effects
    let past : (has_effects (last_verdicts (graph_in c.args.numbers.now)) c.args.t.0 ≡ true) ⊎ (flag 1 c.import_record_bits.result ≡ false) = elim c.if-flag.branch [ then-flag+else-not-has_effects w ↦ inl (sym w.has_effects.ensures ∙ w.if-not-has_effects.false) | else-flag w ↦ inr (sym c.flag.ensures ∙ w.if-flag.false) ] in
    bails-own _ _ _ _ _ c.requires.m_bound.3 (sym c.is_normal.ensures ∙ c.if-not-is_normal.false) _ c.exports.ensures c.if-exports-ne1.false _ c.import_record_kind.ensures c.if-import_record_kind-eq0.false _ c.import_record_bits.ensures past _ c.flags.ensures (sym c.flag-2.ensures ∙ c.if-not-flag.true)

pub returns : goal.returns
returns c =
    -- no bare import of a module without effects
    let past : (has_effects (last_verdicts (graph_in c.args.numbers.now)) c.args.t.0 ≡ true) ⊎ (flag 1 c.import_record_bits.result ≡ false) = elim c.if-flag.branch [ then-flag+else-not-has_effects w ↦ inl (sym w.has_effects.ensures ∙ w.if-not-has_effects.false) | else-flag w ↦ inr (sym c.flag.ensures ∙ w.if-flag.false) ] in
    bails-several _ _ _ _ _ c.requires.m_bound.3 (sym c.is_normal.ensures ∙ c.if-not-is_normal.false) _ c.exports.ensures c.if-exports-ne1.false _ c.import_record_kind.ensures c.if-import_record_kind-eq0.false _ c.import_record_bits.ensures past _ c.flags.ensures _ c.reexport_count.ensures (sym c.flag-2.ensures ∙ c.if-not-flag.false)
