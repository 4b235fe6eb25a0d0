use mathlib.Core.Path.{ap, ◌∙◌, sym}
use native.Mathlib.Omega.{arith}
use Rattle.facts.specs.graph_access_crate.Words.{flag}
use Rattle.determine_side_effects.proofs.Reading.{recomputed_external, recomputed-other, recomputed-relaxed, recomputed-one}
use Rattle.determine_side_effects.proofs.recomputed.Goals as goal

pub effects-requires : goal.effects-requires
effects-requires c = c.requires

pub returns-then-not-is_normal : goal.returns-then-not-is_normal
returns-then-not-is_normal c = c.effects.ensures.0 ∙ recomputed_external _ _ (sym c.is_normal.ensures ∙ c.if-not-is_normal.true)

pub returns-then-scan-ne1 : goal.returns-then-scan-ne1
returns-then-scan-ne1 c =
    let e = c.scan_effects-scan.ensures.0 in
    e ∙ recomputed-other _ _ (sym c.is_normal.ensures ∙ c.if-not-is_normal.false) (λ z. c.if-scan-ne1.true (e ∙ z))

pub flag-requires : goal.flag-requires
flag-requires c = (omega arith)

pub returns-then-flag : goal.returns-then-flag
returns-then-flag c =
    c.rescanned.ensures
    ∙ recomputed-relaxed _ _ (sym c.is_normal.ensures ∙ c.if-not-is_normal.false) (sym c.scan_effects-scan.ensures.0 ∙ c.if-scan-ne1.false) (sym (c.flag.ensures ∙ ap (λ x. flag 5 x) c.flags.ensures) ∙ c.if-flag.true)

pub returns : goal.returns
returns c = recomputed-one _ _ (sym c.is_normal.ensures ∙ c.if-not-is_normal.false) (sym c.scan_effects-scan.ensures.0 ∙ c.if-scan-ne1.false) (sym (c.flag.ensures ∙ ap (λ x. flag 5 x) c.flags.ensures) ∙ c.if-flag.false)
