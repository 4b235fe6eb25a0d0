use mathlib.Core.Path.{◌≡◌, refl, ap, ◌∙◌}
use mathlib.Core.List.{◌++◌}
use native.Mathlib.Omega.{arith}
use lib.ListN.{length, get_or, drop, length-set}
use Rattle.facts.proofs.tables_crate.Sections.{inside}
use Rattle.facts.specs.graph_tables_crate.Tables.{header_in}
use Rattle.facts.specs.graph_crate.Check.{graph_in}
use Rattle.facts.specs.graph_access_crate.Words.{tabulate}
use Rattle.determine_side_effects.specs.Effects.{last_verdicts}
use Rattle.determine_side_effects.proofs.InSection.{verdicts_long}
use Rattle.determine_side_effects.proofs.Lists.{tabulate_get_D}
use Rattle.determine_side_effects.proofs.Below.{last_below}
use Rattle.determine_side_effects.proofs.Reading.{fill_start, fill_step}
use Rattle.determine_side_effects.proofs.write_row.Goals as goal

pub section-verdicts-requires : goal.section-verdicts-requires
section-verdicts-requires c = inside c.requires.has_verdicts.0.laid 5 (omega arith)

pub loop-m-init : goal.loop-m-init
loop-m-init c = (omega arith, refl, fill_start _ _)

pub offset_bounds-verdicts-m : goal.offset_bounds-verdicts-m
offset_bounds-verdicts-m c =
    let long : length c.section-verdicts.result.now ≡ (header_in c.args.numbers.now).modules = ap length c.section-verdicts.ensures ∙ verdicts_long c.requires.has_verdicts.0.laid in
    record { fits = omega (arith, c.loop-m-test.true, long, c.requires.has_verdicts.0.loaded.few_modules) }

pub bounds-verdicts-m : goal.bounds-verdicts-m
bounds-verdicts-m c = c.loop-m-test.true

pub narrow-requires : goal.narrow-requires
narrow-requires c =
    let last : c.section-verdicts.result.now ≡ last_verdicts (graph_in c.args.numbers.now) = c.section-verdicts.ensures ∙ c.requires.has_verdicts.1 in
    (omega (arith, ap (λ v. get_or v c.loop-m.m 0) last, last_below c.requires.has_verdicts.0.loaded c.loop-m.m))

pub offset_bounds-row-m : goal.offset_bounds-row-m
offset_bounds-row-m c =
    let long : length c.section-verdicts.result.now ≡ (header_in c.args.numbers.now).modules = ap length c.section-verdicts.ensures ∙ verdicts_long c.requires.has_verdicts.0.laid in
    record { fits = omega (arith, c.loop-m-test.true, long, c.requires.has_verdicts.0.loaded.few_modules) }

pub bounds-row-m : goal.bounds-row-m
bounds-row-m c =
    let long : length c.section-verdicts.result.now ≡ (header_in c.args.numbers.now).modules = ap length c.section-verdicts.ensures ∙ verdicts_long c.requires.has_verdicts.0.laid in
    omega (arith, c.loop-m-test.true, long, c.requires.numbers_in_bounds, c.loop-m.invariant.1)

pub loop-m-preserved : goal.loop-m-preserved
loop-m-preserved c =
    let long : length c.section-verdicts.result.now ≡ (header_in c.args.numbers.now).modules = ap length c.section-verdicts.ensures ∙ verdicts_long c.requires.has_verdicts.0.laid in
    let i = c.loop-m.invariant in (
      omega (arith, c.loop-m-test.true),
      length-set c.loop-m.row c.loop-m.m c.narrow.result ∙ i.1,
      fill_step _ _ _ c.loop-m.m _ i.2 (omega (arith, c.loop-m-test.true, long, c.requires.numbers_in_bounds)) c.narrow.ensures,
    )

pub returns : goal.returns
returns c =
    let last : c.section-verdicts.result.now ≡ last_verdicts (graph_in c.args.numbers.now) = c.section-verdicts.ensures ∙ c.requires.has_verdicts.1 in
    let long : length c.section-verdicts.result.now ≡ (header_in c.args.numbers.now).modules = ap length c.section-verdicts.ensures ∙ verdicts_long c.requires.has_verdicts.0.laid in
    let i = c.loop-m.invariant in
    let z : c.loop-m.m ≡ length c.section-verdicts.result.now = omega (arith, c.loop-m-test.false, i.0) in
    i.2
    ∙ ap (λ k. tabulate (λ j. get_or c.section-verdicts.result.now j 0) 0 k ++ drop k c.args.row.now) z
    ∙ ap (λ v. v ++ drop (length c.section-verdicts.result.now) c.args.row.now) (tabulate_get_D c.section-verdicts.result.now ∙ last)
    ∙ ap (λ k. last_verdicts (graph_in c.args.numbers.now) ++ drop k c.args.row.now) long
