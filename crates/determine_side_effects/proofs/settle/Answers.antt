use mathlib.Core.Path.{◌≡◌, refl, ap, ◌∙◌}
use native.Mathlib.Omega.{arith}
use Rattle.facts.specs.tables_crate.Layout.{verdicts_in}
use Rattle.facts.proofs.tables_crate.Sections.{kept_none, kept_both}
use Rattle.facts.specs.graph_crate.Check.{graph_in}
use Rattle.determine_side_effects.specs.Effects.{passes, settle}
use Rattle.determine_side_effects.proofs.InSection.{verdicts_kept}
use Rattle.determine_side_effects.proofs.Reading.{passes_turn, passes_stop, passes_done}
use Rattle.determine_side_effects.proofs.settle.Goals as goal

pub header_of-h-requires : goal.header_of-h-requires
header_of-h-requires c = c.requires.loaded.long

pub loop-left-init : goal.loop-left-init
loop-left-init c = (kept_none, refl)

pub overflow_sub-left : goal.overflow_sub-left
overflow_sub-left c = c.loop-left-test.true

pub pass-requires : goal.pass-requires
pass-requires c = verdicts_kept c.requires c.loop-left.invariant.0

pub returns-then-not-pass : goal.returns-then-not-pass
unfolding graph_in settle
returns-then-not-pass c =
    let whole : passes (graph_in c.args.numbers.now) c.header_of-h.result.modules (verdicts_in c.args.tables.now) ≡ settle (graph_in c.args.numbers.now) (verdicts_in c.args.tables.now) = ap (λ q. passes (graph_in c.args.numbers.now) q.modules (verdicts_in c.args.tables.now)) c.header_of-h.ensures in
    let i = c.loop-left.invariant in
    let e = c.pass.ensures in
    (passes_stop _ _ _ c.loop-left-test.true _ e.0 (e.1 (c.if-not-pass.true)) ∙ i.1 ∙ whole, kept_both i.0 e.2)

pub loop-left-smaller : goal.loop-left-smaller
loop-left-smaller c = omega (arith, c.loop-left-test.true)

pub loop-left-preserved : goal.loop-left-preserved
unfolding graph_in
loop-left-preserved c =
    let i = c.loop-left.invariant in
    let e = c.pass.ensures in
    (kept_both i.0 e.2, passes_turn _ _ _ c.loop-left-test.true _ e.0 ∙ i.1)

pub returns : goal.returns
unfolding settle graph_in
returns c =
    let whole : passes (graph_in c.args.numbers.now) c.header_of-h.result.modules (verdicts_in c.args.tables.now) ≡ settle (graph_in c.args.numbers.now) (verdicts_in c.args.tables.now) = ap (λ q. passes (graph_in c.args.numbers.now) q.modules (verdicts_in c.args.tables.now)) c.header_of-h.ensures in
    let i = c.loop-left.invariant in
    (passes_done _ _ _ _ c.loop-left-test.false i.1 ∙ whole, i.0)
