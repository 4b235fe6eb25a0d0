use Prim.Native.Nat.{◌<◌}
use mathlib.Core.Path.{sym, ◌∙◌}
use native.Mathlib.Omega.{arith}
use Rattle.determine_side_effects.specs.graph_crate.Check.{graph_in}
use Rattle.determine_side_effects.specs.facts_crate.Facts.{Good}
use Rattle.answer_rows.proofs.InRow.{good_statement, good_same}
use Rattle.dead_records.proofs.Exempting.{statement_place}
use Rattle.dead_records.proofs.Late.{modules_read, noting_none, noting-set, noting-passed, noting_done, elsewhere_module, elsewhere_use, elsewhere_checked, elsewhere_forward, elsewhere_bailout}
use Rattle.dead_records.proofs.note_late.Goals as goal
use Rattle.dead_records.proofs.note_late.Goals.{in-Statement, in-Module, in-Use, in-CheckedUse, in-Forward, in-Bailout}

pub loop-k-init : goal.loop-k-init
unfolding graph_in
loop-k-init c = noting_none _ _ _ _ _ c.requires.from_le_to.0 c.requires.numbers_in_bounds.1

pub mark_of-at-requires : goal.mark_of-at-requires
mark_of-at-requires c =
    let good : Good (graph_in c.args.numbers.now) c.fact_at.result = good_same _ _ _ c.fact_at.ensures (c.requires.from_le_to.2 c.loop-k.k (omega (arith, c.loop-k-test.true))) in record { loaded = c.requires.loaded; good = good_statement _ _ _ _ c.in-Statement.is good }

pub overflow_sub-scratch : goal.overflow_sub-scratch
unfolding graph_in
overflow_sub-scratch c =
    let good : Good (graph_in c.args.numbers.now) c.fact_at.result = good_same _ _ _ c.fact_at.ensures (c.requires.from_le_to.2 c.loop-k.k (omega (arith, c.loop-k-test.true))) in
    let g = good_statement _ _ _ _ c.in-Statement.is good in
    let p = statement_place c.requires.loaded _ _ g.0 g.1 in
    let h = modules_read _ _ c.header_of-h.ensures in
    omega (arith, p.0, h, c.mark_of-at.ensures.0)

pub offset_bounds-scratch-at : goal.offset_bounds-scratch-at
unfolding graph_in
offset_bounds-scratch-at c =
    let good : Good (graph_in c.args.numbers.now) c.fact_at.result = good_same _ _ _ c.fact_at.ensures (c.requires.from_le_to.2 c.loop-k.k (omega (arith, c.loop-k-test.true))) in
    let g = good_statement _ _ _ _ c.in-Statement.is good in
    let p = statement_place c.requires.loaded _ _ g.0 g.1 in
    let h = modules_read _ _ c.header_of-h.ensures in
    record { fits = omega (arith, p.0, p.1, h, c.mark_of-at.ensures.0, c.requires.loaded.few_modules, c.requires.loaded.few_statements) }

pub bounds-scratch-at : goal.bounds-scratch-at
unfolding graph_in
bounds-scratch-at c =
    let good : Good (graph_in c.args.numbers.now) c.fact_at.result = good_same _ _ _ c.fact_at.ensures (c.requires.from_le_to.2 c.loop-k.k (omega (arith, c.loop-k-test.true))) in
    let g = good_statement _ _ _ _ c.in-Statement.is good in
    let p = statement_place c.requires.loaded _ _ g.0 g.1 in
    let h = modules_read _ _ c.header_of-h.ensures in
    omega (arith, p.0, p.1, h, c.mark_of-at.ensures.0, c.requires.numbers_in_bounds.0, c.loop-k.invariant.same_length)

pub loop-k-preserved : goal.loop-k-preserved
unfolding graph_in
loop-k-preserved c =
    let good : Good (graph_in c.args.numbers.now) c.fact_at.result = good_same _ _ _ c.fact_at.ensures (c.requires.from_le_to.2 c.loop-k.k (omega (arith, c.loop-k-test.true))) in
    let k = c.loop-k.invariant in
    let is = c.fact_at.ensures in
    let l : c.loop-k.k < c.args.to = omega (arith, c.loop-k-test.true) in
    elim c.match-fact_at.branch [
      | in-Statement w ↦
          let g = good_statement _ _ _ _ w.in-Statement.is good in
          let p = statement_place c.requires.loaded _ _ g.0 g.1 in
          noting-set _ _ _ _ _ _ _ k l _ _ _ _ (sym w.in-Statement.is ∙ is) w.mark_of-at.ensures.0 (modules_read _ _ c.header_of-h.ensures) (omega (arith, p.0, w.mark_of-at.ensures.0)) (omega (arith, p.1, w.mark_of-at.ensures.0)) c.requires.numbers_in_bounds.0 w.scratch-is
      | in-Module w ↦ noting-passed _ _ _ _ _ _ _ k l _ _ is (elsewhere_module _ _ good _ w.in-Module.is) w.scratch-is
      | in-Use w ↦ noting-passed _ _ _ _ _ _ _ k l _ _ is (elsewhere_use _ _ good _ _ w.in-Use.is) w.scratch-is
      | in-CheckedUse w ↦ noting-passed _ _ _ _ _ _ _ k l _ _ is (elsewhere_checked _ _ good _ _ w.in-CheckedUse.is) w.scratch-is
      | in-Forward w ↦ noting-passed _ _ _ _ _ _ _ k l _ _ is (elsewhere_forward _ _ good _ w.in-Forward.is) w.scratch-is
      | in-Bailout w ↦ noting-passed _ _ _ _ _ _ _ k l _ _ is (elsewhere_bailout _ _ good _ w.in-Bailout.is) w.scratch-is
    ]

pub returns : goal.returns
unfolding graph_in
returns c = (c.loop-k.invariant.stays, noting_done c.requires.loaded _ _ _ _ _ _ c.loop-k.invariant (omega (arith, c.loop-k-test.false)))
