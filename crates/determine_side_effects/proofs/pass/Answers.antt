use Prim.Native.Nat.{◌-◌, ◌<◌}
use mathlib.Core.Path.{refl, ap, ◌∙◌}
use mathlib.Core.Bool.{true≢false}
use native.Mathlib.Omega.{arith}
use Rattle.facts.specs.tables_crate.Layout.{sizes, verdicts_in}
use Rattle.facts.proofs.tables_crate.Sections.{word_inside, kept_none}
use Rattle.facts.specs.graph_tables_crate.Tables.{header_in}
use Rattle.facts.specs.graph_crate.Check.{graph_in}
use Rattle.determine_side_effects.specs.Effects.{pass}
use Rattle.determine_side_effects.proofs.InSection.{word_fits, kept_written, section_written, verdicts_kept}
use Rattle.determine_side_effects.proofs.Reading.{pass_moved, pass_kept, pass_done}
use Rattle.determine_side_effects.proofs.pass.Goals as goal

pub header_of-h-requires : goal.header_of-h-requires
header_of-h-requires c = c.requires.loaded.long

pub bounds-tables-5 : goal.bounds-tables-5
bounds-tables-5 c = word_inside c.requires.laid 5 (omega arith)

pub loop-m-init : goal.loop-m-init
loop-m-init c = (kept_none, omega arith, refl, λ e. refl)

pub overflow_sub-m : goal.overflow_sub-m
overflow_sub-m c = c.loop-m-test.true

pub moves-requires : goal.moves-requires
moves-requires c =
    let small : c.loop-m.m - 1 < (header_in c.args.numbers.now).modules = omega (arith, c.loop-m-test.true, c.loop-m.invariant.1, ap (λ q. q.modules) c.header_of-h.ensures) in record { has_verdicts = verdicts_kept c.requires c.loop-m.invariant.0; m_bound = small }

pub overflow_add-tables : goal.overflow_add-tables
unfolding sizes
overflow_add-tables c =
    let small : c.loop-m.m - 1 < (header_in c.args.numbers.now).modules = omega (arith, c.loop-m-test.true, c.loop-m.invariant.1, ap (λ q. q.modules) c.header_of-h.ensures) in
    let i = word_fits c.requires.laid 5 (omega arith) c.loop-m.invariant.0 (c.loop-m.m - 1) small in
    record { fits = omega (arith, i, (verdicts_kept c.requires c.loop-m.invariant.0).laid.few) }

pub offset_bounds-tables-base : goal.offset_bounds-tables-base
unfolding sizes
offset_bounds-tables-base c =
    let small : c.loop-m.m - 1 < (header_in c.args.numbers.now).modules = omega (arith, c.loop-m-test.true, c.loop-m.invariant.1, ap (λ q. q.modules) c.header_of-h.ensures) in
    let i = word_fits c.requires.laid 5 (omega arith) c.loop-m.invariant.0 (c.loop-m.m - 1) small in
    record { fits = omega (arith, i, (verdicts_kept c.requires c.loop-m.invariant.0).laid.few) }

pub bounds-tables-base : goal.bounds-tables-base
unfolding sizes
bounds-tables-base c =
    let small : c.loop-m.m - 1 < (header_in c.args.numbers.now).modules = omega (arith, c.loop-m-test.true, c.loop-m.invariant.1, ap (λ q. q.modules) c.header_of-h.ensures) in
    word_fits c.requires.laid 5 (omega arith) c.loop-m.invariant.0 (c.loop-m.m - 1) small

pub loop-m-smaller-then-moves : goal.loop-m-smaller-then-moves
loop-m-smaller-then-moves c = omega (arith, c.loop-m-test.true)

pub loop-m-preserved-then-moves : goal.loop-m-preserved-then-moves
unfolding sizes
loop-m-preserved-then-moves c =
    let small : c.loop-m.m - 1 < (header_in c.args.numbers.now).modules = omega (arith, c.loop-m-test.true, c.loop-m.invariant.1, ap (λ q. q.modules) c.header_of-h.ensures) in
    let i = c.loop-m.invariant in
    let t = c.requires.laid in
    let w = section_written t 5 (omega arith) i.0 (c.loop-m.m - 1) small 1 in (
      kept_written t 5 (omega arith) i.0 (c.loop-m.m - 1) small 1,
      omega (arith, i.1),
      ap (pass (graph_in c.args.numbers.now) (c.loop-m.m - 1)) w ∙ pass_moved _ _ _ c.loop-m-test.true c.moves.ensures c.if-moves.true ∙ i.2,
      λ e. absurd (true≢false e),
    )

pub loop-m-smaller : goal.loop-m-smaller
loop-m-smaller c = omega (arith, c.loop-m-test.true)

pub loop-m-preserved : goal.loop-m-preserved
loop-m-preserved c =
    let i = c.loop-m.invariant in
    (i.0, omega (arith, i.1), pass_kept _ _ _ c.loop-m-test.true c.moves.ensures c.if-moves.false ∙ i.2, i.3)

pub returns : goal.returns
returns c =
    let i = c.loop-m.invariant in
    let h = ap (λ q. pass (graph_in c.args.numbers.now) q.modules (verdicts_in c.args.tables.now)) c.header_of-h.ensures in
    (pass_done _ _ _ _ c.loop-m-test.false i.2 ∙ h, i.3, i.0)
