use Prim.Native.Nat.{◌<◌}
use mathlib.Core.Path.{◌≡◌, ap, ◌∙◌}
use native.Mathlib.Omega.{arith}
use Rattle.facts.specs.tables_crate.Layout.{sizes}
use Rattle.facts.proofs.tables_crate.Sections.{word_inside, kept_none}
use Rattle.facts.specs.graph_tables_crate.Tables.{header_in}
use Rattle.facts.specs.graph_crate.Check.{graph_in}
use Rattle.facts.specs.graph_access_crate.Words.{tabulate}
use Rattle.determine_side_effects.specs.Effects.{first_verdict, first_verdicts}
use Rattle.determine_side_effects.proofs.InSection.{word_fits, kept_written, section_written, verdicts_long, verdicts_kept}
use Rattle.determine_side_effects.proofs.Reading.{fill_start, fill_step, fill_done}
use Rattle.determine_side_effects.proofs.first_verdicts.Goals as goal

pub header_of-h-requires : goal.header_of-h-requires
header_of-h-requires c = c.requires.loaded.long

pub relaxed-again-requires : goal.relaxed-again-requires
relaxed-again-requires c = c.requires.loaded

pub bounds-tables-5 : goal.bounds-tables-5
bounds-tables-5 c = word_inside c.requires.laid 5 (omega arith)

pub loop-m-init : goal.loop-m-init
loop-m-init c = (kept_none, omega arith, fill_start _ _)

pub first_verdict-requires : goal.first_verdict-requires
first_verdict-requires c =
    let small : c.loop-m.m < (header_in c.args.numbers.now).modules = omega (arith, c.loop-m-test.true, ap (λ q. q.modules) c.header_of-h.ensures) in record { loaded = (verdicts_kept c.requires c.loop-m.invariant.0).loaded; again_value = (c.relaxed-again.ensures, small) }

pub overflow_add-tables : goal.overflow_add-tables
unfolding sizes
overflow_add-tables c =
    let small : c.loop-m.m < (header_in c.args.numbers.now).modules = omega (arith, c.loop-m-test.true, ap (λ q. q.modules) c.header_of-h.ensures) in
    let i = word_fits c.requires.laid 5 (omega arith) c.loop-m.invariant.0 c.loop-m.m small in
    record { fits = omega (arith, i, (verdicts_kept c.requires c.loop-m.invariant.0).laid.few) }

pub offset_bounds-tables-base : goal.offset_bounds-tables-base
unfolding sizes
offset_bounds-tables-base c =
    let small : c.loop-m.m < (header_in c.args.numbers.now).modules = omega (arith, c.loop-m-test.true, ap (λ q. q.modules) c.header_of-h.ensures) in
    let i = word_fits c.requires.laid 5 (omega arith) c.loop-m.invariant.0 c.loop-m.m small in
    record { fits = omega (arith, i, (verdicts_kept c.requires c.loop-m.invariant.0).laid.few) }

pub bounds-tables-base : goal.bounds-tables-base
unfolding sizes
bounds-tables-base c =
    let small : c.loop-m.m < (header_in c.args.numbers.now).modules = omega (arith, c.loop-m-test.true, ap (λ q. q.modules) c.header_of-h.ensures) in
    word_fits c.requires.laid 5 (omega arith) c.loop-m.invariant.0 c.loop-m.m small

pub loop-m-preserved : goal.loop-m-preserved
unfolding sizes
loop-m-preserved c =
    let small : c.loop-m.m < (header_in c.args.numbers.now).modules = omega (arith, c.loop-m-test.true, ap (λ q. q.modules) c.header_of-h.ensures) in
    let i = c.loop-m.invariant in
    let t = c.requires.laid in
    let n = small in (
      kept_written t 5 (omega arith) i.0 c.loop-m.m n c.first_verdict.result,
      omega (arith, c.loop-m-test.true),
      section_written t 5 (omega arith) i.0 c.loop-m.m n c.first_verdict.result ∙ fill_step _ _ _ c.loop-m.m _ i.2 (omega (arith, n, verdicts_long t)) c.first_verdict.ensures,
    )

pub returns : goal.returns
unfolding first_verdicts graph_in
returns c =
    let i = c.loop-m.invariant in
    let z : c.loop-m.m ≡ (header_in c.args.numbers.now).modules = omega (arith, c.loop-m-test.false, i.1, ap (λ q. q.modules) c.header_of-h.ensures) in
    (fill_done _ _ _ _ i.2 (omega (arith, z, verdicts_long c.requires.laid)) ∙ ap (tabulate (first_verdict (graph_in c.args.numbers.now)) 0) z, i.0)
