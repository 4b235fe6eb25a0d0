-- the layout, before and after the parts are read, and their sections
use mathlib.Core.Path.{◌∙◌, sym}
use native.Mathlib.Omega.{arith}
use Rattle.graph_entries.specs.tables_crate.Layout.{Laid, at_verdicts}
use Rattle.graph_entries.proofs.tables_crate.Sections.{start_low, inside, laid_kept}
use Rattle.graph.specs.Loaded.{Places}
use Rattle.graph.proofs.Checking.{bounded, check-over, check_stop_parts, check-stop-later, check-good, once_refused}
use Rattle.graph.proofs.Loading.{loaded}
use Rattle.graph_entries.proofs.refusal_crate.Exits.{passed_on}
use Rattle.graph.proofs.load.Goals as goal

pub lay_out-requires : goal.lay_out-requires
lay_out-requires c = (omega (arith, start_low c.args.h 5, c.requires.at_verdicts_in_bounds.0), bounded _ _ c.requires.header_read)

pub parts-requires : goal.parts-requires
parts-requires c =
    let begun : Laid c.args.h at_verdicts c.lay_out.new.tables = let k = c.lay_out.auto.tables in
    record { known = omega arith; few = omega (arith, k, c.requires.at_verdicts_in_bounds.1); starts = c.lay_out.ensures; fits = omega (arith, k, c.requires.at_verdicts_in_bounds.0) } in
    let b = bounded _ _ c.requires.header_read in record { h_value = (c.requires.header_read.is, omega (arith, b.0), omega (arith, b.1), omega (arith, b.2)); laid = begun }

pub section-requires : goal.section-requires
section-requires c =
    let begun : Laid c.args.h at_verdicts c.lay_out.new.tables = let k = c.lay_out.auto.tables in
    record { known = omega arith; few = omega (arith, k, c.requires.at_verdicts_in_bounds.1); starts = c.lay_out.ensures; fits = omega (arith, k, c.requires.at_verdicts_in_bounds.0) } in
    let laid : Laid c.args.h at_verdicts c.parts.new.tables = laid_kept begun 0 (omega arith) c.parts.ensures.2 in
    inside laid 0 (omega arith)

pub section-requires-2 : goal.section-requires-2
section-requires-2 c =
    let begun : Laid c.args.h at_verdicts c.lay_out.new.tables = let k = c.lay_out.auto.tables in
    record { known = omega arith; few = omega (arith, k, c.requires.at_verdicts_in_bounds.1); starts = c.lay_out.ensures; fits = omega (arith, k, c.requires.at_verdicts_in_bounds.0) } in
    let laid : Laid c.args.h at_verdicts c.parts.new.tables = laid_kept begun 0 (omega arith) c.parts.ensures.2 in
    inside laid 1 (omega arith)

pub later-requires : goal.later-requires
later-requires c =
    let places : Places c.args.numbers.now c.parts.new.tables = c.parts.ensures.1.known _ c.in_ok-q.was in
    let p = places in record { module_table = rw c.section.ensures p.of_modules; symbol_table = rw c.section-2.ensures p.of_symbols; h_value = c.requires.header_read.is }

pub returns-then-q-numbers : goal.returns-then-q-numbers
returns-then-q-numbers c = (sym (check-over _ _ c.requires.header_read (sym c.parts.ensures.0 ∙ c.in_ok-q.was) (sym c.later.ensures ∙ c.in_ok-later.was) c.if-q-numbers.true), once_refused _)

pub returns-in_err-q : goal.returns-in_err-q
returns-in_err-q c = rw (passed_on c.from_residual.result _ c.from_residual.ensures.1) ((sym (check_stop_parts _ _ c.requires.header_read (sym c.parts.ensures.0 ∙ c.in_err-q.was)), once_refused _))

pub returns-in_err-later : goal.returns-in_err-later
returns-in_err-later c = rw (passed_on c.from_residual-in_err-later.result _ c.from_residual-in_err-later.ensures.1) ((sym (check-stop-later _ _ c.requires.header_read (sym c.parts.ensures.0 ∙ c.in_ok-q.was) (sym c.later.ensures ∙ c.in_err-later.was)), once_refused _))

pub returns : goal.returns
returns c =
    let begun : Laid c.args.h at_verdicts c.lay_out.new.tables = let k = c.lay_out.auto.tables in
    record { known = omega arith; few = omega (arith, k, c.requires.at_verdicts_in_bounds.1); starts = c.lay_out.ensures; fits = omega (arith, k, c.requires.at_verdicts_in_bounds.0) } in
    let laid : Laid c.args.h at_verdicts c.parts.new.tables = laid_kept begun 0 (omega arith) c.parts.ensures.2 in
    let places : Places c.args.numbers.now c.parts.new.tables = c.parts.ensures.1.known _ c.in_ok-q.was in
    let good = c.requires.header_read in
    let a = check-good _ _ good (sym c.parts.ensures.0 ∙ c.in_ok-q.was) (sym c.later.ensures ∙ c.in_ok-later.was) c.if-q-numbers.false in
    (sym a, record { known = λ e. loaded _ _ _ a good laid places })
