-- the graph is accepted, and the row has a number for each module or not
use mathlib.Core.Path.{◌≡◌, ap, ◌∙◌, sym}
use native.Mathlib.Omega.{arith}
use Rattle.facts.proofs.tables_crate.Sections.{start_mono}
use Rattle.facts.specs.graph_tables_crate.Tables.{header_in}
use Rattle.std.specs.Prelude.{Ok}
use Rattle.facts.specs.graph_crate.Check.{check_of, answer_of}
use Rattle.determine_side_effects.specs.Tabled.{HasVerdicts}
use Rattle.determine_side_effects.proofs.InSection.{verdicts_kept, verdicts_fit}
use Rattle.determine_side_effects.proofs.Loading.{refused_answer, refused_row, short_answer, short_row, long_answer, long_row}
use Rattle.facts.proofs.refusal_crate.Exits.{passed_on}
use Rattle.determine_side_effects.proofs.effects_in.Goals as goal

pub load-requires : goal.load-requires
load-requires c = record { header_read = c.requires.header_read; at_verdicts_in_bounds = (omega (arith, c.requires.at_on_demand_in_bounds.0, start_mono c.args.h 5 6 (omega arith)), c.requires.at_on_demand_in_bounds.1) }

pub returns-then-row-h : goal.returns-then-row-h
returns-then-row-h c =
    let accepted : answer_of (check_of c.args.numbers.now) ≡ Ok tt = sym c.load.ensures.0 ∙ c.in_ok-load.was in
    let counted : c.args.h.modules ≡ (header_in c.args.numbers.now).modules = ap (λ q. q.modules) c.requires.header_read.is in
    (short_answer _ accepted _ (omega (arith, c.if-row-h.true, counted)), short_row _ accepted _ (omega (arith, c.if-row-h.true, counted)))

pub last_verdicts-requires : goal.last_verdicts-requires
last_verdicts-requires c =
    let filled : HasVerdicts c.args.numbers.now c.load.new.tables = verdicts_fit c.requires.header_read c.requires.at_on_demand_in_bounds.0 c.load.auto.tables (c.load.ensures.1.known c.in_ok-load.was) in
    filled

pub write_row-requires : goal.write_row-requires
write_row-requires c =
    let counted : c.args.h.modules ≡ (header_in c.args.numbers.now).modules = ap (λ q. q.modules) c.requires.header_read.is in
    let filled : HasVerdicts c.args.numbers.now c.load.new.tables = verdicts_fit c.requires.header_read c.requires.at_on_demand_in_bounds.0 c.load.auto.tables (c.load.ensures.1.known c.in_ok-load.was) in
    let e = c.last_verdicts.ensures in record { has_verdicts = (verdicts_kept filled e.1, e.0); numbers_in_bounds = omega (arith, c.if-row-h.false, counted) }

pub returns-in_err-load : goal.returns-in_err-load
returns-in_err-load c = let e = sym c.load.ensures.0 ∙ c.in_err-load.was in rw (passed_on c.from_residual.result _ c.from_residual.ensures.1) ((refused_answer _ e _, refused_row _ e _))

pub returns : goal.returns
returns c =
    let accepted : answer_of (check_of c.args.numbers.now) ≡ Ok tt = sym c.load.ensures.0 ∙ c.in_ok-load.was in
    let counted : c.args.h.modules ≡ (header_in c.args.numbers.now).modules = ap (λ q. q.modules) c.requires.header_read.is in
    (long_answer _ accepted _ (omega (arith, c.if-row-h.false, counted)), c.write_row.ensures ∙ long_row _ accepted _ (omega (arith, c.if-row-h.false, counted)))
