-- the header that was read
use mathlib.Core.Path.{◌∙◌, sym}
use native.Mathlib.Omega.{arith}
use Rattle.facts.specs.tables_crate.declared.Size.TheVariants.{Small}
use Rattle.facts.proofs.tables_crate.Sections.{start_mono, fits_all}
use Rattle.facts.proofs.rows_crate.Walks.{at_got}
use Rattle.facts.specs.graph_crate.Check.{HeaderRead}
use Rattle.facts.proofs.graph_crate.Checking.{seven, check_stop_header}
use Rattle.determine_side_effects.proofs.Loading.{refused_answer, refused_row}
use Rattle.facts.proofs.refusal_crate.Exits.{passed_on}
use Rattle.determine_side_effects.proofs.effects.Goals as goal

pub header_of-h-requires : goal.header_of-h-requires
header_of-h-requires c = seven _ (at_got _ _ (sym c.header.ensures ∙ c.in_ok-header.was)).1

pub fits-requires : goal.fits-requires
fits-requires c = _

pub effects_with-requires : goal.effects_with-requires
effects_with-requires c =
    let begun : HeaderRead c.args.numbers.now c.header_of-h.result = record { end = c.in_ok-header.field-0; read = sym c.header.ensures ∙ c.in_ok-header.was; is = c.header_of-h.ensures } in
    record { header_read = begun; room = (omega (arith, start_mono c.header_of-h.result 6 10 (omega arith), fits_all c.header_of-h.result Small (c.fits.ensures c.if-fits.true)), omega arith) }

pub returns-then-fits : goal.returns-then-fits
returns-then-fits c = c.effects_with.ensures

pub apart-requires : goal.apart-requires
apart-requires c = _

pub effects_larger-requires : goal.effects_larger-requires
effects_larger-requires c =
    let begun : HeaderRead c.args.numbers.now c.header_of-h.result = record { end = c.in_ok-header.field-0; read = sym c.header.ensures ∙ c.in_ok-header.was; is = c.header_of-h.ensures } in
    begun

pub returns-in_err-header : goal.returns-in_err-header
returns-in_err-header c =
    let a = check_stop_header _ (sym c.header.ensures ∙ c.in_err-header.was) in rw (passed_on c.from_residual.result _ c.from_residual.ensures.1) ((refused_answer _ a _, refused_row _ a _))

pub returns : goal.returns
returns c = c.effects_larger.ensures
