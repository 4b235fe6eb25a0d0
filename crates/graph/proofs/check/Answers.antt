-- the header that was read
use mathlib.Core.Path.{◌∙◌, sym}
use native.Mathlib.Omega.{arith}
use Rattle.graph_entries.specs.tables_crate.declared.Size.TheVariants.{Small}
use Rattle.graph_entries.proofs.tables_crate.Sections.{fits_places}
use Rattle.graph_entries.proofs.rows_crate.Walks.{at_got}
use Rattle.graph.specs.Check.{HeaderRead}
use Rattle.graph.proofs.Checking.{seven, check_stop_header}
use Rattle.graph_entries.proofs.refusal_crate.Exits.{passed_on}
use Rattle.graph.proofs.check.Goals as goal

pub header_of-h-requires : goal.header_of-h-requires
header_of-h-requires c = seven _ (at_got _ _ (sym c.header.ensures ∙ c.in_ok-header.was)).1

pub fits-requires : goal.fits-requires
fits-requires c = _

pub check_with-requires : goal.check_with-requires
check_with-requires c =
    let begun : HeaderRead c.args.numbers.now c.header_of-h.result = record { end = c.in_ok-header.field-0; read = sym c.header.ensures ∙ c.in_ok-header.was; is = c.header_of-h.ensures } in
    record { header_read = begun; room = (fits_places c.header_of-h.result Small (c.fits.ensures c.if-fits.true), omega arith) }

pub returns-then-fits : goal.returns-then-fits
returns-then-fits c = c.check_with.ensures

pub apart-requires : goal.apart-requires
apart-requires c = _

pub check_larger-requires : goal.check_larger-requires
check_larger-requires c =
    let begun : HeaderRead c.args.numbers.now c.header_of-h.result = record { end = c.in_ok-header.field-0; read = sym c.header.ensures ∙ c.in_ok-header.was; is = c.header_of-h.ensures } in
    begun

pub returns-in_err-header : goal.returns-in_err-header
returns-in_err-header c = rw (passed_on c.from_residual.result _ c.from_residual.ensures.1) (sym (check_stop_header _ (sym c.header.ensures ∙ c.in_err-header.was)))

pub returns : goal.returns
returns c = c.check_larger.ensures
