-- the header that was read
use mathlib.Core.Path.{◌∙◌, sym}
use native.Mathlib.Omega.{arith}
use Rattle.graph.specs.tables_crate.declared.Size.TheVariants.{Small}
use Rattle.graph.proofs.tables_crate.Sections.{fits_all}
use Rattle.graph.proofs.rows_crate.Walks.{at_got}
use Rattle.graph.specs.Check.{HeaderRead}
use Rattle.graph.proofs.Checking.{seven, check_stop_header}
use Rattle.drain_parts.proofs.Ending.{ends_before, outcome_refused}
use Rattle.graph.proofs.refusal_crate.Exits.{passed_on}
use Rattle.drain.proofs.drain.Goals as goal

pub header_of-h-requires : goal.header_of-h-requires
header_of-h-requires c = seven _ (at_got _ _ (sym c.header.ensures ∙ c.in_ok-header.was)).1

pub drain_with-requires : goal.drain_with-requires
drain_with-requires c =
    let begun : HeaderRead c.args.numbers.now c.header_of-h.result = record { end = c.in_ok-header.field-0; read = sym c.header.ensures ∙ c.in_ok-header.was; is = c.header_of-h.ensures } in
    let f = c.fits.ensures c.if-fits.true in
    record { header_read = begun; room = (fits_all c.header_of-h.result Small f, omega arith, omega (arith, f), omega arith) }

pub drain_larger-requires : goal.drain_larger-requires
drain_larger-requires c = record { end = c.in_ok-header.field-0; read = sym c.header.ensures ∙ c.in_ok-header.was; is = c.header_of-h.ensures }

pub returns-in_err-header : goal.returns-in_err-header
returns-in_err-header c = rw (passed_on c.from_residual.result _ c.from_residual.ensures.1) (ends_before _ _ _ (outcome_refused _ _ _ (check_stop_header _ (sym c.header.ensures ∙ c.in_err-header.was))))
