-- the header that was read
use mathlib.Core.Path.{◌∙◌, sym}
use native.Mathlib.Omega.{arith}
use Rattle.facts.specs.tables_crate.declared.Size.TheVariants.{Small}
use Rattle.facts.proofs.tables_crate.Sections.{fits_all}
use Rattle.facts.proofs.rows_crate.Walks.{at_got}
use Rattle.facts.specs.graph_crate.Check.{HeaderRead}
use Rattle.facts.proofs.graph_crate.Checking.{seven, check_stop_header}
use Rattle.run_starts.proofs.Tiers.{room_of}
use Rattle.run_starts.proofs.Ending.{ends_before, outcome_refused}
use Rattle.facts.proofs.refusal_crate.Exits.{passed_on}
use Rattle.run_starts.proofs.starts.Goals as goal

pub header_of-h-requires : goal.header_of-h-requires
header_of-h-requires c = seven _ (at_got _ _ (sym c.header.ensures ∙ c.in_ok-header.was)).1

pub starts_with-requires : goal.starts_with-requires
starts_with-requires c =
    let begun : HeaderRead c.args.numbers.now c.header_of-h.result = record { end = c.in_ok-header.field-0; read = sym c.header.ensures ∙ c.in_ok-header.was; is = c.header_of-h.ensures } in
    let f = c.fits.ensures c.if-fits.true in
    let r = room_of c.header_of-h.result 16 64 112 80 516 (omega arith) (omega arith) (omega arith) f.0 f.1 f.2 f.3 in
    record { header_read = begun; room = (fits_all c.header_of-h.result Small f, omega arith, r.0, omega arith, r.1, omega arith, r.2, omega arith) }

pub starts_larger-requires : goal.starts_larger-requires
starts_larger-requires c = record { end = c.in_ok-header.field-0; read = sym c.header.ensures ∙ c.in_ok-header.was; is = c.header_of-h.ensures }

pub returns-in_err-header : goal.returns-in_err-header
returns-in_err-header c = rw (passed_on c.from_residual.result _ c.from_residual.ensures.1) (ends_before _ _ _ (outcome_refused _ _ (check_stop_header _ (sym c.header.ensures ∙ c.in_err-header.was))))
