-- the header that was read
use Prim.Native.Nat.{ℕ}
use mathlib.Core.Path.{ap, ◌∙◌, sym}
use native.Mathlib.Omega.{arith}
use lib.ListN.{length-replicate}
use Rattle.determine_side_effects.proofs.rows_crate.Walks.{at_got}
use Rattle.determine_side_effects.specs.tables_crate.declared.Size.TheVariants.{Largest}
use Rattle.determine_side_effects.proofs.tables_crate.Sections.{fits_places}
use Rattle.determine_side_effects.specs.graph_crate.Check.{HeaderRead}
use Rattle.determine_side_effects.proofs.graph_crate.Checking.{seven, bounded, check_stop_header}
use Rattle.answer_text.proofs.Outcomes.{text_rejected}
use Rattle.listing.specs.Listing.{refused_text}
use Rattle.answer_text.proofs.Texts.{told_as}
use Rattle.answer_text.proofs.checked.Goals as goal

pub header_of-h-requires : goal.header_of-h-requires
header_of-h-requires c = seven _ (at_got _ _ (sym c.header.ensures ∙ c.in-Ok.is)).1

pub load-requires : goal.load-requires
load-requires c =
    let begun : HeaderRead c.args.numbers.now c.header_of-h.result = record { end = c.in-Ok.field-0; read = sym c.header.ensures ∙ c.in-Ok.is; is = c.header_of-h.ensures } in record { header_read = begun; at_verdicts_in_bounds = rw (length-replicate {A = ℕ} 35851 0) (fits_places _ Largest (bounded _ _ begun), omega arith) }

pub ran-requires : goal.ran-requires
ran-requires c = c.load.ensures.1.known c.in-Ok-load.is

pub returns-in-Err : goal.returns-in-Err
returns-in-Err c = told_as _ _ (ap refused_text c.number.ensures ∙ text_rejected _ _ (check_stop_header _ (sym c.header.ensures ∙ c.in-Err.is))) c.refuse.ensures

pub returns-in-Err-load : goal.returns-in-Err-load
returns-in-Err-load c = told_as _ _ (ap refused_text c.number-in-Err-load.ensures ∙ text_rejected _ _ (sym c.load.ensures.0 ∙ c.in-Err-load.is)) c.refuse-in-Err-load.ensures
