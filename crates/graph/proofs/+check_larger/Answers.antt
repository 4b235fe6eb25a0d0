-- graph/proofs/+check_larger/Answers.antt
-- The tables of each size are long enough for the graphs that fit it.
use native.Mathlib.Omega.{arith}
use Rattle.graph_entries.specs.tables_crate.declared.Size.TheVariants.{Middle, Large, Largest}
use Rattle.graph_entries.proofs.tables_crate.Sections.{fits_places}
use Rattle.graph.proofs.Checking.{bounded}
use Rattle.graph.proofs.+check_larger.Goals as goal

pub check_with-requires : goal.check_with-requires
check_with-requires t c = record { header_read = c.requires; room = (fits_places c.args.h Middle (c.fits.ensures c.if-fits.true), omega arith) }

pub check_with-requires-then-fits-2 : goal.check_with-requires-then-fits-2
check_with-requires-then-fits-2 t c = record { header_read = c.requires; room = (fits_places c.args.h Large (c.fits-2.ensures c.if-fits-2.true), omega arith) }

pub check_with-requires-2 : goal.check_with-requires-2
check_with-requires-2 t c = record { header_read = c.requires; room = (fits_places c.args.h Largest (bounded _ _ c.requires), omega arith) }
