-- The tables and the marks of each size are long enough for the graphs that fit it.
use native.Mathlib.Omega.{arith}
use Rattle.graph.specs.tables_crate.declared.Size.TheVariants.{Middle, Large, Largest}
use Rattle.graph.proofs.tables_crate.Sections.{fits_all}
use Rattle.graph.proofs.Checking.{bounded}
use Rattle.judge.proofs.+judge_larger.Goals as goal

pub judge_with-requires : goal.judge_with-requires
judge_with-requires t c = let f = c.fits.ensures c.if-fits.true in record { header_read = c.requires; room = (fits_all c.args.h Middle f, omega arith, omega (arith, f), omega arith) }

pub judge_with-requires-then-fits-2 : goal.judge_with-requires-then-fits-2
judge_with-requires-then-fits-2 t c = let f = c.fits-2.ensures c.if-fits-2.true in record { header_read = c.requires; room = (fits_all c.args.h Large f, omega arith, omega (arith, f), omega arith) }

pub judge_with-requires-2 : goal.judge_with-requires-2
judge_with-requires-2 t c = let f = bounded _ _ c.requires in record { header_read = c.requires; room = (fits_all c.args.h Largest f, omega arith, omega (arith, f), omega arith) }
