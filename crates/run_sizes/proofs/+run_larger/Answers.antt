-- Tables, partners and a plan of each size are long enough for the graphs that fit it.
use native.Mathlib.Omega.{arith}
use Rattle.graph.specs.tables_crate.declared.Size.TheVariants.{Middle, Large, Largest}
use Rattle.graph.proofs.tables_crate.Sections.{fits_all}
use Rattle.graph.proofs.Checking.{bounded}
use Rattle.run_parts.proofs.Tiers.{room_of}
use Rattle.run_sizes.proofs.+run_larger.Goals as goal

pub run_with-requires : goal.run_with-requires
run_with-requires t c =
    let f = c.fits.ensures c.if-fits.true in
    let r = room_of c.args.h 128 1024 1408 640 (omega arith) (omega arith) f.0 f.1 f.2 f.3 in
    record { header_read = c.requires; room = (fits_all c.args.h Middle f, omega arith, r.0, omega arith, r.1, r.2, omega arith) }

pub run_with-requires-then-fits-2 : goal.run_with-requires-then-fits-2
run_with-requires-then-fits-2 t c =
    let f = c.fits-2.ensures c.if-fits-2.true in
    let r = room_of c.args.h 1024 4096 7168 5120 (omega arith) (omega arith) f.0 f.1 f.2 f.3 in
    record { header_read = c.requires; room = (fits_all c.args.h Large f, omega arith, r.0, omega arith, r.1, r.2, omega arith) }

pub run_with-requires-2 : goal.run_with-requires-2
run_with-requires-2 t c =
    let f = bounded _ _ c.requires in
    let r = room_of c.args.h 1024 16384 19456 5120 (omega arith) (omega arith) f.0 f.1 f.2 f.3 in
    record { header_read = c.requires; room = (fits_all c.args.h Largest f, omega arith, r.0, omega arith, r.1, r.2, omega arith) }
