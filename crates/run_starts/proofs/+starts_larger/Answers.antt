-- Tables, partners, a plan and marks of each size are long enough for the graphs that fit it.
use native.Mathlib.Omega.{arith}
use Rattle.facts.specs.tables_crate.declared.Size.TheVariants.{Middle, Large, Largest}
use Rattle.facts.proofs.tables_crate.Sections.{fits_all}
use Rattle.facts.proofs.graph_crate.Checking.{bounded}
use Rattle.run_starts.proofs.Tiers.{room_of}
use Rattle.run_starts.proofs.+starts_larger.Goals as goal

pub starts_with-requires : goal.starts_with-requires
starts_with-requires t c =
    let f = c.fits.ensures c.if-fits.true in
    let r = room_of c.args.h 128 1024 1408 640 8224 (omega arith) (omega arith) (omega arith) f.0 f.1 f.2 f.3 in
    record { header_read = c.requires; room = (fits_all c.args.h Middle f, omega arith, r.0, omega arith, r.1, omega arith, r.2, omega arith) }

pub starts_with-requires-then-fits-2 : goal.starts_with-requires-then-fits-2
starts_with-requires-then-fits-2 t c =
    let f = c.fits-2.ensures c.if-fits-2.true in
    let r = room_of c.args.h 1024 4096 7168 5120 33024 (omega arith) (omega arith) (omega arith) f.0 f.1 f.2 f.3 in
    record { header_read = c.requires; room = (fits_all c.args.h Large f, omega arith, r.0, omega arith, r.1, omega arith, r.2, omega arith) }

pub starts_with-requires-2 : goal.starts_with-requires-2
starts_with-requires-2 t c =
    let f = bounded _ _ c.requires in
    let r = room_of c.args.h 1024 16384 19456 5120 131328 (omega arith) (omega arith) (omega arith) f.0 f.1 f.2 f.3 in
    record { header_read = c.requires; room = (fits_all c.args.h Largest f, omega arith, r.0, omega arith, r.1, omega arith, r.2, omega arith) }
