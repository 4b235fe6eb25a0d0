-- determine_side_effects/proofs/+effects_larger/Answers.antt
-- The tables of each size are long enough for the graphs that fit it.
use native.Mathlib.Omega.{arith}
use Rattle.facts.specs.tables_crate.declared.Size.TheVariants.{Middle, Large, Largest}
use Rattle.facts.proofs.tables_crate.Sections.{start_mono, fits_all}
use Rattle.facts.proofs.graph_crate.Checking.{bounded}
use Rattle.determine_side_effects.proofs.+effects_larger.Goals as goal

pub effects_with-requires : goal.effects_with-requires
effects_with-requires t c =
    record { header_read = c.requires; room = (omega (arith, start_mono c.args.h 6 10 (omega arith), fits_all c.args.h Middle (c.fits.ensures c.if-fits.true)), omega arith) }

pub effects_with-requires-then-fits-2 : goal.effects_with-requires-then-fits-2
effects_with-requires-then-fits-2 t c =
    record { header_read = c.requires; room = (omega (arith, start_mono c.args.h 6 10 (omega arith), fits_all c.args.h Large (c.fits-2.ensures c.if-fits-2.true)), omega arith) }

pub effects_with-requires-2 : goal.effects_with-requires-2
effects_with-requires-2 t c =
    record { header_read = c.requires; room = (omega (arith, start_mono c.args.h 6 10 (omega arith), fits_all c.args.h Largest (bounded _ _ c.requires)), omega arith) }
