use Rattle.justification.proofs.Searches.{crossing_start, crossing_on, crossing-found, crossing-end}
use native.Mathlib.Omega.{arith}
use Rattle.justification.proofs.seek_span.Goals as goal

pub loop-j-init : goal.loop-j-init
loop-j-init c = crossing_start _ _ _ _ c.requires.to_in_bounds.1

pub seek_segment-requires : goal.seek_segment-requires
seek_segment-requires c = record { prepared = c.requires.prepared; good = c.requires.good; j_in_bounds = (omega (arith, c.loop-j-test.true, c.requires.to_in_bounds.0), c.loop-j.invariant.placed) }

pub returns-in-Some : goal.returns-in-Some
returns-in-Some c = crossing-found _ _ _ _ _ _ _ c.loop-j.invariant _ _ _ c.seek_segment.ensures c.in-Some.is c.loop-j-test.true

pub place_behind-place-requires : goal.place_behind-place-requires
place_behind-place-requires c = record { prepared = c.requires.prepared; good = c.requires.good; j_in_bounds = (omega (arith, c.loop-j-test.true, c.requires.to_in_bounds.0), c.loop-j.invariant.placed) }

pub loop-j-preserved : goal.loop-j-preserved
loop-j-preserved c = crossing_on _ _ _ _ _ _ _ c.loop-j.invariant _ _ c.seek_segment.ensures c.in-None.is c.place_behind-place.ensures

pub returns : goal.returns
returns c = crossing-end _ _ _ _ _ _ _ c.loop-j.invariant _ c.loop-j-test.false
