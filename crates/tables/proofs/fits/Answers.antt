use Rattle.tables.proofs.fits.Goals as goal

pub holds-requires : goal.holds-requires
holds-requires c = _

pub holds-requires-in-Middle : goal.holds-requires-in-Middle
holds-requires-in-Middle c = _

pub holds-requires-in-Large : goal.holds-requires-in-Large
holds-requires-in-Large c = _

pub holds-requires-in-Largest : goal.holds-requires-in-Largest
holds-requires-in-Largest c = _

pub returns-in-Small : goal.returns-in-Small
returns-in-Small c = rw c.in-Small.is c.holds.ensures

pub returns-in-Middle : goal.returns-in-Middle
returns-in-Middle c = rw c.in-Middle.is c.holds-in-Middle.ensures

pub returns-in-Large : goal.returns-in-Large
returns-in-Large c = rw c.in-Large.is c.holds-in-Large.ensures

pub returns-in-Largest : goal.returns-in-Largest
returns-in-Largest c = rw c.in-Largest.is c.holds-in-Largest.ensures
