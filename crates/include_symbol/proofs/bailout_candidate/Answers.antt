use Rattle.include_symbol.proofs.Bailouts.{bailout_none, bailout_some}
use native.Mathlib.Omega.{arith}
use Rattle.determine_side_effects.specs.graph_crate.Check.{graph_in}
use Rattle.keep_rules.proofs.Picks.{gives_good, nothing_good}
use Rattle.include_symbol.proofs.bailout_candidate.Goals as goal

pub returns-then-n-eq0 : goal.returns-then-n-eq0
returns-then-n-eq0 c = (bailout_none _ c.if-n-eq0.true, nothing_good)

pub returns : goal.returns
unfolding graph_in
returns c = (bailout_some _ c.if-n-eq0.false, gives_good (omega (arith, c.if-n-eq0.false, c.requires)))
