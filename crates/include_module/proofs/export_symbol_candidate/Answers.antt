use Rattle.include_module.proofs.Following.{export_is}
use native.Mathlib.Omega.{arith}
use Rattle.determine_side_effects.specs.graph_crate.Check.{graph_in}
use Rattle.keep_rules.proofs.Picks.{gives_good}
use Rattle.include_module.proofs.export_symbol_candidate.Goals as goal

pub returns : goal.returns
unfolding graph_in
returns c = (export_is _ _ _ _ c.export_symbol-s.ensures.0, gives_good (c.export_symbol-s.ensures.1, omega arith, omega arith))
