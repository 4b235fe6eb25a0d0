use Rattle.include_module.proofs.Following.{eval_is}
use native.Mathlib.Omega.{arith}
use Rattle.determine_side_effects.specs.graph_crate.Check.{graph_in}
use Rattle.keep_rules.proofs.Picks.{gives_good}
use Rattle.include_module.proofs.eval_candidate.Goals as goal

pub returns : goal.returns
unfolding graph_in
returns c = (eval_is _ _ _ _ c.named_import-s.ensures.0, gives_good (c.named_import-s.ensures.1, omega arith, omega arith))
