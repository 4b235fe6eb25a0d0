use Rattle.include_module.proofs.Sweeping.{swept_kept, swept_left}
use mathlib.Core.Path.{◌∙◌, sym}
use Rattle.determine_side_effects.specs.graph_crate.Check.{graph_in}
use Rattle.keep_rules.proofs.Picks.{gives_good, nothing_good}
use Rattle.include_module.proofs.sweep_candidate.Goals as goal

pub returns-then-swept : goal.returns-then-swept
unfolding graph_in
returns-then-swept c = (swept_kept _ _ _ _ (sym c.swept.ensures ∙ c.if-swept.true), gives_good c.requires.m_bound)

pub returns : goal.returns
returns c = (swept_left _ _ _ _ (sym c.swept.ensures ∙ c.if-swept.false), nothing_good)
