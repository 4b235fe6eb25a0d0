use Rattle.include_module.proofs.Following.{dev_kept, dev_left}
use Rattle.determine_side_effects.proofs.graph_access_crate.Indexes.{statements_of_normal}
use mathlib.Core.Path.{◌∙◌, sym}
use Rattle.determine_side_effects.specs.graph_crate.Check.{graph_in}
use Rattle.keep_rules.proofs.Picks.{gives_good, nothing_good}
use Rattle.include_module.proofs.dev_candidate.Goals as goal

pub returns-then-dev_namespace : goal.returns-then-dev_namespace
unfolding graph_in
returns-then-dev_namespace c = (dev_kept _ _ _ (sym c.dev_namespace.ensures ∙ c.if-dev_namespace.true), gives_good (c.requires.m_bound, statements_of_normal c.requires.prepared.loaded c.args.m.0 c.requires.m_bound c.requires.m_value))

pub returns : goal.returns
returns c = (dev_left _ _ _ (sym c.dev_namespace.ensures ∙ c.if-dev_namespace.false), nothing_good)
