use Rattle.keep_rules.proofs.Picks.{gives_good}
use Rattle.keep_rules.proofs.Forwards.{forward_first, forward_in, forward-next}
use Rattle.determine_side_effects.specs.graph_crate.Check.{graph_in}
use Rattle.keep_rules.proofs.forward_candidate.Goals as goal

pub returns-then-k-eq0 : goal.returns-then-k-eq0
unfolding graph_in
returns-then-k-eq0 c = (forward_first _ _ _ c.if-k-eq0.true, gives_good c.requires.s_bound.0)

pub export_chain-requires : goal.export_chain-requires
export_chain-requires c = record { loaded = c.requires.prepared.loaded; s_bound = (c.requires.s_bound.0, forward_in _ _ _ c.if-k-eq0.false c.requires.s_bound.1) }

pub returns : goal.returns
unfolding graph_in
returns c = (forward-next _ _ _ c.if-k-eq0.false c.export_chain.ensures.0, gives_good c.export_chain.ensures.1)
