use Rattle.include_symbol.proofs.OfTarget.{writes_one, write_in, of_owner}
use Rattle.determine_side_effects.specs.graph_crate.Check.{graph_in}
use Rattle.keep_rules.proofs.Picks.{gives_good}
use Rattle.include_symbol.proofs.write_candidate.Goals as goal

pub written-i-requires : goal.written-i-requires
written-i-requires c = record { loaded = c.requires.prepared.loaded; s_bound = (c.requires.s_bound.0, write_in _ _ _ c.requires.s_bound.1) }

pub returns : goal.returns
unfolding graph_in
returns c = (writes_one _ _ _ c.owner-o.ensures.0 _ _ c.written-i.ensures.0, gives_good (c.owner-o.ensures.1, of_owner _ _ _ _ c.owner-o.ensures.0 c.written-i.ensures.1))
