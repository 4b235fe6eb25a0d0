use Rattle.include_symbol.proofs.OfTarget.{wrapper_there, wrapper_rest, wrapper_at, wrapper_first, wrapper_next}
use Prim.Native.Nat.{◌<◌}
use native.Mathlib.Omega.{arith}
use Rattle.determine_side_effects.specs.graph_crate.Check.{graph_in}
use Rattle.keep_rules.proofs.Picks.{gives_good}
use Rattle.include_symbol.proofs.wrapper_candidate.Goals as goal

pub overflow_sub-result : goal.overflow_sub-result
overflow_sub-result c =
    let its : 0 < c.wrapper-wrapper.result = wrapper_there _ _ _ _ _ _ _ c.requires.s_bound.1 c.target_of-t.ensures.0 c.owner-o.ensures.0 c.wrapper-wrapper.ensures.0 in
    its

pub returns-then-k-eq0 : goal.returns-then-k-eq0
unfolding graph_in
returns-then-k-eq0 c =
    let its : 0 < c.wrapper-wrapper.result = wrapper_there _ _ _ _ _ _ _ c.requires.s_bound.1 c.target_of-t.ensures.0 c.owner-o.ensures.0 c.wrapper-wrapper.ensures.0 in
    (wrapper_at _ _ _ _ _ c.target_of-t.ensures.0 (wrapper_first _ _ _ _ _ _ c.if-k-eq0.true c.owner-o.ensures.0 c.wrapper-wrapper.ensures.0), gives_good (omega (arith, its, c.wrapper-wrapper.ensures.1), omega arith, omega arith))

pub forward_candidate-requires : goal.forward_candidate-requires
forward_candidate-requires c = record { prepared = c.requires.prepared; s_bound = (c.requires.s_bound.0, wrapper_rest _ _ _ _ c.requires.s_bound.1 c.if-k-eq0.false) }

pub returns : goal.returns
returns c = (wrapper_next _ _ _ _ c.if-k-eq0.false c.forward_candidate.ensures.0, c.forward_candidate.ensures.1)
