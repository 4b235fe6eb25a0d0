use Rattle.tree_shaking.proofs.Stages.{stage_ends}
use Rattle.determine_side_effects.specs.graph_crate.Check.{graph_in}
use native.Mathlib.Omega.{arith}
use Rattle.tree_shaking.proofs.runtime_stage.Goals as goal

pub collect_depended_runtime_helpers-word-requires : goal.collect_depended_runtime_helpers-word-requires
unfolding graph_in
collect_depended_runtime_helpers-word-requires c = record { prepared = c.requires.prepared; numbers_bound = (c.requires.working.0.held.wide, omega (arith, c.requires.working.1, c.collect_helpers.auto.plan)); by_index = λ m h. (c.collect_helpers.ensures.by_index m h).0 }

pub returns : goal.returns
unfolding graph_in
returns c = stage_ends _ _ _ _ _ c.requires.working.0 _ _ c.collect_helpers.ensures.by_index c.collect_helpers.ensures.untouched _ c.collect_depended_runtime_helpers-word.ensures _ _ _ _ c.include_runtime_symbol.ensures
