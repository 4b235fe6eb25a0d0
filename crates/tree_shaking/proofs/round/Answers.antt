use mathlib.Core.Path.{◌∙◌}
use Rattle.tree_shaking.proofs.Turning.{round_is, round_full}
use Rattle.tree_shaking.proofs.Trying.{progressed_same}
use Rattle.entry_starts.proofs.Together.{working_after}
use Rattle.determine_side_effects.specs.graph_crate.Check.{graph_in}
use Rattle.determine_side_effects.proofs.refusal_crate.Exits.{passed_on}
use Rattle.tree_shaking.proofs.round.Goals as goal

pub try_dynamic_entries-requires : goal.try_dynamic_entries-requires
try_dynamic_entries-requires c = record { prepared = c.requires.prepared; working = (working_after _ _ _ _ _ _ _ _ (rw c.in_ok-n.was at c.include_cjs_bailout_exports.ensures), c.requires.working.1) }

pub returns-in_err-n : goal.returns-in_err-n
unfolding graph_in
returns-in_err-n c = rw (passed_on c.from_residual.result _ c.from_residual.ensures.1) (round_full _ _ _ _ _ _ _ _ _ _ (rw c.in_err-n.was at c.include_cjs_bailout_exports.ensures))

pub returns : goal.returns
unfolding graph_in
returns c = progressed_same _ _ _ _ (round_is _ c.args.users _ _ _ _ _ _ _ _ (rw c.in_ok-n.was at c.include_cjs_bailout_exports.ensures)) _ _ _ _ _ c.try_dynamic_entries.ensures
