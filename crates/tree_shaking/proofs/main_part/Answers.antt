use mathlib.Core.Path.{◌∙◌}
use Rattle.tree_shaking.proofs.Turning.{main_is, main_full, main_ended}
use Rattle.entry_starts.proofs.Together.{working_after}
use Rattle.determine_side_effects.specs.graph_crate.Check.{graph_in}
use Rattle.determine_side_effects.proofs.refusal_crate.Exits.{passed_on}
use Rattle.tree_shaking.proofs.main_part.Goals as goal

pub rounds-requires : goal.rounds-requires
rounds-requires c = record { prepared = c.requires.prepared; working = (working_after _ _ _ _ _ _ _ _ (rw c.in_ok-n.was at c.include_user_entries.ensures), c.requires.working.1) }

pub returns-in_err-n : goal.returns-in_err-n
unfolding graph_in
returns-in_err-n c = rw (passed_on c.from_residual.result _ c.from_residual.ensures.1) (main_full _ _ _ _ _ c.args.plan.now _ (rw c.in_err-n.was at c.include_user_entries.ensures))

pub returns : goal.returns
unfolding graph_in
returns c = main_ended _ _ _ _ (main_is _ c.args.users _ _ _ _ _ c.requires.working.2 (rw c.in_ok-n.was at c.include_user_entries.ensures)) _ _ _ _ _ c.rounds.ensures
