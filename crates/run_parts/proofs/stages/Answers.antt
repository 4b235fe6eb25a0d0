use mathlib.Core.Path.{◌∙◌}
use Rattle.run_parts.proofs.Staging.{main_short, main-done, stage-short, stages-done, stages_of}
use Rattle.determine_side_effects.specs.graph_crate.Check.{graph_in}
use Rattle.determine_side_effects.proofs.refusal_crate.Exits.{passed_on}
use Rattle.run_parts.proofs.stages.Goals as goal

pub runtime_stage-requires : goal.runtime_stage-requires
unfolding graph_in
runtime_stage-requires c = record { prepared = c.requires.prepared; working = (c.main_part.ensures.working _ c.in_ok-x.was, (c.main_part.ensures.planned _ c.in_ok-x.was).long) }

pub returns-in_err-x : goal.returns-in_err-x
returns-in_err-x c = rw (passed_on c.from_residual.result _ c.from_residual.ensures.1) (main_short _ _ _ _ _ _ _ c.main_part.ensures _ c.in_err-x.was)

pub returns-in-Main : goal.returns-in-Main
returns-in-Main c = stages_of c.in-Main.is (main-done _ _ _ _ _ _ _ c.main_part.ensures c.in_ok-x.was)

pub returns-in_err-total-in-Whole : goal.returns-in_err-total-in-Whole
returns-in_err-total-in-Whole c = rw (passed_on c.from_residual-in_err-total-in-Whole.result _ c.from_residual-in_err-total-in-Whole.ensures.1) (stages_of c.in-Whole.is (stage-short _ _ _ _ _ _ _ c.main_part.ensures c.in_ok-x.was _ _ _ _ _ c.runtime_stage.ensures c.in_err-total-in-Whole.was))

pub returns-in_ok-total-in-Whole : goal.returns-in_ok-total-in-Whole
returns-in_ok-total-in-Whole c = stages_of c.in-Whole.is (stages-done _ _ _ _ _ _ _ c.main_part.ensures c.in_ok-x.was _ _ _ _ _ c.runtime_stage.ensures c.in_ok-total-in-Whole.was)
