use mathlib.Core.Path.{◌∙◌}
use Rattle.determine_side_effects.specs.graph_crate.Check.{graph_in}
use Rattle.run_parts.proofs.Working.{working_start, work_holds, work_short}
use Rattle.run_parts.proofs.work.Goals as goal

pub stages-requires : goal.stages-requires
unfolding graph_in
stages-requires c = record { prepared = c.requires.prepared; working = working_start _ c.args.marks.now c.args.lines.now _ _ _ c.requires.numbers_in_bounds.0 c.requires.numbers_in_bounds.1 c.requires.numbers_in_bounds.2 c.clear.ensures.0 c.clear.ensures.1; numbers_in_bounds = c.requires.numbers_in_bounds_2 }

pub returns-in-Err : goal.returns-in-Err
returns-in-Err c = work_short _ _ _ _ _ _ _ _ c.stages.ensures _ _ c.in-Err.is (c.stages.auto.marks ∙ c.clear.auto.marks) (c.stages.auto.lines ∙ c.clear.auto.lines) c.clear-in-Err.ensures.0 c.clear-in-Err.ensures.1

pub returns-in-Ok : goal.returns-in-Ok
returns-in-Ok c = work_holds _ _ _ _ _ _ _ _ c.stages.ensures c.in-Ok.is
