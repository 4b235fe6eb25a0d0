use mathlib.Core.Path.{◌∙◌}
use Rattle.drain_parts.proofs.Working.{held_start, linked_none, work_holds, work_full}
use Rattle.determine_side_effects.specs.graph_crate.Check.{graph_in}
use Rattle.drain_parts.proofs.work.Goals as goal

pub drain_starts-requires : goal.drain_starts-requires
unfolding graph_in
drain_starts-requires c = record { prepared = c.requires.prepared; held = held_start _ c.args.marks.now c.args.lines.now _ _ c.requires.numbers_in_bounds.0 c.clear.ensures.0 c.clear.ensures.1; linked = linked_none _ _ c.requires.numbers_in_bounds.1 c.requires.numbers_in_bounds.2; starts_good = c.requires.starts_good }

pub returns-in-Err : goal.returns-in-Err
returns-in-Err c = work_full _ _ _ _ _ _ _ c.drain_starts.ensures _ _ c.in-Err.is (c.drain_starts.auto.marks ∙ c.clear.auto.marks) (c.drain_starts.auto.lines ∙ c.clear.auto.lines) c.clear-in-Err.ensures.0 c.clear-in-Err.ensures.1

pub returns-in-Ok : goal.returns-in-Ok
returns-in-Ok c = work_holds _ _ _ _ _ _ _ c.drain_starts.ensures _ c.in-Ok.is
