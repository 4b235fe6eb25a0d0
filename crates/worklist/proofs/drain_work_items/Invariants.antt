use Rattle.worklist.proofs.Draining.{Draining}
use Rattle.worklist.specs.Drain.{drained}
use Rattle.keep_record.specs.Held.{lines_of}
use Rattle.determine_side_effects.specs.facts_crate.Facts.{mark_count}
use Rattle.determine_side_effects.specs.Effects.{last_verdicts}
use Rattle.determine_side_effects.specs.graph_crate.Check.{graph_in}
use Prim.Native.Nat.{◌+◌, ◌-◌}
use Rattle.worklist.proofs.drain_work_items.Given as goal

abbrev pub invariant-loop-at : goal.invariant-loop-at
invariant-loop-at l = Draining (graph_in l.numbers) (last_verdicts (graph_in l.numbers)) l.base (drained (graph_in l.numbers) (last_verdicts (graph_in l.numbers)) l.base (mark_count (graph_in l.numbers)) l.k (lines_of l.initial.total l.initial.lines)) l.k l.partners l.marks l.lines l.total l.at

abbrev pub decreases-loop-at : goal.decreases-loop-at
decreases-loop-at l = l.base + mark_count (graph_in l.numbers) - l.at
