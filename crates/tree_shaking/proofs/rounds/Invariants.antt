use Rattle.tree_shaking.proofs.Turning.{Turning}
use Rattle.tree_shaking.specs.Rounds.{goes_on, rounds_from}
use Rattle.dynamic_entries.specs.Tries.{progress_in}
use Rattle.keep_record.specs.Held.{lines_of}
use Rattle.determine_side_effects.specs.Effects.{last_verdicts}
use Rattle.determine_side_effects.specs.graph_tables_crate.Tables.{header_in}
use Rattle.determine_side_effects.specs.graph_crate.Check.{graph_in}
use Prim.Native.Nat.{◌+◌, ◌*◌, ◌-◌}
use Rattle.tree_shaking.proofs.rounds.Given as goal

abbrev pub invariant-loop-made : goal.invariant-loop-made
invariant-loop-made l = Turning (graph_in l.numbers) l.users (rounds_from (graph_in l.numbers) (last_verdicts (graph_in l.numbers)) (goes_on (graph_in l.numbers)) (2 * (header_in l.numbers).modules + 1) 0 0 (progress_in (header_in l.numbers) (lines_of l.initial.total l.initial.lines) l.initial.plan)) l.partners l.marks l.lines l.plan l.total l.taken l.made

abbrev pub decreases-loop-made : goal.decreases-loop-made
decreases-loop-made l = 2 * (header_in l.numbers).modules + 1 - l.made
