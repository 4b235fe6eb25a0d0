use Rattle.entry_starts.proofs.Declaring.{declared_from}
use Rattle.entry_starts.proofs.Together.{Along}
use Rattle.entry_starts.specs.Starts.{declared}
use Rattle.determine_side_effects.specs.Effects.{last_verdicts}
use Rattle.worklist.specs.Drain.{drained_all}
use Rattle.keep_record.specs.Held.{lines_of}
use Rattle.determine_side_effects.specs.graph_crate.Check.{graph_in}
use Rattle.entry_starts.proofs.include_declaring_statements.Given as goal

abbrev pub invariant-loop-i : goal.invariant-loop-i
invariant-loop-i l = Along (graph_in l.numbers) 0 (drained_all (graph_in l.numbers) (last_verdicts (graph_in l.numbers)) 0 (declared (graph_in l.numbers) l.s.0) (lines_of l.initial.total l.initial.lines)) (declared_from (graph_in l.numbers) l.s.0 l.i) l.partners l.marks l.lines l.total
