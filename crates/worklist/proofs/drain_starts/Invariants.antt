use Rattle.worklist.proofs.Draining.{Starting}
use Rattle.worklist.specs.Drain.{drain_of}
use Rattle.starts.specs.Starts.{starts_of}
use Rattle.determine_side_effects.specs.Effects.{last_verdicts}
use Rattle.determine_side_effects.specs.graph_crate.Check.{graph_in}
use Rattle.worklist.proofs.drain_starts.Given as goal

abbrev pub invariant-loop-i : goal.invariant-loop-i
invariant-loop-i l = Starting (graph_in l.numbers) (last_verdicts (graph_in l.numbers)) 0 (drain_of (graph_in l.numbers) (last_verdicts (graph_in l.numbers)) (starts_of l.starts)) (starts_of l.starts) l.partners l.marks l.lines l.total l.i
