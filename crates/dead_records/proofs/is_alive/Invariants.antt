use Rattle.determine_side_effects.specs.graph_crate.Check.{graph_in}
use Rattle.determine_side_effects.specs.Effects.{last_verdicts}
use Rattle.entry_liveness.proofs.Related.{Searching}
use Rattle.dead_records.specs.Parts.{kept_before}
use Rattle.dead_records.proofs.is_alive.Given as goal

abbrev pub invariant-loop-k : goal.invariant-loop-k
invariant-loop-k l = Searching (graph_in l.numbers) (last_verdicts (graph_in l.numbers)) (kept_before (graph_in l.numbers) l.marks l.scratch) l.e.0 l.k
