use Rattle.determine_side_effects.specs.graph_crate.Check.{graph_in}
use Rattle.determine_side_effects.specs.graph_access_crate.Names.{related}
use Rattle.determine_side_effects.specs.graph_access_crate.Words.{entry_of}
use Rattle.determine_side_effects.specs.Effects.{last_verdicts}
use Rattle.dead_records.proofs.DeadBits.{Marking}
use Rattle.dead_records.proofs.show_dead_of.Given as goal

abbrev pub invariant-loop-k : goal.invariant-loop-k
invariant-loop-k l = Marking (graph_in l.numbers) (last_verdicts (graph_in l.numbers)) (related (entry_of (graph_in l.numbers) l.e.0)) l.initial.bits l.bits l.k
