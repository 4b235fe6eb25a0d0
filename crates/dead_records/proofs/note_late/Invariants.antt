use Rattle.determine_side_effects.specs.graph_crate.Check.{graph_in}
use Rattle.dead_records.proofs.Late.{Noting}
use Rattle.dead_records.proofs.note_late.Given as goal

abbrev pub invariant-loop-k : goal.invariant-loop-k
invariant-loop-k l = Noting (graph_in l.numbers) l.lines l.from l.to l.initial.scratch l.scratch l.k
