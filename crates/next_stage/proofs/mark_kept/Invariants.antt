use Rattle.facts.specs.graph_crate.Check.{graph_in}
use Rattle.next_stage.proofs.Staying.{Marking}
use Rattle.next_stage.proofs.mark_kept.Given as goal

abbrev pub invariant-loop-k : goal.invariant-loop-k
invariant-loop-k l = Marking (graph_in l.numbers) l.lines l.count l.initial.marks l.marks l.k
