use Rattle.determine_side_effects.specs.graph_crate.Check.{graph_in}
use Rattle.dynamic_entries.proofs.Completing.{Completes}
use Rattle.dynamic_entries.proofs.take_by_completion.Given as goal

abbrev pub invariant-loop-k : goal.invariant-loop-k
invariant-loop-k l = Completes (graph_in l.numbers) l.n l.order l.initial.list l.found l.k l.total l.list
