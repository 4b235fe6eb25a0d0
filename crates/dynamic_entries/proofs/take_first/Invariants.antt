use Rattle.determine_side_effects.specs.graph_crate.Check.{graph_in}
use Rattle.dynamic_entries.proofs.Firsts.{Firsts}
use Rattle.dynamic_entries.proofs.take_first.Given as goal

abbrev pub invariant-loop-i : goal.invariant-loop-i
invariant-loop-i l = Firsts (graph_in l.numbers) l.plan l.initial.list l.i l.n l.list
