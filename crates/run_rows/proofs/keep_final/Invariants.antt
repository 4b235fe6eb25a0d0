use Rattle.determine_side_effects.specs.graph_crate.Check.{graph_in}
use Rattle.run_rows.proofs.Keeping.{Keeping}
use Rattle.run_rows.proofs.keep_final.Given as goal

abbrev pub invariant-loop-i : goal.invariant-loop-i
invariant-loop-i l = Keeping (graph_in l.numbers) l.splits l.users l.initial.plan l.plan l.n l.i
