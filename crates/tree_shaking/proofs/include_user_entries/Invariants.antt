use Rattle.tree_shaking.proofs.Users.{Including}
use Rattle.determine_side_effects.specs.graph_crate.Check.{graph_in}
use Rattle.tree_shaking.proofs.include_user_entries.Given as goal

abbrev pub invariant-loop-i : goal.invariant-loop-i
invariant-loop-i l = Including (graph_in l.numbers) l.i l.partners l.marks l.lines l.total
