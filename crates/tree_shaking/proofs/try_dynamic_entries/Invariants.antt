use Rattle.tree_shaking.proofs.Trying.{Trying, left_at}
use Rattle.determine_side_effects.specs.graph_tables_crate.Tables.{header_in}
use Rattle.determine_side_effects.specs.graph_crate.Check.{graph_in}
use Prim.Native.Nat.{◌-◌}
use Rattle.tree_shaking.proofs.try_dynamic_entries.Given as goal

abbrev pub invariant-loop-i : goal.invariant-loop-i
invariant-loop-i l = Trying (graph_in l.numbers) l.users (left_at (graph_in l.numbers) l.initial.i l.initial.lines l.initial.plan l.initial.total) l.partners l.marks l.lines l.plan l.total l.i

abbrev pub decreases-loop-i : goal.decreases-loop-i
decreases-loop-i l = (header_in l.numbers).entries - l.i
