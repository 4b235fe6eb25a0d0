use Rattle.determine_side_effects.specs.graph_tables_crate.Tables.{header_in}
use Rattle.determine_side_effects.specs.graph_crate.Check.{graph_in}
use Rattle.entry_order.specs.Plan.{dead_in}
use Rattle.dead_records.proofs.DeadBits.{Showing}
use Rattle.dead_records.proofs.show_found_dead.Given as goal

abbrev pub invariant-loop-e : goal.invariant-loop-e
invariant-loop-e l = Showing (graph_in l.numbers) (dead_in (header_in l.numbers) l.plan) l.initial.bits l.bits l.e
