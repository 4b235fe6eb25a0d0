use Rattle.determine_side_effects.specs.graph_tables_crate.Tables.{header_in}
use Rattle.determine_side_effects.specs.graph_crate.Check.{graph_in}
use Rattle.entry_order.specs.Plan.{live_in}
use Rattle.dead_records.specs.Parts.{kept_before}
use Rattle.dead_records.proofs.Clearing.{Clearing}
use Rattle.dead_records.proofs.exempt.Given as goal

abbrev pub invariant-loop-e : goal.invariant-loop-e
invariant-loop-e l =
    Clearing (graph_in l.numbers) (kept_before (graph_in l.numbers) l.marks l.scratch) (live_in (header_in l.numbers) l.plan) l.initial.bits l.bits l.e
