use Prim.Native.Nat.{ℕ, ◌<◌}
use mathlib.Core.Path.{◌≡◌}
use lib.ListN.{get_or, drop}
use Rattle.determine_side_effects.specs.tables_crate.Layout.{start_of, Kept, on_demand_in, at_on_demand}
use Rattle.determine_side_effects.specs.graph_tables_crate.Tables.{header_in}
use Rattle.determine_side_effects.specs.graph_crate.Check.{graph_in}
use Rattle.determine_side_effects.proofs.facts_crate.Folds.{by_some}
use Rattle.on_demand.specs.Demand.{user_entry}
use Rattle.on_demand.specs.Tabled.{one}
use Rattle.on_demand.proofs.Entering.{marks}
use Rattle.on_demand.proofs.mark_user_defined_entries.Given as goal

abbrev pub invariant-loop-e : goal.invariant-loop-e
invariant-loop-e l = record {
  kept : Kept (start_of (header_in l.numbers) at_on_demand) l.initial.tables l.tables;
  entries : (m : ℕ) → m < (header_in l.numbers).modules → by_some (marks m) 1 (drop l.e (graph_in l.numbers).entries) (get_or (on_demand_in l.tables) m 0) ≡ one (user_entry (graph_in l.numbers) m);
}
