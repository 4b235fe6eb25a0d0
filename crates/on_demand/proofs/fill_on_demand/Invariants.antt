use Prim.Native.Nat.{ℕ, ◌<◌}
use lib.ListN.{get_or}
use Rattle.determine_side_effects.specs.tables_crate.Layout.{start_of, Kept, on_demand_in, at_on_demand}
use Rattle.determine_side_effects.specs.graph_tables_crate.Tables.{header_in}
use Rattle.determine_side_effects.specs.graph_crate.Check.{graph_in}
use Rattle.determine_side_effects.specs.Effects.{last_verdicts}
use Rattle.on_demand.proofs.Halfway.{Halfway}
use Rattle.on_demand.proofs.fill_on_demand.Given as goal

abbrev pub invariant-loop-m : goal.invariant-loop-m
invariant-loop-m l = record {
  kept : Kept (start_of (header_in l.numbers) at_on_demand) l.initial.tables l.tables;
  entries : (j : ℕ) → j < (header_in l.numbers).modules → Halfway (graph_in l.numbers) (last_verdicts (graph_in l.numbers)) l.m j (get_or (on_demand_in l.tables) j 0);
}
