use Prim.Native.Nat.{ℕ, ◌<◌}
use mathlib.Core.Path.{◌≡◌}
use lib.ListN.{get_or}
use Rattle.determine_side_effects.specs.tables_crate.Layout.{start_of, Kept, bodies_in, at_bodies}
use Rattle.determine_side_effects.specs.graph_tables_crate.Tables.{header_in}
use Rattle.determine_side_effects.specs.graph_crate.Check.{graph_in}
use Rattle.determine_side_effects.specs.Effects.{last_verdicts}
use Rattle.on_demand.specs.Demand.{claimed}
use Rattle.on_demand.proofs.compute_body_demand_keys.Given as goal

abbrev pub invariant-loop-m : goal.invariant-loop-m
invariant-loop-m l = record {
  kept : Kept (start_of (header_in l.numbers) at_bodies) l.initial.tables l.tables;
  entries : (s : ℕ) → s < (header_in l.numbers).symbols → get_or (bodies_in l.tables) s 0 ≡ claimed (graph_in l.numbers) (last_verdicts (graph_in l.numbers)) s l.m;
}
