use Prim.Native.Nat.{ℕ, ◌+◌}
use mathlib.Core.Path.{◌≡◌}
use lib.ListN.{get_or, drop}
use Rattle.determine_side_effects.specs.tables_crate.Layout.{start_of, Kept, bodies_in, at_bodies}
use Rattle.determine_side_effects.specs.graph_tables_crate.Tables.{header_in}
use Rattle.determine_side_effects.specs.graph_crate.Check.{graph_in}
use Rattle.determine_side_effects.specs.graph_access_crate.Names.{own_exports}
use Rattle.determine_side_effects.specs.graph_access_crate.Words.{module_of}
use Rattle.determine_side_effects.proofs.facts_crate.Folds.{by_some}
use Rattle.on_demand.proofs.Entering.{rooted}
use Rattle.on_demand.proofs.enter_keys.Given as goal

abbrev pub invariant-loop-k : goal.invariant-loop-k
invariant-loop-k l = record {
  kept : Kept (start_of (header_in l.numbers) at_bodies) l.initial.tables l.tables;
  entries : (s : ℕ) → by_some (rooted (graph_in l.numbers) s) (l.m.0 + 1) (drop l.k (own_exports (module_of (graph_in l.numbers) l.m.0))) (get_or (bodies_in l.tables) s 0) ≡ by_some (rooted (graph_in l.numbers) s) (l.m.0 + 1) (own_exports (module_of (graph_in l.numbers) l.m.0)) (get_or (bodies_in l.initial.tables) s 0);
}
