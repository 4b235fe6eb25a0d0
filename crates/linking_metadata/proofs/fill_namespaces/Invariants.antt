use Prim.Native.Nat.{ℕ, ◌<◌}
use lib.ListN.{get_or}
use Rattle.graph_access.specs.tables_crate.Layout.{start_of, Kept, namespaces_in, at_namespaces}
use Rattle.graph_access.specs.graph_tables_crate.Tables.{header_in}
use Rattle.graph_access.specs.graph_crate.Check.{graph_in}
use Rattle.linking_metadata.proofs.FillingUp.{UpTo}
use Rattle.linking_metadata.proofs.fill_namespaces.Given as goal

abbrev pub invariant-loop-m : goal.invariant-loop-m
invariant-loop-m l = record {
  kept : Kept (start_of (header_in l.numbers) at_namespaces) l.initial.tables l.tables;
  entries : (s : ℕ) → s < (header_in l.numbers).symbols → UpTo (graph_in l.numbers) l.m s (get_or (namespaces_in l.tables) s 0);
}
