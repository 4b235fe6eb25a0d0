use Prim.Native.Nat.{ℕ, ◌<◌}
use mathlib.Core.Path.{◌≡◌}
use lib.ListN.{get_or, drop}
use Rattle.graph_access.specs.tables_crate.Layout.{start_of, Kept, namespaces_in, at_namespaces}
use Rattle.graph_access.specs.graph_tables_crate.Tables.{header_in}
use Rattle.graph_access.specs.graph_crate.Check.{graph_in}
use Rattle.graph_access.specs.Names.{owner as owner_in, common_js_namespaces}
use Rattle.graph_access.specs.Words.{module_of, symbol_of}
use Rattle.linking_metadata.specs.Tabled.{entered}
use Rattle.linking_metadata.proofs.Entering.{by_rows}
use Rattle.linking_metadata.proofs.enter_namespaces.Given as goal

abbrev pub invariant-loop-k : goal.invariant-loop-k
invariant-loop-k l = record {
  kept : Kept (start_of (header_in l.numbers) at_namespaces) l.initial.tables l.tables;
  entries : (s : ℕ) → s < (header_in l.numbers).symbols → by_rows (owner_in (symbol_of (graph_in l.numbers) s)) l.m.0 s (drop l.k (common_js_namespaces (module_of (graph_in l.numbers) l.m.0))) (get_or (namespaces_in l.tables) s 0) ≡ entered (graph_in l.numbers) l.m.0 s (get_or (namespaces_in l.initial.tables) s 0);
}
