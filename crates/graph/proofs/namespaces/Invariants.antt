use mathlib.Core.Path.{◌≡◌}
use Prim.Native.Nat.{◌≤◌}
use lib.ListN.{drop}
use Rattle.graph.specs.Check.{each, owns_namespace}
use Rattle.graph_entries.specs.graph_tables_crate.Tables.{modules_in, symbols_in}
use Rattle.graph.proofs.namespaces.Given as goal

abbrev pub invariant-loop-m : goal.invariant-loop-m
invariant-loop-m l = (l.m ≤ l.count) × (each (owns_namespace (symbols_in l.numbers)) 7 l.m (drop l.m (modules_in l.numbers)) ≡ each (owns_namespace (symbols_in l.numbers)) 7 0 (modules_in l.numbers))
