use mathlib.Core.Path.{◌≡◌}
use Prim.Native.Nat.{◌≤◌}
use lib.ListN.{drop}
use Rattle.graph.specs.Check.{each, root_is_root}
use Rattle.graph_entries.specs.graph_tables_crate.Tables.{symbols_in}
use Rattle.graph.proofs.roots.Given as goal

abbrev pub invariant-loop-s : goal.invariant-loop-s
invariant-loop-s l = (l.s ≤ l.count) × (each (root_is_root (symbols_in l.numbers)) 2 l.s (drop l.s (symbols_in l.numbers)) ≡ each (root_is_root (symbols_in l.numbers)) 2 0 (symbols_in l.numbers))
