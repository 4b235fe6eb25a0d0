use Prim.Native.Nat.{◌≤◌}
use mathlib.Core.Path.{◌≡◌}
use lib.ListN.{drop, take}
use Rattle.facts.specs.graph_crate.Check.{graph_in}
use Rattle.facts.specs.graph_access_crate.Names.{scan_statement_count, statement_bits}
use Rattle.facts.specs.graph_access_crate.Words.{flag, some, module_of, statement_list}
use Rattle.determine_side_effects.proofs.rescanned.Given as goal

abbrev pub invariant-loop-i : goal.invariant-loop-i
invariant-loop-i l = (l.i ≤ l.all) × (some (λ x. flag 1 (statement_bits x)) (drop l.i (take (scan_statement_count (module_of (graph_in l.numbers) l.m.0)) (statement_list (graph_in l.numbers) l.m.0))) ≡ some (λ x. flag 1 (statement_bits x)) (take (scan_statement_count (module_of (graph_in l.numbers) l.m.0)) (statement_list (graph_in l.numbers) l.m.0)))
