use Prim.Native.Nat.{◌≤◌}
use mathlib.Core.Path.{◌≡◌}
use mathlib.Core.List.{◌++◌}
use lib.ListN.{length, get_or, drop}
use Rattle.facts.specs.graph_access_crate.Words.{tabulate}
use Rattle.determine_side_effects.proofs.write_row.Given as goal

abbrev pub invariant-loop-m : goal.invariant-loop-m
invariant-loop-m l = (l.m ≤ l.count) × (length l.row ≡ length l.initial.row) × (l.row ≡ tabulate (λ i. get_or l.verdicts i 0) 0 l.m ++ drop l.m l.initial.row)
