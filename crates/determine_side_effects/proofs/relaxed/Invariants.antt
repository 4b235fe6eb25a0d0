use Prim.Native.Nat.{◌≤◌}
use mathlib.Core.Path.{◌≡◌}
use lib.ListN.{length, drop}
use Rattle.facts.specs.graph_tables_crate.Tables.{modules_in}
use Rattle.facts.specs.graph_access_crate.Names.{flags}
use Rattle.facts.specs.graph_access_crate.Words.{flag, some}
use Rattle.determine_side_effects.proofs.relaxed.Given as goal

abbrev pub invariant-loop-m : goal.invariant-loop-m
invariant-loop-m l = (l.m ≤ length (modules_in l.numbers)) × (some (λ x. flag 5 (flags x)) (drop l.m (modules_in l.numbers)) ≡ some (λ x. flag 5 (flags x)) (modules_in l.numbers))
