use Prim.Native.Nat.{◌≤◌}
use mathlib.Core.Path.{◌≡◌}
use mathlib.Core.Bool.{◌||◌}
use lib.ListN.{drop}
use Rattle.facts.specs.tables_crate.Layout.{verdicts_in}
use Rattle.facts.specs.graph_crate.Check.{graph_in}
use Rattle.facts.specs.graph_access_crate.Names.{import_records}
use Rattle.facts.specs.graph_access_crate.Words.{some, module_of}
use Rattle.determine_side_effects.specs.Effects.{seeds, reaches}
use Rattle.determine_side_effects.proofs.moves.Given as goal

abbrev pub invariant-loop-k : goal.invariant-loop-k
invariant-loop-k l = (l.k ≤ l.count) × (some (λ row. seeds (graph_in l.numbers) row || reaches (verdicts_in l.tables) row) (drop l.k (import_records (module_of (graph_in l.numbers) l.m.0))) ≡ some (λ row. seeds (graph_in l.numbers) row || reaches (verdicts_in l.tables) row) (import_records (module_of (graph_in l.numbers) l.m.0)))
