use Prim.Native.Nat.{◌≤◌}
use mathlib.Core.Path.{◌≡◌}
use mathlib.Core.Bool.{false}
use Rattle.facts.specs.tables_crate.Layout.{start_of, Kept, verdicts_in, at_verdicts}
use Rattle.facts.specs.graph_tables_crate.Tables.{header_in}
use Rattle.facts.specs.graph_crate.Check.{graph_in}
use Rattle.determine_side_effects.specs.Effects.{pass}
use Rattle.determine_side_effects.proofs.pass.Given as goal

abbrev pub invariant-loop-m : goal.invariant-loop-m
invariant-loop-m l = Kept (start_of (header_in l.numbers) at_verdicts) l.initial.tables l.tables × (l.m ≤ l.initial.m) × (pass (graph_in l.numbers) l.m (verdicts_in l.tables) ≡ pass (graph_in l.numbers) l.initial.m (verdicts_in l.initial.tables)) × (l.moved ≡ false → verdicts_in l.tables ≡ verdicts_in l.initial.tables)

abbrev pub decreases-loop-m : goal.decreases-loop-m
decreases-loop-m l = l.m
