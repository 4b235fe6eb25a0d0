use Prim.Native.Nat.{◌≤◌}
use mathlib.Core.Path.{◌≡◌}
use mathlib.Core.List.{◌++◌}
use lib.ListN.{drop}
use Rattle.facts.specs.tables_crate.Layout.{start_of, Kept, verdicts_in, at_verdicts}
use Rattle.facts.specs.graph_tables_crate.Tables.{header_in}
use Rattle.facts.specs.graph_crate.Check.{graph_in}
use Rattle.facts.specs.graph_access_crate.Words.{tabulate}
use Rattle.determine_side_effects.specs.Effects.{first_verdict}
use Rattle.determine_side_effects.proofs.first_verdicts.Given as goal

abbrev pub invariant-loop-m : goal.invariant-loop-m
invariant-loop-m l = Kept (start_of (header_in l.numbers) at_verdicts) l.initial.tables l.tables × (l.m ≤ (header_in l.numbers).modules) × (verdicts_in l.tables ≡ tabulate (first_verdict (graph_in l.numbers)) 0 l.m ++ drop l.m (verdicts_in l.initial.tables))
