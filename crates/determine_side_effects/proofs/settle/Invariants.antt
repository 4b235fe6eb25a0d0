use mathlib.Core.Path.{◌≡◌}
use Rattle.facts.specs.tables_crate.Layout.{start_of, Kept, verdicts_in, at_verdicts}
use Rattle.facts.specs.graph_tables_crate.Tables.{header_in}
use Rattle.facts.specs.graph_crate.Check.{graph_in}
use Rattle.determine_side_effects.specs.Effects.{passes}
use Rattle.determine_side_effects.proofs.settle.Given as goal

abbrev pub invariant-loop-left : goal.invariant-loop-left
invariant-loop-left l = Kept (start_of (header_in l.numbers) at_verdicts) l.initial.tables l.tables × (passes (graph_in l.numbers) l.left (verdicts_in l.tables) ≡ passes (graph_in l.numbers) l.initial.left (verdicts_in l.initial.tables))

abbrev pub decreases-loop-left : goal.decreases-loop-left
decreases-loop-left l = l.left
