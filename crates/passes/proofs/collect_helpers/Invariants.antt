use Rattle.passes.proofs.Planning.{Planned}
use Rattle.passes.specs.Helpers.{helper_word}
use Rattle.marked.specs.Marked.{marked}
use Rattle.entry_order.specs.Plan.{words_at, plan_size}
use Rattle.determine_side_effects.specs.graph_tables_crate.Tables.{header_in}
use Rattle.determine_side_effects.specs.graph_crate.Check.{graph_in}
use mathlib.Core.Path.{◌≡◌}
use Rattle.passes.proofs.collect_helpers.Given as goal

abbrev pub invariant-loop-m : goal.invariant-loop-m
invariant-loop-m l = (l.at ≡ words_at (header_in l.numbers)) × Planned (helper_word (graph_in l.numbers) (marked (graph_in l.numbers) l.marks)) (words_at (header_in l.numbers)) (plan_size (header_in l.numbers)) l.m l.initial.plan l.plan
