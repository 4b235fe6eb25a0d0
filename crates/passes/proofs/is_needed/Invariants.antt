use Rattle.passes.proofs.Helping.{module_needs}
use Rattle.passes.specs.Helpers.{helper_word}
use Rattle.marked.specs.Marked.{marked}
use Rattle.entry_order.specs.Plan.{words_at}
use Rattle.determine_side_effects.specs.facts_crate.Facts.{module_fact}
use Rattle.determine_side_effects.specs.graph_access_crate.Words.{flag, some, tabulate}
use Rattle.determine_side_effects.specs.graph_tables_crate.Tables.{header_in}
use Rattle.determine_side_effects.specs.graph_crate.Check.{graph_in}
use Prim.Native.Nat.{◌-◌}
use mathlib.Core.Bool.{◌&&◌}
use mathlib.Core.Path.{◌≡◌}
use Rattle.passes.proofs.is_needed.Given as goal

abbrev pub invariant-loop-m : goal.invariant-loop-m
invariant-loop-m l = (l.at ≡ words_at (header_in l.numbers)) × (some (module_needs (graph_in l.numbers) (marked (graph_in l.numbers) l.marks) l.helper) (tabulate (λ i. i) l.m ((header_in l.numbers).modules - l.m)) ≡ some (λ i. marked (graph_in l.numbers) l.marks (module_fact i) && flag l.helper (helper_word (graph_in l.numbers) (marked (graph_in l.numbers) l.marks) i)) (tabulate (λ i. i) 0 (header_in l.numbers).modules))
