use Rattle.passes.proofs.Helping.{some_need}
use Rattle.passes.specs.Helpers.{word_of}
use Rattle.marked.specs.Marked.{marked}
use Rattle.determine_side_effects.specs.graph_tables_crate.Tables.{header_in}
use Rattle.determine_side_effects.specs.graph_crate.Check.{graph_in}
use mathlib.Core.Path.{◌≡◌}
use Rattle.passes.proofs.collect_depended_runtime_helpers.Given as goal

abbrev pub invariant-loop-k : goal.invariant-loop-k
invariant-loop-k l = (l.word ≡ word_of (some_need (graph_in l.numbers) (marked (graph_in l.numbers) l.marks) (header_in l.numbers).modules) l.k)
