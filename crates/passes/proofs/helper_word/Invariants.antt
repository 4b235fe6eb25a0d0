use Rattle.passes.specs.Helpers.{needs_helper, word_of}
use Rattle.marked.specs.Marked.{marked}
use Rattle.determine_side_effects.specs.graph_crate.Check.{graph_in}
use mathlib.Core.Path.{◌≡◌}
use Rattle.passes.proofs.helper_word.Given as goal

abbrev pub invariant-loop-k : goal.invariant-loop-k
invariant-loop-k l = (l.word ≡ word_of (needs_helper (graph_in l.numbers) (marked (graph_in l.numbers) l.marks) l.m.0) l.k)
