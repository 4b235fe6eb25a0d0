use Rattle.passes.proofs.Helping.{row_needs}
use Rattle.passes.specs.Helpers.{needs_helper}
use Rattle.marked.specs.Marked.{marked}
use Rattle.determine_side_effects.specs.graph_access_crate.Names.{module_helpers}
use Rattle.determine_side_effects.specs.graph_access_crate.Words.{some, module_of}
use Rattle.determine_side_effects.specs.graph_crate.Check.{graph_in}
use lib.ListN.{drop}
use mathlib.Core.Path.{◌≡◌}
use Rattle.passes.proofs.needs_helper.Given as goal

abbrev pub invariant-loop-k : goal.invariant-loop-k
invariant-loop-k l = (some (row_needs (graph_in l.numbers) (marked (graph_in l.numbers) l.marks) l.m.0 l.helper) (drop l.k (module_helpers (module_of (graph_in l.numbers) l.m.0))) ≡ needs_helper (graph_in l.numbers) (marked (graph_in l.numbers) l.marks) l.m.0 l.helper)
