use Rattle.completeness.proofs.Walks.{statement_kept}
use Rattle.completeness.specs.Complete.{all, are_declared}
use Rattle.determine_side_effects.specs.graph_access_crate.Names.{declaring_statements}
use Rattle.determine_side_effects.specs.graph_access_crate.Words.{symbol_of}
use Rattle.marked.specs.Marked.{marked}
use Rattle.determine_side_effects.specs.graph_crate.Check.{graph_in}
use lib.ListN.{drop}
use Prim.Native.Nat.{◌≤◌}
use mathlib.Core.Path.{◌≡◌}
use Rattle.completeness.proofs.are_declared.Given as goal

abbrev pub invariant-loop-i : goal.invariant-loop-i
invariant-loop-i l = (l.i ≤ l.count) × (all (statement_kept (graph_in l.numbers) (marked (graph_in l.numbers) l.marks) l.s.0) (drop l.i (declaring_statements (symbol_of (graph_in l.numbers) l.s.0))) ≡ are_declared (graph_in l.numbers) (marked (graph_in l.numbers) l.marks) l.s.0)
