use Rattle.completeness.specs.Complete.{all, is_closed_at}
use Rattle.consequences.specs.Cursors.{left, Placed}
use Rattle.determine_side_effects.specs.Effects.{last_verdicts}
use Rattle.marked.specs.Marked.{marked}
use Rattle.determine_side_effects.specs.graph_crate.Check.{graph_in}
use mathlib.Core.Path.{◌≡◌}
use Rattle.completeness.proofs.is_closed_at.Given as goal

abbrev pub invariant-loop-c : goal.invariant-loop-c
invariant-loop-c l = all (λ x. marked (graph_in l.numbers) l.marks x.fact) (left l.numbers l.fact l.j l.c) ≡ is_closed_at (graph_in l.numbers) (last_verdicts (graph_in l.numbers)) (marked (graph_in l.numbers) l.marks) l.fact

abbrev pub invariant-loop-j : goal.invariant-loop-j
invariant-loop-j l = Placed l.numbers l.fact l.j l.place × (all (λ x. marked (graph_in l.numbers) l.marks x.fact) (left l.numbers l.fact l.j 0) ≡ is_closed_at (graph_in l.numbers) (last_verdicts (graph_in l.numbers)) (marked (graph_in l.numbers) l.marks) l.fact)
