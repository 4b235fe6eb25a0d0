use Rattle.include_statements.proofs.Segments.{lines_from}
use Rattle.include_statements.proofs.Going.{Going}
use Rattle.include_statements.specs.Following.{lines_by}
use Rattle.determine_side_effects.specs.index_crate.declared.SymbolIdx.{SymbolIdx}
use Rattle.determine_side_effects.specs.facts_crate.declared.Reason.{Reason}
use Rattle.keep_rules.specs.Rules.{Segment, segment, demanded, demand_candidates, demand_candidate}
use Rattle.keep_record.specs.Lines.{adds}
use Rattle.keep_record.specs.Held.{lines_of}
use Rattle.determine_side_effects.specs.Effects.{last_verdicts}
use Rattle.determine_side_effects.specs.graph_crate.Check.{graph_in}
use Prim.Native.Nat.{ℕ}
use mathlib.Core.List.{List, [], ◌∷◌}
use Rattle.include_statements.proofs.demand_body.Given as goal

abbrev candidates : List ℕ → SymbolIdx → Reason → Segment
candidates numbers s x = segment 10 (demand_candidates (graph_in numbers) (demanded (graph_in numbers) (last_verdicts (graph_in numbers)) s.0 x.bits)) (demand_candidate (graph_in numbers) (demanded (graph_in numbers) (last_verdicts (graph_in numbers)) s.0 x.bits))

abbrev pub invariant-loop-c : goal.invariant-loop-c
invariant-loop-c l = Going (graph_in l.numbers) l.base (adds (graph_in l.numbers) l.base (lines_of l.initial.total l.initial.lines) (lines_by l.k (candidates l.numbers l.s l.x ∷ []))) (lines_from l.k (candidates l.numbers l.s l.x) l.c) l.initial.total l.marks l.lines l.total
