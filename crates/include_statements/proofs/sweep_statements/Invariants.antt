use Rattle.include_statements.proofs.Segments.{lines_from}
use Rattle.include_statements.proofs.Going.{Going}
use Rattle.include_statements.specs.Following.{lines_by}
use Rattle.determine_side_effects.specs.index_crate.declared.ModuleIdx.{ModuleIdx}
use Rattle.determine_side_effects.specs.graph_access_crate.Words.{statement_list}
use Rattle.keep_rules.specs.Rules.{Segment, segment, sweep_candidate}
use Rattle.keep_record.specs.Lines.{adds}
use Rattle.keep_record.specs.Held.{lines_of}
use Rattle.determine_side_effects.specs.Effects.{last_verdicts}
use Rattle.determine_side_effects.specs.graph_crate.Check.{graph_in}
use lib.ListN.{length}
use Prim.Native.Nat.{ℕ}
use mathlib.Core.List.{List, [], ◌∷◌}
use Rattle.include_statements.proofs.sweep_statements.Given as goal

abbrev candidates : List ℕ → ModuleIdx → Segment
candidates numbers m = segment 2 (length (statement_list (graph_in numbers) m.0)) (sweep_candidate (graph_in numbers) (last_verdicts (graph_in numbers)) m.0)

abbrev pub invariant-loop-c : goal.invariant-loop-c
invariant-loop-c l = Going (graph_in l.numbers) l.base (adds (graph_in l.numbers) l.base (lines_of l.initial.total l.initial.lines) (lines_by l.k (candidates l.numbers l.m ∷ []))) (lines_from l.k (candidates l.numbers l.m) l.c) l.initial.total l.marks l.lines l.total
