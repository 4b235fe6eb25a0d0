use Rattle.include_statements.proofs.Segments.{lines_from}
use Rattle.include_statements.proofs.Going.{Going}
use Rattle.include_statements.specs.Following.{lines_by}
use Rattle.determine_side_effects.specs.index_crate.declared.SymbolIdx.{SymbolIdx}
use Rattle.keep_rules.specs.Rules.{Segment, segment, write_candidates, write_candidate}
use Rattle.keep_record.specs.Lines.{adds}
use Rattle.keep_record.specs.Held.{lines_of}
use Rattle.determine_side_effects.specs.graph_crate.Check.{graph_in}
use Prim.Native.Nat.{ℕ}
use mathlib.Core.List.{List, [], ◌∷◌}
use Rattle.include_statements.proofs.include_writes.Given as goal

abbrev candidates : List ℕ → SymbolIdx → Segment
candidates numbers s = segment 14 (write_candidates (graph_in numbers) s.0) (write_candidate (graph_in numbers) s.0)

abbrev pub invariant-loop-c : goal.invariant-loop-c
invariant-loop-c l = Going (graph_in l.numbers) l.base (adds (graph_in l.numbers) l.base (lines_of l.initial.total l.initial.lines) (lines_by l.k (candidates l.numbers l.s ∷ []))) (lines_from l.k (candidates l.numbers l.s) l.c) l.initial.total l.marks l.lines l.total
