use Rattle.include_statements.proofs.Segments.{lines_from}
use Rattle.include_statements.proofs.Going.{Going}
use Rattle.include_statements.specs.Following.{lines_by}
use Rattle.determine_side_effects.specs.index_crate.declared.ModuleIdx.{ModuleIdx}
use Rattle.determine_side_effects.specs.index_crate.declared.StmtIdx.{StmtIdx}
use Rattle.determine_side_effects.specs.graph_access_crate.Words.{statement_of}
use Rattle.determine_side_effects.specs.graph_access_crate.Names.{references}
use Rattle.keep_rules.specs.Rules.{Segment, reference_segment, reason_of}
use Rattle.keep_record.specs.Lines.{adds}
use Rattle.keep_record.specs.Held.{lines_of}
use Rattle.determine_side_effects.specs.graph_crate.Check.{graph_in}
use lib.ListN.{get_or}
use Prim.Native.Nat.{ℕ}
use mathlib.Core.List.{List, [], ◌∷◌}
use Rattle.include_statements.proofs.include_reference.Given as goal

abbrev candidates : List ℕ → ModuleIdx → StmtIdx → ℕ → ℕ → Segment
candidates numbers m i j place = reference_segment (graph_in numbers) (reason_of (graph_in numbers) m.0 i.0) (get_or (references (statement_of (graph_in numbers) m.0 i.0)) j [])

abbrev pub invariant-loop-c : goal.invariant-loop-c
invariant-loop-c l = Going (graph_in l.numbers) l.base (adds (graph_in l.numbers) l.base (lines_of l.initial.total l.initial.lines) (lines_by l.k (candidates l.numbers l.m l.i l.j l.place ∷ []))) (lines_from l.k (candidates l.numbers l.m l.i l.j l.place) l.c) l.initial.total l.marks l.lines l.total
