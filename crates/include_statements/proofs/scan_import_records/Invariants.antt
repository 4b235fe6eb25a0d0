use Rattle.include_statements.proofs.Segments.{lines_from}
use Rattle.include_statements.proofs.Going.{Going}
use Rattle.include_statements.specs.Following.{lines_by}
use Rattle.determine_side_effects.specs.index_crate.declared.ModuleIdx.{ModuleIdx}
use Rattle.determine_side_effects.specs.index_crate.declared.StmtIdx.{StmtIdx}
use Rattle.determine_side_effects.specs.graph_access_crate.Words.{statement_of}
use Rattle.determine_side_effects.specs.graph_access_crate.Names.{statement_import_records}
use Rattle.keep_rules.specs.Rules.{Segment, segment, import_record_candidate}
use Rattle.keep_record.specs.Lines.{adds}
use Rattle.keep_record.specs.Held.{lines_of}
use Rattle.determine_side_effects.specs.Effects.{last_verdicts}
use Rattle.determine_side_effects.specs.graph_crate.Check.{graph_in}
use lib.ListN.{length}
use Prim.Native.Nat.{ℕ}
use mathlib.Core.List.{List, [], ◌∷◌}
use Rattle.include_statements.proofs.scan_import_records.Given as goal

abbrev candidates : List ℕ → ModuleIdx → StmtIdx → Segment
candidates numbers m i = segment 7 (length (statement_import_records (statement_of (graph_in numbers) m.0 i.0))) (import_record_candidate (graph_in numbers) (last_verdicts (graph_in numbers)) m.0 i.0)

abbrev pub invariant-loop-c : goal.invariant-loop-c
invariant-loop-c l = Going (graph_in l.numbers) l.base (adds (graph_in l.numbers) l.base (lines_of l.initial.total l.initial.lines) (lines_by l.k (candidates l.numbers l.m l.i ∷ []))) (lines_from l.k (candidates l.numbers l.m l.i) l.c) l.initial.total l.marks l.lines l.total
