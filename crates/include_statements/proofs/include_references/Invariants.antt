use Rattle.include_statements.proofs.Going.{Going}
use Rattle.include_statements.specs.Following.{lines_by}
use Rattle.determine_side_effects.specs.graph_access_crate.Names.{references}
use Rattle.determine_side_effects.specs.graph_access_crate.Words.{statement_of}
use Rattle.determine_side_effects.specs.graph_access_crate.References.{ReferencesAt}
use Rattle.keep_rules.specs.Rules.{reference_segment, reason_of}
use Rattle.keep_record.specs.Lines.{adds}
use Rattle.keep_record.specs.Held.{lines_of}
use Rattle.determine_side_effects.specs.graph_crate.Check.{graph_in}
use lib.ListN.{drop}
use mathlib.Core.List.{map}
use Rattle.include_statements.proofs.include_references.Given as goal

abbrev pub invariant-loop-r : goal.invariant-loop-r
invariant-loop-r l = ReferencesAt l.numbers l.place (drop l.r (references (statement_of (graph_in l.numbers) l.m.0 l.i.0))) × Going (graph_in l.numbers) l.base (adds (graph_in l.numbers) l.base (lines_of l.initial.total l.initial.lines) (lines_by l.k (map (reference_segment (graph_in l.numbers) (reason_of (graph_in l.numbers) l.m.0 l.i.0)) (references (statement_of (graph_in l.numbers) l.m.0 l.i.0))))) (lines_by l.k (map (reference_segment (graph_in l.numbers) (reason_of (graph_in l.numbers) l.m.0 l.i.0)) (drop l.r (references (statement_of (graph_in l.numbers) l.m.0 l.i.0))))) l.initial.total l.marks l.lines l.total
