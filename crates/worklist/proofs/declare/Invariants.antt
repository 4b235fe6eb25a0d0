use Rattle.worklist.proofs.Declared.{joined_from}
use Rattle.include_statements.proofs.Going.{Going}
use Rattle.worklist.specs.Drain.{joined}
use Rattle.keep_record.specs.Lines.{adds}
use Rattle.keep_record.specs.Held.{lines_of}
use Rattle.determine_side_effects.specs.graph_crate.Check.{graph_in}
use Rattle.worklist.proofs.declare.Given as goal

abbrev pub invariant-loop-i : goal.invariant-loop-i
invariant-loop-i l = Going (graph_in l.numbers) l.base (adds (graph_in l.numbers) l.base (lines_of l.initial.total l.initial.lines) (joined (graph_in l.numbers) l.s.0 l.a l.b)) (joined_from (graph_in l.numbers) l.s.0 l.a l.b l.declaring l.i) l.initial.total l.marks l.lines l.total
