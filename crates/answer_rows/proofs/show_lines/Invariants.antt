use Rattle.answer_rows.proofs.Turned.{Going}
use Rattle.answer_rows.specs.Together.{six_rows}
use Rattle.determine_side_effects.specs.graph_crate.Check.{graph_in}
use Rattle.answer_rows.proofs.show_lines.Given as goal

abbrev pub invariant-loop-k : goal.invariant-loop-k
invariant-loop-k l =
    Going (graph_in l.numbers) l.main l.lines l.from l.to (six_rows l.initial.modules_row l.initial.statements_row l.initial.used l.initial.external l.initial.json l.initial.reason) (six_rows l.modules_row l.statements_row l.used l.external l.json l.reason) l.k
