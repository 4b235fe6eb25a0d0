use Rattle.fact_marks.proofs.Marking.{marks_one}
use borrow.Author.Rules.{rules}
use Rattle.fact_marks.proofs.mark.Goals as goal

pub returns : goal.returns
returns c = marks_one _ _ _ _ _ c.mark_of.ensures.0 c.set.auto.row c.set.ensures
