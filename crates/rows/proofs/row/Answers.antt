use mathlib.Core.Path.{◌∙◌, sym}
use Rattle.refusal.proofs.Exits.{passed_on}
use Rattle.rows.proofs.Columns.{row_none, row_one, row_two, row_three, row_stop_first, row_stop_second}
use Rattle.rows.proofs.row.Goals as goal

pub returns-then-width-eq0 : goal.returns-then-width-eq0
returns-then-width-eq0 c = sym (row_none _ _ _ _ _ _ _ c.if-width-eq0.true)

pub returns-then-width-eq1 : goal.returns-then-width-eq1
returns-then-width-eq1 c = sym (row_one _ _ _ _ _ _ _ c.if-width-eq1.true (sym c.within.ensures ∙ c.in_ok-q.was))

pub returns-then-width-eq2 : goal.returns-then-width-eq2
returns-then-width-eq2 c = sym (row_two _ _ _ _ _ _ _ c.if-width-eq2.true (sym c.within.ensures ∙ c.in_ok-q.was) (sym c.within-2.ensures ∙ c.in_ok-s.was))

pub returns-in_err-q : goal.returns-in_err-q
returns-in_err-q c = passed_on _ _ c.from_residual.ensures.1 ∙ sym (row_stop_first _ _ _ _ _ _ _ c.if-width-eq0.false (sym c.within.ensures ∙ c.in_err-q.was))

pub returns-in_err-s : goal.returns-in_err-s
returns-in_err-s c = passed_on _ _ c.from_residual-in_err-s.ensures.1 ∙ sym (row_stop_second _ _ _ _ _ _ _ c.if-width-eq0.false c.if-width-eq1.false (sym c.within.ensures ∙ c.in_ok-q.was) (sym c.within-2.ensures ∙ c.in_err-s.was))

pub returns : goal.returns
returns c = c.within-3.ensures ∙ sym (row_three _ _ _ _ _ _ _ c.if-width-eq0.false c.if-width-eq1.false c.if-width-eq2.false (sym c.within.ensures ∙ c.in_ok-q.was) (sym c.within-2.ensures ∙ c.in_ok-s.was))
