use borrow.Author.Tests.{eq-eqb, ne_eqb}
use Rattle.dynamic_entries.proofs.goes_first.Goals as goal

pub returns-then-plan-at-eq1 : goal.returns-then-plan-at-eq1
returns-then-plan-at-eq1 c = rw (eq-eqb _ _ c.if-plan-at-eq1.true)

pub returns : goal.returns
returns c = rw (ne_eqb _ _ c.if-plan-at-eq1.false)
