use Rattle.justification.proofs.ByPart.{kinds_differ, firsts_differ, seconds}
use Rattle.justification.proofs.same.Goals as goal

pub returns-then-kind_of : goal.returns-then-kind_of
returns-then-kind_of c = kinds_differ _ _ _ _ c.kind_of.ensures c.kind_of-2.ensures c.if-kind_of.true

pub returns-then-first_part : goal.returns-then-first_part
returns-then-first_part c = firsts_differ _ _ _ _ _ _ c.kind_of.ensures c.kind_of-2.ensures c.if-kind_of.false c.first_part.ensures c.first_part-2.ensures c.if-first_part.true

pub returns : goal.returns
returns c = seconds _ _ _ _ _ _ _ _ c.kind_of.ensures c.kind_of-2.ensures c.if-kind_of.false c.first_part.ensures c.first_part-2.ensures c.if-first_part.false c.second_part.ensures c.second_part-2.ensures
