use Rattle.line_judgement.proofs.Justifying.{begins_fresh, begins_on}
use mathlib.Core.Path.{refl}
use Rattle.line_judgement.proofs.begin.Goals as goal

pub returns-then-trail-rule : goal.returns-then-trail-rule
returns-then-trail-rule c = λ numbers. begins_fresh _ _ _ _ _ _ refl

pub returns-then-trail-because : goal.returns-then-trail-because
returns-then-trail-because c = λ numbers. begins_fresh _ _ _ _ _ _ refl

pub returns-then-trail-and : goal.returns-then-trail-and
returns-then-trail-and c = λ numbers. begins_fresh _ _ _ _ _ _ refl

pub returns : goal.returns
returns c = λ numbers. begins_on _ _ _ _ _ _ c.if-trail-rule.false c.if-trail-because.false refl refl
