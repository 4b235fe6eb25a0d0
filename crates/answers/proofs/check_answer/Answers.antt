use Rattle.answers.specs.Answers.{check_answer_by}
use Rattle.answers.proofs.check_answer.Goals as goal

pub returns-in-Ok : goal.returns-in-Ok
unfolding check_answer_by
returns-in-Ok g c = rw c.in-Ok.is

pub returns-in-Err : goal.returns-in-Err
unfolding check_answer_by
returns-in-Err g c = rw (c.in-Err.is, c.into_refusal.ensures)
