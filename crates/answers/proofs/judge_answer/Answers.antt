use Rattle.answers.specs.Answers.{judge_answer_by}
use Rattle.answers.proofs.judge_answer.Goals as goal

pub returns-in-Ok : goal.returns-in-Ok
unfolding judge_answer_by
returns-in-Ok g c = rw c.in-Ok.is

pub returns-in-Err : goal.returns-in-Err
unfolding judge_answer_by
returns-in-Err g c = rw (c.in-Err.is, c.into_refusal.ensures)
