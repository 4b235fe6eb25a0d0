use mathlib.Core.Path.{◌∙◌, ap}
use Rattle.answers.specs.Answers.{judge_answer_of}
use Rattle.answers.proofs.OwnNumbers.{judge_answer_own}
use Rattle.host.proofs.keep_judge.Goals as goal

pub returns : goal.returns
returns c = c.judge_answer.ensures ∙ judge_answer_own c.judge.result ∙ ap judge_answer_of c.judge.ensures
