use mathlib.Core.Path.{◌∙◌, ap}
use Rattle.answers.specs.Answers.{check_answer_of}
use Rattle.answers.proofs.OwnNumbers.{check_answer_own}
use Rattle.host.proofs.keep_check.Goals as goal

pub returns : goal.returns
returns c = c.check_answer.ensures ∙ check_answer_own c.check.result ∙ ap check_answer_of c.check.ensures
