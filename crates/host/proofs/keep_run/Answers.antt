use mathlib.Core.Path.{◌∙◌, ap}
use Rattle.answers.specs.Answers.{run_answer_of}
use Rattle.answers.proofs.OwnNumbers.{run_answer_own}
use Rattle.host.proofs.keep_run.Goals as goal

pub returns : goal.returns
returns c = let e = c.run.ensures in record { answers = c.run_answer.ensures ∙ run_answer_own c.run.result ∙ ap run_answer_of e.answer; leaves = rw e.answer at e }
