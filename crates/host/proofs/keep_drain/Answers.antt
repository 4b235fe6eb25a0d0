use mathlib.Core.Path.{◌∙◌, ap}
use Rattle.answers.specs.Answers.{drain_answer_of}
use Rattle.answers.proofs.OwnNumbers.{drain_answer_own}
use Rattle.host.proofs.keep_drain.Goals as goal

pub returns : goal.returns
returns c = let e = c.drain.ensures in record { answers = c.drain_answer.ensures ∙ drain_answer_own c.drain.result ∙ ap drain_answer_of e.answer; leaves = rw e.answer at e }
