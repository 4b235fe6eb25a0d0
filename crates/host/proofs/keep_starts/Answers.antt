use mathlib.Core.Path.{◌∙◌, ap}
use Rattle.answers.specs.Answers.{starts_answer_of}
use Rattle.answers.proofs.OwnNumbers.{starts_answer_own}
use Rattle.host.proofs.keep_starts.Goals as goal

pub returns : goal.returns
returns c = let e = c.starts.ensures in record { answers = c.starts_answer.ensures ∙ starts_answer_own c.starts.result ∙ ap starts_answer_of e.answer; leaves = rw e.answer at e }
