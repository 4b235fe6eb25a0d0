use mathlib.Core.Path.{◌∙◌, ap}
use Rattle.answers.specs.Answers.{read_answer_of}
use Rattle.answers.proofs.OwnNumbers.{read_answer_own}
use Rattle.host.proofs.keep_read.Goals as goal

pub returns : goal.returns
returns c = let r = c.read.ensures in record { answers = c.read_answer.ensures ∙ read_answer_own c.read.result ∙ ap read_answer_of r.answers; leaves = r.leaves }
