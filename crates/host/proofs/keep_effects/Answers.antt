use mathlib.Core.Path.{◌∙◌, ap}
use Rattle.answers.specs.Answers.{check_answer_of}
use Rattle.answers.proofs.OwnNumbers.{check_answer_own}
use Rattle.host.proofs.keep_effects.Goals as goal

pub returns : goal.returns
returns c = let e = c.effects.ensures in record { answers = c.check_answer.ensures ∙ check_answer_own c.effects.result ∙ ap check_answer_of e.0; leaves = e.1 }
