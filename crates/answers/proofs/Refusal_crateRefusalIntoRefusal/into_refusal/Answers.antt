use Rattle.answers.specs.Answers.{refusal_of}
use Rattle.answers.proofs.Refusal_crateRefusalIntoRefusal.into_refusal.Goals as goal

pub returns : goal.returns
unfolding refusal_of
returns c = rw (c.number.ensures, c.place.ensures)
