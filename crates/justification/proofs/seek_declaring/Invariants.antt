use Rattle.justification.proofs.Joining.{Declaring}
use Rattle.justification.proofs.seek_declaring.Given as goal

abbrev pub invariant-loop-i : goal.invariant-loop-i
invariant-loop-i l = Declaring l.numbers l.s.0 l.fact l.k l.i
