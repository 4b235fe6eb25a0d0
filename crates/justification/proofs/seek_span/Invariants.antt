use Rattle.justification.proofs.Searches.{Crossing}
use Rattle.justification.proofs.seek_span.Given as goal

abbrev pub invariant-loop-j : goal.invariant-loop-j
invariant-loop-j l = Crossing l.numbers l.premise l.fact l.fn.cursor l.j l.k l.place
