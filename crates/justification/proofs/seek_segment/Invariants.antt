use Rattle.justification.proofs.Searches.{Passing}
use Rattle.justification.proofs.seek_segment.Given as goal

abbrev pub invariant-loop-i : goal.invariant-loop-i
invariant-loop-i l = Passing l.numbers l.premise l.fact l.j l.k l.i
