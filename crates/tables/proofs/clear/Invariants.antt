use Rattle.tables.proofs.Writing.{Clearing}
use Rattle.tables.proofs.clear.Given as goal

abbrev pub invariant-loop-at : goal.invariant-loop-at
invariant-loop-at l = Clearing l.k l.initial.tables l.tables l.at
