use Rattle.tables.proofs.Laying.{Laying}
use Rattle.tables.proofs.lay_out.Given as goal

abbrev pub invariant-loop-k : goal.invariant-loop-k
invariant-loop-k l = Laying l.sizes l.initial.tables l.tables l.at l.k
