use Rattle.dynamic_entries.proofs.Copying.{Copies}
use Rattle.dynamic_entries.proofs.copy_back.Given as goal

abbrev pub invariant-loop-i : goal.invariant-loop-i
invariant-loop-i l = Copies l.list l.count l.users l.initial.plan l.i l.plan
