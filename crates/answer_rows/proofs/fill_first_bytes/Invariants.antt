use Rattle.answer_rows.proofs.FirstBytes.{Filling}
use Rattle.answer_rows.proofs.fill_first_bytes.Given as goal

abbrev pub invariant-loop-m : goal.invariant-loop-m
invariant-loop-m l = Filling l.numbers l.initial.tables l.tables l.m l.total
