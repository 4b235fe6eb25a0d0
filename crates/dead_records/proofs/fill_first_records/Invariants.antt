use Rattle.determine_side_effects.specs.graph_crate.Check.{graph_in}
use Rattle.dead_records.proofs.Numbering.{Numbering}
use Rattle.dead_records.proofs.fill_first_records.Given as goal

abbrev pub invariant-loop-m : goal.invariant-loop-m
invariant-loop-m l = Numbering (graph_in l.numbers) l.initial.firsts l.firsts l.m l.total
