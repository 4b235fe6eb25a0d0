use mathlib.Core.List.{List}
use Rattle.tables.specs.rows_crate.Walk.{Item}
use Rattle.graph_tables.specs.Tables.{modules_in}
use Rattle.graph_tables.proofs.ByModule.{Outer}
use Rattle.graph_tables.proofs.statements.Given as goal

abbrev pub invariant-loop-m : goal.invariant-loop-m
invariant-loop-m l = (done : List (List Item)) × Outer l.h (modules_in l.numbers) l.numbers l.at l.initial.tables l.tables l.m l.q l.first done
