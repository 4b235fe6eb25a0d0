use native.Mathlib.Omega.{arith}
use Rattle.drain_parts.specs.Operation.{rooms_of}
use Rattle.drain_parts.proofs.Ending.{fits, ends_short, ends_done}
use Rattle.determine_side_effects.specs.graph_crate.Check.{graph_in}
use Rattle.drain_parts.proofs.work_and_show.Goals as goal

pub work-requires : goal.work-requires
unfolding graph_in rooms_of
work-requires c = record { prepared = c.requires.prepared.0; numbers_in_bounds = ((fits _ _ c.requires.reason_value).0, c.requires.numbers_in_bounds.0, c.requires.numbers_in_bounds.1); starts_good = c.requires.prepared.2 }

pub show_all-requires : goal.show_all-requires
unfolding rooms_of
show_all-requires c = let h = (c.work.ensures.holds _ c.in-Ok.is).1 in record { prepared = (c.requires.prepared.0, c.requires.prepared.1); reason_value = (fits _ _ c.requires.reason_value).1; main_le_total = (omega arith, h.room, h.good) }

pub returns-in-Err : goal.returns-in-Err
returns-in-Err c = ends_short _ _ _ _ _ _ c.work.ensures c.in-Err.is

pub returns-in-Ok : goal.returns-in-Ok
returns-in-Ok c = ends_done _ _ _ _ _ c.work.ensures _ c.in-Ok.is c.work.auto.marks c.work.auto.lines (λ i. (c.type_inv.marks i).fits) c.show_all.ensures
