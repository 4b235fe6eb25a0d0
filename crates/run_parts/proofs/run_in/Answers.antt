use Rattle.determine_side_effects.specs.graph_crate.Check.{graph_in}
use Rattle.run_parts.specs.Operation.{rows}
use Rattle.run_parts.proofs.Showing.{still_fits, shows_held}
use Rattle.run_parts.proofs.Ending.{partners_fit, scratch_fits, plan_fits}
use Rattle.run_parts.proofs.InOrder.{begins_fits, ends_refused, ends_worked, ends_short, ends_done}
use Rattle.determine_side_effects.proofs.refusal_crate.Exits.{passed_on}
use Rattle.run_parts.proofs.run_in.Goals as goal

pub work-requires : goal.work-requires
unfolding graph_in
work-requires c = let g = c.may_begin.ensures in let e = c.in_ok-may_begin.was in record { prepared = (g.good e).0; numbers_in_bounds = ((begins_fits _ _ _ (rows c.args.marks.now c.args.lines.now c.args.modules_row.now c.args.statements_row.now c.args.used.now c.args.external.now c.args.json.now c.args.reason.now c.args.dead.now c.args.helpers.now c.args.entries.now) g e).0, partners_fit _ _ c.requires.header_read.is _ c.requires.h_in_bounds.0, c.requires.h_in_bounds.2); numbers_in_bounds_2 = (plan_fits _ _ c.requires.header_read.is _ c.requires.h_in_bounds_2.0, c.requires.h_in_bounds_2.1, c.requires.h_in_bounds_2.2) }

pub show_all-requires : goal.show_all-requires
unfolding graph_in
show_all-requires c = let g = c.may_begin.ensures in let e = c.in_ok-may_begin.was in let h = c.work.ensures.holds _ c.in-Ok.is in record { prepared = g.good e; reason_value = (begins_fits _ _ _ (rows c.args.marks.now c.args.lines.now c.args.modules_row.now c.args.statements_row.now c.args.used.now c.args.external.now c.args.json.now c.args.reason.now c.args.dead.now c.args.helpers.now c.args.entries.now) g e).1; main_le_total = (h.held.base_inside, h.held.room, h.held.good) }

pub show_run-count-requires : goal.show_run-count-requires
unfolding graph_in
show_run-count-requires c = let g = c.may_begin.ensures in let e = c.in_ok-may_begin.was in let h = c.work.ensures.holds _ c.in-Ok.is in record { prepared = (g.good e).0; shows = shows_held _ _ _ _ _ h; scratch_fits = (still_fits c.work.auto.partners (scratch_fits _ _ c.requires.header_read.is _ c.requires.h_in_bounds.1), (begins_fits _ _ _ (rows c.args.marks.now c.args.lines.now c.args.modules_row.now c.args.statements_row.now c.args.used.now c.args.external.now c.args.json.now c.args.reason.now c.args.dead.now c.args.helpers.now c.args.entries.now) g e).2) }

pub overflow_sub-result : goal.overflow_sub-result
overflow_sub-result c = (c.work.ensures.holds _ c.in-Ok.is).held.base_inside

pub returns-in_err-may_begin : goal.returns-in_err-may_begin
returns-in_err-may_begin c = rw (passed_on c.from_residual.result _ c.from_residual.ensures.1) (ends_refused _ _ _ (rows c.args.marks.now c.args.lines.now c.args.modules_row.now c.args.statements_row.now c.args.used.now c.args.external.now c.args.json.now c.args.reason.now c.args.dead.now c.args.helpers.now c.args.entries.now) c.may_begin.ensures c.in_err-may_begin.was)

pub returns-in-Err : goal.returns-in-Err
returns-in-Err c = ends_worked _ _ _ (rows c.args.marks.now c.args.lines.now c.args.modules_row.now c.args.statements_row.now c.args.used.now c.args.external.now c.args.json.now c.args.reason.now c.args.dead.now c.args.helpers.now c.args.entries.now) c.may_begin.ensures c.in_ok-may_begin.was (ends_short _ (rows c.args.marks.now c.args.lines.now c.args.modules_row.now c.args.statements_row.now c.args.used.now c.args.external.now c.args.json.now c.args.reason.now c.args.dead.now c.args.helpers.now c.args.entries.now) _ _ _ _ c.work.ensures c.in-Err.is)

pub returns-in-Ok : goal.returns-in-Ok
returns-in-Ok c = ends_worked _ _ _ (rows c.args.marks.now c.args.lines.now c.args.modules_row.now c.args.statements_row.now c.args.used.now c.args.external.now c.args.json.now c.args.reason.now c.args.dead.now c.args.helpers.now c.args.entries.now) c.may_begin.ensures c.in_ok-may_begin.was (ends_done _ (rows c.args.marks.now c.args.lines.now c.args.modules_row.now c.args.statements_row.now c.args.used.now c.args.external.now c.args.json.now c.args.reason.now c.args.dead.now c.args.helpers.now c.args.entries.now) (rows c.work.new.marks c.work.new.lines c.show_all.new.modules_row c.show_all.new.statements_row c.show_all.new.used c.show_all.new.external c.show_all.new.json c.show_all.new.reason c.show_run-count.new.dead c.show_run-count.new.helpers c.show_run-count.new.entries) _ _ (c.work.ensures.holds _ c.in-Ok.is) c.work.auto.marks c.work.auto.lines (λ i. (c.slice_known-17-1.given i).fits) c.show_all.ensures _ c.show_run-count.ensures)
