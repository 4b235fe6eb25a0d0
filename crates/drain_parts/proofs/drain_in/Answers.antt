use Rattle.drain_parts.proofs.InOrder.{partners_fit, tier_enough, tier_refused, tier_worked}
use Rattle.determine_side_effects.proofs.refusal_crate.Exits.{passed_on}
use Rattle.drain_parts.proofs.drain_in.Goals as goal

pub lengths_of-lengths-requires : goal.lengths_of-lengths-requires
lengths_of-lengths-requires c = _

pub may_begin-requires : goal.may_begin-requires
may_begin-requires c = record { header_read = c.requires.header_read; all_sections_in_bounds = c.requires.all_sections_in_bounds }

pub work_and_show-requires : goal.work_and_show-requires
work_and_show-requires c = let g = c.may_begin.ensures in let e = c.in_ok-may_begin.was in record { prepared = g.good e; numbers_in_bounds = (partners_fit _ _ _ c.requires.header_read.is c.requires.h_in_bounds.0, c.requires.h_in_bounds.1); reason_value = tier_enough _ _ _ _ _ _ c.lengths_of-lengths.ensures g e }

pub returns-in_err-may_begin : goal.returns-in_err-may_begin
returns-in_err-may_begin c = rw (passed_on c.from_residual.result _ c.from_residual.ensures.1) (tier_refused _ _ _ _ _ _ c.lengths_of-lengths.ensures c.may_begin.ensures c.in_err-may_begin.was)

pub returns : goal.returns
returns c = tier_worked _ _ _ _ _ _ c.lengths_of-lengths.ensures c.may_begin.ensures c.in_ok-may_begin.was c.work_and_show.ensures
