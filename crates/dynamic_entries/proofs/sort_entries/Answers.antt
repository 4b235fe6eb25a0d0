use native.Mathlib.Omega.{arith}
use borrow.Author.Rules.{part_to_end}
use Rattle.dynamic_entries.proofs.Parting.{users_long, users_inside, part_read}
use Rattle.dynamic_entries.proofs.Sorting.{part_fits, rest-room, sorted_all}
use Rattle.dynamic_entries.proofs.sort_entries.Goals as goal

pub overflow_sub-count : goal.overflow_sub-count
overflow_sub-count c = users_inside _ _ _ c.requires.parted.0 _ c.header_of-h.ensures

pub slice_bounds-link-count : goal.slice_bounds-link-count
slice_bounds-link-count c = users_long _ _ _ c.requires.parted.0

pub slice_bounds-link-start : goal.slice_bounds-link-start
slice_bounds-link-start c = users_long _ _ _ c.requires.parted.0

pub link-requires-clause-entries : goal.link-requires-clause-entries
link-requires-clause-entries c =
    rw (part_to_end c.args.plan.now c.args.users)
    (part_read _ _ _ c.requires.parted.0 _ c.header_of-h.ensures, rw c.header_of-h.ensures (omega (arith, c.requires.numbers_in_bounds.0)))

pub take_by_completion-requires-clause-chained : goal.take_by_completion-requires-clause-chained
take_by_completion-requires-clause-chained c =
    let h = c.header_of-h.ensures in (
      rw (h, part_to_end c.args.plan.now c.args.users) at c.link.ensures,
      rest-room _ _ h _ _ c.requires.parted.0 c.requires.parted.1 c.requires.numbers_in_bounds.2 _ _ _ c.take_first-n.ensures c.requires.numbers_in_bounds.1 c.take_first-n.auto.list,
    )

pub copy_back-requires : goal.copy_back-requires
copy_back-requires c =
    part_fits _ _ c.header_of-h.ensures _ _ c.requires.parted.0 c.requires.parted.1 c.requires.numbers_in_bounds.2 c.take_by_completion.new.list (omega (arith, c.requires.numbers_in_bounds.1))

pub returns : goal.returns
returns c =
    sorted_all _ _ c.header_of-h.ensures _ _ c.requires.parted.0 c.requires.parted.1 c.requires.numbers_in_bounds.2 _ _ _ c.take_first-n.ensures _ _ c.take_by_completion.ensures _ c.copy_back.ensures
