use native.Mathlib.Omega.{arith}
use Rattle.entry_sizes.proofs.Splitting.{split_ready, split_done}
use Rattle.entry_sizes.proofs.split_with.Goals as goal

pub whole_as_slice-split_entries : goal.whole_as_slice-split_entries
whole_as_slice-split_entries g c = let b = c.requires.room.1 in omega (arith, b)

pub whole_as_slice-split_entries-2 : goal.whole_as_slice-split_entries-2
whole_as_slice-split_entries-2 g c = let r = c.requires.room in let a = r.0 in let b = r.1 in omega (arith, a, b)

pub split_entries-requires-clause-numbers_in_bounds : goal.split_entries-requires-clause-numbers_in_bounds
split_entries-requires-clause-numbers_in_bounds g c = split_ready _ _ c.requires.cleared g.row.M g.row.K g.row.M c.requires.numbers_bound.0 c.requires.numbers_bound.1 c.requires.room.0 (omega arith)

pub returns : goal.returns
returns g c = split_done _ _ c.requires.cleared _ _ (c.split_entries.ensures.value, c.split_entries.ensures.untouched)
