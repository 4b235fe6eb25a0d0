use native.Mathlib.Omega.{arith}
use Rattle.dynamic_entries.proofs.Searching.{holds_length, search_fits, search_ready, search-done, search-unlived}
use Rattle.dynamic_entries.proofs.sort_by_graph.Goals as goal

pub cycled_at-at-requires : goal.cycled_at-at-requires
cycled_at-at-requires c = search_fits _ _ c.header_of-h.ensures _ _ _ _ _ _ _ _ c.requires.parted

pub find_cycles-found-requires-clause-stored : goal.find_cycles-found-requires-clause-stored
find_cycles-found-requires-clause-stored c = (search_ready _ _ c.header_of-h.ensures _ _ _ _ _ _ _ _ c.requires.parted c.args.order.now c.requires.numbers_in_bounds.0).0

pub find_cycles-found-requires-clause-modules_in_bounds : goal.find_cycles-found-requires-clause-modules_in_bounds
find_cycles-found-requires-clause-modules_in_bounds c = rw c.cycled_at-at.ensures (search_ready _ _ c.header_of-h.ensures _ _ _ _ _ _ _ _ c.requires.parted c.args.order.now c.requires.numbers_in_bounds.0).1

pub sort_entries-requires-clause-parted : goal.sort_entries-requires-clause-parted
sort_entries-requires-clause-parted c =
    search-done _ _ c.header_of-h.ensures _ _ _ _ _ _ _ _ c.requires.parted _ _ _ (rw c.cycled_at-at.ensures at c.find_cycles-found.ensures) (omega (arith, c.requires.numbers_in_bounds.0))

pub sort_entries-requires-clause-numbers_in_bounds : goal.sort_entries-requires-clause-numbers_in_bounds
sort_entries-requires-clause-numbers_in_bounds c = (c.requires.numbers_in_bounds.1, c.requires.numbers_in_bounds.2, holds_length _ _ _ _ _ _ _ c.requires.parted.2)

pub returns : goal.returns
returns c =
    (c.sort_entries.ensures.0, search-unlived _ _ c.header_of-h.ensures _ _ _ _ _ _ _ _ c.requires.parted _ _ _ (rw c.cycled_at-at.ensures at c.find_cycles-found.ensures) _ c.sort_entries.ensures.1)
