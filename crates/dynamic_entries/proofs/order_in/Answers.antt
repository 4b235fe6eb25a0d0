use borrow.Author.Rules.{part_to_end}
use Rattle.dynamic_entries.proofs.Parting.{users_long, users_inside, part_below}
use Rattle.dynamic_entries.proofs.Building.{orders_done, built_holds, built_full}
use Rattle.dynamic_entries.proofs.order_in.Goals as goal

pub overflow_sub-count : goal.overflow_sub-count
overflow_sub-count c = users_inside _ _ _ c.requires.parted.0 _ c.header_of-h.ensures

pub slice_bounds-entry_graph-count : goal.slice_bounds-entry_graph-count
slice_bounds-entry_graph-count c = users_long _ _ _ c.requires.parted.0

pub slice_bounds-entry_graph-start : goal.slice_bounds-entry_graph-start
slice_bounds-entry_graph-start c = users_long _ _ _ c.requires.parted.0

pub entry_graph-requires-clause-count_in_bounds : goal.entry_graph-requires-clause-count_in_bounds
entry_graph-requires-clause-count_in_bounds c = rw (part_to_end c.args.plan.now c.args.users) (part_below _ _ _ c.requires.parted.0 _ c.header_of-h.ensures)

pub sort_by_graph-requires-clause-parted : goal.sort_by_graph-requires-clause-parted
sort_by_graph-requires-clause-parted c =
    let b = rw (part_to_end c.args.plan.now c.args.users) at c.entry_graph.ensures in
    (c.requires.parted.0, c.requires.parted.1, built_holds _ _ _ c.requires.parted.0 _ c.header_of-h.ensures _ _ _ _ _ _ b _ c.in-Nodes.is)

pub returns-in-Full : goal.returns-in-Full
returns-in-Full c =
    let b = rw (part_to_end c.args.plan.now c.args.users) at c.entry_graph.ensures in
    built_full _ _ _ c.requires.parted.0 _ c.header_of-h.ensures _ _ _ _ _ _ b c.in-Full.is

pub returns-in-Nodes : goal.returns-in-Nodes
returns-in-Nodes c = orders_done _ _ _ _ _ c.sort_by_graph.ensures
