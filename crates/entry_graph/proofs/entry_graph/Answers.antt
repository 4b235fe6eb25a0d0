use mathlib.Core.Path.{ap, ◌∙◌, sym}
use native.Mathlib.Omega.{arith}
use lib.ListN.{take}
use lib.Seq.{length-take-le, get_or-take}
use Rattle.graph_access.specs.graph_crate.Check.{graph_in}
use Rattle.entry_order.specs.Order.{module_of_entry}
use Rattle.entry_graph.proofs.Entries.{all_clear, building_start, building-step, building-done, builds_full}
use Rattle.entry_graph.proofs.entry_graph.Goals as goal

pub loop-i-init : goal.loop-i-init
unfolding graph_in
loop-i-init c = building_start (graph_in c.args.numbers.now) c.args.cap _ _ _ _ _ _ c.requires.stored.0

pub construct_dynamic_entry_graph-requires-clause-stored : goal.construct_dynamic_entry_graph-requires-clause-stored
unfolding graph_in
construct_dynamic_entry_graph-requires-clause-stored c = c.loop-i.invariant.stored

pub construct_dynamic_entry_graph-requires-clause-first_bound : goal.construct_dynamic_entry_graph-requires-clause-first_bound
construct_dynamic_entry_graph-requires-clause-first_bound c =
    (c.entry_module-m.ensures.1, omega (arith, c.requires.stored.1), rw c.clear.ensures (all_clear _ _ (omega arith) _))

pub returns-in-Full : goal.returns-in-Full
returns-in-Full c = builds_full (c.construct_dynamic_entry_graph.ensures.too_many c.in-Full.is)

pub loop-i-preserved : goal.loop-i-preserved
unfolding graph_in module_of_entry
loop-i-preserved c =
    let all = take c.args.count c.args.list.now in
    let long = length-take-le c.args.count c.args.list.now c.requires.count_in_bounds.0 in
    building-step (graph_in c.args.numbers.now) c.args.cap all c.loop-i.invariant c.clear.new.row c.entry_module-m.result.0
    (omega (arith, long))
    (c.entry_module-m.ensures.0 ∙ ap (module_of_entry (graph_in c.args.numbers.now)) (sym (get_or-take c.args.count c.args.list.now c.loop-i.i 0 c.loop-i-test.true)))
    (rw c.clear.ensures (all_clear _ _ (omega arith)))
    c.construct_dynamic_entry_graph.ensures
    _
    c.in-Nodes.is

pub returns : goal.returns
unfolding graph_in
returns c =
    let long = length-take-le c.args.count c.args.list.now c.requires.count_in_bounds.0 in
    building-done (graph_in c.args.numbers.now) c.args.cap (take c.args.count c.args.list.now) c.loop-i.invariant (omega (arith, long))
