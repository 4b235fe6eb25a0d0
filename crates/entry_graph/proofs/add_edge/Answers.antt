use Prim.Native.Nat.{◌-◌, ◌<◌}
use mathlib.Core.Path.{refl, ◌∙◌, sym}
use native.Mathlib.Omega.{arith}
use lib.ListN.{get_or}
use Rattle.entry_graph.proofs.Successors.{cell_below}
use Rattle.entry_graph.proofs.Edges.{node-room, placed, both_ends, edge_there, edge-full, edge-added}
use Rattle.entry_graph.proofs.add_edge.Goals as goal

pub put_node-first-requires : goal.put_node-first-requires
put_node-first-requires c =
    (omega (arith, c.requires.stored.outs_long), λ z. omega (arith, c.requires.stored.nodes_long, node-room c.requires.stored c.args.from c.requires.from_lt_modules.0 z))

pub put_node-both-requires : goal.put_node-both-requires
put_node-both-requires c =
    let p = placed c.requires.stored _ c.requires.from_lt_modules.0 c.put_node-first.ensures in
    (omega (arith, p.stored.outs_long), λ z. omega (arith, p.stored.nodes_long, node-room p.stored c.args.to c.requires.from_lt_modules.1 z))

pub test-requires : goal.test-requires
test-requires c = rw c.cell-bit.ensures (omega (arith, c.requires.stored.edges_long, cell_below c.args.modules c.args.modules c.args.to c.args.from c.requires.from_lt_modules.1 c.requires.from_lt_modules.0))

pub returns-then-test : goal.returns-then-test
returns-then-test c =
    let b = both_ends c.requires.stored c.requires.from_lt_modules c.put_node-first.ensures c.put_node-both.ensures in
    edge_there b c.requires.from_lt_modules.0 c.requires.from_lt_modules.1 (rw c.cell-bit.ensures at (sym c.test.ensures ∙ c.if-test.true))

pub overflow_sub-count : goal.overflow_sub-count
overflow_sub-count c =
    let b = both_ends c.requires.stored c.requires.from_lt_modules c.put_node-first.ensures c.put_node-both.ensures in
    omega (arith, b.from_put)

pub returns-then-count-cap : goal.returns-then-count-cap
returns-then-count-cap c =
    let b = both_ends c.requires.stored c.requires.from_lt_modules c.put_node-first.ensures c.put_node-both.ensures in
    λ v. edge-full b c.requires.from_lt_modules.0 c.requires.from_lt_modules.1 (rw c.cell-bit.ensures at (sym c.test.ensures ∙ c.if-test.false)) _ refl c.if-count-cap.true v _ _ _ _ _

pub cell-at-requires : goal.cell-at-requires
cell-at-requires c =
    let b = both_ends c.requires.stored c.requires.from_lt_modules c.put_node-first.ensures c.put_node-both.ensures in
    (c.requires.stored.cap_few, omega (arith, c.requires.stored.few), omega (arith, c.requires.stored.cap_few, b.stored.rows_fit c.args.from c.requires.from_lt_modules.0))

pub bounds-succs-at : goal.bounds-succs-at
bounds-succs-at c =
    let b = both_ends c.requires.stored c.requires.from_lt_modules c.put_node-first.ensures c.put_node-both.ensures in
    let room : get_or c.put_node-both.new.outs c.args.from 0 - 1 < c.args.cap = omega (arith, b.stored.rows_fit c.args.from c.requires.from_lt_modules.0) in
    rw c.cell-at.ensures (omega (arith, b.stored.succs_long, cell_below c.args.modules c.args.cap c.args.from _ c.requires.from_lt_modules.0 room))

pub set-requires : goal.set-requires
set-requires c = rw c.cell-bit.ensures (omega (arith, c.requires.stored.edges_long, cell_below c.args.modules c.args.modules c.args.to c.args.from c.requires.from_lt_modules.1 c.requires.from_lt_modules.0))

pub returns : goal.returns
returns c =
    let b = both_ends c.requires.stored c.requires.from_lt_modules c.put_node-first.ensures c.put_node-both.ensures in
    λ v.
    rw c.cell-at.ensures
    (edge-added b c.requires.from_lt_modules.0 c.requires.from_lt_modules.1 (rw c.cell-bit.ensures at (sym c.test.ensures ∙ c.if-test.false)) _ _ refl c.if-count-cap.false c.narrow.ensures _ (rw c.cell-bit.ensures at c.set.ensures) c.set.auto.row v)
