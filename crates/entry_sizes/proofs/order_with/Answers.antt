use native.Mathlib.Omega.{arith}
use Rattle.determine_side_effects.specs.graph_tables_crate.Tables.{header_in}
use Rattle.entry_sizes.proofs.Tiers.{rows_ready}
use Rattle.entry_sizes.proofs.order_with.Goals as goal

pub whole_as_slice-order_in : goal.whole_as_slice-order_in
whole_as_slice-order_in g c = let b = c.requires.few.0 in omega (arith, b)

pub whole_as_slice-order_in-4 : goal.whole_as_slice-order_in-4
whole_as_slice-order_in-4 g c = let b = c.requires.few.1 in omega (arith, b)

pub whole_as_slice-order_in-5 : goal.whole_as_slice-order_in-5
whole_as_slice-order_in-5 g c = let b = c.requires.few.2 in omega (arith, b)

pub whole_as_slice-order_in-7 : goal.whole_as_slice-order_in-7
whole_as_slice-order_in-7 g c = let b = c.requires.few.3 in omega (arith, b)

pub order_in-requires-clause-stored : goal.order_in-requires-clause-stored
order_in-requires-clause-stored g c =
    let h = header_in c.args.numbers.now in
    let n = c.requires.numbers_bound in
    let r = c.requires.room in
    (rows_ready h.modules h.entries g.row.C g.row.M n.0 n.1 r.2 r.1 g.row.V g.row.M g.row.M g.row.S g.row.E g.row.M g.row.K g.row.M r.3 (omega arith) (omega arith) r.4 r.5 (omega arith) r.6 (omega arith)).0

pub order_in-requires-clause-numbers_in_bounds : goal.order_in-requires-clause-numbers_in_bounds
order_in-requires-clause-numbers_in_bounds g c =
    let h = header_in c.args.numbers.now in
    let n = c.requires.numbers_bound in
    let r = c.requires.room in
    (rows_ready h.modules h.entries g.row.C g.row.M n.0 n.1 r.2 r.1 g.row.V g.row.M g.row.M g.row.S g.row.E g.row.M g.row.K g.row.M r.3 (omega arith) (omega arith) r.4 r.5 (omega arith) r.6 (omega arith)).1
