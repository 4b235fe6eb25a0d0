use Prim.Native.Nat.{◌+◌, ◌<◌}
use native.Mathlib.Omega.{arith}
use lib.ListN.{length, get_or}
use Rattle.graph.proofs.tables_crate.Sections.{inside}
use Rattle.graph.specs.graph_tables_crate.Places.{StatementTable}
use Rattle.graph.specs.Check.{graph_in}
use Rattle.graph_access.specs.Words.{statement_list, statement_of}
use Rattle.graph_access.proofs.OfStatements.{index-inside, place-there}
use Rattle.graph_access.proofs.statements.place.Goals as goal

pub section-firsts-requires : goal.section-firsts-requires
section-firsts-requires c = inside c.requires.loaded.laid 2 (omega arith)

pub section-places-requires : goal.section-places-requires
section-places-requires c = inside c.requires.loaded.laid 3 (omega arith)

pub overflow_add-result : goal.overflow_add-result
unfolding statement_list graph_in
overflow_add-result c =
    let table : StatementTable c.args.numbers.now c.section-firsts.result.now c.section-places.result.now = rw (c.section-firsts.ensures, c.section-places.ensures) c.requires.loaded.of_statements in
    let here : get_or c.section-firsts.result.now c.args.m.0 0 + c.args.i.0 < length c.section-places.result.now = index-inside _ _ _ _ c.requires.loaded.of_modules table _ c.requires.m_bound.0 _ c.requires.m_bound.1 in
    omega (arith, here)

pub offset_bounds-places-first : goal.offset_bounds-places-first
unfolding statement_list graph_in
offset_bounds-places-first c =
    let table : StatementTable c.args.numbers.now c.section-firsts.result.now c.section-places.result.now = rw (c.section-firsts.ensures, c.section-places.ensures) c.requires.loaded.of_statements in
    let here : get_or c.section-firsts.result.now c.args.m.0 0 + c.args.i.0 < length c.section-places.result.now = index-inside _ _ _ _ c.requires.loaded.of_modules table _ c.requires.m_bound.0 _ c.requires.m_bound.1 in
    omega (arith, here)

pub bounds-places-first : goal.bounds-places-first
unfolding statement_list graph_in
bounds-places-first c =
    let table : StatementTable c.args.numbers.now c.section-firsts.result.now c.section-places.result.now = rw (c.section-firsts.ensures, c.section-places.ensures) c.requires.loaded.of_statements in
    let here : get_or c.section-firsts.result.now c.args.m.0 0 + c.args.i.0 < length c.section-places.result.now = index-inside _ _ _ _ c.requires.loaded.of_modules table _ c.requires.m_bound.0 _ c.requires.m_bound.1 in
    here

pub returns : goal.returns
unfolding statement_of statement_list graph_in
returns c =
    let table : StatementTable c.args.numbers.now c.section-firsts.result.now c.section-places.result.now = rw (c.section-firsts.ensures, c.section-places.ensures) c.requires.loaded.of_statements in
    place-there _ _ _ _ c.requires.loaded.of_modules table _ c.requires.m_bound.0 _ c.requires.m_bound.1
