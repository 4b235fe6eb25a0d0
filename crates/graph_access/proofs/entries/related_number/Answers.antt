use Prim.Native.Nat.{◌+◌, ◌*◌, ◌<◌}
use mathlib.Core.Path.{◌∙◌}
use native.Mathlib.Omega.{arith}
use lib.ListN.{length, get_or}
use Rattle.graph.specs.graph_tables_crate.Places.{EntryTable}
use Rattle.graph.specs.Check.{graph_in}
use Rattle.graph_access.specs.Words.{entry_of}
use Rattle.graph_access.specs.Names.{related}
use Rattle.graph_access.proofs.OfEntries.{related-inside, related_same}
use Rattle.graph_access.proofs.entries.related_number.Goals as goal

pub overflow_add-p : goal.overflow_add-p
unfolding related entry_of graph_in
overflow_add-p c =
    let table : EntryTable c.args.numbers.now c.section-places.result.now = rw c.section-places.ensures c.requires.loaded.of_entries in
    let here : get_or c.section-places.result.now c.args.e.0 0 + 3 + 4 * c.args.k + c.args.column < length c.args.numbers.now = related-inside _ _ table _ c.requires.e_bound.0 _ c.requires.e_bound.1 _ c.requires.e_bound.2 in
    omega (arith, here)

pub overflow_mul-k : goal.overflow_mul-k
unfolding related entry_of graph_in
overflow_mul-k c =
    let table : EntryTable c.args.numbers.now c.section-places.result.now = rw c.section-places.ensures c.requires.loaded.of_entries in
    let here : get_or c.section-places.result.now c.args.e.0 0 + 3 + 4 * c.args.k + c.args.column < length c.args.numbers.now = related-inside _ _ table _ c.requires.e_bound.0 _ c.requires.e_bound.1 _ c.requires.e_bound.2 in
    omega (arith, here)

pub overflow_add-p-2 : goal.overflow_add-p-2
unfolding related entry_of graph_in
overflow_add-p-2 c =
    let table : EntryTable c.args.numbers.now c.section-places.result.now = rw c.section-places.ensures c.requires.loaded.of_entries in
    let here : get_or c.section-places.result.now c.args.e.0 0 + 3 + 4 * c.args.k + c.args.column < length c.args.numbers.now = related-inside _ _ table _ c.requires.e_bound.0 _ c.requires.e_bound.1 _ c.requires.e_bound.2 in
    omega (arith, here)

pub overflow_add-p-3 : goal.overflow_add-p-3
unfolding related entry_of graph_in
overflow_add-p-3 c =
    let table : EntryTable c.args.numbers.now c.section-places.result.now = rw c.section-places.ensures c.requires.loaded.of_entries in
    let here : get_or c.section-places.result.now c.args.e.0 0 + 3 + 4 * c.args.k + c.args.column < length c.args.numbers.now = related-inside _ _ table _ c.requires.e_bound.0 _ c.requires.e_bound.1 _ c.requires.e_bound.2 in
    omega (arith, here)

pub offset_bounds-numbers-p : goal.offset_bounds-numbers-p
unfolding related entry_of graph_in
offset_bounds-numbers-p c =
    let table : EntryTable c.args.numbers.now c.section-places.result.now = rw c.section-places.ensures c.requires.loaded.of_entries in
    let here : get_or c.section-places.result.now c.args.e.0 0 + 3 + 4 * c.args.k + c.args.column < length c.args.numbers.now = related-inside _ _ table _ c.requires.e_bound.0 _ c.requires.e_bound.1 _ c.requires.e_bound.2 in
    omega (arith, here)

pub bounds-numbers-p : goal.bounds-numbers-p
unfolding related entry_of graph_in
bounds-numbers-p c =
    let table : EntryTable c.args.numbers.now c.section-places.result.now = rw c.section-places.ensures c.requires.loaded.of_entries in
    let here : get_or c.section-places.result.now c.args.e.0 0 + 3 + 4 * c.args.k + c.args.column < length c.args.numbers.now = related-inside _ _ table _ c.requires.e_bound.0 _ c.requires.e_bound.1 _ c.requires.e_bound.2 in
    omega (arith, here)

pub returns : goal.returns
unfolding related entry_of graph_in
returns c =
    let table : EntryTable c.args.numbers.now c.section-places.result.now = rw c.section-places.ensures c.requires.loaded.of_entries in
    c.wide.ensures ∙ related_same _ _ table _ c.requires.e_bound.0 _ c.requires.e_bound.1 _ c.requires.e_bound.2
