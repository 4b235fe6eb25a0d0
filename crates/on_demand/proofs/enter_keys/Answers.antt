use Prim.Native.Nat.{◌+◌, ◌-◌, ◌<◌, ◌≤◌}
use mathlib.Core.Path.{◌≡◌, refl, ap, ◌∙◌, sym}
use mathlib.Core.List.{[]}
use native.Mathlib.Omega.{arith}
use lib.ListN.{length, get_or, drop}
use Rattle.determine_side_effects.specs.tables_crate.Layout.{sizes, bodies_in}
use Rattle.determine_side_effects.proofs.tables_crate.Sections.{word_inside, ends_inside, section-length, kept_none, laid_kept, laid_less}
use Rattle.determine_side_effects.specs.graph_tables_crate.Tables.{header_in}
use Rattle.determine_side_effects.specs.graph_crate.Check.{graph_in}
use Rattle.determine_side_effects.specs.graph_crate.Loaded.{Loaded}
use Rattle.determine_side_effects.proofs.graph_crate.Kept.{loaded_kept}
use Rattle.determine_side_effects.specs.graph_access_crate.Names.{own_exports, only}
use Rattle.determine_side_effects.specs.graph_access_crate.Words.{module_of, root_of}
use Rattle.determine_side_effects.proofs.graph_access_crate.Indexes.{namespace_of_normal}
use Rattle.determine_side_effects.proofs.facts_crate.Folds.{by_some, by_some_end}
use Rattle.determine_side_effects.proofs.InSection.{kept_written, section_written}
use Rattle.on_demand.proofs.Entering.{rooted, key_step, key_last}
use Rattle.on_demand.proofs.enter_keys.Goals as goal

pub bounds-tables-7 : goal.bounds-tables-7
bounds-tables-7 c = word_inside c.requires.laid 7 (omega arith)

pub loop-k-init : goal.loop-k-init
loop-k-init c = record { kept = kept_none; entries = λ s. refl }

pub own_export-own-requires : goal.own_export-own-requires
own_export-own-requires c =
    let loaded : Loaded c.args.numbers.now c.loop-k.tables = loaded_kept c.requires.loaded 7 (omega arith) (laid_less (omega arith) c.requires.laid) c.loop-k.invariant.kept in
    let inside : c.loop-k.k < length (own_exports (module_of (graph_in c.args.numbers.now) c.args.m.0)) = omega (arith, c.loop-k-test.true, c.own_export_count-count.ensures.0) in record { loaded = loaded; m_bound = (c.requires.m_bound.0, inside) }

pub root-root-requires : goal.root-root-requires
root-root-requires c =
    let loaded : Loaded c.args.numbers.now c.loop-k.tables = loaded_kept c.requires.loaded 7 (omega arith) (laid_less (omega arith) c.requires.laid) c.loop-k.invariant.kept in record { loaded = loaded; s_bound = c.own_export-own.ensures.1 }

pub overflow_add-tables-in-loop-k : goal.overflow_add-tables-in-loop-k
unfolding sizes
overflow_add-tables-in-loop-k c =
    let loaded : Loaded c.args.numbers.now c.loop-k.tables = loaded_kept c.requires.loaded 7 (omega arith) (laid_less (omega arith) c.requires.laid) c.loop-k.invariant.kept in
    let ends : get_or c.args.tables.now 7 0 + (header_in c.args.numbers.now).symbols ≤ length c.loop-k.tables = let t = c.requires.laid in omega (arith, t.starts 7 (omega arith), ends_inside t 7 (omega arith), c.loop-k.invariant.kept.same_length) in
    record { fits = omega (arith, ends, c.root-root.ensures.1, c.own_export-own.ensures.1, loaded.laid.few) }

pub offset_bounds-tables-base : goal.offset_bounds-tables-base
unfolding sizes
offset_bounds-tables-base c =
    let loaded : Loaded c.args.numbers.now c.loop-k.tables = loaded_kept c.requires.loaded 7 (omega arith) (laid_less (omega arith) c.requires.laid) c.loop-k.invariant.kept in
    let ends : get_or c.args.tables.now 7 0 + (header_in c.args.numbers.now).symbols ≤ length c.loop-k.tables = let t = c.requires.laid in omega (arith, t.starts 7 (omega arith), ends_inside t 7 (omega arith), c.loop-k.invariant.kept.same_length) in
    record { fits = omega (arith, ends, c.root-root.ensures.1, c.own_export-own.ensures.1, loaded.laid.few) }

pub bounds-tables-base : goal.bounds-tables-base
unfolding sizes
bounds-tables-base c =
    let ends : get_or c.args.tables.now 7 0 + (header_in c.args.numbers.now).symbols ≤ length c.loop-k.tables = let t = c.requires.laid in omega (arith, t.starts 7 (omega arith), ends_inside t 7 (omega arith), c.loop-k.invariant.kept.same_length) in
    omega (arith, ends, c.root-root.ensures.1, c.own_export-own.ensures.1)

pub loop-k-preserved : goal.loop-k-preserved
unfolding sizes
loop-k-preserved c =
    let long : length (bodies_in c.loop-k.tables) ≡ (header_in c.args.numbers.now).symbols = section-length (laid_kept c.requires.laid 7 (omega arith) c.loop-k.invariant.kept) 7 (omega arith) in
    let inside : c.loop-k.k < length (own_exports (module_of (graph_in c.args.numbers.now) c.args.m.0)) = omega (arith, c.loop-k-test.true, c.own_export_count-count.ensures.0) in
    let root_is : c.root-root.result.0 ≡ root_of (graph_in c.args.numbers.now).symbols (only (get_or (own_exports (module_of (graph_in c.args.numbers.now) c.args.m.0)) c.loop-k.k [])) = c.root-root.ensures.0 ∙ ap (root_of (graph_in c.args.numbers.now).symbols) c.own_export-own.ensures.0 in
    let i = c.loop-k.invariant in
    let r = c.root-root in
    let x = c.args.m.0 + 1 in
    let g = graph_in c.args.numbers.now in
    let rows = own_exports (module_of g c.args.m.0) in
    let w = section_written c.requires.laid 7 (omega arith) i.kept r.result.0 r.ensures.1 x in
    let l : r.result.0 < length (bodies_in c.loop-k.tables) = omega (arith, r.ensures.1, long) in record {
      kept = kept_written c.requires.laid 7 (omega arith) i.kept r.result.0 r.ensures.1 x;
      entries = λ y. ap (λ table. by_some (rooted g y) x (drop (c.loop-k.k + 1) rows) (get_or table y 0)) w ∙ key_step g rows c.loop-k.k inside (bodies_in c.loop-k.tables) x r.result.0 root_is l y ∙ i.entries y;
    }

pub namespace-namespace-requires : goal.namespace-namespace-requires
namespace-namespace-requires c =
    let loaded : Loaded c.args.numbers.now c.loop-k.tables = loaded_kept c.requires.loaded 7 (omega arith) (laid_less (omega arith) c.requires.laid) c.loop-k.invariant.kept in record { loaded = loaded; m_bound = c.requires.m_bound.0 }

pub overflow_sub-tables : goal.overflow_sub-tables
overflow_sub-tables c =
    let named : 0 < c.namespace-namespace.result = rw c.namespace-namespace.ensures.0 (namespace_of_normal c.requires.loaded _ c.requires.m_bound.0 c.requires.m_bound.1).0 in
    named

pub overflow_add-tables-3 : goal.overflow_add-tables-3
unfolding sizes
overflow_add-tables-3 c =
    let loaded : Loaded c.args.numbers.now c.loop-k.tables = loaded_kept c.requires.loaded 7 (omega arith) (laid_less (omega arith) c.requires.laid) c.loop-k.invariant.kept in
    let ends : get_or c.args.tables.now 7 0 + (header_in c.args.numbers.now).symbols ≤ length c.loop-k.tables = let t = c.requires.laid in omega (arith, t.starts 7 (omega arith), ends_inside t 7 (omega arith), c.loop-k.invariant.kept.same_length) in
    let named : 0 < c.namespace-namespace.result = rw c.namespace-namespace.ensures.0 (namespace_of_normal c.requires.loaded _ c.requires.m_bound.0 c.requires.m_bound.1).0 in
    let below : c.namespace-namespace.result - 1 < (header_in c.args.numbers.now).symbols = omega (arith, named, c.namespace-namespace.ensures.1) in
    record { fits = omega (arith, ends, below, loaded.laid.few) }

pub offset_bounds-tables-base-2 : goal.offset_bounds-tables-base-2
unfolding sizes
offset_bounds-tables-base-2 c =
    let loaded : Loaded c.args.numbers.now c.loop-k.tables = loaded_kept c.requires.loaded 7 (omega arith) (laid_less (omega arith) c.requires.laid) c.loop-k.invariant.kept in
    let ends : get_or c.args.tables.now 7 0 + (header_in c.args.numbers.now).symbols ≤ length c.loop-k.tables = let t = c.requires.laid in omega (arith, t.starts 7 (omega arith), ends_inside t 7 (omega arith), c.loop-k.invariant.kept.same_length) in
    let named : 0 < c.namespace-namespace.result = rw c.namespace-namespace.ensures.0 (namespace_of_normal c.requires.loaded _ c.requires.m_bound.0 c.requires.m_bound.1).0 in
    let below : c.namespace-namespace.result - 1 < (header_in c.args.numbers.now).symbols = omega (arith, named, c.namespace-namespace.ensures.1) in
    record { fits = omega (arith, ends, below, loaded.laid.few) }

pub bounds-tables-base-2 : goal.bounds-tables-base-2
unfolding sizes
bounds-tables-base-2 c =
    let ends : get_or c.args.tables.now 7 0 + (header_in c.args.numbers.now).symbols ≤ length c.loop-k.tables = let t = c.requires.laid in omega (arith, t.starts 7 (omega arith), ends_inside t 7 (omega arith), c.loop-k.invariant.kept.same_length) in
    let named : 0 < c.namespace-namespace.result = rw c.namespace-namespace.ensures.0 (namespace_of_normal c.requires.loaded _ c.requires.m_bound.0 c.requires.m_bound.1).0 in
    let below : c.namespace-namespace.result - 1 < (header_in c.args.numbers.now).symbols = omega (arith, named, c.namespace-namespace.ensures.1) in
    omega (arith, ends, below)

pub returns : goal.returns
unfolding sizes
returns c =
    let long : length (bodies_in c.loop-k.tables) ≡ (header_in c.args.numbers.now).symbols = section-length (laid_kept c.requires.laid 7 (omega arith) c.loop-k.invariant.kept) 7 (omega arith) in
    let named : 0 < c.namespace-namespace.result = rw c.namespace-namespace.ensures.0 (namespace_of_normal c.requires.loaded _ c.requires.m_bound.0 c.requires.m_bound.1).0 in
    let below : c.namespace-namespace.result - 1 < (header_in c.args.numbers.now).symbols = omega (arith, named, c.namespace-namespace.ensures.1) in
    let i = c.loop-k.invariant in
    let n = c.namespace-namespace in
    let x = c.args.m.0 + 1 in
    let g = graph_in c.args.numbers.now in
    let e : length (own_exports (module_of g c.args.m.0)) ≤ c.loop-k.k = omega (arith, c.loop-k-test.false, c.own_export_count-count.ensures.0) in
    let l : n.result - 1 < length (bodies_in c.loop-k.tables) = omega (arith, below, long) in
    let w = section_written c.requires.laid 7 (omega arith) i.kept (n.result - 1) below x in (
      λ y b. ap (λ table. get_or table y 0) w ∙ key_last g c.args.m.0 y n.result (bodies_in c.loop-k.tables) (get_or (bodies_in c.args.tables.now) y 0) n.ensures.0 named l (sym (by_some_end _ _ [] _ _ _ e) ∙ i.entries y),
      kept_written c.requires.laid 7 (omega arith) i.kept (n.result - 1) below x,
    )
