use Prim.Native.Nat.{◌+◌, ◌<◌, ◌≤◌}
use mathlib.Core.Path.{refl, ◌∙◌, sym}
use native.Mathlib.Omega.{arith}
use lib.ListN.{length, get_or}
use Rattle.graph_access.specs.tables_crate.Layout.{sizes, Laid, all_sections}
use Rattle.graph_access.proofs.tables_crate.Sections.{word_inside, ends_inside, kept_none, kept_both, laid_kept, laid_less}
use Rattle.graph_access.specs.graph_tables_crate.Tables.{header_in}
use Rattle.graph_access.specs.graph_crate.Check.{graph_in}
use Rattle.graph_access.specs.graph_crate.Loaded.{Loaded}
use Rattle.graph_access.proofs.graph_crate.Kept.{loaded_kept}
use Rattle.graph_access.specs.Names.{owner as owner_in, common_js_namespaces}
use Rattle.graph_access.specs.Words.{module_of, symbol_of}
use Rattle.linking_metadata.specs.Tabled.{entered}
use Rattle.linking_metadata.proofs.Entering.{by_rows, by_end, Turn, turn_own, turn_other}
use Rattle.linking_metadata.proofs.enter_namespaces.Goals as goal
use Rattle.linking_metadata.proofs.enter_namespaces.Goals.{else-owner-m, then-owner-m}

pub bounds-tables-8 : goal.bounds-tables-8
bounds-tables-8 c = word_inside c.requires.laid 8 (omega arith)

pub loop-k-init : goal.loop-k-init
unfolding by_rows entered
loop-k-init c = record { kept = kept_none; entries = λ s l. refl }

pub commonjs_namespace_symbol-s-requires : goal.commonjs_namespace_symbol-s-requires
commonjs_namespace_symbol-s-requires c =
    let loaded : Loaded c.args.numbers.now c.loop-k.tables = loaded_kept c.requires.loaded 8 (omega arith) (laid_less (omega arith) c.requires.laid) c.loop-k.invariant.kept in
    let inside : c.loop-k.k < length (common_js_namespaces (module_of (graph_in c.args.numbers.now) c.args.m.0)) = omega (arith, c.loop-k-test.true, c.commonjs_namespace_count-count.ensures.0) in record { loaded = loaded; m_bound = (c.requires.m_bound, inside) }

pub owner-owner-requires : goal.owner-owner-requires
owner-owner-requires c =
    let loaded : Loaded c.args.numbers.now c.loop-k.tables = loaded_kept c.requires.loaded 8 (omega arith) (laid_less (omega arith) c.requires.laid) c.loop-k.invariant.kept in
    record { loaded = loaded; s_bound = c.commonjs_namespace_symbol-s.ensures.1 }

pub commonjs_namespace_module-n-requires : goal.commonjs_namespace_module-n-requires
commonjs_namespace_module-n-requires c =
    let loaded : Loaded c.args.numbers.now c.loop-k.tables = loaded_kept c.requires.loaded 8 (omega arith) (laid_less (omega arith) c.requires.laid) c.loop-k.invariant.kept in
    let inside : c.loop-k.k < length (common_js_namespaces (module_of (graph_in c.args.numbers.now) c.args.m.0)) = omega (arith, c.loop-k-test.true, c.commonjs_namespace_count-count.ensures.0) in record { loaded = loaded; m_bound = (c.requires.m_bound, inside) }

pub overflow_add-tables-then-owner-m : goal.overflow_add-tables-then-owner-m
unfolding sizes
overflow_add-tables-then-owner-m c =
    let laid : Laid (header_in c.args.numbers.now) all_sections c.loop-k.tables = laid_kept c.requires.laid 8 (omega arith) c.loop-k.invariant.kept in
    let fits : get_or c.args.tables.now 8 0 + c.commonjs_namespace_symbol-s.result.0 < length c.loop-k.tables = omega (arith, c.requires.laid.starts 8 (omega arith), ends_inside laid 8 (omega arith), c.commonjs_namespace_symbol-s.ensures.1) in
    record { fits = omega (arith, fits, laid.few) }

pub offset_bounds-tables-base : goal.offset_bounds-tables-base
unfolding sizes
offset_bounds-tables-base c =
    let laid : Laid (header_in c.args.numbers.now) all_sections c.loop-k.tables = laid_kept c.requires.laid 8 (omega arith) c.loop-k.invariant.kept in
    let fits : get_or c.args.tables.now 8 0 + c.commonjs_namespace_symbol-s.result.0 < length c.loop-k.tables = omega (arith, c.requires.laid.starts 8 (omega arith), ends_inside laid 8 (omega arith), c.commonjs_namespace_symbol-s.ensures.1) in
    record { fits = omega (arith, fits, laid.few) }

pub bounds-tables-base : goal.bounds-tables-base
unfolding sizes
bounds-tables-base c =
    let laid : Laid (header_in c.args.numbers.now) all_sections c.loop-k.tables = laid_kept c.requires.laid 8 (omega arith) c.loop-k.invariant.kept in
    let fits : get_or c.args.tables.now 8 0 + c.commonjs_namespace_symbol-s.result.0 < length c.loop-k.tables = omega (arith, c.requires.laid.starts 8 (omega arith), ends_inside laid 8 (omega arith), c.commonjs_namespace_symbol-s.ensures.1) in
    fits

pub loop-k-preserved : goal.loop-k-preserved
loop-k-preserved c =
    let laid : Laid (header_in c.args.numbers.now) all_sections c.loop-k.tables = laid_kept c.requires.laid 8 (omega arith) c.loop-k.invariant.kept in
    let inside : c.loop-k.k < length (common_js_namespaces (module_of (graph_in c.args.numbers.now) c.args.m.0)) = omega (arith, c.loop-k-test.true, c.commonjs_namespace_count-count.ensures.0) in
    let t : Turn (λ s. owner_in (symbol_of (graph_in c.args.numbers.now) s)) c.args.m.0 (common_js_namespaces (module_of (graph_in c.args.numbers.now) c.args.m.0)) c.loop-k.k (header_in c.args.numbers.now) c.loop-k.tables c.if-owner-m.tables = let o = c.owner-owner.ensures.0 in
    let y = c.commonjs_namespace_symbol-s.ensures in
    elim c.if-owner-m.branch [ then-owner-m w ↦ turn_own _ _ _ _ inside _ _ _ _ y.0 laid _ (c.requires.laid.starts 8 (omega arith)) y.1 _ w.commonjs_namespace_module-n.ensures.0 (sym o ∙ w.if-owner-m.true) w.tables-is | else-owner-m w ↦ turn_other _ _ _ _ inside _ _ _ _ y.0 (λ z. w.if-owner-m.false (o ∙ z)) w.tables-is ] in
    let i = c.loop-k.invariant in
    record { kept = kept_both i.kept t.kept; entries = λ s l. t.entries s ∙ i.entries s l }

pub returns : goal.returns
returns c =
    let i = c.loop-k.invariant in
    let e : length (common_js_namespaces (module_of (graph_in c.args.numbers.now) c.args.m.0)) ≤ c.loop-k.k = omega (arith, c.loop-k-test.false, c.commonjs_namespace_count-count.ensures.0) in
    (λ s l. sym (by_end _ _ s _ _ _ e) ∙ i.entries s l, i.kept)
