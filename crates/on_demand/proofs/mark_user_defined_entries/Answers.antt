use Prim.Native.Nat.{◌+◌, ◌<◌, ◌≤◌}
use mathlib.Core.Path.{ap, ◌∙◌, sym}
use native.Mathlib.Omega.{arith}
use lib.ListN.{length, get_or}
use Rattle.determine_side_effects.specs.rows_crate.Walk.{no_item}
use Rattle.determine_side_effects.specs.tables_crate.Layout.{sizes, start_of, Laid, Kept, at_on_demand, all_sections}
use Rattle.determine_side_effects.proofs.tables_crate.Sections.{start_low, inside, word_inside, kept_none, kept_both, kept_less, laid_kept, laid_less}
use Rattle.determine_side_effects.specs.graph_tables_crate.Tables.{header_in}
use Rattle.determine_side_effects.specs.graph_crate.Check.{graph_in}
use Rattle.determine_side_effects.specs.graph_crate.Loaded.{Loaded}
use Rattle.determine_side_effects.proofs.graph_crate.Kept.{loaded_kept}
use Rattle.determine_side_effects.specs.graph_access_crate.Words.{entry_of}
use Rattle.determine_side_effects.proofs.facts_crate.Folds.{by_some_end}
use Rattle.determine_side_effects.proofs.InSection.{word_fits}
use Rattle.on_demand.proofs.Halfway.{entries_long}
use Rattle.on_demand.proofs.Entering.{marks_start, Turn, turn_user, turn_other}
use Rattle.on_demand.proofs.mark_user_defined_entries.Goals as goal
use Rattle.on_demand.proofs.mark_user_defined_entries.Goals.{else-entry_kind-lt2, then-entry_kind-lt2}

pub clear-requires : goal.clear-requires
clear-requires c =
    let t = c.requires.laid in
    (inside t 6 (omega arith), omega (arith, t.starts 6 (omega arith), start_low (header_in c.args.numbers.now) 6))

pub bounds-tables-6 : goal.bounds-tables-6
bounds-tables-6 c =
    let cleared : Kept (start_of (header_in c.args.numbers.now) at_on_demand) c.args.tables.now c.clear.new.tables = let p = c.requires.laid.starts 6 (omega arith) in kept_less (omega (arith, p)) c.clear.ensures.0 in
    let laid : Laid (header_in c.args.numbers.now) all_sections c.clear.new.tables = laid_kept c.requires.laid 6 (omega arith) cleared in
    word_inside laid 6 (omega arith)

pub loop-e-init : goal.loop-e-init
loop-e-init c = record { kept = kept_none; entries = λ m l. marks_start _ m _ (c.clear.ensures.1 m) }

pub entry_kind-requires : goal.entry_kind-requires
entry_kind-requires c =
    let cleared : Kept (start_of (header_in c.args.numbers.now) at_on_demand) c.args.tables.now c.clear.new.tables = let p = c.requires.laid.starts 6 (omega arith) in kept_less (omega (arith, p)) c.clear.ensures.0 in
    let loaded : Loaded c.args.numbers.now c.loop-e.tables = loaded_kept c.requires.loaded 6 (omega arith) (laid_less (omega arith) c.requires.laid) (kept_both cleared c.loop-e.invariant.kept) in
    let small : c.loop-e.e < (header_in c.args.numbers.now).entries = omega (arith, c.loop-e-test.true, ap (λ h. h.entries) c.header_of-h.ensures) in record { loaded = loaded; e_bound = small }

pub entry_module-m-requires : goal.entry_module-m-requires
entry_module-m-requires c =
    let cleared : Kept (start_of (header_in c.args.numbers.now) at_on_demand) c.args.tables.now c.clear.new.tables = let p = c.requires.laid.starts 6 (omega arith) in kept_less (omega (arith, p)) c.clear.ensures.0 in
    let loaded : Loaded c.args.numbers.now c.loop-e.tables = loaded_kept c.requires.loaded 6 (omega arith) (laid_less (omega arith) c.requires.laid) (kept_both cleared c.loop-e.invariant.kept) in
    let small : c.loop-e.e < (header_in c.args.numbers.now).entries = omega (arith, c.loop-e-test.true, ap (λ h. h.entries) c.header_of-h.ensures) in record { loaded = loaded; e_bound = small }

pub overflow_add-tables : goal.overflow_add-tables
unfolding sizes
overflow_add-tables c =
    let cleared : Kept (start_of (header_in c.args.numbers.now) at_on_demand) c.args.tables.now c.clear.new.tables = let p = c.requires.laid.starts 6 (omega arith) in kept_less (omega (arith, p)) c.clear.ensures.0 in
    let laid : Laid (header_in c.args.numbers.now) all_sections c.clear.new.tables = laid_kept c.requires.laid 6 (omega arith) cleared in
    let loaded : Loaded c.args.numbers.now c.loop-e.tables = loaded_kept c.requires.loaded 6 (omega arith) (laid_less (omega arith) c.requires.laid) (kept_both cleared c.loop-e.invariant.kept) in
    let fits : get_or c.clear.new.tables 6 0 + c.entry_module-m.result.0 < length c.loop-e.tables = word_fits laid 6 (omega arith) c.loop-e.invariant.kept c.entry_module-m.result.0 c.entry_module-m.ensures.1 in
    record { fits = omega (arith, fits, loaded.laid.few) }

pub offset_bounds-tables-base : goal.offset_bounds-tables-base
unfolding sizes
offset_bounds-tables-base c =
    let cleared : Kept (start_of (header_in c.args.numbers.now) at_on_demand) c.args.tables.now c.clear.new.tables = let p = c.requires.laid.starts 6 (omega arith) in kept_less (omega (arith, p)) c.clear.ensures.0 in
    let laid : Laid (header_in c.args.numbers.now) all_sections c.clear.new.tables = laid_kept c.requires.laid 6 (omega arith) cleared in
    let loaded : Loaded c.args.numbers.now c.loop-e.tables = loaded_kept c.requires.loaded 6 (omega arith) (laid_less (omega arith) c.requires.laid) (kept_both cleared c.loop-e.invariant.kept) in
    let fits : get_or c.clear.new.tables 6 0 + c.entry_module-m.result.0 < length c.loop-e.tables = word_fits laid 6 (omega arith) c.loop-e.invariant.kept c.entry_module-m.result.0 c.entry_module-m.ensures.1 in
    record { fits = omega (arith, fits, loaded.laid.few) }

pub bounds-tables-base : goal.bounds-tables-base
unfolding sizes
bounds-tables-base c =
    let cleared : Kept (start_of (header_in c.args.numbers.now) at_on_demand) c.args.tables.now c.clear.new.tables = let p = c.requires.laid.starts 6 (omega arith) in kept_less (omega (arith, p)) c.clear.ensures.0 in
    let laid : Laid (header_in c.args.numbers.now) all_sections c.clear.new.tables = laid_kept c.requires.laid 6 (omega arith) cleared in
    let fits : get_or c.clear.new.tables 6 0 + c.entry_module-m.result.0 < length c.loop-e.tables = word_fits laid 6 (omega arith) c.loop-e.invariant.kept c.entry_module-m.result.0 c.entry_module-m.ensures.1 in
    fits

pub loop-e-preserved : goal.loop-e-preserved
unfolding entry_of
loop-e-preserved c =
    let cleared : Kept (start_of (header_in c.args.numbers.now) at_on_demand) c.args.tables.now c.clear.new.tables = let p = c.requires.laid.starts 6 (omega arith) in kept_less (omega (arith, p)) c.clear.ensures.0 in
    let laid : Laid (header_in c.args.numbers.now) all_sections c.clear.new.tables = laid_kept c.requires.laid 6 (omega arith) cleared in
    let small : c.loop-e.e < (header_in c.args.numbers.now).entries = omega (arith, c.loop-e-test.true, ap (λ h. h.entries) c.header_of-h.ensures) in
    let t : Turn (graph_in c.args.numbers.now).entries c.loop-e.e (header_in c.args.numbers.now) c.clear.new.tables c.loop-e.tables c.if-entry_kind-lt2.tables = let l : c.loop-e.e < length (graph_in c.args.numbers.now).entries = omega (arith, small, entries_long _ _ c.requires.loaded.of_entries) in
    let k = c.entry_kind.ensures.0 in
    elim c.if-entry_kind-lt2.branch [ then-entry_kind-lt2 w ↦ turn_user _ _ l _ _ _ _ laid c.loop-e.invariant.kept _ w.entry_module-m.ensures.0 (omega (arith, k, w.if-entry_kind-lt2.true)) w.entry_module-m.ensures.1 w.tables-is | else-entry_kind-lt2 w ↦ turn_other _ _ l _ _ _ _ laid c.loop-e.invariant.kept (omega (arith, k, w.if-entry_kind-lt2.false)) w.tables-is ] in
    record { kept = t.kept; entries = λ m l. t.entries m ∙ c.loop-e.invariant.entries m l }

pub returns : goal.returns
unfolding graph_in
returns c =
    let cleared : Kept (start_of (header_in c.args.numbers.now) at_on_demand) c.args.tables.now c.clear.new.tables = let p = c.requires.laid.starts 6 (omega arith) in kept_less (omega (arith, p)) c.clear.ensures.0 in
    let i = c.loop-e.invariant in
    let e : length (graph_in c.args.numbers.now).entries ≤ c.loop-e.e = omega (arith, entries_long _ _ c.requires.loaded.of_entries, c.loop-e-test.false, ap (λ h. h.entries) c.header_of-h.ensures) in
    (λ m l. sym (by_some_end _ _ no_item _ _ _ e) ∙ i.entries m l, kept_both cleared i.kept)
