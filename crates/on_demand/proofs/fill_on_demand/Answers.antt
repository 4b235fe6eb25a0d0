use Prim.Native.Nat.{◌+◌, ◌<◌}
use mathlib.Core.Path.{◌≡◌, ap, ◌∙◌}
use native.Mathlib.Omega.{arith}
use lib.ListN.{length, get_or}
use Rattle.determine_side_effects.specs.tables_crate.Layout.{sizes, start_of, Laid, Kept, on_demand_in, at_on_demand, all_sections}
use Rattle.determine_side_effects.proofs.tables_crate.Sections.{word_inside, section-length, kept_none, kept_both, laid_kept, laid_less}
use Rattle.determine_side_effects.specs.graph_tables_crate.Tables.{header_in}
use Rattle.determine_side_effects.specs.graph_crate.Check.{graph_in}
use Rattle.determine_side_effects.specs.graph_crate.Loaded.{Loaded}
use Rattle.determine_side_effects.proofs.graph_crate.Kept.{loaded_kept}
use Rattle.determine_side_effects.specs.Tabled.{Settled}
use Rattle.determine_side_effects.proofs.InSection.{word_fits, word_read, kept_written, section_written, settled_kept}
use Rattle.on_demand.proofs.Halfway.{half_start, half_step}
use Rattle.on_demand.proofs.fill_on_demand.Goals as goal

pub bounds-tables-6 : goal.bounds-tables-6
bounds-tables-6 c =
    let laid : Laid (header_in c.args.numbers.now) all_sections c.mark_user_defined_entries.new.tables = laid_kept c.requires.laid 6 (omega arith) c.mark_user_defined_entries.ensures.1 in
    word_inside laid 6 (omega arith)

pub loop-m-init : goal.loop-m-init
unfolding graph_in
loop-m-init c = record { kept = kept_none; entries = λ j l. half_start _ _ j _ (c.mark_user_defined_entries.ensures.0 j l) }

pub overflow_add-entry : goal.overflow_add-entry
unfolding sizes
overflow_add-entry c =
    let laid : Laid (header_in c.args.numbers.now) all_sections c.mark_user_defined_entries.new.tables = laid_kept c.requires.laid 6 (omega arith) c.mark_user_defined_entries.ensures.1 in
    let kept : Kept (start_of (header_in c.args.numbers.now) at_on_demand) c.args.tables.now c.loop-m.tables = kept_both c.mark_user_defined_entries.ensures.1 c.loop-m.invariant.kept in
    let ready : Loaded c.args.numbers.now c.loop-m.tables × Settled c.args.numbers.now c.loop-m.tables = let t = laid_less {m = 6} (omega arith) c.requires.laid in
    (loaded_kept c.requires.loaded.0 6 (omega arith) t kept, settled_kept c.requires.loaded.1 6 (omega arith) t kept) in
    let counted : c.header_of-h.result.modules ≡ (header_in c.args.numbers.now).modules = ap (λ h. h.modules) c.header_of-h.ensures in
    let small : c.loop-m.m < (header_in c.args.numbers.now).modules = omega (arith, c.loop-m-test.true, counted) in
    let fits : get_or c.mark_user_defined_entries.new.tables 6 0 + c.loop-m.m < length c.loop-m.tables = word_fits laid 6 (omega arith) c.loop-m.invariant.kept c.loop-m.m small in
    record { fits = omega (arith, fits, ready.0.laid.few) }

pub offset_bounds-tables-base : goal.offset_bounds-tables-base
unfolding sizes
offset_bounds-tables-base c =
    let laid : Laid (header_in c.args.numbers.now) all_sections c.mark_user_defined_entries.new.tables = laid_kept c.requires.laid 6 (omega arith) c.mark_user_defined_entries.ensures.1 in
    let kept : Kept (start_of (header_in c.args.numbers.now) at_on_demand) c.args.tables.now c.loop-m.tables = kept_both c.mark_user_defined_entries.ensures.1 c.loop-m.invariant.kept in
    let ready : Loaded c.args.numbers.now c.loop-m.tables × Settled c.args.numbers.now c.loop-m.tables = let t = laid_less {m = 6} (omega arith) c.requires.laid in
    (loaded_kept c.requires.loaded.0 6 (omega arith) t kept, settled_kept c.requires.loaded.1 6 (omega arith) t kept) in
    let counted : c.header_of-h.result.modules ≡ (header_in c.args.numbers.now).modules = ap (λ h. h.modules) c.header_of-h.ensures in
    let small : c.loop-m.m < (header_in c.args.numbers.now).modules = omega (arith, c.loop-m-test.true, counted) in
    let fits : get_or c.mark_user_defined_entries.new.tables 6 0 + c.loop-m.m < length c.loop-m.tables = word_fits laid 6 (omega arith) c.loop-m.invariant.kept c.loop-m.m small in
    record { fits = omega (arith, fits, ready.0.laid.few) }

pub bounds-tables-base : goal.bounds-tables-base
unfolding sizes
bounds-tables-base c =
    let laid : Laid (header_in c.args.numbers.now) all_sections c.mark_user_defined_entries.new.tables = laid_kept c.requires.laid 6 (omega arith) c.mark_user_defined_entries.ensures.1 in
    let counted : c.header_of-h.result.modules ≡ (header_in c.args.numbers.now).modules = ap (λ h. h.modules) c.header_of-h.ensures in
    let small : c.loop-m.m < (header_in c.args.numbers.now).modules = omega (arith, c.loop-m-test.true, counted) in
    let fits : get_or c.mark_user_defined_entries.new.tables 6 0 + c.loop-m.m < length c.loop-m.tables = word_fits laid 6 (omega arith) c.loop-m.invariant.kept c.loop-m.m small in
    fits

pub side_effects_included_on_demand-requires : goal.side_effects_included_on_demand-requires
unfolding sizes
side_effects_included_on_demand-requires c =
    let laid : Laid (header_in c.args.numbers.now) all_sections c.mark_user_defined_entries.new.tables = laid_kept c.requires.laid 6 (omega arith) c.mark_user_defined_entries.ensures.1 in
    let kept : Kept (start_of (header_in c.args.numbers.now) at_on_demand) c.args.tables.now c.loop-m.tables = kept_both c.mark_user_defined_entries.ensures.1 c.loop-m.invariant.kept in
    let ready : Loaded c.args.numbers.now c.loop-m.tables × Settled c.args.numbers.now c.loop-m.tables = let t = laid_less {m = 6} (omega arith) c.requires.laid in
    (loaded_kept c.requires.loaded.0 6 (omega arith) t kept, settled_kept c.requires.loaded.1 6 (omega arith) t kept) in
    let counted : c.header_of-h.result.modules ≡ (header_in c.args.numbers.now).modules = ap (λ h. h.modules) c.header_of-h.ensures in
    let small : c.loop-m.m < (header_in c.args.numbers.now).modules = omega (arith, c.loop-m-test.true, counted) in
    let i = c.loop-m.invariant in
    let n = small in record { loaded = ready; m_bound = (n, word_read laid 6 (omega arith) i.kept c.loop-m.m n ∙ (i.entries c.loop-m.m n).still (omega arith)) }

pub overflow_add-tables : goal.overflow_add-tables
unfolding sizes
overflow_add-tables c =
    let laid : Laid (header_in c.args.numbers.now) all_sections c.mark_user_defined_entries.new.tables = laid_kept c.requires.laid 6 (omega arith) c.mark_user_defined_entries.ensures.1 in
    let kept : Kept (start_of (header_in c.args.numbers.now) at_on_demand) c.args.tables.now c.loop-m.tables = kept_both c.mark_user_defined_entries.ensures.1 c.loop-m.invariant.kept in
    let ready : Loaded c.args.numbers.now c.loop-m.tables × Settled c.args.numbers.now c.loop-m.tables = let t = laid_less {m = 6} (omega arith) c.requires.laid in
    (loaded_kept c.requires.loaded.0 6 (omega arith) t kept, settled_kept c.requires.loaded.1 6 (omega arith) t kept) in
    let counted : c.header_of-h.result.modules ≡ (header_in c.args.numbers.now).modules = ap (λ h. h.modules) c.header_of-h.ensures in
    let small : c.loop-m.m < (header_in c.args.numbers.now).modules = omega (arith, c.loop-m-test.true, counted) in
    let fits : get_or c.mark_user_defined_entries.new.tables 6 0 + c.loop-m.m < length c.loop-m.tables = word_fits laid 6 (omega arith) c.loop-m.invariant.kept c.loop-m.m small in
    record { fits = omega (arith, fits, ready.0.laid.few) }

pub offset_bounds-tables-base-in-loop-m : goal.offset_bounds-tables-base-in-loop-m
unfolding sizes
offset_bounds-tables-base-in-loop-m c =
    let laid : Laid (header_in c.args.numbers.now) all_sections c.mark_user_defined_entries.new.tables = laid_kept c.requires.laid 6 (omega arith) c.mark_user_defined_entries.ensures.1 in
    let kept : Kept (start_of (header_in c.args.numbers.now) at_on_demand) c.args.tables.now c.loop-m.tables = kept_both c.mark_user_defined_entries.ensures.1 c.loop-m.invariant.kept in
    let ready : Loaded c.args.numbers.now c.loop-m.tables × Settled c.args.numbers.now c.loop-m.tables = let t = laid_less {m = 6} (omega arith) c.requires.laid in
    (loaded_kept c.requires.loaded.0 6 (omega arith) t kept, settled_kept c.requires.loaded.1 6 (omega arith) t kept) in
    let counted : c.header_of-h.result.modules ≡ (header_in c.args.numbers.now).modules = ap (λ h. h.modules) c.header_of-h.ensures in
    let small : c.loop-m.m < (header_in c.args.numbers.now).modules = omega (arith, c.loop-m-test.true, counted) in
    let fits : get_or c.mark_user_defined_entries.new.tables 6 0 + c.loop-m.m < length c.loop-m.tables = word_fits laid 6 (omega arith) c.loop-m.invariant.kept c.loop-m.m small in
    record { fits = omega (arith, fits, ready.0.laid.few) }

pub bounds-tables-base-in-loop-m : goal.bounds-tables-base-in-loop-m
unfolding sizes
bounds-tables-base-in-loop-m c =
    let laid : Laid (header_in c.args.numbers.now) all_sections c.mark_user_defined_entries.new.tables = laid_kept c.requires.laid 6 (omega arith) c.mark_user_defined_entries.ensures.1 in
    let counted : c.header_of-h.result.modules ≡ (header_in c.args.numbers.now).modules = ap (λ h. h.modules) c.header_of-h.ensures in
    let small : c.loop-m.m < (header_in c.args.numbers.now).modules = omega (arith, c.loop-m-test.true, counted) in
    let fits : get_or c.mark_user_defined_entries.new.tables 6 0 + c.loop-m.m < length c.loop-m.tables = word_fits laid 6 (omega arith) c.loop-m.invariant.kept c.loop-m.m small in
    fits

pub loop-m-preserved : goal.loop-m-preserved
unfolding sizes
loop-m-preserved c =
    let laid : Laid (header_in c.args.numbers.now) all_sections c.mark_user_defined_entries.new.tables = laid_kept c.requires.laid 6 (omega arith) c.mark_user_defined_entries.ensures.1 in
    let counted : c.header_of-h.result.modules ≡ (header_in c.args.numbers.now).modules = ap (λ h. h.modules) c.header_of-h.ensures in
    let small : c.loop-m.m < (header_in c.args.numbers.now).modules = omega (arith, c.loop-m-test.true, counted) in
    let i = c.loop-m.invariant in
    let t = laid in
    let n = small in
    let r = c.side_effects_included_on_demand in
    let w = section_written t 6 (omega arith) i.kept c.loop-m.m n r.result in
    let l : c.loop-m.m < length (on_demand_in c.loop-m.tables) = omega (arith, n, section-length (laid_kept t 6 (omega arith) i.kept) 6 (omega arith)) in record {
      kept = kept_written t 6 (omega arith) i.kept c.loop-m.m n r.result;
      entries = λ j k. rw w (half_step _ _ c.loop-m.m j r.result (on_demand_in c.loop-m.tables) l r.ensures (i.entries j k));
    }

pub returns : goal.returns
unfolding graph_in sizes
returns c =
    let kept : Kept (start_of (header_in c.args.numbers.now) at_on_demand) c.args.tables.now c.loop-m.tables = kept_both c.mark_user_defined_entries.ensures.1 c.loop-m.invariant.kept in
    let counted : c.header_of-h.result.modules ≡ (header_in c.args.numbers.now).modules = ap (λ h. h.modules) c.header_of-h.ensures in
    let t = laid_kept c.requires.laid 6 (omega arith) kept in
    let l = section-length t 6 (omega arith) in
    let h = counted in
    (record { long = omega (arith, l); has = λ j b. (c.loop-m.invariant.entries j b).done (omega (arith, b, c.loop-m-test.false, h)) }, kept)
