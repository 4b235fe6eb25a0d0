use mathlib.Core.Path.{◌≡◌, ap}
use native.Mathlib.Omega.{arith}
use Rattle.graph_access.specs.tables_crate.Layout.{sizes, start_of, Laid, Kept, at_namespaces, all_sections}
use Rattle.graph_access.proofs.tables_crate.Sections.{inside, section-length, start_low, kept_none, kept_both, kept_less, laid_kept, laid_less}
use Rattle.graph_access.specs.graph_tables_crate.Tables.{header_in}
use Rattle.graph_access.specs.graph_crate.Check.{graph_in}
use Rattle.graph_access.proofs.graph_crate.Kept.{loaded_kept}
use Rattle.graph_access.proofs.Indexes.{owner_below}
use Rattle.linking_metadata.proofs.FillingUp.{up_start, up_step}
use Rattle.linking_metadata.proofs.fill_namespaces.Goals as goal

pub clear-requires : goal.clear-requires
clear-requires c =
    let t = c.requires.laid in
    (inside t 8 (omega arith), omega (arith, t.starts 8 (omega arith), start_low (header_in c.args.numbers.now) 8))

pub loop-m-init : goal.loop-m-init
loop-m-init c = record { kept = kept_none; entries = λ s l. up_start _ s _ (c.clear.ensures.1 s) }

pub enter_namespaces-requires : goal.enter_namespaces-requires
enter_namespaces-requires c =
    let kept : Kept (start_of (header_in c.args.numbers.now) at_namespaces) c.args.tables.now c.loop-m.tables = let p = c.requires.laid.starts 8 (omega arith) in kept_both (kept_less (omega (arith, p)) c.clear.ensures.0) c.loop-m.invariant.kept in
    let laid : Laid (header_in c.args.numbers.now) all_sections c.loop-m.tables = laid_kept c.requires.laid 8 (omega arith) kept in
    let counted : c.header_of-h.result.modules ≡ (header_in c.args.numbers.now).modules = ap (λ h. h.modules) c.header_of-h.ensures in record { loaded = loaded_kept c.requires.loaded 8 (omega arith) (laid_less (omega arith) c.requires.laid) kept; laid = laid; m_bound = omega (arith, c.loop-m-test.true, counted) }

pub loop-m-preserved : goal.loop-m-preserved
loop-m-preserved c =
    let i = c.loop-m.invariant in
    let e = c.enter_namespaces.ensures in
    record { kept = kept_both i.kept e.1; entries = λ s l. up_step _ _ s _ _ (i.entries s l) (e.0 s l) }

pub returns : goal.returns
unfolding graph_in sizes
returns c =
    let kept : Kept (start_of (header_in c.args.numbers.now) at_namespaces) c.args.tables.now c.loop-m.tables = let p = c.requires.laid.starts 8 (omega arith) in kept_both (kept_less (omega (arith, p)) c.clear.ensures.0) c.loop-m.invariant.kept in
    let laid : Laid (header_in c.args.numbers.now) all_sections c.loop-m.tables = laid_kept c.requires.laid 8 (omega arith) kept in
    let counted : c.header_of-h.result.modules ≡ (header_in c.args.numbers.now).modules = ap (λ h. h.modules) c.header_of-h.ensures in
    let l = section-length laid 8 (omega arith) in
    let e = counted in
    (record { long = omega (arith, l); has = λ i b. (c.loop-m.invariant.entries i b).done (omega (arith, owner_below c.requires.loaded i b, c.loop-m-test.false, e)) }, kept)
