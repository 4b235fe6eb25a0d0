use Prim.Native.Nat.{ℕ, ◌+◌, ◌<◌, ◌≤◌}
use mathlib.Core.Path.{◌≡◌, ap, ◌∙◌, sym}
use mathlib.Core.List.{List}
use native.Mathlib.Omega.{arith}
use lib.ListN.{length, get_or}
use Rattle.determine_side_effects.specs.graph_format_crate.declared.Header.{Header}
use Rattle.determine_side_effects.specs.tables_crate.Layout.{sizes, start_of, Laid, Kept, bodies_in, at_bodies, all_sections}
use Rattle.determine_side_effects.proofs.tables_crate.Sections.{start_low, inside, section-length, kept_none, kept_both, kept_less, laid_kept, laid_less}
use Rattle.determine_side_effects.specs.graph_tables_crate.Tables.{header_in}
use Rattle.determine_side_effects.specs.graph_crate.Check.{graph_in}
use Rattle.determine_side_effects.specs.graph_crate.Loaded.{Loaded}
use Rattle.determine_side_effects.proofs.graph_crate.Kept.{loaded_kept}
use Rattle.determine_side_effects.specs.graph_access_crate.Words.{flag as flag_of, option}
use Rattle.determine_side_effects.specs.Effects.{last_verdicts}
use Rattle.on_demand.specs.Demand.{claimed}
use Rattle.on_demand.proofs.Deciding.{body_normal}
use Rattle.on_demand.proofs.Entering.{body_enters, body_skips, body_none, body_all}
use Rattle.on_demand.proofs.Behind.{demands_kept}
use Rattle.on_demand.proofs.compute_body_demand_keys.Goals as goal
use Rattle.on_demand.proofs.compute_body_demand_keys.Goals.{else-has_body, then-has_body}

-- a key for each symbol
long : {h : Header} {xs ys : List ℕ} → Laid h all_sections xs → Kept (start_of h at_bodies) xs ys → h.symbols ≤ length (bodies_in ys)
unfolding sizes
long t q = omega (arith, section-length (laid_kept t 7 (omega arith) q) 7 (omega arith))

pub clear-requires : goal.clear-requires
clear-requires c =
    let t = c.requires.1.laid in
    (inside t 7 (omega arith), omega (arith, t.starts 7 (omega arith), start_low (header_in c.args.numbers.now) 7))

pub returns-then-not-flag : goal.returns-then-not-flag
unfolding option graph_in
returns-then-not-flag c =
    let cleared : Kept (start_of (header_in c.args.numbers.now) at_bodies) c.args.tables.now c.clear.new.tables = let p = c.requires.1.laid.starts 7 (omega arith) in kept_less (omega (arith, p)) c.clear.ensures.0 in
    let o = ap (λ h. flag_of 0 h.options) (sym c.header_of-h.ensures) ∙ sym c.flag.ensures ∙ c.if-not-flag.true in
    (record { long = long c.requires.1.laid cleared; has = λ s l. body_none _ _ s _ o (c.clear.ensures.1 s) }, cleared)

pub loop-m-init : goal.loop-m-init
unfolding claimed
loop-m-init c = record { kept = kept_none; entries = λ s l. c.clear.ensures.1 s }

pub has_body-requires : goal.has_body-requires
has_body-requires c =
    let cleared : Kept (start_of (header_in c.args.numbers.now) at_bodies) c.args.tables.now c.clear.new.tables = let p = c.requires.1.laid.starts 7 (omega arith) in kept_less (omega (arith, p)) c.clear.ensures.0 in
    let kept : Kept (start_of (header_in c.args.numbers.now) at_bodies) c.args.tables.now c.loop-m.tables = kept_both cleared c.loop-m.invariant.kept in
    let loaded : Loaded c.args.numbers.now c.loop-m.tables = loaded_kept c.requires.0 7 (omega arith) (laid_less (omega arith) c.requires.1.laid) kept in
    let counted : c.header_of-h.result.modules ≡ (header_in c.args.numbers.now).modules = ap (λ h. h.modules) c.header_of-h.ensures in
    let small : c.loop-m.m < (header_in c.args.numbers.now).modules = omega (arith, c.loop-m-test.true, counted) in record { loaded = (loaded, demands_kept 7 (omega arith) kept (omega arith) c.requires.1); m_bound = small }

pub enter_keys-requires : goal.enter_keys-requires
enter_keys-requires c =
    let cleared : Kept (start_of (header_in c.args.numbers.now) at_bodies) c.args.tables.now c.clear.new.tables = let p = c.requires.1.laid.starts 7 (omega arith) in kept_less (omega (arith, p)) c.clear.ensures.0 in
    let kept : Kept (start_of (header_in c.args.numbers.now) at_bodies) c.args.tables.now c.loop-m.tables = kept_both cleared c.loop-m.invariant.kept in
    let loaded : Loaded c.args.numbers.now c.loop-m.tables = loaded_kept c.requires.0 7 (omega arith) (laid_less (omega arith) c.requires.1.laid) kept in
    let counted : c.header_of-h.result.modules ≡ (header_in c.args.numbers.now).modules = ap (λ h. h.modules) c.header_of-h.ensures in
    let small : c.loop-m.m < (header_in c.args.numbers.now).modules = omega (arith, c.loop-m-test.true, counted) in record { loaded = loaded; laid = laid_kept c.requires.1.laid 7 (omega arith) kept; m_bound = (small, body_normal _ _ _ (sym c.has_body.ensures ∙ c.if-has_body.true)) }

pub loop-m-preserved : goal.loop-m-preserved
loop-m-preserved c =
    let t : Kept (start_of (header_in c.args.numbers.now) at_bodies) c.loop-m.tables c.if-has_body.tables × ((s : ℕ) → s < (header_in c.args.numbers.now).symbols → get_or (bodies_in c.if-has_body.tables) s 0 ≡ claimed (graph_in c.args.numbers.now) (last_verdicts (graph_in c.args.numbers.now)) s (c.loop-m.m + 1)) = let i = c.loop-m.invariant in
    let b = c.has_body.ensures in
    elim c.if-has_body.branch [ then-has_body w ↦ (rw w.tables-is w.enter_keys.ensures.1, λ s l. body_enters _ _ _ s _ (i.entries s l) _ (sym b ∙ w.if-has_body.true) (ap (λ k. get_or (bodies_in k) s 0) w.tables-is ∙ w.enter_keys.ensures.0 s l)) | else-has_body w ↦ (rw w.tables-is kept_none, λ s l. ap (λ k. get_or (bodies_in k) s 0) w.tables-is ∙ body_skips _ _ _ s _ (i.entries s l) (sym b ∙ w.if-has_body.false)) ] in
    record { kept = kept_both c.loop-m.invariant.kept t.0; entries = t.1 }

pub returns : goal.returns
unfolding option graph_in
returns c =
    let cleared : Kept (start_of (header_in c.args.numbers.now) at_bodies) c.args.tables.now c.clear.new.tables = let p = c.requires.1.laid.starts 7 (omega arith) in kept_less (omega (arith, p)) c.clear.ensures.0 in
    let kept : Kept (start_of (header_in c.args.numbers.now) at_bodies) c.args.tables.now c.loop-m.tables = kept_both cleared c.loop-m.invariant.kept in
    let counted : c.header_of-h.result.modules ≡ (header_in c.args.numbers.now).modules = ap (λ h. h.modules) c.header_of-h.ensures in
    let i = c.loop-m.invariant in
    let o = ap (λ h. flag_of 0 h.options) (sym c.header_of-h.ensures) ∙ sym c.flag.ensures ∙ c.if-not-flag.false in
    let z : c.loop-m.m ≡ (header_in c.args.numbers.now).modules = omega (arith, counted) in
    let g = graph_in c.args.numbers.now in
    (record { long = long c.requires.1.laid kept; has = λ y l. body_all _ _ y _ o (i.entries y l ∙ ap (claimed g (last_verdicts g) y) z) }, kept)
