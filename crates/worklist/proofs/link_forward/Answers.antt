use Rattle.worklist.proofs.LinkRow.{set_long, symbol_low, last_fits, before-fits, written-first, written_behind}
use Rattle.determine_side_effects.specs.facts_crate.Facts.{first_part}
use Rattle.determine_side_effects.specs.graph_crate.Check.{graph_in}
use lib.ListN.{length, length-set}
use native.Mathlib.Omega.{arith}
use Prim.Native.Nat.{◌+◌, ◌<◌}
use mathlib.Core.Path.{◌≡◌, refl, ap, ◌∙◌}
use Rattle.worklist.proofs.link_forward.Goals as goal
use Rattle.worklist.proofs.link_forward.Goals.{then-last-eq0, else-last-eq0}

pub owner-owner-requires : goal.owner-owner-requires
unfolding graph_in
owner-owner-requires c = record { loaded = c.requires.prepared.loaded; s_bound = symbol_low _ _ _ _ _ _ c.requires.link_ready _ c.requires.linked _ refl }

pub bounds-partners-lasts : goal.bounds-partners-lasts
unfolding graph_in
bounds-partners-lasts c =
    let m = ap (λ x. x.modules) c.header_of-h.ensures in
    omega (arith, m, symbol_low _ _ _ _ _ _ c.requires.link_ready _ c.requires.linked _ refl)

pub bounds-partners-firsts : goal.bounds-partners-firsts
unfolding graph_in
bounds-partners-firsts c =
    let m = ap (λ x. x.modules) c.header_of-h.ensures in
    omega (arith, m, symbol_low _ _ _ _ _ _ c.requires.link_ready _ c.requires.linked _ refl)

pub fact_at-requires : goal.fact_at-requires
unfolding graph_in
fact_at-requires c =
    let m = ap (λ x. x.modules) c.header_of-h.ensures in
    let o : c.owner-owner.result.0 < (graph_in c.args.numbers.now).header.modules = c.owner-owner.ensures.1 in
    let e = rw c.lasts_at-lasts.ensures at c.if-last-eq0.false in
    rw c.lasts_at-lasts.ensures (omega (arith, e, last_fits _ _ _ _ _ _ c.requires.link_ready _ c.requires.linked _ refl _ c.owner-owner.ensures.0 o _ m e))

pub overflow_add-partners-else-last-eq0-2 : goal.overflow_add-partners-else-last-eq0-2
unfolding graph_in
overflow_add-partners-else-last-eq0-2 c =
    let m = ap (λ x. x.modules) c.header_of-h.ensures in
    let o : c.owner-owner.result.0 < (graph_in c.args.numbers.now).header.modules = c.owner-owner.ensures.1 in
    let b = before-fits _ _ _ _ _ _ c.requires.link_ready _ c.requires.linked _ refl _ c.owner-owner.ensures.0 o _ m (rw c.lasts_at-lasts.ensures at c.if-last-eq0.false) _ (rw c.lasts_at-lasts.ensures at (c.first_part-before.ensures ∙ ap first_part c.fact_at.ensures)) in
    omega (arith, m, symbol_low _ _ _ _ _ _ c.requires.link_ready _ c.requires.linked _ refl, b)

pub offset_bounds-partners-nexts : goal.offset_bounds-partners-nexts
unfolding graph_in
offset_bounds-partners-nexts c =
    let m = ap (λ x. x.modules) c.header_of-h.ensures in
    let o : c.owner-owner.result.0 < (graph_in c.args.numbers.now).header.modules = c.owner-owner.ensures.1 in
    let b = before-fits _ _ _ _ _ _ c.requires.link_ready _ c.requires.linked _ refl _ c.owner-owner.ensures.0 o _ m (rw c.lasts_at-lasts.ensures at c.if-last-eq0.false) _ (rw c.lasts_at-lasts.ensures at (c.first_part-before.ensures ∙ ap first_part c.fact_at.ensures)) in
    omega (arith, m, symbol_low _ _ _ _ _ _ c.requires.link_ready _ c.requires.linked _ refl, b)

pub bounds-partners-nexts : goal.bounds-partners-nexts
unfolding graph_in
bounds-partners-nexts c =
    let m = ap (λ x. x.modules) c.header_of-h.ensures in
    let o : c.owner-owner.result.0 < (graph_in c.args.numbers.now).header.modules = c.owner-owner.ensures.1 in
    let b = before-fits _ _ _ _ _ _ c.requires.link_ready _ c.requires.linked _ refl _ c.owner-owner.ensures.0 o _ m (rw c.lasts_at-lasts.ensures at c.if-last-eq0.false) _ (rw c.lasts_at-lasts.ensures at (c.first_part-before.ensures ∙ ap first_part c.fact_at.ensures)) in
    omega (arith, m, symbol_low _ _ _ _ _ _ c.requires.link_ready _ c.requires.linked _ refl, b)

pub bounds-partners-lasts-2 : goal.bounds-partners-lasts-2
unfolding graph_in
bounds-partners-lasts-2 c =
    let m = ap (λ x. x.modules) c.header_of-h.ensures in
    -- the table where the branches meet is as long as it was
    let long : length c.if-last-eq0.partners ≡ length c.args.partners.now = elim c.if-last-eq0.branch [ then-last-eq0 w ↦ set_long c.args.partners.now (c.firsts_at-firsts.result + c.owner-owner.result.0) (c.args.k + 1) w.partners-is | else-last-eq0 w ↦ set_long c.args.partners.now (c.nexts_at-nexts.result + w.first_part-before.result) (c.args.k + 1) w.partners-is ] in
    omega (arith, m, symbol_low _ _ _ _ _ _ c.requires.link_ready _ c.requires.linked _ refl, long)

pub bounds-partners-nexts-2 : goal.bounds-partners-nexts-2
unfolding graph_in
bounds-partners-nexts-2 c =
    let m = ap (λ x. x.modules) c.header_of-h.ensures in
    -- the table where the branches meet is as long as it was
    let long : length c.if-last-eq0.partners ≡ length c.args.partners.now = elim c.if-last-eq0.branch [ then-last-eq0 w ↦ set_long c.args.partners.now (c.firsts_at-firsts.result + c.owner-owner.result.0) (c.args.k + 1) w.partners-is | else-last-eq0 w ↦ set_long c.args.partners.now (c.nexts_at-nexts.result + w.first_part-before.result) (c.args.k + 1) w.partners-is ] in
    omega (arith, m, symbol_low _ _ _ _ _ _ c.requires.link_ready _ c.requires.linked _ refl, long, length-set c.if-last-eq0.partners (c.lasts_at-lasts.result + c.owner-owner.result.0) (c.args.k + 1))

pub returns : goal.returns
unfolding graph_in
returns c =
    let m = ap (λ x. x.modules) c.header_of-h.ensures in
    let firsts = c.firsts_at-firsts.ensures in
    let lasts = c.lasts_at-lasts.ensures in
    let nexts = c.nexts_at-nexts.ensures in
    let o : c.owner-owner.result.0 < (graph_in c.args.numbers.now).header.modules = c.owner-owner.ensures.1 in
    rw (lasts, nexts) (elim c.if-last-eq0.branch [
      | then-last-eq0 w ↦ written-first _ _ _ _ _ _ c.requires.link_ready _ c.requires.linked _ refl _ c.owner-owner.ensures.0 o _ m _ (rw lasts at w.if-last-eq0.true) (rw firsts at w.partners-is)
      | else-last-eq0 w ↦ written_behind _ _ _ _ _ _ c.requires.link_ready _ c.requires.linked _ refl _ c.owner-owner.ensures.0 o _ m _ (rw lasts at w.if-last-eq0.false) _ (rw lasts at (w.first_part-before.ensures ∙ ap first_part w.fact_at.ensures)) (rw nexts at w.partners-is)
    ])
