use mathlib.Core.Path.{◌∙◌, sym}
use borrow.Author.Tests.{eq-eqb, ne_eqb}
use Rattle.determine_side_effects.specs.graph_crate.Check.{graph_in}
use Rattle.dead_records.proofs.Clearing.{live_word, unlive_word}
use Rattle.dead_records.proofs.DeadNow.{cycle_word, not_dynamic, is_live, on_a_cycle, by-its-statements}
use Rattle.dead_records.proofs.is_dead_now.Goals as goal

pub header_of-h-requires : goal.header_of-h-requires
unfolding graph_in
header_of-h-requires c = c.requires.prepared.loaded.long

pub entry_kind-requires : goal.entry_kind-requires
unfolding graph_in
entry_kind-requires c = record { loaded = c.requires.prepared.loaded; e_bound = c.requires.numbers_in_bounds.1 }

pub returns-then-entry_kind-ne2 : goal.returns-then-entry_kind-ne2
unfolding graph_in
returns-then-entry_kind-ne2 c = not_dynamic _ _ _ _ _ c.entry_kind.ensures.0 c.if-entry_kind-ne2.true

pub entry_module-m-requires : goal.entry_module-m-requires
unfolding graph_in
entry_module-m-requires c = record { loaded = c.requires.prepared.loaded; e_bound = c.requires.numbers_in_bounds.1 }

pub returns-then-plan-live-eq1 : goal.returns-then-plan-live-eq1
unfolding graph_in
returns-then-plan-live-eq1 c =
    is_live _ _ _ _ _ c.entry_kind.ensures.0 c.if-entry_kind-ne2.false _ c.entry_module-m.ensures.0
    (live_word _ c.args.plan.now _ c.header_of-h.ensures _ c.live_at-live.ensures _ c.entry_module-m.ensures.1 c.if-plan-live-eq1.true)

pub returns-then-plan-cycled-eq1 : goal.returns-then-plan-cycled-eq1
unfolding graph_in
returns-then-plan-cycled-eq1 c =
    let m = c.entry_module-m.result.0 in
    let n = unlive_word _ c.args.plan.now _ c.header_of-h.ensures _ c.live_at-live.ensures _ c.entry_module-m.ensures.1 c.if-plan-live-eq1.false in
    let w = cycle_word c.args.plan.now _ _ _ c.cycled_at-cycled.ensures c.header_of-h.ensures m in
    let y = c.requires.has_cycles m c.entry_module-m.ensures.1 in
    on_a_cycle _ _ _ _ _ c.entry_kind.ensures.0 c.if-entry_kind-ne2.false _ c.entry_module-m.ensures.0 n (sym y ∙ eq-eqb _ 1 (sym w ∙ c.if-plan-cycled-eq1.true))

pub is_alive-requires : goal.is_alive-requires
unfolding graph_in
is_alive-requires c = record { prepared = c.requires.prepared; e_bound = (c.requires.numbers_in_bounds.1, c.requires.numbers_in_bounds.2) }

pub returns : goal.returns
unfolding graph_in
returns c =
    let m = c.entry_module-m.result.0 in
    let n = unlive_word _ c.args.plan.now _ c.header_of-h.ensures _ c.live_at-live.ensures _ c.entry_module-m.ensures.1 c.if-plan-live-eq1.false in
    let w = cycle_word c.args.plan.now _ _ _ c.cycled_at-cycled.ensures c.header_of-h.ensures m in
    let y = c.requires.has_cycles m c.entry_module-m.ensures.1 in
    by-its-statements _ _ _ _ _ c.entry_kind.ensures.0 c.if-entry_kind-ne2.false _ c.entry_module-m.ensures.0 n (sym y ∙ ne_eqb _ 1 (λ z. c.if-plan-cycled-eq1.false (w ∙ z))) _ c.is_alive.ensures
