use Prim.Native.Nat.{◌≤◌}
use mathlib.Core.Path.{◌≡◌, ◌∙◌, sym}
use native.Mathlib.Omega.{arith}
use Rattle.determine_side_effects.specs.graph_tables_crate.Tables.{header_in}
use Rattle.determine_side_effects.specs.graph_crate.Check.{graph_in}
use Rattle.entry_order.specs.Order.{module_of_entry}
use Rattle.entry_liveness.proofs.Related.{search_start, search_end, search-found, search-next, unused_is}
use Rattle.entry_liveness.proofs.Passing.{room, passing_start, passed-end, step-live, step-dead, found-on-cycle, found-alive}
use Rattle.entry_liveness.proofs.next_live.Goals as goal
use Rattle.entry_liveness.proofs.next_live.Goals.{then-plan-live-ne1+else-plan-cycled-eq1+else-loop-k-test, else-plan-live-ne1}

-- no part of the plan begins too far on
pub live_at-live-requires : goal.live_at-live-requires
live_at-live-requires c = rw c.header_of-h.ensures (omega (arith, c.requires.prepared.loaded.few_entries, c.requires.prepared.loaded.few_modules))

pub cycled_at-cycled-requires : goal.cycled_at-cycled-requires
cycled_at-cycled-requires c = rw c.header_of-h.ensures (omega (arith, c.requires.prepared.loaded.few_entries, c.requires.prepared.loaded.few_modules))

pub dead_at-dead-requires : goal.dead_at-dead-requires
dead_at-dead-requires c = rw c.header_of-h.ensures (omega (arith, c.requires.prepared.loaded.few_entries, c.requires.prepared.loaded.few_modules))

pub entries-init : goal.entries-init
unfolding graph_in
entries-init c =
    record {
      passing = passing_start _ _ _ _ _ c.requires.planned.0 c.requires.planned.1;
      long = c.requires.planned.0.long;
      none = rw c.header_of-h.ensures;
    }

pub entry_module-m-requires-clause-e_bound : goal.entry_module-m-requires-clause-e_bound
unfolding graph_in
entry_module-m-requires-clause-e_bound c =
    let r = room _ _ _ _ _ _ _ c.entries.invariant.passing _ c.header_of-h.ensures c.entries-test.true c.requires.prepared.loaded.few_entries c.requires.prepared.loaded.few_modules in
    rw (sym c.header_of-h.ensures) r.entry

pub related_count-related-requires-clause-e_bound : goal.related_count-related-requires-clause-e_bound
unfolding graph_in
related_count-related-requires-clause-e_bound c =
    let r = room _ _ _ _ _ _ _ c.entries.invariant.passing _ c.header_of-h.ensures c.entries-test.true c.requires.prepared.loaded.few_entries c.requires.prepared.loaded.few_modules in
    rw (sym c.header_of-h.ensures) r.entry

pub loop-k-init : goal.loop-k-init
loop-k-init c = record { searching = search_start _ _ _ _; none = c.entries.invariant.none }

pub lets_live-requires-clause-e_bound : goal.lets_live-requires-clause-e_bound
unfolding graph_in
lets_live-requires-clause-e_bound c =
    let r = room _ _ _ _ _ _ _ c.entries.invariant.passing _ c.header_of-h.ensures c.entries-test.true c.requires.prepared.loaded.few_entries c.requires.prepared.loaded.few_modules in
    (rw (sym c.header_of-h.ensures) r.entry, rw (sym c.related_count-related.ensures) c.loop-k-test.true, c.requires.planned.2)

pub lets_live-requires-clause-unused_value : goal.lets_live-requires-clause-unused_value
unfolding module_of_entry
lets_live-requires-clause-unused_value c = unused_is _ _ _ _ _ c.flag-unused.ensures c.flags.ensures c.entry_module-m.ensures.0

pub loop-k-preserved : goal.loop-k-preserved
loop-k-preserved c =
    record {
      searching = search-next _ _ _ _ _ c.loop-k.invariant.searching _ c.related_count-related.ensures c.loop-k-test.true _ c.lets_live.ensures c.if-lets_live.false;
      none = c.loop-k.invariant.none;
    }

pub overflow_add-plan : goal.overflow_add-plan
unfolding graph_in
overflow_add-plan c =
    let r = room _ _ _ _ _ _ _ c.entries.invariant.passing _ c.header_of-h.ensures c.entries-test.true c.requires.prepared.loaded.few_entries c.requires.prepared.loaded.few_modules in
    omega (arith, r.few_entries, r.few_modules, r.entry, c.dead_at-dead.ensures)

pub offset_bounds-plan-dead : goal.offset_bounds-plan-dead
unfolding graph_in
offset_bounds-plan-dead c =
    let r = room _ _ _ _ _ _ _ c.entries.invariant.passing _ c.header_of-h.ensures c.entries-test.true c.requires.prepared.loaded.few_entries c.requires.prepared.loaded.few_modules in
    omega (arith, r.few_entries, r.few_modules, r.entry, c.dead_at-dead.ensures)

pub bounds-plan-dead : goal.bounds-plan-dead
unfolding graph_in
bounds-plan-dead c =
    let r = room _ _ _ _ _ _ _ c.entries.invariant.passing _ c.header_of-h.ensures c.entries-test.true c.requires.prepared.loaded.few_entries c.requires.prepared.loaded.few_modules in
    omega (arith, r.long, r.entry, c.dead_at-dead.ensures)

pub entries-preserved : goal.entries-preserved
unfolding graph_in module_of_entry
entries-preserved c =
    let p = c.entries.invariant.passing in
    let h = c.header_of-h.ensures in
    let k = c.entries-test.true in
    let m = c.entry_module-m.ensures in
    let live = c.live_at-live.ensures in
    let cycled = c.cycled_at-cycled.ensures in
    let dead = c.dead_at-dead.ensures in
    record {
      passing = elim c.if-plan-live-ne1.branch [
        | then-plan-live-ne1+else-plan-cycled-eq1+else-loop-k-test w ↦
            step-dead _ _ _ _ _ _ _ p _ h k _ m.0 m.1 (rw live at w.if-plan-live-ne1.true) (rw cycled at w.if-plan-cycled-eq1.false) (search_end _ _ _ _ _ w.loop-k.invariant.searching _ w.related_count-related.ensures w.loop-k-test.false) _ (rw dead at w.plan-is)
        | else-plan-live-ne1 w ↦ rw w.plan-is (step-live _ _ _ _ _ _ _ p _ h k _ m.0 m.1 (rw live at w.if-plan-live-ne1.false))
      ];
      long = omega (arith, c.entries.invariant.long);
      none = elim c.if-plan-live-ne1.branch [
        | then-plan-live-ne1+else-plan-cycled-eq1+else-loop-k-test w ↦ w.first-is ∙ w.loop-k.invariant.none
        | else-plan-live-ne1 w ↦ w.first-is ∙ c.entries.invariant.none
      ];
    }

pub returns-after-entries : goal.returns-after-entries
unfolding graph_in
returns-after-entries c =
    let t = rw c.header_of-h.ensures at c.entries-test.false in
    let w : c.entries.i ≤ (header_in c.args.numbers.now).entries = c.entries.invariant.passing.inside in
    let e : c.entries.first ≡ c.entries.i = omega (arith, c.entries.invariant.none, t, w) in
    rw e (passed-end _ _ _ _ _ _ _ c.entries.invariant.passing t)

pub returns-then-plan-cycled-eq1 : goal.returns-then-plan-cycled-eq1
unfolding graph_in module_of_entry
returns-then-plan-cycled-eq1 c =
    found-on-cycle _ _ _ _ _ _ _ c.entries.invariant.passing _ c.header_of-h.ensures c.entries-test.true _ c.entry_module-m.ensures.0 c.entry_module-m.ensures.1 (rw c.live_at-live.ensures at c.if-plan-live-ne1.true) (rw c.cycled_at-cycled.ensures at c.if-plan-cycled-eq1.true)

pub returns-then-lets_live : goal.returns-then-lets_live
unfolding graph_in module_of_entry
returns-then-lets_live c =
    found-alive _ _ _ _ _ _ _ c.entries.invariant.passing _ c.header_of-h.ensures c.entries-test.true _ c.entry_module-m.ensures.0 c.entry_module-m.ensures.1 (rw c.live_at-live.ensures at c.if-plan-live-ne1.true) (rw c.cycled_at-cycled.ensures at c.if-plan-cycled-eq1.false) (search-found _ _ _ _ _ c.loop-k.invariant.searching _ c.related_count-related.ensures c.loop-k-test.true _ c.lets_live.ensures c.if-lets_live.true)
