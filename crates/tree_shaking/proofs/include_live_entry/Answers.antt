use Rattle.tree_shaking.proofs.Trying.{live_entry}
use Rattle.determine_side_effects.specs.graph_crate.Check.{graph_in}
use Rattle.entry_order.specs.Order.{module_of_entry}
use native.Mathlib.Omega.{arith}
use Rattle.tree_shaking.proofs.include_live_entry.Goals as goal

pub entry_module-m-requires : goal.entry_module-m-requires
unfolding graph_in
entry_module-m-requires c = record { loaded = c.requires.prepared.loaded; e_bound = c.requires.working.2.below _ c.requires.working.3 }

pub live_at-live-requires : goal.live_at-live-requires
live_at-live-requires c = rw c.header_of-h.ensures (omega (arith, c.requires.prepared.loaded.few_entries, c.requires.prepared.loaded.few_modules))

pub overflow_add-plan : goal.overflow_add-plan
overflow_add-plan c = rw (c.live_at-live.ensures, c.header_of-h.ensures) (record { fits = omega (arith, c.entry_module-m.ensures.1, c.requires.prepared.loaded.few_entries, c.requires.prepared.loaded.few_modules) })

pub offset_bounds-plan-live : goal.offset_bounds-plan-live
offset_bounds-plan-live c = rw (c.live_at-live.ensures, c.header_of-h.ensures) (record { fits = omega (arith, c.entry_module-m.ensures.1, c.requires.prepared.loaded.few_entries, c.requires.prepared.loaded.few_modules) })

pub bounds-plan-live : goal.bounds-plan-live
bounds-plan-live c = rw (c.live_at-live.ensures, c.header_of-h.ensures) (omega (arith, c.entry_module-m.ensures.1, c.requires.working.1))

pub returns : goal.returns
unfolding module_of_entry graph_in
returns c = rw c.live_at-live.ensures (live_entry (graph_in c.args.numbers.now) _ c.header_of-h.ensures c.args.plan.now c.args.i _ c.entry_module-m.ensures.0 c.entry_module-m.ensures.1 _ _ _ _ _ c.include_entry.ensures)
