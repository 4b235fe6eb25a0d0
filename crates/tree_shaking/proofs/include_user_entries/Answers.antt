use mathlib.Core.Path.{◌∙◌}
use Rattle.tree_shaking.proofs.Users.{users_begin, users-step, users-full, users-done, user_inside}
use Rattle.determine_side_effects.specs.graph_crate.Check.{graph_in}
use Rattle.entry_order.specs.Order.{module_of_entry}
use Prim.Native.Nat.{◌<◌, ◌≤◌}
use lib.ListN.{length}
use native.Mathlib.Omega.{arith}
use Rattle.determine_side_effects.proofs.refusal_crate.Exits.{passed_on}
use Rattle.tree_shaking.proofs.include_user_entries.Goals as goal

pub loop-i-init : goal.loop-i-init
loop-i-init c = users_begin _ _ _ _ c.requires.working.0

pub offset_bounds-plan-i : goal.offset_bounds-plan-i
offset_bounds-plan-i c =
    let user-few : (c.args.users ≤ length c.args.plan.now) × (length c.args.plan.now < 4294967296) = let p = c.requires.working.1 in (omega (arith, p.users_are, p.all, p.long), p.few) in
    record { fits = omega (arith, c.loop-i-test.true, user-few) }

pub bounds-plan-i : goal.bounds-plan-i
bounds-plan-i c =
    let user-few : (c.args.users ≤ length c.args.plan.now) × (length c.args.plan.now < 4294967296) = let p = c.requires.working.1 in (omega (arith, p.users_are, p.all, p.long), p.few) in
    omega (arith, c.loop-i-test.true, user-few)

pub entry_module-m-requires : goal.entry_module-m-requires
unfolding graph_in
entry_module-m-requires c = record { loaded = c.requires.prepared.loaded; e_bound = user_inside _ _ _ c.requires.working.1 _ c.loop-i-test.true }

pub returns-in_err-total : goal.returns-in_err-total
unfolding module_of_entry
returns-in_err-total c = rw (passed_on c.from_residual.result _ c.from_residual.ensures.1) (users-full _ _ _ c.requires.working.1 _ _ _ _ _ c.loop-i.invariant c.loop-i-test.true _ c.entry_module-m.ensures.0 _ _ _ (rw c.in_err-total.was at c.include_user_entry.ensures))

pub loop-i-preserved : goal.loop-i-preserved
unfolding module_of_entry
loop-i-preserved c = let w = c.loop-i.invariant in (users-step _ _ _ c.requires.working.1 _ _ _ _ _ w c.loop-i-test.true _ c.entry_module-m.ensures.0 _ _ _ _ (rw c.in_ok-total.was at c.include_user_entry.ensures))

pub returns : goal.returns
returns c = users-done _ _ _ c.requires.working.1 _ _ _ _ _ c.loop-i.invariant c.loop-i-test.false
