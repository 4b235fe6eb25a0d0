use Rattle.tree_shaking.proofs.Users.{users_all, users_next, users_over, user_inside}
use Rattle.own_starts.proofs.Noting.{along_start, along_step, along_done}
use Rattle.facts.specs.graph_crate.Check.{graph_in}
use Rattle.entry_order.specs.Order.{module_of_entry}
use Prim.Native.Nat.{◌<◌, ◌≤◌}
use mathlib.Core.Path.{refl, ◌∙◌}
use lib.ListN.{length}
use native.Mathlib.Omega.{arith}
use Rattle.own_starts.proofs.note_user_entries.Goals as goal

pub loop-i-init : goal.loop-i-init
loop-i-init c = (refl, refl, omega arith, along_start _ _ _ _ _ _ (users_all _) c.requires.noted.0)

pub offset_bounds-plan-i : goal.offset_bounds-plan-i
offset_bounds-plan-i c =
    let user-few : (c.args.users ≤ length c.args.plan.now) × (length c.args.plan.now < 4294967296) = let p = c.requires.noted.1 in (omega (arith, p.users_are, p.all, p.long), p.few) in
    record { fits = omega (arith, c.loop-i-test.true, user-few) }

pub bounds-plan-i : goal.bounds-plan-i
bounds-plan-i c =
    let user-few : (c.args.users ≤ length c.args.plan.now) × (length c.args.plan.now < 4294967296) = let p = c.requires.noted.1 in (omega (arith, p.users_are, p.all, p.long), p.few) in
    omega (arith, c.loop-i-test.true, user-few)

pub entry_module-m-requires : goal.entry_module-m-requires
unfolding graph_in
entry_module-m-requires c = record { loaded = c.requires.prepared.loaded; e_bound = user_inside _ _ _ c.requires.noted.1 _ c.loop-i-test.true }

pub note_user_entry-total-requires : goal.note_user_entry-total-requires
note_user_entry-total-requires c = record { prepared = c.requires.prepared; noted = c.loop-i.invariant.3.noted; m_bound = c.entry_module-m.ensures.1 }

pub loop-i-preserved : goal.loop-i-preserved
unfolding module_of_entry
loop-i-preserved c =
    let w = c.loop-i.invariant in
    let l = c.loop-i-test.true in
    let t = c.note_user_entry-total in
    (t.auto.seen ∙ w.0, t.auto.out ∙ w.1, omega (arith, l), along_step _ _ _ _ _ _ _ _ _ _ _ (users_next _ _ _ c.requires.noted.1 _ l _ c.entry_module-m.ensures.0) w.3 _ _ _ t.ensures)

pub returns : goal.returns
returns c = along_done _ _ _ _ _ _ _ _ _ (users_over _ _ _ c.requires.noted.1 _ c.loop-i-test.false) c.loop-i.invariant.3
