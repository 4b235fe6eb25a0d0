use Prim.Native.Nat.{◌≤◌}
use native.Mathlib.Omega.{arith}
use Rattle.run_rows.proofs.Keeping.{final_user, final_off, final_live}
use Rattle.run_rows.proofs.is_final.Goals as goal

pub returns-then-i-users : goal.returns-then-i-users
returns-then-i-users c = final_user _ _ _ c.if-i-users.true

pub returns-then-not-splits : goal.returns-then-not-splits
returns-then-not-splits c = let l : c.args.users ≤ c.args.i = omega (arith, c.if-i-users.false) in final_off _ _ c.args.splits _ l (c.if-not-splits.true)

pub live_at-live-requires : goal.live_at-live-requires
live_at-live-requires c = rw c.header_of-h.ensures (omega (arith, c.requires.loaded.few_modules, c.requires.loaded.few_entries))

pub returns : goal.returns
returns c =
    let l : c.args.users ≤ c.args.i = omega (arith, c.if-i-users.false) in
    rw c.live_at-live.ensures (final_live _ _ _ c.args.plan.now _ c.args.splits _ _ l (c.if-not-splits.false) c.header_of-h.ensures c.entry_module-m.ensures.0 c.entry_module-m.ensures.1)
