use Prim.Native.Nat.{◌+◌, ◌-◌, ◌*◌, ◌<◌}
use mathlib.Core.Path.{refl, ◌∙◌, sym}
use lib.ListN.{length}
use Rattle.rows.proofs.Distinct.{place_in, seen_hit, seen_miss, seen_none}
use native.Mathlib.Omega.{arith}
use Rattle.rows.proofs.seen.Goals as goal

pub loop-k-init : goal.loop-k-init
loop-k-init c = (omega arith, refl)

pub overflow_mul-width : goal.overflow_mul-width
overflow_mul-width c =
    let inside : c.args.at + c.args.width * (c.loop-k.k - 1) < length c.args.numbers.now = place_in _ _ _ (c.loop-k.k - 1) _ c.requires.count_in_bounds (omega arith) c.requires.width_nonzero in
    omega (arith, inside)

pub overflow_add-at : goal.overflow_add-at
overflow_add-at c =
    let inside : c.args.at + c.args.width * (c.loop-k.k - 1) < length c.args.numbers.now = place_in _ _ _ (c.loop-k.k - 1) _ c.requires.count_in_bounds (omega arith) c.requires.width_nonzero in
    omega (arith, inside)

pub offset_bounds-numbers-at : goal.offset_bounds-numbers-at
offset_bounds-numbers-at c =
    let inside : c.args.at + c.args.width * (c.loop-k.k - 1) < length c.args.numbers.now = place_in _ _ _ (c.loop-k.k - 1) _ c.requires.count_in_bounds (omega arith) c.requires.width_nonzero in
    omega (arith, inside)

pub bounds-numbers-at : goal.bounds-numbers-at
bounds-numbers-at c =
    let inside : c.args.at + c.args.width * (c.loop-k.k - 1) < length c.args.numbers.now = place_in _ _ _ (c.loop-k.k - 1) _ c.requires.count_in_bounds (omega arith) c.requires.width_nonzero in
    inside

pub returns-then-numbers-at : goal.returns-then-numbers-at
returns-then-numbers-at c = let l = c.loop-k in sym (seen_hit _ _ _ _ _ c.loop-k-test.true c.if-numbers-at.true) ∙ l.invariant.1

pub loop-k-preserved : goal.loop-k-preserved
loop-k-preserved c = let l = c.loop-k in (omega arith, seen_miss _ _ _ _ _ c.loop-k-test.true c.if-numbers-at.false ∙ l.invariant.1)

pub returns : goal.returns
returns c = sym (seen_none _ _ _ _ _ c.loop-k-test.false) ∙ c.loop-k.invariant.1
