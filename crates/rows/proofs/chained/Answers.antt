use Prim.Native.Nat.{◌+◌, ◌-◌, ◌*◌, ◌<◌, ◌≤◌}
use mathlib.Core.Path.{◌∙◌, sym}
use lib.ListN.{length, get_or}
use Rattle.rows.proofs.Distinct.{place_in, seen_hit, seen_none}
use Rattle.rows.proofs.Chains.{back_start, back_step, link_below}
use native.Mathlib.Omega.{arith}
use Rattle.rows.proofs.chained.Goals as goal

pub overflow_mul-x : goal.overflow_mul-x
overflow_mul-x c = omega arith

pub overflow_add-x : goal.overflow_add-x
overflow_add-x c = omega arith

pub offset_bounds-numbers-at : goal.offset_bounds-numbers-at
offset_bounds-numbers-at c = omega arith

pub bounds-numbers-at : goal.bounds-numbers-at
bounds-numbers-at c = c.requires.1

pub offset_bounds-nexts-count : goal.offset_bounds-nexts-count
offset_bounds-nexts-count c = omega arith

pub bounds-nexts-count : goal.bounds-nexts-count
bounds-nexts-count c = c.requires.2

pub overflow_cast-v : goal.overflow_cast-v
overflow_cast-v c =
    omega (arith, c.requires.2, link_below c.args.numbers.now c.args.at c.args.width (c.args.count + 1) c.args.nexts.now c.requires.3 c.args.count (omega arith))

pub loop-v-init : goal.loop-v-init
loop-v-init c = back_start _ _ _ _ _ _ (c.requires.3 c.args.count (omega arith))

pub overflow_mul-width : goal.overflow_mul-width
overflow_mul-width c =
    let inside : c.args.at + c.args.width * (c.loop-v.v - 1) < length c.args.numbers.now = let l : c.args.at + c.args.width * c.args.count ≤ length c.args.numbers.now = omega (arith, c.requires.1) in
    let i : c.loop-v.v - 1 < c.args.count = omega (arith, c.loop-v.invariant.low, c.loop-v-test.true) in
    place_in _ _ _ _ _ l i c.requires.0 in
    omega (arith, inside)

pub overflow_add-at : goal.overflow_add-at
overflow_add-at c =
    let inside : c.args.at + c.args.width * (c.loop-v.v - 1) < length c.args.numbers.now = let l : c.args.at + c.args.width * c.args.count ≤ length c.args.numbers.now = omega (arith, c.requires.1) in
    let i : c.loop-v.v - 1 < c.args.count = omega (arith, c.loop-v.invariant.low, c.loop-v-test.true) in
    place_in _ _ _ _ _ l i c.requires.0 in
    omega (arith, inside)

pub offset_bounds-numbers-at-in-loop-v : goal.offset_bounds-numbers-at-in-loop-v
offset_bounds-numbers-at-in-loop-v c =
    let inside : c.args.at + c.args.width * (c.loop-v.v - 1) < length c.args.numbers.now = let l : c.args.at + c.args.width * c.args.count ≤ length c.args.numbers.now = omega (arith, c.requires.1) in
    let i : c.loop-v.v - 1 < c.args.count = omega (arith, c.loop-v.invariant.low, c.loop-v-test.true) in
    place_in _ _ _ _ _ l i c.requires.0 in
    omega (arith, inside)

pub bounds-numbers-at-in-loop-v : goal.bounds-numbers-at-in-loop-v
bounds-numbers-at-in-loop-v c =
    let inside : c.args.at + c.args.width * (c.loop-v.v - 1) < length c.args.numbers.now = let l : c.args.at + c.args.width * c.args.count ≤ length c.args.numbers.now = omega (arith, c.requires.1) in
    let i : c.loop-v.v - 1 < c.args.count = omega (arith, c.loop-v.invariant.low, c.loop-v-test.true) in
    place_in _ _ _ _ _ l i c.requires.0 in
    inside

pub returns-then-numbers-at : goal.returns-then-numbers-at
returns-then-numbers-at c =
    let l = c.loop-v in
    let p : 0 < l.v = omega (arith, c.loop-v-test.true) in
    sym (seen_hit _ _ _ _ _ p c.if-numbers-at.true) ∙ l.invariant.left

pub offset_bounds-nexts-j : goal.offset_bounds-nexts-j
offset_bounds-nexts-j c = omega (arith, c.requires.2, c.loop-v.invariant.low)

pub bounds-nexts-j : goal.bounds-nexts-j
bounds-nexts-j c = omega (arith, c.requires.2, c.loop-v.invariant.low)

pub overflow_cast-v-in-loop-v : goal.overflow_cast-v-in-loop-v
overflow_cast-v-in-loop-v c =
    let stepped : let l = c.loop-v in get_or c.args.nexts.now (l.v - 1) 0 ≤ l.v - 1 = let l = c.loop-v in
    let h : l.v - 1 < c.args.count + 1 = omega (arith, l.invariant.low) in
    link_below c.args.numbers.now c.args.at c.args.width (c.args.count + 1) c.args.nexts.now c.requires.3 (l.v - 1) h in
    omega (arith, c.requires.2, c.loop-v.invariant.low, stepped)

pub loop-v-smaller : goal.loop-v-smaller
loop-v-smaller c =
    let stepped : let l = c.loop-v in get_or c.args.nexts.now (l.v - 1) 0 ≤ l.v - 1 = let l = c.loop-v in
    let h : l.v - 1 < c.args.count + 1 = omega (arith, l.invariant.low) in
    link_below c.args.numbers.now c.args.at c.args.width (c.args.count + 1) c.args.nexts.now c.requires.3 (l.v - 1) h in
    omega (arith, c.loop-v-test.true, stepped)

pub loop-v-preserved : goal.loop-v-preserved
loop-v-preserved c =
    let l = c.loop-v in
    let p : 0 < l.v = omega (arith, c.loop-v-test.true) in
    let h : l.v - 1 < c.args.count + 1 = omega (arith, l.invariant.low) in
    back_step _ _ _ l.invariant p c.if-numbers-at.false (c.requires.3 (l.v - 1) h)

pub returns : goal.returns
returns c = sym (seen_none _ _ _ _ _ c.loop-v-test.false) ∙ c.loop-v.invariant.left
