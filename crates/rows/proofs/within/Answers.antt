use Prim.Native.Nat.{◌≤◌}
use mathlib.Core.Path.{refl, ap, sym}
use native.Mathlib.Omega.{arith}
use Rattle.rows.specs.Walk.{walk_of}
use Rattle.rows.proofs.Walks.{number_missing, value_low, value_high, value_good}
use Rattle.rows.proofs.within.Goals as goal

pub returns-then-at-numbers : goal.returns-then-at-numbers
unfolding walk_of
returns-then-at-numbers c = sym (ap walk_of (number_missing _ _ _ refl _ c.if-at-numbers.true))

pub returns-then-x-low : goal.returns-then-x-low
unfolding walk_of
returns-then-x-low c = sym (ap walk_of (value_low _ _ _ c.wide-x.ensures _ _ c.if-at-numbers.false c.if-x-low.true))

pub returns-then-x-limit : goal.returns-then-x-limit
unfolding walk_of
returns-then-x-limit c =
    let h : c.args.limit ≤ c.wide-x.result = omega (arith, c.if-x-limit.true) in
    sym (ap walk_of (value_high _ _ _ c.wide-x.ensures _ _ c.if-at-numbers.false c.if-x-low.false h))

pub returns : goal.returns
unfolding walk_of
returns c = sym (ap walk_of (value_good _ _ _ c.wide-x.ensures _ _ c.if-at-numbers.false c.if-x-low.false c.if-x-limit.false))
