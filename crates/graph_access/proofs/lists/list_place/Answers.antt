use mathlib.Core.Path.{refl}
use Rattle.graph_access.specs.Lists.{place_of}
use Rattle.graph_access.proofs.Fixed.{turn_next, turn_ends}
use native.Mathlib.Omega.{arith}
use Rattle.graph_access.proofs.lists.list_place.Goals as goal

pub loop-i-init : goal.loop-i-init
unfolding place_of
loop-i-init c = refl

pub overflow_mul-p : goal.overflow_mul-p
overflow_mul-p c = rw c.wide.ensures (omega (arith, turn_ends _ _ _ _ c.requires _ _ c.loop-i.invariant c.loop-i-test.true))

pub overflow_add-p-in-loop-i : goal.overflow_add-p-in-loop-i
overflow_add-p-in-loop-i c = rw c.wide.ensures (omega (arith, turn_ends _ _ _ _ c.requires _ _ c.loop-i.invariant c.loop-i-test.true))

pub loop-i-preserved : goal.loop-i-preserved
loop-i-preserved c = rw c.wide.ensures (turn_next _ _ _ _ c.requires _ _ c.loop-i.invariant c.loop-i-test.true)
