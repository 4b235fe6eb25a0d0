use Rattle.tree_shaking.proofs.Lives.{count_start, count_end, count_here, count_not}
use Rattle.determine_side_effects.specs.graph_crate.Check.{graph_in}
use native.Mathlib.Omega.{arith}
use Rattle.tree_shaking.proofs.live_count.Goals as goal
use Rattle.tree_shaking.proofs.live_count.Goals.{else-plan-first-eq1, then-plan-first-eq1}

pub live_at-first-requires : goal.live_at-first-requires
live_at-first-requires c = rw c.header_of-h.ensures (omega (arith, c.requires.1, c.requires.2))

pub loop-m-init : goal.loop-m-init
loop-m-init c = count_start _ _

pub overflow_add-first : goal.overflow_add-first
unfolding graph_in
overflow_add-first c = record { fits = rw (c.live_at-first.ensures, c.header_of-h.ensures) (omega (arith, c.loop-m.invariant.within, c.requires.1, c.requires.2)) }

pub offset_bounds-plan-first : goal.offset_bounds-plan-first
unfolding graph_in
offset_bounds-plan-first c = record { fits = rw (c.live_at-first.ensures, c.header_of-h.ensures) (omega (arith, c.loop-m.invariant.within, c.requires.1, c.requires.2)) }

pub bounds-plan-first : goal.bounds-plan-first
unfolding graph_in
bounds-plan-first c = rw (c.live_at-first.ensures, c.header_of-h.ensures) (omega (arith, rw c.header_of-h.ensures at c.loop-m-test.true, c.requires.1))

pub loop-m-preserved : goal.loop-m-preserved
unfolding graph_in
loop-m-preserved c =
    let i = c.loop-m.invariant in
    let h = c.header_of-h.ensures in
    let a = c.live_at-first.ensures in
    let u = rw h at c.loop-m-test.true in
    elim c.if-plan-first-eq1.branch [ then-plan-first-eq1 w ↦ rw w.live-is (count_here _ _ _ _ u (rw (a, h) at w.if-plan-first-eq1.true) i) | else-plan-first-eq1 w ↦ rw w.live-is (count_not _ _ _ _ u (rw (a, h) at w.if-plan-first-eq1.false) i) ]

pub returns : goal.returns
unfolding graph_in
returns c = count_end _ _ _ _ (rw c.header_of-h.ensures at c.loop-m-test.false) c.loop-m.invariant
