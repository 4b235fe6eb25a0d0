use Prim.Native.Nat.{◌+◌, ◌≤◌}
use native.Mathlib.Omega.{arith}
use lib.ListN.{get_or}
use Rattle.tables.specs.declared.Size.TheVariants.{Largest}
use Rattle.tables.specs.Layout.{sizes, start_of}
use Rattle.tables.proofs.Sections.{start_next, start_mono, fits_all}
use Rattle.tables.proofs.Laying.{laying_start, laying-step, laying-end}
use Rattle.tables.proofs.lay_out.Goals as goal

pub loop-k-init : goal.loop-k-init
loop-k-init c = laying_start _ _

pub bounds-tables-k : goal.bounds-tables-k
bounds-tables-k c = omega (arith, c.loop-k-test.true, c.loop-k.invariant.same_length, c.requires.0)

pub overflow_add-at : goal.overflow_add-at
unfolding sizes start_of
overflow_add-at c =
    let small : c.loop-k.at + get_or (sizes c.args.h) c.loop-k.k 0 ≤ 71691 = let h = c.args.h in
    let k = c.loop-k.k in
    omega (arith, c.loop-k.invariant.sum, start_next h k, start_mono h (k + 1) 10 (omega (arith, c.loop-k-test.true)), fits_all h Largest c.requires.1) in
    omega (arith, small)

pub loop-k-preserved : goal.loop-k-preserved
loop-k-preserved c = laying-step _ _ _ _ _ c.loop-k.invariant c.requires.0 c.loop-k-test.true

pub bounds-tables-10 : goal.bounds-tables-10
bounds-tables-10 c = omega (arith, c.loop-k.invariant.same_length, c.requires.0)

pub returns : goal.returns
unfolding start_of sizes
returns c = laying-end _ _ _ _ _ c.loop-k.invariant c.requires.0 c.loop-k-test.false
