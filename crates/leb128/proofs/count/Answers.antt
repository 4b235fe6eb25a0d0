use mathlib.Core.Path.{◌∙◌, sym}
use Rattle.leb128.proofs.Turn.{onward}
use Rattle.leb128.proofs.Counting.{count_full, count_more}
use native.Mathlib.Omega.{arith}
use Rattle.leb128.proofs.count.Goals as goal

pub returns-then-n-room : goal.returns-then-n-room
returns-then-n-room c =
    count_full _ _ _ _ c.loop-at.invariant c.loop-at-test.true _ _ (sym c.number_at.ensures ∙ c.in-Some.is) (omega (arith, c.if-n-room.true))

pub loop-at-smaller : goal.loop-at-smaller
loop-at-smaller c =
    let e = sym c.number_at.ensures ∙ c.in-Some.is in
    let o = onward _ 0 _ _ c.loop-at.invariant.few c.loop-at-test.true _ _ e in omega (arith, o.0, o.1, c.loop-at-test.true)

pub loop-at-preserved : goal.loop-at-preserved
loop-at-preserved c =
    count_more _ _ _ _ c.loop-at.invariant c.loop-at-test.true _ _ (sym c.number_at.ensures ∙ c.in-Some.is) (omega (arith, c.if-n-room.false))
