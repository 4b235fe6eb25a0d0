use mathlib.Core.Path.{◌∙◌, sym}
use Rattle.leb128.proofs.Turn.{onward}
use Rattle.leb128.proofs.Filling.{fill-room, fill_more}
use native.Mathlib.Omega.{arith}
use Rattle.leb128.proofs.fill.Goals as goal

pub offset_bounds-numbers-n : goal.offset_bounds-numbers-n
offset_bounds-numbers-n c =
    let r = fill-room _ _ _ _ _ c.loop-at.invariant c.loop-at-test.true _ _ (sym c.number_at.ensures ∙ c.in-Some.is) in omega (arith, r, c.loop-at.invariant.long)

pub bounds-numbers-n : goal.bounds-numbers-n
bounds-numbers-n c =
    fill-room _ _ _ _ _ c.loop-at.invariant c.loop-at-test.true _ _ (sym c.number_at.ensures ∙ c.in-Some.is)

pub loop-at-smaller : goal.loop-at-smaller
loop-at-smaller c =
    let o = onward _ 0 _ _ c.loop-at.invariant.few c.loop-at-test.true _ _ (sym c.number_at.ensures ∙ c.in-Some.is) in omega (arith, o.0, o.1, c.loop-at-test.true)

pub loop-at-preserved : goal.loop-at-preserved
loop-at-preserved c =
    fill_more _ _ _ _ _ c.loop-at.invariant c.loop-at-test.true _ _ (sym c.number_at.ensures ∙ c.in-Some.is)
