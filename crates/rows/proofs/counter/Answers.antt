use mathlib.Core.Path.{refl, ap, ◌∙◌, sym}
use Rattle.rows.specs.Walk.{walk_of}
use Rattle.rows.proofs.Walks.{count_over, count_missing, count_value}
use Rattle.rows.proofs.counter.Goals as goal
use Rattle.rows.proofs.counter.Goals.{else-at-numbers, then-at-numbers+else-wide-most}

pub returns-then-wide-most : goal.returns-then-wide-most
unfolding walk_of
returns-then-wide-most c = sym (ap walk_of (count_over _ _ _ c.wide.ensures _ _ _ c.if-at-numbers.true c.if-wide-most.true))

pub returns : goal.returns
returns c =
    c.within.ensures
    ∙ sym (ap walk_of (elim c.if-at-numbers.branch [ then-at-numbers+else-wide-most w ↦ count_value _ _ _ w.wide.ensures _ _ _ w.if-at-numbers.true w.if-wide-most.false | else-at-numbers w ↦ count_missing _ _ _ refl _ _ _ w.if-at-numbers.false ]))
