use mathlib.Core.Path.{◌∙◌, sym}
use mathlib.Core.List.{[], ◌∷◌, ◌++◌}
use Rattle.rows.specs.Walk.{firsts, plain_row}
use Rattle.rows.proofs.Walks.{at_got}
use Rattle.rows.proofs.Many.{going_start, going_step, going_stop, going_end}
use Rattle.rows.proofs.plain_rows.Goals as goal
use Rattle.refusal.proofs.Exits.{passed_on}

pub loop-i-init : goal.loop-i-init
loop-i-init c = ([], [], going_start _ _ _ _ _)

pub returns-in_err-q : goal.returns-in_err-q
unfolding plain_row
returns-in_err-q c = let l = c.loop-i.invariant in passed_on _ _ c.from_residual.ensures.1 ∙ going_stop _ _ _ _ _ l.2 c.loop-i-test.true (sym c.row.ensures ∙ c.in_err-q.was)

pub loop-i-preserved : goal.loop-i-preserved
unfolding plain_row
loop-i-preserved c = let l = c.loop-i.invariant in let g = at_got _ _ (sym c.row.ensures ∙ c.in_ok-q.was) in (firsts l.0 g.0, l.1 ++ (g.0 ∷ []), going_step _ _ _ _ _ l.2 c.loop-i-test.true g.1)

pub returns : goal.returns
returns c = going_end _ _ _ _ _ c.loop-i.invariant.2 c.loop-i-test.false
