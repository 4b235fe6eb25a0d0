use mathlib.Core.Path.{◌∙◌, sym}
use mathlib.Core.List.{[], ◌∷◌, ◌++◌}
use Rattle.rows.proofs.Walks.{at_got}
use Rattle.rows.proofs.Many.{going_start, going_step, going_stop, going_end}
use Rattle.rows.specs.Walk.{firsts}
use Rattle.graph_format.specs.Format.{reference_at}
use Rattle.rows.proofs.refusal_crate.Exits.{passed_on}
use Rattle.graph_format.proofs.references.Goals as goal

pub loop-k-init : goal.loop-k-init
loop-k-init c = ([], [], going_start _ _ _ _ _)

pub returns-in_err-q : goal.returns-in_err-q
unfolding reference_at
returns-in_err-q c = let l = c.loop-k.invariant in passed_on _ _ c.from_residual.ensures.1 ∙ (going_stop _ _ _ _ _ l.2 c.loop-k-test.true (sym c.reference.ensures ∙ c.in_err-q.was))

pub loop-k-preserved : goal.loop-k-preserved
unfolding reference_at
loop-k-preserved c = let l = c.loop-k.invariant in let g = at_got _ _ (sym c.reference.ensures ∙ c.in_ok-q.was) in (firsts l.0 g.0, l.1 ++ (g.0 ∷ []), going_step _ _ _ _ _ l.2 c.loop-k-test.true g.1)

pub returns : goal.returns
returns c = going_end _ _ _ _ _ c.loop-k.invariant.2 c.loop-k-test.false
