use mathlib.Core.Path.{◌∙◌, sym}
use mathlib.Core.List.{[], ◌∷◌, ◌++◌}
use Rattle.graph_tables.specs.rows_crate.Walk.{firsts}
use Rattle.graph_tables.proofs.rows_crate.Walks.{at_got}
use Rattle.graph_tables.proofs.rows_crate.Many.{going_start, going_step, going_stop, going_end}
use Rattle.graph_tables.specs.graph_format_crate.Format.{related_at}
use Rattle.graph_tables.proofs.refusal_crate.Exits.{passed_on}
use Rattle.graph_entries.proofs.related_rows.Goals as goal

pub loop-k-init : goal.loop-k-init
loop-k-init c = ([], [], going_start _ _ _ _ _)

pub related-requires : goal.related-requires
related-requires c = record { module_table = c.requires.module_table; h_value = c.requires.h_value }

pub returns-in_err-q : goal.returns-in_err-q
unfolding related_at
returns-in_err-q c = let l = c.loop-k.invariant in rw (passed_on c.from_residual.result _ c.from_residual.ensures.1) (going_stop _ _ _ _ _ l.2 c.loop-k-test.true (sym c.related.ensures ∙ c.in_err-q.was))

pub loop-k-preserved : goal.loop-k-preserved
unfolding related_at
loop-k-preserved c = let l = c.loop-k.invariant in let g = at_got _ _ (sym c.related.ensures ∙ c.in_ok-q.was) in (firsts l.0 g.0, l.1 ++ (g.0 ∷ []), going_step _ _ _ _ _ l.2 c.loop-k-test.true g.1)

pub returns : goal.returns
returns c = going_end _ _ _ _ _ c.loop-k.invariant.2 c.loop-k-test.false
