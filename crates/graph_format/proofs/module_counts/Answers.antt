use mathlib.Core.Path.{◌∙◌, sym}
use mathlib.Core.List.{[], ◌∷◌}
use Rattle.graph_format.proofs.Chains.{cells_go, cells_stop, row_go, row_stop}
use Rattle.graph_format.proofs.Modules.{counts_are}
use Rattle.rows.specs.Walk.{plain_row, columns_of}
use Rattle.rows.proofs.refusal_crate.Exits.{passed_on}
use Rattle.graph_format.proofs.module_counts.Goals as goal

pub returns-in_err-a : goal.returns-in_err-a
returns-in_err-a c = passed_on _ _ c.from_residual.ensures.1 ∙ (sym (cells_stop _ _ _ _ (sym c.within.ensures ∙ c.in_err-a.was)) ∙ (counts_are c.args.h c.args.numbers.now c.args.left c.args.at c.args.q c.wide-kind.ensures c.namespace_limit-highest.ensures c.least_statements-least.ensures c.statement_limit-limit.ensures))

pub returns-in_err-b : goal.returns-in_err-b
unfolding columns_of
returns-in_err-b c = passed_on _ _ c.from_residual-in_err-b.ensures.1 ∙ (sym (cells_go _ _ _ _ (sym c.within.ensures ∙ c.in_ok-a.was) ∙ row_stop (_ ∷ []) _ _ _ (sym c.row.ensures ∙ c.in_err-b.was)) ∙ (counts_are c.args.h c.args.numbers.now c.args.left c.args.at c.args.q c.wide-kind.ensures c.namespace_limit-highest.ensures c.least_statements-least.ensures c.statement_limit-limit.ensures))

pub returns-in_err-c : goal.returns-in_err-c
unfolding columns_of
returns-in_err-c c = passed_on _ _ c.from_residual-in_err-c.ensures.1 ∙ (sym (cells_go _ _ _ _ (sym c.within.ensures ∙ c.in_ok-a.was) ∙ row_go (_ ∷ []) _ _ _ (sym c.row.ensures ∙ c.in_ok-b.was) ∙ cells_stop _ _ _ _ (sym c.within-2.ensures ∙ c.in_err-c.was)) ∙ (counts_are c.args.h c.args.numbers.now c.args.left c.args.at c.args.q c.wide-kind.ensures c.namespace_limit-highest.ensures c.least_statements-least.ensures c.statement_limit-limit.ensures))

pub returns : goal.returns
unfolding columns_of plain_row
returns c = c.row-2.ensures ∙ sym (cells_go _ _ _ _ (sym c.within.ensures ∙ c.in_ok-a.was) ∙ row_go (_ ∷ []) _ _ _ (sym c.row.ensures ∙ c.in_ok-b.was) ∙ cells_go _ _ _ _ (sym c.within-2.ensures ∙ c.in_ok-c.was)) ∙ (counts_are c.args.h c.args.numbers.now c.args.left c.args.at c.args.q c.wide-kind.ensures c.namespace_limit-highest.ensures c.least_statements-least.ensures c.statement_limit-limit.ensures)
