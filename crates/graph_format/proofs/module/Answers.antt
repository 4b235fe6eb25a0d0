use mathlib.Core.Path.{◌∙◌, sym}
use native.Mathlib.Omega.{arith}
use Rattle.graph_format.proofs.Chains.{group_go, group_stop}
use Rattle.graph_format.proofs.Modules.{module_stop, module_inside, module_go}
use Rattle.graph_format.specs.Format.{module_lists}
use Rattle.rows.proofs.refusal_crate.Exits.{passed_on}
use Rattle.graph_format.proofs.module.Goals as goal

pub overflow_add-at : goal.overflow_add-at
overflow_add-at c = omega (arith, module_inside c.args.h c.args.numbers.now c.args.left c.args.at (sym c.module_head.ensures ∙ c.in_ok-a.was))

pub offset_bounds-numbers-at : goal.offset_bounds-numbers-at
offset_bounds-numbers-at c = omega (arith, module_inside c.args.h c.args.numbers.now c.args.left c.args.at (sym c.module_head.ensures ∙ c.in_ok-a.was))

pub bounds-numbers-at : goal.bounds-numbers-at
bounds-numbers-at c = module_inside c.args.h c.args.numbers.now c.args.left c.args.at (sym c.module_head.ensures ∙ c.in_ok-a.was)

pub returns-in_err-a : goal.returns-in_err-a
returns-in_err-a c = passed_on _ _ c.from_residual.ensures.1 ∙ (sym (module_stop _ _ _ _ (sym c.module_head.ensures ∙ c.in_err-a.was)))

pub returns-in_err-b : goal.returns-in_err-b
unfolding module_lists
returns-in_err-b c = passed_on _ _ c.from_residual-in_err-b.ensures.1 ∙ (sym (module_go _ _ _ _ (sym c.module_head.ensures ∙ c.in_ok-a.was) c.wide-count.ensures ∙ group_stop _ _ _ _ (sym c.import_lists.ensures ∙ c.in_err-b.was)))

pub returns-in_err-c : goal.returns-in_err-c
unfolding module_lists
returns-in_err-c c = passed_on _ _ c.from_residual-in_err-c.ensures.1 ∙ (sym (module_go _ _ _ _ (sym c.module_head.ensures ∙ c.in_ok-a.was) c.wide-count.ensures ∙ group_go _ _ _ _ (sym c.import_lists.ensures ∙ c.in_ok-b.was) ∙ group_stop _ _ _ _ (sym c.export_lists.ensures ∙ c.in_err-c.was)))

pub returns : goal.returns
unfolding module_lists
returns c = c.name_lists.ensures ∙ sym (module_go _ _ _ _ (sym c.module_head.ensures ∙ c.in_ok-a.was) c.wide-count.ensures ∙ group_go _ _ _ _ (sym c.import_lists.ensures ∙ c.in_ok-b.was) ∙ group_go _ _ _ _ (sym c.export_lists.ensures ∙ c.in_ok-c.was))
