use mathlib.Core.Path.{◌∙◌, sym}
use native.Mathlib.Omega.{arith}
use Rattle.rows.proofs.Walks.{list_stop}
use Rattle.graph_format.proofs.ReferenceParts.{list_by, number_inside}
use Rattle.graph_format.specs.Format.{reference_list}
use Rattle.rows.proofs.refusal_crate.Exits.{passed_on}
use Rattle.graph_format.proofs.reference_list.Goals as goal

pub offset_bounds-numbers-at : goal.offset_bounds-numbers-at
offset_bounds-numbers-at c = omega (arith, number_inside _ c.args.numbers.now c.args.at (sym c.counter.ensures ∙ c.in_ok-a.was))

pub bounds-numbers-at : goal.bounds-numbers-at
bounds-numbers-at c = number_inside _ c.args.numbers.now c.args.at (sym c.counter.ensures ∙ c.in_ok-a.was)

pub returns-in_err-a : goal.returns-in_err-a
returns-in_err-a c = passed_on _ _ c.from_residual.ensures.1 ∙ (sym (list_stop _ _ _ (sym c.counter.ensures ∙ c.in_err-a.was)))

pub returns : goal.returns
returns c = c.references.ensures ∙ sym (list_by (reference_list c.args.symbols c.args.numbers.now) c.args.numbers.now c.args.at (sym c.counter.ensures ∙ c.in_ok-a.was) c.wide-count.ensures)
