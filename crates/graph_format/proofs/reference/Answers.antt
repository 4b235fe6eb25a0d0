use mathlib.Core.Path.{◌∙◌, sym}
use native.Mathlib.Omega.{arith}
use Rattle.graph_format.proofs.ReferenceParts.{reference_stop, reference_go, number_inside}
use Rattle.rows.proofs.refusal_crate.Exits.{passed_on}
use Rattle.graph_format.proofs.reference.Goals as goal

pub offset_bounds-numbers-at : goal.offset_bounds-numbers-at
offset_bounds-numbers-at c = omega (arith, number_inside _ c.args.numbers.now c.args.at (sym c.within.ensures ∙ c.in_ok-a.was))

pub bounds-numbers-at : goal.bounds-numbers-at
bounds-numbers-at c = number_inside _ _ _ (sym c.within.ensures ∙ c.in_ok-a.was)

pub returns-in_err-a : goal.returns-in_err-a
returns-in_err-a c = passed_on _ _ c.from_residual.ensures.1 ∙ (sym (reference_stop _ _ _ _ (sym c.within.ensures ∙ c.in_err-a.was)))

pub returns : goal.returns
returns c = c.parts.ensures ∙ sym (reference_go _ _ _ _ (sym c.within.ensures ∙ c.in_ok-a.was) c.wide-kind.ensures)
