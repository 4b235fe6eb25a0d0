use Rattle.passes.proofs.Gathering.{gathering_start, gathering_room, gathering-below, gathering-step, gathering-other, gathering-full, gathering_over, gathering_same}
use Rattle.determine_side_effects.specs.graph_crate.Check.{graph_in}
use mathlib.Core.Path.{◌∙◌, sym}
use native.Mathlib.Omega.{arith}
use Rattle.determine_side_effects.proofs.refusal_crate.Exits.{passed_on}
use Rattle.passes.proofs.include_cjs_bailout_exports.Goals as goal
use Rattle.passes.proofs.include_cjs_bailout_exports.Goals.{else-kind_of-eq6, then-kind_of-eq6+in_ok-total}

pub loop-k-init : goal.loop-k-init
loop-k-init c = (gathering_start _ _ _ _ _ _ c.requires.working)

pub fact_at-fact-requires : goal.fact_at-fact-requires
fact_at-fact-requires c = gathering_room _ _ _ _ _ _ _ _ _ _ c.loop-k.invariant (omega (arith, c.loop-k-test.true))

pub include_cjs_exports-requires : goal.include_cjs_exports-requires
unfolding graph_in
include_cjs_exports-requires c = let v = c.loop-k.invariant in record { prepared = c.requires.prepared; working = v.along.working; m_bound = gathering-below _ _ _ _ _ _ _ _ _ _ v (omega (arith, c.loop-k-test.true)) _ c.fact_at-fact.ensures (sym c.kind_of.ensures ∙ c.if-kind_of-eq6.true) _ c.first_part.ensures }

pub returns-in_err-total : goal.returns-in_err-total
returns-in_err-total c = rw (passed_on c.from_residual.result _ c.from_residual.ensures.1) (gathering-full _ _ _ _ _ _ _ _ _ _ c.loop-k.invariant (omega (arith, c.loop-k-test.true)) _ c.fact_at-fact.ensures (sym c.kind_of.ensures ∙ c.if-kind_of-eq6.true) _ c.first_part.ensures _ _ _ (rw c.in_err-total.was at c.include_cjs_exports.ensures))

pub loop-k-preserved : goal.loop-k-preserved
loop-k-preserved c = let v = c.loop-k.invariant in let taken = c.loop-k-test.true in let is = c.fact_at-fact.ensures in let kind = c.kind_of.ensures in elim c.if-kind_of-eq6.branch [ then-kind_of-eq6+in_ok-total w ↦ (gathering_same _ _ _ _ _ _ _ _ _ (gathering-step _ _ _ _ _ _ _ _ _ _ v (omega (arith, taken)) _ is (sym kind ∙ w.if-kind_of-eq6.true) _ w.first_part.ensures _ _ _ _ (rw w.in_ok-total.was at w.include_cjs_exports.ensures)) w.partners-is w.marks-is w.lines-is w.total-is) | else-kind_of-eq6 w ↦ (gathering_same _ _ _ _ _ _ _ _ _ (gathering-other _ _ _ _ _ _ _ _ _ _ v (omega (arith, taken)) _ is (λ e. w.if-kind_of-eq6.false (kind ∙ e))) w.partners-is w.marks-is w.lines-is w.total-is) ]

pub returns : goal.returns
returns c = gathering_over _ _ _ _ _ _ _ _ _ _ c.loop-k.invariant c.loop-k-test.false
