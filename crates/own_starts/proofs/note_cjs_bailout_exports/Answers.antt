use Rattle.own_starts.proofs.Noting.{along_start, along_step, along_as, along_same, along_done}
use Rattle.own_starts.proofs.Bailing.{bailouts_over, bailouts-other, bailouts-here, bailout_below}
use Rattle.facts.specs.graph_crate.Check.{graph_in}
use lib.ListN.{length}
use mathlib.Core.Path.{refl, ap, ◌∙◌, sym}
use native.Mathlib.Omega.{arith}
use Rattle.own_starts.proofs.note_cjs_bailout_exports.Goals as goal
use Rattle.own_starts.proofs.note_cjs_bailout_exports.Goals.{else-kind_of-eq6, then-kind_of-eq6}

pub loop-k-init : goal.loop-k-init
loop-k-init c = (refl, refl, omega arith, along_start _ _ _ _ _ _ refl c.requires.noted)

pub fact_at-fact-requires : goal.fact_at-fact-requires
fact_at-fact-requires c = omega (arith, c.loop-k-test.true, c.requires.count_in_bounds.0)

pub note_cjs_exports-total-requires : goal.note_cjs_exports-total-requires
unfolding graph_in
note_cjs_exports-total-requires c = record { prepared = c.requires.prepared; noted = c.loop-k.invariant.3.noted; m_bound = bailout_below _ _ _ _ c.loop-k-test.true _ c.fact_at-fact.ensures (sym c.kind_of.ensures ∙ c.if-kind_of-eq6.true) _ c.first_part.ensures (c.requires.count_in_bounds.1 _ c.loop-k-test.true) }

pub loop-k-preserved : goal.loop-k-preserved
loop-k-preserved c = let v = c.loop-k.invariant in let inside = c.loop-k-test.true in let is = c.fact_at-fact.ensures in let kind = c.kind_of.ensures in elim c.if-kind_of-eq6.branch [ then-kind_of-eq6 w ↦ (ap length w.seen-is ∙ w.note_cjs_exports-total.auto.seen ∙ v.0, ap length w.out-is ∙ w.note_cjs_exports-total.auto.out ∙ v.1, omega (arith, inside), along_same _ _ _ _ _ _ _ _ _ (along_step _ _ _ _ _ _ _ _ _ _ _ (bailouts-here _ _ _ _ inside _ is (sym kind ∙ w.if-kind_of-eq6.true) _ w.first_part.ensures) v.3 _ _ _ w.note_cjs_exports-total.ensures) w.seen-is w.out-is w.total-is) | else-kind_of-eq6 w ↦ (ap length w.seen-is ∙ v.0, ap length w.out-is ∙ v.1, omega (arith, inside), along_same _ _ _ _ _ _ _ _ _ (along_as _ _ _ _ _ _ _ _ _ _ (bailouts-other _ _ _ _ inside _ is (λ e. w.if-kind_of-eq6.false (kind ∙ e))) v.3) w.seen-is w.out-is w.total-is) ]

pub returns : goal.returns
returns c = along_done _ _ _ _ _ _ _ _ _ (bailouts_over _ _ _ _ c.loop-k-test.false) c.loop-k.invariant.3
