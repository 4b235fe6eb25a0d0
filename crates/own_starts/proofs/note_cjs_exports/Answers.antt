use Rattle.own_starts.proofs.Noting.{along_start, along_step, along_as, along_same, along_done}
use Rattle.own_starts.proofs.Bailing.{exports_over, exports-here, exports-other}
use Rattle.facts.specs.graph_crate.Check.{graph_in}
use lib.ListN.{length}
use mathlib.Core.Path.{refl, ap, ◌∙◌}
use native.Mathlib.Omega.{arith}
use Rattle.own_starts.proofs.note_cjs_exports.Goals as goal
use Rattle.own_starts.proofs.note_cjs_exports.Goals.{else-resolved_export_from_commonjs-eq1, then-resolved_export_from_commonjs-eq1}

pub resolved_export_count-exports-requires : goal.resolved_export_count-exports-requires
resolved_export_count-exports-requires c = record { loaded = c.requires.prepared.loaded; m_bound = c.requires.m_bound }

pub loop-k-init : goal.loop-k-init
loop-k-init c = (refl, refl, omega arith, along_start _ _ _ _ _ _ refl c.requires.noted)

pub resolved_export_from_commonjs-requires : goal.resolved_export_from_commonjs-requires
resolved_export_from_commonjs-requires c = record { loaded = c.requires.prepared.loaded; m_bound = (c.requires.m_bound, omega (arith, c.loop-k-test.true, c.resolved_export_count-exports.ensures.0)) }

pub resolved_export_symbol-s-requires : goal.resolved_export_symbol-s-requires
resolved_export_symbol-s-requires c = record { loaded = c.requires.prepared.loaded; m_bound = (c.requires.m_bound, omega (arith, c.loop-k-test.true, c.resolved_export_count-exports.ensures.0)) }

pub note-total-requires : goal.note-total-requires
unfolding graph_in
note-total-requires c = record { prepared = c.requires.prepared; noted = c.loop-k.invariant.3.noted; good = (c.resolved_export_symbol-s.ensures.1, omega arith, omega arith) }

pub loop-k-preserved : goal.loop-k-preserved
loop-k-preserved c = let v = c.loop-k.invariant in let size = c.resolved_export_count-exports.ensures.0 in let inside = c.loop-k-test.true in let is = c.resolved_export_from_commonjs.ensures in elim c.if-resolved_export_from_commonjs-eq1.branch [ then-resolved_export_from_commonjs-eq1 w ↦ (ap length w.seen-is ∙ w.note-total.auto.seen ∙ v.0, ap length w.out-is ∙ w.note-total.auto.out ∙ v.1, omega (arith, inside), along_same _ _ _ _ _ _ _ _ _ (along_step _ _ _ _ _ _ _ _ _ _ _ (exports-here _ _ size _ inside _ is w.if-resolved_export_from_commonjs-eq1.true _ w.resolved_export_symbol-s.ensures.0) v.3 _ _ _ w.note-total.ensures) w.seen-is w.out-is w.total-is) | else-resolved_export_from_commonjs-eq1 w ↦ (ap length w.seen-is ∙ v.0, ap length w.out-is ∙ v.1, omega (arith, inside), along_same _ _ _ _ _ _ _ _ _ (along_as _ _ _ _ _ _ _ _ _ _ (exports-other _ _ size _ inside _ is w.if-resolved_export_from_commonjs-eq1.false) v.3) w.seen-is w.out-is w.total-is) ]

pub returns : goal.returns
returns c = along_done _ _ _ _ _ _ _ _ _ (exports_over _ _ c.resolved_export_count-exports.ensures.0 _ c.loop-k-test.false) c.loop-k.invariant.3
