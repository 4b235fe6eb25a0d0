use mathlib.Core.Path.{◌∙◌}
use Rattle.passes.proofs.Exporting.{exporting_start, exporting-step, exporting-other, exporting-full, exporting-done}
use Rattle.passes.proofs.Staying.{along_same}
use Rattle.determine_side_effects.specs.graph_crate.Check.{graph_in}
use native.Mathlib.Omega.{arith}
use Rattle.determine_side_effects.proofs.refusal_crate.Exits.{passed_on}
use Rattle.passes.proofs.include_cjs_exports.Goals as goal
use Rattle.passes.proofs.include_cjs_exports.Goals.{else-resolved_export_from_commonjs-eq1, then-resolved_export_from_commonjs-eq1+in_ok-total}

pub resolved_export_count-exports-requires : goal.resolved_export_count-exports-requires
resolved_export_count-exports-requires c = record { loaded = c.requires.prepared.loaded; m_bound = c.requires.m_bound }

pub loop-k-init : goal.loop-k-init
loop-k-init c = (exporting_start _ _ _ _ c.resolved_export_count-exports.ensures.0 _ _ _ _ c.requires.working)

pub resolved_export_from_commonjs-requires : goal.resolved_export_from_commonjs-requires
resolved_export_from_commonjs-requires c = record { loaded = c.requires.prepared.loaded; m_bound = (c.requires.m_bound, omega (arith, c.loop-k-test.true, c.resolved_export_count-exports.ensures.0)) }

pub resolved_export_symbol-s-requires : goal.resolved_export_symbol-s-requires
resolved_export_symbol-s-requires c = record { loaded = c.requires.prepared.loaded; m_bound = (c.requires.m_bound, omega (arith, c.loop-k-test.true, c.resolved_export_count-exports.ensures.0)) }

pub start_one-requires : goal.start_one-requires
unfolding graph_in
start_one-requires c = record { prepared = c.requires.prepared; working = c.loop-k.invariant.working; good = (c.resolved_export_symbol-s.ensures.1, omega arith, omega arith) }

pub returns-in_err-total : goal.returns-in_err-total
returns-in_err-total c = rw (passed_on c.from_residual.result _ c.from_residual.ensures.1) (exporting-full _ _ _ _ c.resolved_export_count-exports.ensures.0 _ _ _ _ _ _ _ c.loop-k.invariant c.loop-k-test.true _ c.resolved_export_from_commonjs.ensures c.if-resolved_export_from_commonjs-eq1.true _ c.resolved_export_symbol-s.ensures.0 _ _ _ (rw c.in_err-total.was at c.start_one.ensures))

pub loop-k-preserved : goal.loop-k-preserved
loop-k-preserved c = let v = c.loop-k.invariant in let size = c.resolved_export_count-exports.ensures.0 in let inside = c.loop-k-test.true in let is = c.resolved_export_from_commonjs.ensures in elim c.if-resolved_export_from_commonjs-eq1.branch [ then-resolved_export_from_commonjs-eq1+in_ok-total w ↦ (along_same _ _ _ _ _ _ _ _ (exporting-step _ _ _ _ size _ _ _ _ _ _ _ v inside _ is w.if-resolved_export_from_commonjs-eq1.true _ w.resolved_export_symbol-s.ensures.0 _ _ _ _ (rw w.in_ok-total.was at w.start_one.ensures)) w.partners-is w.marks-is w.lines-is w.total-is) | else-resolved_export_from_commonjs-eq1 w ↦ (along_same _ _ _ _ _ _ _ _ (exporting-other _ _ _ _ size _ _ _ _ _ _ _ v inside _ is w.if-resolved_export_from_commonjs-eq1.false) w.partners-is w.marks-is w.lines-is w.total-is) ]

pub returns : goal.returns
returns c = exporting-done _ _ _ _ c.resolved_export_count-exports.ensures.0 _ _ _ _ _ _ _ c.loop-k.invariant c.loop-k-test.false
