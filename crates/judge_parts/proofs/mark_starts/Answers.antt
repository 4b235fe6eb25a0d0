use Rattle.judge_parts.proofs.Starting.{mark_turn, mark_end}
use Rattle.completeness.proofs.Walks.{start_good}
use mathlib.Core.Path.{refl, ◌∙◌}
use native.Mathlib.Omega.{arith}
use Rattle.judge_parts.proofs.mark_starts.Goals as goal

pub loop-i-init : goal.loop-i-init
loop-i-init c = (refl, omega arith, c.requires.starts_good.1)

pub start_at-fact-requires : goal.start_at-fact-requires
start_at-fact-requires c = omega (arith, c.loop-i-test.true)

pub mark-requires : goal.mark-requires
mark-requires c = record { loaded = c.requires.prepared.loaded; good = (start_good _ _ c.loop-i-test.true _ c.start_at-fact.ensures _ c.requires.starts_good.0, c.loop-i.invariant.2.wide) }

pub loop-i-preserved : goal.loop-i-preserved
loop-i-preserved c = (c.mark.auto.marks ∙ c.loop-i.invariant.0, omega (arith, c.loop-i-test.true), mark_turn _ _ _ _ c.loop-i.invariant.2 c.loop-i-test.true _ c.start_at-fact.ensures _ c.mark.ensures)

pub returns : goal.returns
returns c = mark_end _ _ _ _ c.loop-i.invariant.2 c.loop-i-test.false
