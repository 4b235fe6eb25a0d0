use Rattle.tree_shaking.proofs.Modules.{look_start, look_end, look-found, look-next}
use Rattle.tree_shaking.proofs.has_module.Goals as goal

pub loop-k-init : goal.loop-k-init
loop-k-init c = look_start _ _ _

pub returns-then-kind_of-eq1 : goal.returns-then-kind_of-eq1
returns-then-kind_of-eq1 c = look-found _ _ _ _ c.loop-k.invariant c.loop-k-test.true _ c.fact_at.ensures _ c.kind_of.ensures c.if-kind_of-eq1.true

pub loop-k-preserved : goal.loop-k-preserved
loop-k-preserved c = look-next _ _ _ _ c.loop-k.invariant c.loop-k-test.true _ c.fact_at.ensures _ c.kind_of.ensures c.if-kind_of-eq1.false

pub returns : goal.returns
returns c = look_end _ _ _ _ c.loop-k.invariant c.loop-k-test.false
