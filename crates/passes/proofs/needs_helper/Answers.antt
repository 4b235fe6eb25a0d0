use Rattle.passes.proofs.Helping.{needing_start, needing-all, needing-kept, needing-not, needing-other, needing-over}
use Rattle.determine_side_effects.specs.graph_crate.Check.{graph_in}
use mathlib.Core.Path.{◌∙◌, sym}
use native.Mathlib.Omega.{arith}
use Rattle.passes.proofs.needs_helper.Goals as goal
use Rattle.passes.proofs.needs_helper.Goals.{else-helper, then-helper+else-all+else-is_marked}

pub helper_count-rows-requires : goal.helper_count-rows-requires
helper_count-rows-requires c = record { loaded = c.requires.prepared.loaded; m_bound = c.requires.m_bound.0 }

pub loop-k-init : goal.loop-k-init
loop-k-init c = (needing_start _ _ _ _ _ c.helper_count-rows.ensures.0)

pub helper-requires : goal.helper-requires
helper-requires c = record { loaded = c.requires.prepared.loaded; m_bound = (c.requires.m_bound.0, omega (arith, c.loop-k-test.true, c.helper_count-rows.ensures.0)) }

pub returns-then-all : goal.returns-then-all
returns-then-all c = needing-all _ _ _ _ _ c.helper_count-rows.ensures.0 _ c.loop-k.invariant c.loop-k-test.true _ c.helper.ensures.0 c.if-helper.true (sym c.requires.all_value ∙ c.if-all.true)

pub helper_statement-i-requires : goal.helper_statement-i-requires
helper_statement-i-requires c = record { loaded = c.requires.prepared.loaded; m_bound = (c.requires.m_bound.0, omega (arith, c.loop-k-test.true, c.helper_count-rows.ensures.0)) }

pub is_marked-requires : goal.is_marked-requires
unfolding graph_in
is_marked-requires c = record { loaded = c.requires.prepared.loaded; good = ((c.requires.m_bound.0, c.helper_statement-i.ensures.1), c.requires.m_bound.1) }

pub returns-then-is_marked : goal.returns-then-is_marked
returns-then-is_marked c = needing-kept _ _ _ _ _ c.helper_count-rows.ensures.0 _ c.loop-k.invariant c.loop-k-test.true _ c.helper.ensures.0 c.if-helper.true _ c.helper_statement-i.ensures.0 _ c.is_marked.ensures c.if-is_marked.true

pub loop-k-preserved : goal.loop-k-preserved
loop-k-preserved c = let size = c.helper_count-rows.ensures.0 in let left = c.loop-k.invariant in let inside = c.loop-k-test.true in let is = c.helper.ensures.0 in (elim c.if-helper.branch [ then-helper+else-all+else-is_marked w ↦ needing-not _ _ _ _ _ size _ left inside _ is w.if-helper.true _ w.helper_statement-i.ensures.0 _ w.is_marked.ensures (sym c.requires.all_value ∙ w.if-all.false) w.if-is_marked.false | else-helper w ↦ needing-other _ _ _ _ _ size _ left inside _ is w.if-helper.false ])

pub returns : goal.returns
returns c = needing-over _ _ _ _ _ c.helper_count-rows.ensures.0 _ c.loop-k.invariant c.loop-k-test.false
