use mathlib.Core.List.{[]}
use Rattle.completeness.proofs.Walks.{all_end, all_stop, all-next, declaring_kept, declaring_good, owner-external, owner-absent, owner-kept}
use Rattle.determine_side_effects.specs.graph_crate.Check.{graph_in}
use mathlib.Core.Bool.{true}
use mathlib.Core.Path.{sym, ◌∙◌}
use native.Mathlib.Omega.{arith}
use Rattle.completeness.proofs.are_declared.Goals as goal

pub owner-owner-requires : goal.owner-owner-requires
owner-owner-requires c = record { loaded = c.requires.prepared.loaded; s_bound = c.requires.s_bound.0 }

pub is_normal-requires : goal.is_normal-requires
is_normal-requires c = record { loaded = c.requires.prepared.loaded; m_bound = c.owner-owner.ensures.1 }

pub returns-then-not-is_normal : goal.returns-then-not-is_normal
returns-then-not-is_normal c = owner-external _ _ _ _ c.owner-owner.ensures.0 _ c.is_normal.ensures (c.if-not-is_normal.true)

pub is_marked-requires : goal.is_marked-requires
unfolding graph_in
is_marked-requires c = record { loaded = c.requires.prepared.loaded; good = ((c.owner-owner.ensures.1, sym c.is_normal.ensures ∙ c.if-not-is_normal.false), c.requires.s_bound.1) }

pub returns-then-not-is_marked : goal.returns-then-not-is_marked
returns-then-not-is_marked c = owner-absent _ _ _ _ c.owner-owner.ensures.0 _ c.is_normal.ensures (c.if-not-is_normal.false) _ c.is_marked.ensures (c.if-not-is_marked.true)

pub declaring_count-count-requires : goal.declaring_count-count-requires
declaring_count-count-requires c = record { loaded = c.requires.prepared.loaded; s_bound = c.requires.s_bound.0 }

pub loop-i-init : goal.loop-i-init
loop-i-init c = (omega arith, owner-kept _ _ _ _ c.owner-owner.ensures.0 _ c.is_normal.ensures (c.if-not-is_normal.false) _ c.is_marked.ensures (c.if-not-is_marked.false))

pub declaring-statement-requires : goal.declaring-statement-requires
declaring-statement-requires c = record { loaded = c.requires.prepared.loaded; s_bound = (c.requires.s_bound.0, omega (arith, c.loop-i-test.true, c.declaring_count-count.ensures.0)) }

pub is_marked-requires-in-loop-i : goal.is_marked-requires-in-loop-i
unfolding graph_in
is_marked-requires-in-loop-i c = record { loaded = c.requires.prepared.loaded; good = (declaring_good _ (λ f. true) _ _ c.owner-owner.ensures.0 c.owner-owner.ensures.1 _ c.declaring-statement.ensures.1, c.requires.s_bound.1) }

pub returns-then-not-is_marked-2 : goal.returns-then-not-is_marked-2
returns-then-not-is_marked-2 c = all_stop _ _ _ c.declaring_count-count.ensures.0 _ _ c.loop-i.invariant.1 c.loop-i-test.true [] _ (declaring_kept _ _ _ _ c.owner-owner.ensures.0 _ _ c.declaring-statement.ensures.0 _ c.is_marked-in-loop-i.ensures) (c.if-not-is_marked-2.true)

pub loop-i-preserved : goal.loop-i-preserved
loop-i-preserved c = (omega (arith, c.loop-i-test.true), all-next _ _ _ c.declaring_count-count.ensures.0 _ _ c.loop-i.invariant.1 c.loop-i-test.true [] _ (declaring_kept _ _ _ _ c.owner-owner.ensures.0 _ _ c.declaring-statement.ensures.0 _ c.is_marked-in-loop-i.ensures) (c.if-not-is_marked-2.false))

pub returns : goal.returns
returns c = all_end _ _ _ c.declaring_count-count.ensures.0 _ _ c.loop-i.invariant.1 c.loop-i-test.false
