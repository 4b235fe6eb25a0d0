use Rattle.include_symbol.proofs.Bailouts.{checked_use, checked-root, checked-namespace, checked-plain, checked-alias}
use Rattle.determine_side_effects.specs.graph_crate.Check.{graph_in}
use Rattle.keep_rules.proofs.Picks.{gives_good, nothing_good}
use Rattle.include_symbol.proofs.checked_candidate.Goals as goal

pub returns-then-k-eq0 : goal.returns-then-k-eq0
unfolding graph_in
returns-then-k-eq0 c = (checked_use _ _ _ _ c.if-k-eq0.true, gives_good (c.requires.s_bound.0, c.requires.s_bound.1, c.requires.s_bound.2))

pub returns-then-k-eq1 : goal.returns-then-k-eq1
returns-then-k-eq1 c = (checked-root _ _ _ _ _ c.root-root.ensures.0 c.if-k-eq0.false c.if-k-eq1.true c.commonjs_of.ensures.0 c.bailout_candidate.ensures.0, c.bailout_candidate.ensures.1)

pub returns-then-is_namespace : goal.returns-then-is_namespace
unfolding graph_in
returns-then-is_namespace c = (checked-namespace _ _ _ _ _ c.root-root.ensures.0 c.if-k-eq0.false c.if-k-eq1.false c.if-k-eq2.true c.is_namespace.ensures c.if-is_namespace.true c.owner.ensures.0, gives_good c.owner.ensures.1)

pub returns-then-k-eq2 : goal.returns-then-k-eq2
returns-then-k-eq2 c = (checked-plain _ _ _ _ _ c.root-root.ensures.0 c.if-k-eq0.false c.if-k-eq1.false c.if-k-eq2.true c.is_namespace.ensures c.if-is_namespace.false, nothing_good)

pub returns : goal.returns
returns c = (checked-alias _ _ _ _ _ c.root-root.ensures.0 c.if-k-eq0.false c.if-k-eq1.false c.if-k-eq2.false c.default_alias.ensures.0, c.default_alias.ensures.1)
