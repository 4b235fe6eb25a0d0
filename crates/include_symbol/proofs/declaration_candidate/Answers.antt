use Rattle.include_symbol.proofs.OfTarget.{declared_at, declared_in, declared-one, declared-namespace, declared-owner, declared-plain, of_owner}
use Rattle.determine_side_effects.specs.graph_access_crate.Words.{normal}
use mathlib.Core.Path.{◌≡◌, ◌∙◌, sym}
use mathlib.Core.Bool.{true}
use Rattle.determine_side_effects.specs.graph_crate.Check.{graph_in}
use Rattle.keep_rules.proofs.Picks.{gives_good, nothing_good}
use Rattle.include_symbol.proofs.declaration_candidate.Goals as goal

pub returns-then-k-declaring_count : goal.returns-then-k-declaring_count
unfolding graph_in
returns-then-k-declaring_count c = (declared_at _ _ _ _ _ c.target_of-t.ensures.0 (declared-one _ _ _ c.owner-o.ensures.0 _ _ _ c.declaring_count.ensures.0 _ c.if-k-declaring_count.true c.declaring-i.ensures.0), gives_good (c.owner-o.ensures.1, of_owner _ _ _ _ c.owner-o.ensures.0 c.declaring-i.ensures.1))

pub returns-then-flag : goal.returns-then-flag
returns-then-flag c = (declared_at _ _ _ _ _ c.target_of-t.ensures.0 (declared-namespace _ _ _ c.owner-o.ensures.0 _ _ _ c.declaring_count.ensures.0 c.if-k-declaring_count.false (sym c.is_namespace.ensures ∙ c.if-is_namespace.true) (sym c.flag.ensures ∙ c.if-flag.true)), nothing_good)

pub returns-else-flag : goal.returns-else-flag
unfolding graph_in
returns-else-flag c =
    let usual : normal (graph_in c.args.numbers.now) c.owner-o.result.0 ≡ true = declared_in _ _ _ c.owner-o.ensures.0 _ (rw (sym c.target_of-t.ensures.0) at c.requires.s_bound.1) in
    (declared_at _ _ _ _ _ c.target_of-t.ensures.0 (declared-owner _ _ _ c.owner-o.ensures.0 _ _ _ c.declaring_count.ensures.0 c.if-k-declaring_count.false (sym c.flag.ensures ∙ c.if-flag.false)), gives_good (c.owner-o.ensures.1, usual))

pub returns-else-is_namespace : goal.returns-else-is_namespace
unfolding graph_in
returns-else-is_namespace c =
    let usual : normal (graph_in c.args.numbers.now) c.owner-o.result.0 ≡ true = declared_in _ _ _ c.owner-o.ensures.0 _ (rw (sym c.target_of-t.ensures.0) at c.requires.s_bound.1) in
    (declared_at _ _ _ _ _ c.target_of-t.ensures.0 (declared-plain _ _ _ c.owner-o.ensures.0 _ _ _ c.declaring_count.ensures.0 c.if-k-declaring_count.false (sym c.is_namespace.ensures ∙ c.if-is_namespace.false)), gives_good (c.owner-o.ensures.1, usual))
