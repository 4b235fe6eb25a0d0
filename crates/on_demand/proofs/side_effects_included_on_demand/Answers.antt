use mathlib.Core.Path.{ap, ◌∙◌}
use native.Mathlib.Omega.{arith}
use Rattle.determine_side_effects.specs.graph_crate.Check.{graph_in}
use Rattle.determine_side_effects.specs.graph_access_crate.Words.{flag as flag_of}
use Rattle.on_demand.specs.Demand.{user_entry}
use Rattle.on_demand.proofs.Deciding.{other_verdict, other-exports, has-eval, last-test, at_most_one}
use Rattle.on_demand.proofs.side_effects_included_on_demand.Goals as goal

pub returns-then-verdict-ne2 : goal.returns-then-verdict-ne2
returns-then-verdict-ne2 c = other_verdict _ _ _ _ c.verdict.ensures c.if-verdict-ne2.true

pub returns-then-exports-ne0 : goal.returns-then-exports-ne0
returns-then-exports-ne0 c = other-exports _ _ _ _ c.verdict.ensures c.if-verdict-ne2.false _ c.exports.ensures c.if-exports-ne0.true

pub returns-then-flag : goal.returns-then-flag
returns-then-flag c = has-eval _ _ _ _ c.verdict.ensures c.if-verdict-ne2.false _ c.exports.ensures c.if-exports-ne0.false _ (c.flag.ensures ∙ ap (λ x. flag_of 0 x) c.flags.ensures) c.if-flag.true

pub overflow_sub-result : goal.overflow_sub-result
overflow_sub-result c = omega (arith, c.requires.m_bound.1, at_most_one (user_entry (graph_in c.args.numbers.now) c.args.m.0))

pub returns : goal.returns
returns c = last-test _ _ _ _ c.verdict.ensures c.if-verdict-ne2.false _ c.exports.ensures c.if-exports-ne0.false _ (c.flag.ensures ∙ ap (λ x. flag_of 0 x) c.flags.ensures) _ c.if-flag.false c.requires.m_bound.1
