use Rattle.include_module.proofs.Following.{not_dev, dev-runtime, dev-other}
use mathlib.Core.Path.{ap, ◌∙◌, sym}
use Rattle.determine_side_effects.specs.graph_crate.Check.{graph_in}
use Rattle.include_module.proofs.dev_namespace.Goals as goal

pub returns-then-not-option : goal.returns-then-not-option
returns-then-not-option c = not_dev _ _ (sym c.option.ensures ∙ c.if-not-option.true)

pub returns-then-m-h : goal.returns-then-m-h
unfolding graph_in
returns-then-m-h c = dev-runtime _ _ _ (ap (λ h. h.runtime) c.header_of-h.ensures) (sym c.option.ensures ∙ c.if-not-option.false) c.if-m-h.true

pub returns : goal.returns
unfolding graph_in
returns c = dev-other _ _ _ (ap (λ h. h.runtime) c.header_of-h.ensures) (sym c.option.ensures ∙ c.if-not-option.false) c.if-m-h.false c.exports.ensures
