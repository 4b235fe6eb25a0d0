use Rattle.include_module.proofs.Following.{dependency_external, dependency_whole, dependency_effects, dependency_quiet}
use mathlib.Core.Path.{◌∙◌, sym}
use Rattle.determine_side_effects.specs.graph_crate.Check.{graph_in}
use Rattle.keep_rules.proofs.Picks.{gives_good, nothing_good}
use Rattle.include_module.proofs.dependency_candidate.Goals as goal

pub returns-then-not-is_normal : goal.returns-then-not-is_normal
returns-then-not-is_normal c = (dependency_external _ _ _ _ _ c.dependency-d.ensures.0 (sym c.is_normal.ensures ∙ c.if-not-is_normal.true), nothing_good)

pub returns-then-not-option : goal.returns-then-not-option
unfolding graph_in
returns-then-not-option c = let d = c.dependency-d.ensures in
    let n = sym c.is_normal.ensures ∙ c.if-not-is_normal.false in
    (dependency_whole _ _ _ _ _ d.0 n (sym c.option.ensures ∙ c.if-not-option.true), gives_good (d.1, n))

pub returns-then-has_effects : goal.returns-then-has_effects
unfolding graph_in
returns-then-has_effects c = let d = c.dependency-d.ensures in
    let n = sym c.is_normal.ensures ∙ c.if-not-is_normal.false in
    (dependency_effects _ _ _ _ _ d.0 n (sym c.option.ensures ∙ c.if-not-option.false) (sym c.has_effects.ensures ∙ c.if-has_effects.true), gives_good (d.1, n))

pub returns : goal.returns
returns c = let d = c.dependency-d.ensures in
    let n = sym c.is_normal.ensures ∙ c.if-not-is_normal.false in
    (dependency_quiet _ _ _ _ _ d.0 n (sym c.option.ensures ∙ c.if-not-option.false) (sym c.has_effects.ensures ∙ c.if-has_effects.false), nothing_good)
