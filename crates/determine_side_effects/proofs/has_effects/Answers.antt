use Rattle.determine_side_effects.specs.Effects.{effectful, has_effects}
use mathlib.Core.Path.{ap, ◌∙◌}
use Rattle.determine_side_effects.proofs.has_effects.Goals as goal

pub returns : goal.returns
unfolding has_effects
returns c = c.effectful.ensures ∙ ap effectful c.verdict.ensures
