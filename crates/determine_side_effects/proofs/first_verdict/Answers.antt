use mathlib.Core.Path.{◌∙◌}
use Rattle.determine_side_effects.proofs.Reading.{first_again, first_given}
use Rattle.determine_side_effects.proofs.first_verdict.Goals as goal

pub recomputed-requires : goal.recomputed-requires
recomputed-requires c = record { loaded = c.requires.loaded; m_bound = c.requires.again_value.1 }

pub returns-then-again : goal.returns-then-again
returns-then-again c = c.recomputed.ensures ∙ first_again _ _ c.requires.again_value.0 c.if-again.true

pub effects-requires : goal.effects-requires
effects-requires c = record { loaded = c.requires.loaded; m_bound = c.requires.again_value.1 }

pub returns : goal.returns
returns c = c.effects.ensures.0 ∙ first_given _ _ c.requires.again_value.0 c.if-again.false
