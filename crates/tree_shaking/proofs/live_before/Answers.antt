use mathlib.Core.Path.{◌∙◌, sym}
use mathlib.Core.Bool.{true≢false}
use Rattle.tree_shaking.proofs.live_before.Goals as goal

pub returns : goal.returns
returns c o = absurd (true≢false (sym o ∙ sym c.option.ensures ∙ c.if-option.false))
