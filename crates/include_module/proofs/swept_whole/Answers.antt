use Rattle.include_module.proofs.Sweeping.{whole_free, whole_effect}
use mathlib.Core.Path.{◌∙◌, sym}
use Rattle.include_module.proofs.swept_whole.Goals as goal

pub returns-then-not-flag : goal.returns-then-not-flag
returns-then-not-flag c = whole_free _ _ _ _ c.bits-bits.ensures (sym c.flag.ensures ∙ c.if-not-flag.true)

pub returns : goal.returns
returns c = c.flag-2.ensures ∙ whole_effect _ _ _ _ c.bits-bits.ensures (sym c.flag.ensures ∙ c.if-not-flag.false)
