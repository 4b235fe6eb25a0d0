use Rattle.include_module.proofs.Sweeping.{bit_plain, bit_known, bit_unknown}
use mathlib.Core.Path.{◌∙◌, sym}
use native.Mathlib.Omega.{arith}
use Rattle.include_module.proofs.effect_bit.Goals as goal

pub returns-then-not-flag : goal.returns-then-not-flag
returns-then-not-flag c = (bit_plain _ _ _ c.flags.ensures (sym c.flag.ensures ∙ c.if-not-flag.true), omega arith)

pub returns-then-option : goal.returns-then-option
returns-then-option c = (bit_unknown _ _ _ c.flags.ensures (sym c.flag.ensures ∙ c.if-not-flag.false) (sym c.option.ensures ∙ c.if-option.true), omega arith)

pub returns : goal.returns
returns c = (bit_known _ _ _ c.flags.ensures (sym c.flag.ensures ∙ c.if-not-flag.false) (sym c.option.ensures ∙ c.if-option.false), omega arith)
