use mathlib.Core.Path.{◌∙◌, sym}
use Rattle.listing.proofs.Lines.{bit_one, bit_zero}
use Rattle.listing.proofs.bit_value.Goals as goal

pub returns-then-test : goal.returns-then-test
returns-then-test c = bit_one _ (sym c.test.ensures ∙ c.if-test.true)

pub returns : goal.returns
returns c = bit_zero _ (sym c.test.ensures ∙ c.if-test.false)
