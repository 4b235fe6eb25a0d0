use mathlib.Core.Path.{◌∙◌, sym}
use native.Mathlib.Omega.{arith}
use Rattle.cycles.proofs.Sources.{byte_clear, one_clear}
use Rattle.cycles.proofs.gap.Goals as goal

pub returns-then-edges-at-eq0 : goal.returns-then-edges-at-eq0
returns-then-edges-at-eq0 c = (omega arith, (λ k h. byte_clear _ _ k c.if-edges-at-eq0.true h), λ e. absurd (omega arith))

pub returns-then-test : goal.returns-then-test
returns-then-test c = (omega arith, (λ k h. absurd (omega arith)), λ e. sym c.test.ensures ∙ c.if-test.true)

pub returns : goal.returns
returns c = (omega arith, (λ k h. one_clear _ _ k (sym c.test.ensures ∙ c.if-test.false) h), λ e. absurd (omega arith))
