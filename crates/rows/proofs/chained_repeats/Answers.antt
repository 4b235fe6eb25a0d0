use mathlib.Core.Path.{◌∙◌, sym}
use native.Mathlib.Omega.{arith}
use Rattle.rows.proofs.Distinct.{repeated_past}
use Rattle.rows.proofs.Chains.{repeated_at}
use Rattle.rows.proofs.chained_repeats.Goals as goal

pub returns-then-q-numbers : goal.returns-then-q-numbers
returns-then-q-numbers c = record { value = sym (repeated_past _ _ _ c.if-q-numbers.true); chained = λ h. absurd (omega (arith, c.if-q-numbers.true)) }

pub returns : goal.returns
returns c = record { value = c.chained.ensures ∙ repeated_at _ _ _ _ _ c.requires.1 c.if-q-numbers.false; chained = λ h. c.link.ensures }
