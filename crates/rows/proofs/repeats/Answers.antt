use mathlib.Core.Path.{◌∙◌, sym}
use native.Mathlib.Omega.{arith}
use Rattle.rows.proofs.Distinct.{repeated_past, repeated_in}
use Rattle.rows.proofs.repeats.Goals as goal

pub returns-then-q-numbers : goal.returns-then-q-numbers
returns-then-q-numbers c = sym (repeated_past _ _ _ c.if-q-numbers.true)

pub seen-requires : goal.seen-requires
seen-requires c = record { count_in_bounds = omega (arith, c.requires.1, c.if-q-numbers.false); width_nonzero = c.requires.0 }

pub returns : goal.returns
returns c = c.seen.ensures ∙ sym (repeated_in _ _ _ c.if-q-numbers.false)
