-- `unset` meets its contract. Where the bit was not set nothing is changed; else 2 ^ k is taken from a byte whose bit k is 1.
use mathlib.Core.Path.{sym, ◌∙◌}
use native.Mathlib.Nat.{one-mul}
use native.Mathlib.Omega.{arith}
use Rattle.bit_row.proofs.Mark.{one_shifted}
use Rattle.bit_row.proofs.Unmark.{set-fits, clear_before, clear_now}
use Rattle.bit_row.proofs.unset.Goals as goal

pub returns-then-not-test : goal.returns-then-not-test
returns-then-not-test c = λ j. clear_before _ _ j (sym c.test.ensures ∙ c.if-not-test.true)

pub overflow_sub-row : goal.overflow_sub-row
overflow_sub-row c =
    let room = set-fits _ _ (sym c.test.ensures ∙ c.if-not-test.false) in
    omega (arith, room)

pub returns : goal.returns
returns c =
    let old = sym c.test.ensures ∙ c.if-not-test.false in
    λ j. clear_now _ _ j _ c.requires old (rw (one-mul, one_shifted c.args.i))
