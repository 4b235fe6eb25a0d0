-- `set` meets its contract. Where the bit was set nothing is changed; else 2 ^ k is added to a byte whose bit k is 0.
use mathlib.Core.Path.{sym, ◌∙◌}
use native.Mathlib.Nat.{one-mul}
use native.Mathlib.Omega.{arith}
use Rattle.bit_row.proofs.Mark.{one_shifted, unset_fits, set_before, set_now}
use borrow.Author.Rules.{rules}
use Rattle.bit_row.proofs.set.Goals as goal

pub returns-then-test : goal.returns-then-test
returns-then-test c = λ j. set_before _ _ j (sym c.test.ensures ∙ c.if-test.true)

pub overflow_add-row : goal.overflow_add-row
overflow_add-row c =
    let room = unset_fits _ _ (sym c.test.ensures ∙ c.if-test.false) (λ n. search rules) in
    record { fits = omega arith }

pub returns : goal.returns
returns c =
    let unset = sym c.test.ensures ∙ c.if-test.false in
    λ j. set_now _ _ j _ c.requires unset (rw (one-mul, one_shifted c.args.i))
