-- the count that was read
use Prim.Native.Nat.{ℕ}
use mathlib.Core.Path.{◌≡◌, ap, ◌∙◌, sym}
use mathlib.Core.List.{[]}
use native.Mathlib.Omega.{arith}
use Rattle.rows.specs.Walk.{got, walk_of, number, count, list, many, firsts, row_of, columns_of}
use Rattle.rows.proofs.Walks.{at_got, list_go, list_stop}
use Rattle.rows.proofs.Distinct.{no_rows}
use Rattle.rows.proofs.Cells.{Number, number_got}
use Rattle.refusal.proofs.Exits.{passed_on}
use Rattle.rows.proofs.rows.Goals as goal

pub offset_bounds-numbers-at : goal.offset_bounds-numbers-at
offset_bounds-numbers-at c =
    let counted : (x : ℕ) × (number (count 16384 0 c.args.counts) c.args.numbers.now c.args.at ≡ got x c.in_ok-q.q) = at_got _ _ (sym c.counter.ensures ∙ c.in_ok-q.was) in
    let there : Number (count 16384 0 c.args.counts) c.args.numbers.now c.args.at counted.0 c.in_ok-q.q = number_got _ _ _ counted.1 in
    omega (arith, there.inside)

pub bounds-numbers-at : goal.bounds-numbers-at
bounds-numbers-at c =
    let counted : (x : ℕ) × (number (count 16384 0 c.args.counts) c.args.numbers.now c.args.at ≡ got x c.in_ok-q.q) = at_got _ _ (sym c.counter.ensures ∙ c.in_ok-q.was) in
    let there : Number (count 16384 0 c.args.counts) c.args.numbers.now c.args.at counted.0 c.in_ok-q.q = number_got _ _ _ counted.1 in
    there.inside

pub returns-then-count-eq0 : goal.returns-then-count-eq0
returns-then-count-eq0 c =
    let counted : (x : ℕ) × (number (count 16384 0 c.args.counts) c.args.numbers.now c.args.at ≡ got x c.in_ok-q.q) = at_got _ _ (sym c.counter.ensures ∙ c.in_ok-q.was) in
    let there : Number (count 16384 0 c.args.counts) c.args.numbers.now c.args.at counted.0 c.in_ok-q.q = number_got _ _ _ counted.1 in
    let counted : (x : ℕ) × (number (count 16384 0 c.args.counts) c.args.numbers.now c.args.at ≡ got x c.in_ok-q.q) = at_got _ _ (sym c.counter.ensures ∙ c.in_ok-q.was) in
    let all-rows : walk_of (list (record { counts = c.args.counts; row = row_of c.args.distinct (columns_of c.args.width c.args.a c.args.b c.args.c) c.args.numbers.now }) c.args.numbers.now c.args.at)
    ≡ walk_of (many (row_of c.args.distinct (columns_of c.args.width c.args.a c.args.b c.args.c) c.args.numbers.now) firsts c.wide-count.result [] c.in_ok-q.q) = ap walk_of (list_go _ _ _ counted.1 (there.same ∙ sym c.wide-count.ensures)) in
    no_rows _ _ _ c.if-count-eq0.true ∙ sym all-rows

pub some_rows-requires : goal.some_rows-requires
some_rows-requires c =
    let counted : (x : ℕ) × (number (count 16384 0 c.args.counts) c.args.numbers.now c.args.at ≡ got x c.in_ok-q.q) = at_got _ _ (sym c.counter.ensures ∙ c.in_ok-q.was) in
    let there : Number (count 16384 0 c.args.counts) c.args.numbers.now c.args.at counted.0 c.in_ok-q.q = number_got _ _ _ counted.1 in
    let t = there in (c.requires.0, c.requires.1, omega (arith, t.good.0, t.same, c.wide-count.ensures))

pub returns-in_err-q : goal.returns-in_err-q
returns-in_err-q c = passed_on _ _ c.from_residual.ensures.1 ∙ sym (list_stop _ _ _ (sym c.counter.ensures ∙ c.in_err-q.was))

pub returns : goal.returns
returns c =
    let counted : (x : ℕ) × (number (count 16384 0 c.args.counts) c.args.numbers.now c.args.at ≡ got x c.in_ok-q.q) = at_got _ _ (sym c.counter.ensures ∙ c.in_ok-q.was) in
    let there : Number (count 16384 0 c.args.counts) c.args.numbers.now c.args.at counted.0 c.in_ok-q.q = number_got _ _ _ counted.1 in
    let counted : (x : ℕ) × (number (count 16384 0 c.args.counts) c.args.numbers.now c.args.at ≡ got x c.in_ok-q.q) = at_got _ _ (sym c.counter.ensures ∙ c.in_ok-q.was) in
    let all-rows : walk_of (list (record { counts = c.args.counts; row = row_of c.args.distinct (columns_of c.args.width c.args.a c.args.b c.args.c) c.args.numbers.now }) c.args.numbers.now c.args.at)
    ≡ walk_of (many (row_of c.args.distinct (columns_of c.args.width c.args.a c.args.b c.args.c) c.args.numbers.now) firsts c.wide-count.result [] c.in_ok-q.q) = ap walk_of (list_go _ _ _ counted.1 (there.same ∙ sym c.wide-count.ensures)) in
    c.some_rows.ensures ∙ sym all-rows
