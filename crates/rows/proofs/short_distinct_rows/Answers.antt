use Prim.Native.Nat.{ℕ}
use mathlib.Core.Path.{◌≡◌, ap, ◌∙◌, sym}
use mathlib.Core.List.{List, [], ◌∷◌, ◌++◌}
use native.Mathlib.Nat.{mul-zero}
use Rattle.rows.specs.Walk.{got, walk_of, firsts_at, plain_row, columns_of}
use Rattle.rows.proofs.Walks.{at_got}
use Rattle.rows.proofs.Many.{going_start, going_step, going_stop, going_end}
use Rattle.rows.proofs.Distinct.{distinct_hit, distinct_miss, row_ends, row_first}
use native.Mathlib.Omega.{arith}
use Rattle.rows.proofs.short_distinct_rows.Goals as goal
use Rattle.refusal.proofs.Exits.{passed_on}

pub loop-k-init : goal.loop-k-init
unfolding firsts_at
loop-k-init c = ([], omega (arith, mul-zero c.args.width), going_start _ _ _ _ _)

pub repeats-requires : goal.repeats-requires
repeats-requires c = (c.requires.0, c.loop-k.invariant.1)

pub returns-then-repeats : goal.returns-then-repeats
unfolding walk_of
returns-then-repeats c = let l = c.loop-k.invariant in going_stop _ _ _ _ _ l.2 c.loop-k-test.true (ap walk_of (distinct_hit _ _ _ _ (sym c.repeats.ensures ∙ c.if-repeats.true)))

pub returns-in_err-q : goal.returns-in_err-q
returns-in_err-q c = let l = c.loop-k.invariant in passed_on _ _ c.from_residual.ensures.1 ∙ going_stop _ _ _ _ _ l.2 c.loop-k-test.true (ap walk_of (distinct_miss _ _ _ _ (sym c.repeats.ensures ∙ c.if-repeats.false)) ∙ sym c.row.ensures ∙ c.in_err-q.was)

pub loop-k-preserved : goal.loop-k-preserved
loop-k-preserved c =
    let turned : (row : List ℕ) × (plain_row (columns_of c.args.width c.args.a c.args.b c.args.c) c.args.numbers.now [] c.loop-k.q ≡ got row c.in_ok-q.q) = at_got _ _ (sym c.row.ensures ∙ c.in_ok-q.was) in
    let l = c.loop-k.invariant in
    let t = turned in
    let m = distinct_miss _ _ _ _ (sym c.repeats.ensures ∙ c.if-repeats.false) in
    let g = going_step _ _ _ _ _ l.2 c.loop-k-test.true (m ∙ t.1) in (
      l.0 ++ (t.0 ∷ []),
      row_ends _ _ _ _ _ _ _ _ _ _ c.requires.0 c.requires.1 l.1 t.1,
      rw (row_first _ _ _ _ _ _ _ _ _ _ c.requires.0 c.requires.1 l.1 t.1) at g,
    )

pub returns : goal.returns
returns c = going_end _ _ _ _ _ c.loop-k.invariant.2 c.loop-k-test.false
