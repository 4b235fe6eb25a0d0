-- the count that was read
use Prim.Native.Nat.{ℕ}
use mathlib.Core.Path.{◌≡◌, ap, ◌∙◌, sym}
use native.Mathlib.Omega.{arith}
use Rattle.graph_tables.proofs.rows_crate.Walks.{at_got, list_go, list_stop}
use Rattle.graph_tables.specs.rows_crate.Walk.{got, walk_of, number, count}
use Rattle.graph_tables.proofs.rows_crate.Cells.{Number, number_got}
use Rattle.graph_tables.proofs.refusal_crate.Exits.{passed_on}
use Rattle.graph_entries.proofs.related_list.Goals as goal

pub offset_bounds-numbers-at : goal.offset_bounds-numbers-at
offset_bounds-numbers-at c =
    let counted : (x : ℕ) × (number (count 16384 0 16385) c.args.numbers.now c.args.at ≡ got x c.in_ok-q.q) = at_got _ _ (sym c.counter.ensures ∙ c.in_ok-q.was) in
    let there : Number (count 16384 0 16385) c.args.numbers.now c.args.at counted.0 c.in_ok-q.q = number_got _ _ _ counted.1 in
    omega (arith, there.inside)

pub bounds-numbers-at : goal.bounds-numbers-at
bounds-numbers-at c =
    let counted : (x : ℕ) × (number (count 16384 0 16385) c.args.numbers.now c.args.at ≡ got x c.in_ok-q.q) = at_got _ _ (sym c.counter.ensures ∙ c.in_ok-q.was) in
    let there : Number (count 16384 0 16385) c.args.numbers.now c.args.at counted.0 c.in_ok-q.q = number_got _ _ _ counted.1 in
    there.inside

pub returns-in_err-q : goal.returns-in_err-q
returns-in_err-q c = rw (passed_on c.from_residual.result _ c.from_residual.ensures.1) (sym (list_stop _ _ _ (sym c.counter.ensures ∙ c.in_err-q.was)))

pub returns : goal.returns
returns c =
    let counted : (x : ℕ) × (number (count 16384 0 16385) c.args.numbers.now c.args.at ≡ got x c.in_ok-q.q) = at_got _ _ (sym c.counter.ensures ∙ c.in_ok-q.was) in
    let there : Number (count 16384 0 16385) c.args.numbers.now c.args.at counted.0 c.in_ok-q.q = number_got _ _ _ counted.1 in
    c.related_rows.ensures ∙ sym (ap walk_of (list_go _ _ _ counted.1 (there.same ∙ sym c.wide-count.ensures)))
