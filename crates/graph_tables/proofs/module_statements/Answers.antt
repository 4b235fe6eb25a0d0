use Prim.Native.Nat.{ℕ, ◌+◌, ◌<◌}
use mathlib.Core.Path.{◌≡◌, refl, ◌∙◌, sym}
use mathlib.Core.List.{List, [], ◌∷◌, ◌++◌}
use lib.ListN.{length}
use Rattle.tables.specs.rows_crate.Walk.{got, Item}
use Rattle.tables.proofs.rows_crate.Walks.{at_got}
use Rattle.tables.specs.graph_format_crate.declared.Header.{Header}
use Rattle.tables.specs.graph_format_crate.Format.{statement_at}
use Rattle.graph_tables.proofs.OneItem.{item_place}
use Rattle.graph_tables.proofs.Filling.{filling_start, filling_inside, filling_step, filling_stop, filling_end}
use native.Mathlib.Omega.{arith}
use Rattle.tables.proofs.refusal_crate.Exits.{passed_on}
use Rattle.graph_tables.proofs.module_statements.Goals as goal

placed : (h : Header) (r : ℕ) (numbers : List ℕ) (k q : ℕ) {x : Item} {p : ℕ} → statement_at h r numbers k q ≡ got x p → x.place ≡ q
unfolding statement_at
placed h r numbers k q e = item_place _ _ numbers q e

pub loop-k-init : goal.loop-k-init
loop-k-init c = ([], filling_start)

pub returns-in_err-next : goal.returns-in_err-next
unfolding statement_at
returns-in_err-next c = rw (passed_on c.from_residual.result _ c.from_residual.ensures.1) (filling_stop c.loop-k.invariant.1 c.loop-k-test.true (sym c.statement.ensures ∙ c.in_err-next.was))

pub overflow_add-tables : goal.overflow_add-tables
overflow_add-tables c =
    let writes : c.args.first + c.loop-k.k < length c.loop-k.tables = filling_inside c.loop-k.invariant.1 c.requires c.loop-k-test.true in
    omega (arith, writes)

pub offset_bounds-tables-first : goal.offset_bounds-tables-first
offset_bounds-tables-first c =
    let writes : c.args.first + c.loop-k.k < length c.loop-k.tables = filling_inside c.loop-k.invariant.1 c.requires c.loop-k-test.true in
    omega (arith, writes)

pub bounds-tables-first : goal.bounds-tables-first
bounds-tables-first c =
    let writes : c.args.first + c.loop-k.k < length c.loop-k.tables = filling_inside c.loop-k.invariant.1 c.requires c.loop-k-test.true in
    writes

pub loop-k-preserved : goal.loop-k-preserved
unfolding statement_at
loop-k-preserved c =
    let turned : let l = c.loop-k in (x : Item) × (statement_at c.args.h c.args.imports c.args.numbers.now l.k l.q ≡ got x c.in_ok-next.next) = at_got _ _ (sym c.statement.ensures ∙ c.in_ok-next.was) in
    let i = c.loop-k.invariant in
    let t = turned in
    (i.0 ++ (t.0 ∷ []), filling_step i.1 c.requires c.loop-k-test.true t.1 (placed _ _ _ c.loop-k.k _ t.1) refl)

pub returns : goal.returns
returns c = filling_end c.loop-k.invariant.1 c.loop-k-test.false
