use native.Mathlib.Omega.{arith}
use mathlib.Core.Path.{refl}
use Rattle.bit_row.proofs.Size.{bytes_at_most}
use Rattle.answer_rows.specs.Shown.{bytes_before}
use Rattle.listing.proofs.Pieces.{go_none, go_more, emits_as}
use Rattle.listing.proofs.Lines.{statements_are}
use Rattle.listing.proofs.Running.{statements_inside, statements_next}
use Rattle.listing.proofs.put_statements.Goals as goal

pub loop-m-init : goal.loop-m-init
unfolding bytes_before
loop-m-init c = (go_none, omega arith, refl, omega arith)

pub put_statements_of-end-requires : goal.put_statements_of-end-requires
put_statements_of-end-requires c =
    let s = c.requires in
    let i = c.loop-m.invariant in
    let n = c.statement_count-size.ensures in
    (omega (arith, i.1, i.0.few, s.loaded.few_modules, s.at_bound.0, s.at_bound.1), omega (arith, i.2, statements_inside _ _ _ _ _ c.loop-m-test.true n.0 s.at_bound.2), omega (arith, i.3, i.0.few, s.loaded.few_modules, s.at_bound.1), n.1)

pub overflow_add-first : goal.overflow_add-first
overflow_add-first c = let s = c.requires in let i = c.loop-m.invariant in omega (arith, i.3, i.0.few, s.loaded.few_modules, s.at_bound.1, c.statement_count-size.ensures.1, c.bytes_for-first.ensures, bytes_at_most c.statement_count-size.result)

pub loop-m-preserved : goal.loop-m-preserved
loop-m-preserved c =
    let p = c.put_statements_of-end in
    let i = c.loop-m.invariant in
    let n = c.statement_count-size.ensures in (
      go_more i.0 c.loop-m-test.true p.auto.out (emits_as (statements_are _ _ _ _ _ i.2 n.0) p.ensures.0),
      omega (arith, i.1, p.ensures.1),
      omega (arith, i.2, c.bytes_for-first.ensures, statements_next _ _ _ n.0),
      omega (arith, i.3, n.1, c.bytes_for-first.ensures, bytes_at_most c.statement_count-size.result),
    )
