-- the record's number that was read
use Prim.Native.Nat.{ℕ}
use mathlib.Core.Path.{◌≡◌, ap, ◌∙◌, sym}
use native.Mathlib.Omega.{arith}
use Rattle.graph_tables.specs.rows_crate.Walk.{got, walk_of, number, below}
use Rattle.graph_tables.proofs.rows_crate.Walks.{at_got}
use Rattle.graph_tables.proofs.rows_crate.Cells.{Number, number_got}
use Rattle.graph_entries.proofs.Parts.{record_stop, record_none, record_some}
use Rattle.graph_tables.proofs.refusal_crate.Exits.{passed_on}
use Rattle.graph_entries.proofs.related_import_record.Goals as goal

pub offset_bounds-numbers-at : goal.offset_bounds-numbers-at
offset_bounds-numbers-at c =
    let counted : (x : ℕ) × (number (below c.import_record_count-count.result) c.args.numbers.now c.args.at ≡ got x c.in_ok-q.q) = at_got _ _ (sym c.within.ensures ∙ c.in_ok-q.was) in
    let there : Number (below c.import_record_count-count.result) c.args.numbers.now c.args.at counted.0 c.in_ok-q.q = number_got _ _ _ counted.1 in
    omega (arith, there.inside)

pub bounds-numbers-at : goal.bounds-numbers-at
bounds-numbers-at c =
    let counted : (x : ℕ) × (number (below c.import_record_count-count.result) c.args.numbers.now c.args.at ≡ got x c.in_ok-q.q) = at_got _ _ (sym c.within.ensures ∙ c.in_ok-q.was) in
    let there : Number (below c.import_record_count-count.result) c.args.numbers.now c.args.at counted.0 c.in_ok-q.q = number_got _ _ _ counted.1 in
    there.inside

pub import_record_number-target-requires : goal.import_record_number-target-requires
import_record_number-target-requires c =
    let counted : (x : ℕ) × (number (below c.import_record_count-count.result) c.args.numbers.now c.args.at ≡ got x c.in_ok-q.q) = at_got _ _ (sym c.within.ensures ∙ c.in_ok-q.was) in
    let there : Number (below c.import_record_count-count.result) c.args.numbers.now c.args.at counted.0 c.in_ok-q.q = number_got _ _ _ counted.1 in
    let same : c.wide-k.result ≡ counted.0 = c.wide-k.ensures ∙ sym there.same in record { module_table = c.requires.module_table; m_bound = (c.requires.m_bound, omega (arith, there.good.1, same, c.import_record_count-count.ensures), omega arith) }

pub returns-in_err-q : goal.returns-in_err-q
returns-in_err-q c = rw (passed_on c.from_residual.result _ c.from_residual.ensures.1) (sym (record_stop _ _ _ _ c.import_record_count-count.ensures (sym c.within.ensures ∙ c.in_err-q.was)))

pub returns-then-target-eq0 : goal.returns-then-target-eq0
unfolding walk_of
returns-then-target-eq0 c =
    let counted : (x : ℕ) × (number (below c.import_record_count-count.result) c.args.numbers.now c.args.at ≡ got x c.in_ok-q.q) = at_got _ _ (sym c.within.ensures ∙ c.in_ok-q.was) in
    let there : Number (below c.import_record_count-count.result) c.args.numbers.now c.args.at counted.0 c.in_ok-q.q = number_got _ _ _ counted.1 in
    let same : c.wide-k.result ≡ counted.0 = c.wide-k.ensures ∙ sym there.same in
    sym (ap walk_of (record_none _ _ _ _ c.import_record_count-count.ensures _ _ counted.1 same c.import_record_number-target.ensures c.if-target-eq0.true))

pub returns-else-target-eq0 : goal.returns-else-target-eq0
unfolding walk_of
returns-else-target-eq0 c =
    let counted : (x : ℕ) × (number (below c.import_record_count-count.result) c.args.numbers.now c.args.at ≡ got x c.in_ok-q.q) = at_got _ _ (sym c.within.ensures ∙ c.in_ok-q.was) in
    let there : Number (below c.import_record_count-count.result) c.args.numbers.now c.args.at counted.0 c.in_ok-q.q = number_got _ _ _ counted.1 in
    let same : c.wide-k.result ≡ counted.0 = c.wide-k.ensures ∙ sym there.same in
    sym (ap walk_of (record_some _ _ _ _ c.import_record_count-count.ensures _ _ counted.1 same c.import_record_number-target.ensures c.if-target-eq0.false))
