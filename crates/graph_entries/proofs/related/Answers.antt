-- the module that was read, and its statement and record
use Prim.Native.Nat.{ℕ, ◌<◌}
use mathlib.Core.Path.{◌≡◌, ◌∙◌, sym}
use native.Mathlib.Omega.{arith}
use Rattle.graph_tables.specs.rows_crate.Walk.{got, number, below}
use Rattle.graph_tables.proofs.rows_crate.Walks.{at_got}
use Rattle.graph_tables.proofs.rows_crate.Cells.{Number}
use Rattle.graph_tables.specs.Tables.{header_in, modules_in}
use Rattle.graph_tables.specs.graph_format_crate.Format.{statements_of, related_module_at}
use Rattle.graph_entries.proofs.Parts.{module_is, related_stop, related-stop-statement, related-stop-record, related-last}
use Rattle.graph_tables.proofs.refusal_crate.Exits.{passed_on}
use Rattle.graph_entries.proofs.related.Goals as goal

pub offset_bounds-numbers-at : goal.offset_bounds-numbers-at
offset_bounds-numbers-at c =
    let counted : (x : ℕ) × (related_module_at c.args.h (modules_in c.args.numbers.now) c.args.numbers.now c.args.at ≡ got x c.in_ok-q.q) = at_got _ _ (sym c.related_module.ensures ∙ c.in_ok-q.was) in
    let there : Number (below c.args.h.modules) c.args.numbers.now c.args.at counted.0 c.in_ok-q.q = module_is _ _ _ _ counted.1 in
    omega (arith, there.inside)

pub bounds-numbers-at : goal.bounds-numbers-at
bounds-numbers-at c =
    let counted : (x : ℕ) × (related_module_at c.args.h (modules_in c.args.numbers.now) c.args.numbers.now c.args.at ≡ got x c.in_ok-q.q) = at_got _ _ (sym c.related_module.ensures ∙ c.in_ok-q.was) in
    let there : Number (below c.args.h.modules) c.args.numbers.now c.args.at counted.0 c.in_ok-q.q = module_is _ _ _ _ counted.1 in
    there.inside

pub module_number-count-requires : goal.module_number-count-requires
module_number-count-requires c =
    let counted : (x : ℕ) × (related_module_at c.args.h (modules_in c.args.numbers.now) c.args.numbers.now c.args.at ≡ got x c.in_ok-q.q) = at_got _ _ (sym c.related_module.ensures ∙ c.in_ok-q.was) in
    let there : Number (below c.args.h.modules) c.args.numbers.now c.args.at counted.0 c.in_ok-q.q = module_is _ _ _ _ counted.1 in
    let same : c.wide-m.result ≡ counted.0 = c.wide-m.ensures ∙ sym there.same in
    let in-header : c.wide-m.result < (header_in c.args.numbers.now).modules = rw (sym c.requires.h_value) (omega (arith, there.good.1, same)) in record { module_table = c.requires.module_table; m_bound = (in-header, omega arith) }

pub related_import_record-requires : goal.related_import_record-requires
related_import_record-requires c =
    let counted : (x : ℕ) × (related_module_at c.args.h (modules_in c.args.numbers.now) c.args.numbers.now c.args.at ≡ got x c.in_ok-q.q) = at_got _ _ (sym c.related_module.ensures ∙ c.in_ok-q.was) in
    let there : Number (below c.args.h.modules) c.args.numbers.now c.args.at counted.0 c.in_ok-q.q = module_is _ _ _ _ counted.1 in
    let same : c.wide-m.result ≡ counted.0 = c.wide-m.ensures ∙ sym there.same in
    let in-header : c.wide-m.result < (header_in c.args.numbers.now).modules = rw (sym c.requires.h_value) (omega (arith, there.good.1, same)) in record { module_table = c.requires.module_table; m_bound = in-header }

pub returns-in_err-q : goal.returns-in_err-q
returns-in_err-q c = rw (passed_on c.from_residual.result _ c.from_residual.ensures.1) (sym (related_stop _ _ _ _ _ (sym c.related_module.ensures ∙ c.in_err-q.was)))

pub returns-in_err-s : goal.returns-in_err-s
unfolding statements_of
returns-in_err-s c =
    let counted : (x : ℕ) × (related_module_at c.args.h (modules_in c.args.numbers.now) c.args.numbers.now c.args.at ≡ got x c.in_ok-q.q) = at_got _ _ (sym c.related_module.ensures ∙ c.in_ok-q.was) in
    let there : Number (below c.args.h.modules) c.args.numbers.now c.args.at counted.0 c.in_ok-q.q = module_is _ _ _ _ counted.1 in
    let same : c.wide-m.result ≡ counted.0 = c.wide-m.ensures ∙ sym there.same in rw (passed_on c.from_residual-in_err-s.result _ c.from_residual-in_err-s.ensures.1) (sym (related-stop-statement _ _ _ _ _ _ _ counted.1 same c.module_number-count.ensures (sym c.within.ensures ∙ c.in_err-s.was)))

pub returns-in_err-u : goal.returns-in_err-u
unfolding statements_of
returns-in_err-u c =
    let counted : (x : ℕ) × (related_module_at c.args.h (modules_in c.args.numbers.now) c.args.numbers.now c.args.at ≡ got x c.in_ok-q.q) = at_got _ _ (sym c.related_module.ensures ∙ c.in_ok-q.was) in
    let there : Number (below c.args.h.modules) c.args.numbers.now c.args.at counted.0 c.in_ok-q.q = module_is _ _ _ _ counted.1 in
    let same : c.wide-m.result ≡ counted.0 = c.wide-m.ensures ∙ sym there.same in
    let second : (y : ℕ) × (number (below c.module_number-count.result) c.args.numbers.now c.in_ok-q.q ≡ got y c.in_ok-s.s) = at_got _ _ (sym c.within.ensures ∙ c.in_ok-s.was) in rw (passed_on c.from_residual-in_err-u.result _ c.from_residual-in_err-u.ensures.1) (sym (related-stop-record _ _ _ _ _ _ _ counted.1 same c.module_number-count.ensures second.1 (sym c.related_import_record.ensures ∙ c.in_err-u.was)))

pub returns : goal.returns
unfolding statements_of
returns c =
    let counted : (x : ℕ) × (related_module_at c.args.h (modules_in c.args.numbers.now) c.args.numbers.now c.args.at ≡ got x c.in_ok-q.q) = at_got _ _ (sym c.related_module.ensures ∙ c.in_ok-q.was) in
    let there : Number (below c.args.h.modules) c.args.numbers.now c.args.at counted.0 c.in_ok-q.q = module_is _ _ _ _ counted.1 in
    let same : c.wide-m.result ≡ counted.0 = c.wide-m.ensures ∙ sym there.same in
    let second : (y : ℕ) × (number (below c.module_number-count.result) c.args.numbers.now c.in_ok-q.q ≡ got y c.in_ok-s.s) = at_got _ _ (sym c.within.ensures ∙ c.in_ok-s.was) in
    let r = at_got _ _ (sym c.related_import_record.ensures ∙ c.in_ok-u.was) in c.within-2.ensures ∙ sym (related-last _ _ _ _ _ _ _ counted.1 same c.module_number-count.ensures second.1 r.1)
