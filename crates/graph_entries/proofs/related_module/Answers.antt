-- the module's number that was read
use Prim.Native.Nat.{ℕ}
use mathlib.Core.Path.{◌≡◌, ap, ◌∙◌, sym}
use native.Mathlib.Omega.{arith}
use Rattle.graph_tables.specs.rows_crate.Walk.{got, walk_of, number, below}
use Rattle.graph_tables.proofs.rows_crate.Walks.{at_got}
use Rattle.graph_tables.proofs.rows_crate.Cells.{Number, number_got}
use Rattle.graph_tables.specs.graph_format_crate.Format.{kind_of}
use Rattle.graph_entries.proofs.Parts.{module_stop, module_normal, module_external}
use Rattle.graph_tables.proofs.refusal_crate.Exits.{passed_on}
use Rattle.graph_entries.proofs.related_module.Goals as goal

pub offset_bounds-numbers-at : goal.offset_bounds-numbers-at
offset_bounds-numbers-at c =
    let counted : (x : ℕ) × (number (below c.args.h.modules) c.args.numbers.now c.args.at ≡ got x c.in_ok-q.q) = at_got _ _ (sym c.within.ensures ∙ c.in_ok-q.was) in
    let there : Number (below c.args.h.modules) c.args.numbers.now c.args.at counted.0 c.in_ok-q.q = number_got _ _ _ counted.1 in
    omega (arith, there.inside)

pub bounds-numbers-at : goal.bounds-numbers-at
bounds-numbers-at c =
    let counted : (x : ℕ) × (number (below c.args.h.modules) c.args.numbers.now c.args.at ≡ got x c.in_ok-q.q) = at_got _ _ (sym c.within.ensures ∙ c.in_ok-q.was) in
    let there : Number (below c.args.h.modules) c.args.numbers.now c.args.at counted.0 c.in_ok-q.q = number_got _ _ _ counted.1 in
    there.inside

pub module_number-kind-requires : goal.module_number-kind-requires
module_number-kind-requires c =
    let counted : (x : ℕ) × (number (below c.args.h.modules) c.args.numbers.now c.args.at ≡ got x c.in_ok-q.q) = at_got _ _ (sym c.within.ensures ∙ c.in_ok-q.was) in
    let there : Number (below c.args.h.modules) c.args.numbers.now c.args.at counted.0 c.in_ok-q.q = number_got _ _ _ counted.1 in
    let same : c.wide-m.result ≡ counted.0 = c.wide-m.ensures ∙ sym there.same in record { module_table = c.requires.module_table; m_bound = (rw (sym c.requires.h_value) (omega (arith, there.good.1, same)), omega arith) }

pub returns-in_err-q : goal.returns-in_err-q
returns-in_err-q c = rw (passed_on c.from_residual.result _ c.from_residual.ensures.1) (sym (module_stop _ _ _ _ (sym c.within.ensures ∙ c.in_err-q.was)))

pub returns-then-kind-eq1 : goal.returns-then-kind-eq1
unfolding kind_of walk_of
returns-then-kind-eq1 c =
    let counted : (x : ℕ) × (number (below c.args.h.modules) c.args.numbers.now c.args.at ≡ got x c.in_ok-q.q) = at_got _ _ (sym c.within.ensures ∙ c.in_ok-q.was) in
    let there : Number (below c.args.h.modules) c.args.numbers.now c.args.at counted.0 c.in_ok-q.q = number_got _ _ _ counted.1 in
    let same : c.wide-m.result ≡ counted.0 = c.wide-m.ensures ∙ sym there.same in
    sym (ap walk_of (module_normal _ _ _ _ _ _ counted.1 same c.module_number-kind.ensures c.if-kind-eq1.true))

pub returns-else-kind-eq1 : goal.returns-else-kind-eq1
unfolding kind_of walk_of
returns-else-kind-eq1 c =
    let counted : (x : ℕ) × (number (below c.args.h.modules) c.args.numbers.now c.args.at ≡ got x c.in_ok-q.q) = at_got _ _ (sym c.within.ensures ∙ c.in_ok-q.was) in
    let there : Number (below c.args.h.modules) c.args.numbers.now c.args.at counted.0 c.in_ok-q.q = number_got _ _ _ counted.1 in
    let same : c.wide-m.result ≡ counted.0 = c.wide-m.ensures ∙ sym there.same in
    sym (ap walk_of (module_external _ _ _ _ _ _ counted.1 same c.module_number-kind.ensures c.if-kind-eq1.false))
