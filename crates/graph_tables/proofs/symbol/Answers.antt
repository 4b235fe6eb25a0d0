-- the leading numbers that were read
use Prim.Native.Nat.{ℕ}
use mathlib.Core.Path.{◌≡◌, ◌∙◌, sym}
use mathlib.Core.List.{List}
use native.Mathlib.Omega.{arith}
use Rattle.tables.specs.rows_crate.Walk.{got, cells}
use Rattle.tables.proofs.rows_crate.Walks.{at_got}
use Rattle.tables.specs.graph_format_crate.Format.{symbol_rules}
use Rattle.graph_tables.specs.Tables.{modules_in}
use Rattle.graph_tables.proofs.OneItem.{symbol_stop, symbol-go, owner-inside, owner-good}
use Rattle.tables.proofs.refusal_crate.Exits.{passed_on}
use Rattle.graph_tables.proofs.symbol.Goals as goal

pub symbol_head-requires : goal.symbol_head-requires
symbol_head-requires c = c.requires.h_value.1

pub offset_bounds-numbers-at : goal.offset_bounds-numbers-at
offset_bounds-numbers-at c =
    let headed : (head : List ℕ) × (cells (symbol_rules c.args.h) c.args.numbers.now c.args.at ≡ got head c.in_ok-a.a) = at_got _ _ (sym c.symbol_head.ensures ∙ c.in_ok-a.was) in
    omega (arith, owner-inside c.args.h (modules_in c.args.numbers.now) _ 0 _ headed.1)

pub bounds-numbers-at : goal.bounds-numbers-at
bounds-numbers-at c =
    let headed : (head : List ℕ) × (cells (symbol_rules c.args.h) c.args.numbers.now c.args.at ≡ got head c.in_ok-a.a) = at_got _ _ (sym c.symbol_head.ensures ∙ c.in_ok-a.was) in
    owner-inside c.args.h (modules_in c.args.numbers.now) _ 0 _ headed.1

pub module_number-count-requires : goal.module_number-count-requires
module_number-count-requires c =
    let headed : (head : List ℕ) × (cells (symbol_rules c.args.h) c.args.numbers.now c.args.at ≡ got head c.in_ok-a.a) = at_got _ _ (sym c.symbol_head.ensures ∙ c.in_ok-a.was) in
    let g = owner-good c.args.h (modules_in c.args.numbers.now) _ 0 _ headed.1 in record { module_table = c.requires.module_table; m_bound = (rw (c.wide-owner.ensures, sym c.requires.h_value.0) g, omega arith) }

pub returns-in_err-a : goal.returns-in_err-a
returns-in_err-a c = rw (passed_on c.from_residual.result _ c.from_residual.ensures.1) (sym (symbol_stop _ _ _ _ _ (sym c.symbol_head.ensures ∙ c.in_err-a.was)))

pub returns : goal.returns
returns c =
    let headed : (head : List ℕ) × (cells (symbol_rules c.args.h) c.args.numbers.now c.args.at ≡ got head c.in_ok-a.a) = at_got _ _ (sym c.symbol_head.ensures ∙ c.in_ok-a.was) in
    c.symbol_lists.ensures ∙ sym (symbol-go _ _ _ _ _ headed.1 _ _ c.wide-owner.ensures c.module_number-count.ensures)
