use Prim.Native.Nat.{ℕ, ◌+◌, ◌<◌, ◌≤◌}
use mathlib.Core.Path.{◌≡◌, ap, ◌∙◌, sym}
use mathlib.Core.List.{List, [], ◌∷◌, ◌++◌}
use lib.ListN.{length, get_or}
use Rattle.tables.specs.rows_crate.Walk.{got, Item}
use Rattle.tables.proofs.rows_crate.Walks.{at_got}
use Rattle.tables.specs.graph_format_crate.declared.Header.{Header}
use Rattle.tables.specs.graph_format_crate.Format.{symbol_at, symbols_at}
use Rattle.tables.specs.Layout.{sizes, start_of, at_symbols}
use Rattle.tables.proofs.Sections.{ends_inside, word_inside}
use Rattle.graph_tables.specs.Tables.{modules_in}
use Rattle.graph_tables.proofs.OneItem.{item_place}
use Rattle.graph_tables.proofs.Filling.{filling_start, filling_inside, filling_step, filling_stop, filling_end}
use Rattle.graph_tables.proofs.Sections.{modules_inside, modules_kept}
use native.Mathlib.Omega.{arith}
use Rattle.tables.proofs.refusal_crate.Exits.{passed_on}
use Rattle.graph_tables.proofs.symbols.Goals as goal

placed : (h : Header) (ms : List Item) (numbers : List ℕ) (k q : ℕ) {x : Item} {p : ℕ} → symbol_at h ms numbers k q ≡ got x p → x.place ≡ q
unfolding symbol_at
placed h ms numbers k q e = item_place _ _ numbers q e

pub bounds-tables-1 : goal.bounds-tables-1
bounds-tables-1 c = word_inside c.requires.laid.0 1 (omega arith)

pub loop-k-init : goal.loop-k-init
loop-k-init c = ([], filling_start)

pub section-requires : goal.section-requires
section-requires c = modules_inside c.requires.laid.0 1 (omega arith) (omega arith) c.loop-k.invariant.1.kept

pub symbol-requires : goal.symbol-requires
symbol-requires c = record { module_table = modules_kept c.requires.laid.0 1 (omega arith) (omega arith) c.loop-k.invariant.1.kept c.requires.laid.1 c.section.ensures; h_value = (c.requires.h_value.0, c.requires.h_value.1) }

pub returns-in_err-next : goal.returns-in_err-next
unfolding symbols_at symbol_at
returns-in_err-next c = rw (passed_on c.from_residual.result _ c.from_residual.ensures.1) (filling_stop c.loop-k.invariant.1 c.loop-k-test.true (sym c.symbol.ensures ∙ c.in_err-next.was))

pub overflow_add-tables : goal.overflow_add-tables
unfolding sizes
overflow_add-tables c =
    let room : start_of c.args.h at_symbols + c.args.h.symbols ≤ length c.args.tables.now = ends_inside c.requires.laid.0 1 (omega arith) in
    let room : start_of c.args.h at_symbols + c.args.h.symbols ≤ length c.args.tables.now = ends_inside c.requires.laid.0 1 (omega arith) in
    let spot : get_or c.args.tables.now 1 0 + c.loop-k.k ≡ start_of c.args.h at_symbols + c.loop-k.k = ap (λ b. b + c.loop-k.k) (c.requires.laid.0.starts 1 (omega arith)) in
    let room : start_of c.args.h at_symbols + c.args.h.symbols ≤ length c.args.tables.now = ends_inside c.requires.laid.0 1 (omega arith) in
    let writes : get_or c.args.tables.now 1 0 + c.loop-k.k < length c.loop-k.tables = rw spot (filling_inside c.loop-k.invariant.1 room c.loop-k-test.true) in
    omega (arith, writes, c.loop-k.invariant.1.kept.same_length, c.requires.laid.0.few)

pub offset_bounds-tables-base : goal.offset_bounds-tables-base
unfolding sizes
offset_bounds-tables-base c =
    let room : start_of c.args.h at_symbols + c.args.h.symbols ≤ length c.args.tables.now = ends_inside c.requires.laid.0 1 (omega arith) in
    let room : start_of c.args.h at_symbols + c.args.h.symbols ≤ length c.args.tables.now = ends_inside c.requires.laid.0 1 (omega arith) in
    let spot : get_or c.args.tables.now 1 0 + c.loop-k.k ≡ start_of c.args.h at_symbols + c.loop-k.k = ap (λ b. b + c.loop-k.k) (c.requires.laid.0.starts 1 (omega arith)) in
    let room : start_of c.args.h at_symbols + c.args.h.symbols ≤ length c.args.tables.now = ends_inside c.requires.laid.0 1 (omega arith) in
    let writes : get_or c.args.tables.now 1 0 + c.loop-k.k < length c.loop-k.tables = rw spot (filling_inside c.loop-k.invariant.1 room c.loop-k-test.true) in
    omega (arith, writes, c.loop-k.invariant.1.kept.same_length, c.requires.laid.0.few)

pub bounds-tables-base : goal.bounds-tables-base
unfolding sizes
bounds-tables-base c =
    let room : start_of c.args.h at_symbols + c.args.h.symbols ≤ length c.args.tables.now = ends_inside c.requires.laid.0 1 (omega arith) in
    let room : start_of c.args.h at_symbols + c.args.h.symbols ≤ length c.args.tables.now = ends_inside c.requires.laid.0 1 (omega arith) in
    let spot : get_or c.args.tables.now 1 0 + c.loop-k.k ≡ start_of c.args.h at_symbols + c.loop-k.k = ap (λ b. b + c.loop-k.k) (c.requires.laid.0.starts 1 (omega arith)) in
    let room : start_of c.args.h at_symbols + c.args.h.symbols ≤ length c.args.tables.now = ends_inside c.requires.laid.0 1 (omega arith) in
    let writes : get_or c.args.tables.now 1 0 + c.loop-k.k < length c.loop-k.tables = rw spot (filling_inside c.loop-k.invariant.1 room c.loop-k-test.true) in
    writes

pub loop-k-preserved : goal.loop-k-preserved
unfolding symbol_at sizes
loop-k-preserved c =
    let room : start_of c.args.h at_symbols + c.args.h.symbols ≤ length c.args.tables.now = ends_inside c.requires.laid.0 1 (omega arith) in
    let room : start_of c.args.h at_symbols + c.args.h.symbols ≤ length c.args.tables.now = ends_inside c.requires.laid.0 1 (omega arith) in
    let room : start_of c.args.h at_symbols + c.args.h.symbols ≤ length c.args.tables.now = ends_inside c.requires.laid.0 1 (omega arith) in
    let spot : get_or c.args.tables.now 1 0 + c.loop-k.k ≡ start_of c.args.h at_symbols + c.loop-k.k = ap (λ b. b + c.loop-k.k) (c.requires.laid.0.starts 1 (omega arith)) in
    let room : start_of c.args.h at_symbols + c.args.h.symbols ≤ length c.args.tables.now = ends_inside c.requires.laid.0 1 (omega arith) in
    let turned : let l = c.loop-k in (x : Item) × (symbol_at c.args.h (modules_in c.args.numbers.now) c.args.numbers.now l.k l.q ≡ got x c.in_ok-next.next) = at_got _ _ (sym c.symbol.ensures ∙ c.in_ok-next.was) in
    let i = c.loop-k.invariant in
    let t = turned in
    (i.0 ++ (t.0 ∷ []), filling_step i.1 room c.loop-k-test.true t.1 (placed _ _ _ c.loop-k.k _ t.1) spot)

pub returns : goal.returns
unfolding symbols_at
returns c = filling_end c.loop-k.invariant.1 c.loop-k-test.false
