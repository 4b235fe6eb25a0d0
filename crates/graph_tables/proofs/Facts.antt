-- What is known of a module that was read, and where its numbers stand.
-- The same of a symbol.
use Prim.Native.Nat.{ℕ, ◌+◌, ◌-◌, ◌*◌, ◌<◌, ◌≤◌}
use mathlib.Core.Path.{◌≡◌, refl, ap, sym}
use mathlib.Core.List.{List, [], ◌∷◌, map}
use native.Mathlib.Omega.{arith}
use lib.Dec.{eqb}
use mathlib.Core.Bool.{Bool, true, false}
use lib.ListN.{length, get_or}
use Rattle.tables.specs.rows_crate.Walk.{got, plain, below, Item, no_item}
use Rattle.tables.proofs.rows_crate.Cells.{Cells}
use Rattle.tables.proofs.rows_crate.Items.{many-length, many_each, ItemRead, item_got, ListRead, list_got, rows_each, plain_plain, lists_first}
use Rattle.tables.specs.graph_format_crate.declared.Header.{Header}
use Rattle.tables.specs.graph_format_crate.declared.Left.{Left}
use Rattle.tables.specs.graph_format_crate.Format.{module_at, less_module, modules_at, statement_limit, module_rules, import_lists, module_lists, import_records_of, statements_of, symbol_rules, symbol_lists, symbol_at, symbols_at}
use Rattle.graph_tables.specs.Tables.{header_in, modules_read, modules_in, symbols_read, symbols_in}
use Rattle.graph_tables.specs.Places.{ModuleTable, SymbolTable}

-- a module that was read at its place
pub record ModuleRead (h : Header) (numbers : List ℕ) (x : Item) : Type 0 where
  pub left : Left
  pub end : ℕ
  pub read : ItemRead (module_rules h (get_or numbers x.place 0) left.statements (eqb left.modules 1)) (λ head. module_lists h numbers (get_or head 9 0)) numbers x.place x end

pub module_read : (h : Header) (numbers : List ℕ) (left : Left) (at : ℕ) {x : Item} {q : ℕ} → module_at h numbers left at ≡ got x q → ModuleRead h numbers x
unfolding module_at
module_read h numbers left at {x} {q} e =
    let r = item_got _ _ numbers at e in
    let p = r.place in
    record { left = left; end = q; read = rw (sym p) at r }

module _ (numbers table : List ℕ) (t : ModuleTable numbers table) where
  pub modules_long : length (modules_in numbers) ≡ (header_in numbers).modules
  unfolding modules_read modules_at
  modules_long = many-length _ _ _ _ _ t.read

  module _ (m : ℕ) (h : m < (header_in numbers).modules) where
    abbrev its : Item
    its = get_or (modules_in numbers) m no_item

    pub its-read : ModuleRead (header_in numbers) numbers its
    unfolding modules_read modules_at
    its-read = let o = many_each _ _ no_item _ _ _ t.read m h in module_read _ numbers o.state o.at o.read

    pub its-place : get_or table m 0 ≡ its.place
    its-place =
        let e = t.places m (omega (arith, modules_long, h)) in
        let z : 0 + m ≡ m = omega arith in
        rw z at e

    abbrev head_read : ItemRead (module_rules (header_in numbers) (get_or numbers its.place 0) its-read.left.statements (eqb its-read.left.modules 1)) (λ head. module_lists (header_in numbers) numbers (get_or head 9 0)) numbers its.place its its-read.end
    head_read = its-read.read

    pub number_inside : (i : ℕ) → i < 12 → its.place + i < length numbers
    unfolding module_rules
    number_inside i l = head_read.head.inside i l

    pub number_same : (i : ℕ) → i < 12 → get_or its.head i 0 ≡ get_or numbers (its.place + i) 0
    unfolding module_rules
    number_same i l = head_read.head.same i l

    abbrev importRecordColumns : List ℕ
    importRecordColumns = ((header_in numbers).modules + 1) ∷ 3 ∷ 4 ∷ []

    records-read : (q : ℕ) × ListRead (plain numbers importRecordColumns) numbers (its.place + 12) (import_records_of its) q
    unfolding module_rules module_lists import_lists import_records_of
    records-read =
        let f = lists_first _ _ numbers (its.place + 12) head_read.rows in
        let e = ap (λ l. get_or l 0 []) f.is in
        (f.end, list_got _ numbers (its.place + 12) (rw e f.here))

    pub count_inside : its.place + 12 < length numbers
    count_inside = records-read.1.inside

    pub count_same : get_or numbers (its.place + 12) 0 ≡ length (import_records_of its)
    count_same = records-read.1.counted

    pub record-read : (k : ℕ) → k < length (import_records_of its)
        → Cells (map (λ l. below l) importRecordColumns) numbers (its.place + 12 + 1 + 3 * k) (get_or (import_records_of its) k []) (its.place + 12 + 1 + 3 * k + 3)
    record-read k l = rows_each importRecordColumns numbers _ (plain_plain importRecordColumns numbers) _ [] _ records-read.1.rows k l

    -- the same, by the table
    pub at-inside : (i : ℕ) → i < 12 → get_or table m 0 + i < length numbers
    at-inside i l = rw its-place (number_inside i l)

    pub at_same : (i : ℕ) → i < 12 → get_or numbers (get_or table m 0 + i) 0 ≡ get_or its.head i 0
    at_same i l = rw its-place (sym (number_same i l))

    pub at-count-inside : get_or table m 0 + 12 < length numbers
    at-count-inside = rw its-place count_inside

    pub at_count : get_or numbers (get_or table m 0 + 12) 0 ≡ length (import_records_of its)
    at_count = rw its-place count_same

    module _ (k : ℕ) (l : k < length (import_records_of its)) (c : ℕ) (w : c < 3) where
      spot : get_or table m 0 + 13 + 3 * k + c ≡ its.place + 12 + 1 + 3 * k + c
      spot = rw its-place (omega arith)

      pub at-record-inside : get_or table m 0 + 13 + 3 * k + c < length numbers
      at-record-inside = rw spot ((record-read k l).inside c w)

      pub at-record : get_or numbers (get_or table m 0 + 13 + 3 * k + c) 0 ≡ get_or (get_or (import_records_of its) k []) c 0
      at-record = rw spot (sym ((record-read k l).same c w))

limit_fits : (kind left : ℕ) → statement_limit kind left ≤ left + 1
unfolding statement_limit
limit_fits kind left = go (eqb kind 0) refl
  where
    go : (b : Bool) → eqb kind 0 ≡ b → statement_limit kind left ≤ left + 1
    go true e = rw (e, statement_limit) (omega arith)
    go false e = rw (e, statement_limit) (omega arith)

-- a module takes no more statements than are left, and its place and its count are in the numbers
module _ (h : Header) (numbers : List ℕ) (left : Left) (at : ℕ) {x : Item} {q : ℕ} (e : module_at h numbers left at ≡ got x q) where
  as_read : ItemRead (module_rules h (get_or numbers at 0) left.statements (eqb left.modules 1)) (λ head. module_lists h numbers (get_or head 9 0)) numbers at x q
  unfolding module_at
  as_read = item_got _ _ numbers at e

  pub read_place : x.place ≡ at
  read_place = as_read.place

  pub nine_inside : at + 9 < length numbers
  unfolding module_rules
  nine_inside = as_read.head.inside 9 (omega arith)

  pub nine_same : get_or x.head 9 0 ≡ get_or numbers (at + 9) 0
  unfolding module_rules
  nine_same = as_read.head.same 9 (omega arith)

  pub nine_fits : get_or x.head 9 0 ≤ left.statements
  unfolding module_rules
  nine_fits = omega (arith, (as_read.head.good 9 (omega arith)).1, limit_fits (get_or numbers at 0) left.statements)

  -- what is left for the modules behind it
  pub less : less_module left x ≡ record { statements = left.statements - get_or numbers (at + 9) 0; modules = left.modules - 1 }
  unfolding less_module
  less = rw nine_same

-- a symbol that was read, and where its numbers stand
module _ (numbers table : List ℕ) (t : SymbolTable numbers table) where
  pub symbols_long : length (symbols_in numbers) ≡ (header_in numbers).symbols
  unfolding symbols_read symbols_at
  symbols_long = many-length _ _ _ _ _ t.read

  module _ (s : ℕ) (h : s < (header_in numbers).symbols) where
    abbrev the_symbol : Item
    the_symbol = get_or (symbols_in numbers) s no_item

    pub symbol-read : (q : ℕ) × ItemRead (symbol_rules (header_in numbers)) (λ head. symbol_lists (header_in numbers) numbers (statements_of (get_or (modules_in numbers) (get_or head 0 0) no_item))) numbers the_symbol.place the_symbol q
    unfolding symbols_read symbols_at symbol_at
    symbol-read =
        let o = many_each _ _ no_item _ _ _ t.read s h in
        let r = item_got _ _ numbers o.at o.read in
        let p = r.place in
        (o.end, rw (sym p) at r)

    pub symbol-place : get_or table s 0 ≡ the_symbol.place
    symbol-place =
        let e = t.places s (omega (arith, symbols_long, h)) in
        let z : 0 + s ≡ s = omega arith in
        rw z at e

    pub symbol_inside : (i : ℕ) → i < 6 → get_or table s 0 + i < length numbers
    unfolding symbol_rules
    symbol_inside i l = rw symbol-place (symbol-read.1.head.inside i l)

    pub symbol-same : (i : ℕ) → i < 6 → get_or numbers (get_or table s 0 + i) 0 ≡ get_or the_symbol.head i 0
    unfolding symbol_rules
    symbol-same i l = rw symbol-place (sym (symbol-read.1.head.same i l))
