-- What is accepted is well formed: every number of a module's and a symbol's lists is below its limit.
use Prim.Native.Nat.{ℕ, zero, suc, ◌+◌, ◌<◌}
use mathlib.Core.Path.{◌≡◌, ap}
use mathlib.Core.List.{List, [], ◌∷◌, map}
use native.Mathlib.Omega.{arith}
use lib.ListN.{length, get_or, length-map, get_or-map}
use Rattle.graph.specs.rows_crate.Walk.{got, value, below, ListRule, list, lists, Item, no_item}
use Rattle.graph.proofs.rows_crate.Cells.{Obeys}
use Rattle.graph.proofs.rows_crate.Items.{list_got, lists_first, rows_each}
use Rattle.graph.specs.graph_format_crate.Format.{module_rules, import_lists, export_lists, name_lists, module_lists, symbol_rules, symbol_lists, statements_of}
use Rattle.graph.specs.graph_tables_crate.Tables.{header_in, modules_in, symbols_in}
use Rattle.graph.specs.graph_tables_crate.Places.{ModuleTable, SymbolTable}
use Rattle.graph.proofs.graph_tables_crate.Facts.{its-read, symbol-read}
use Rattle.graph_access.specs.Lists.{module_widths, symbol_widths, module_limits, symbol_limits}
use Rattle.graph_access.proofs.Fixed.{Columns, AllColumns}
use Rattle.graph_access.proofs.OfItems.{module_columns, symbol_columns}

-- the limits that a format's columns have
abbrev pub limits_of : (numbers : List ℕ) (rs : List ListRule) (ws : List ℕ) → AllColumns numbers rs ws → List (List ℕ)
limits_of numbers [] [] a = []
limits_of numbers [] (w ∷ ws) a = []
limits_of numbers (r ∷ rs) [] a = []
limits_of numbers (r ∷ rs) (w ∷ ws) a = a.0.columns ∷ limits_of numbers rs ws a.1

obeyed : (columns : List ℕ) (c x : ℕ) → Obeys (get_or (map (λ l. below l) columns) c (value 0 0)) x → x < get_or columns c 0
obeyed columns c x o = let e = get_or-map (λ l. below l) columns c 0 in (rw e at o).1

row_below : (numbers : List ℕ) (r : ListRule) (w : ℕ) (f : Columns numbers r w) (at : ℕ) {xs : List (List ℕ)} {q : ℕ} → list r numbers at ≡ got xs q
    → (k c : ℕ) → k < length xs → c < w → get_or (get_or xs k []) c 0 < get_or f.columns c 0
row_below numbers r w f at {xs} e k c l m =
    let i = list_got r numbers at e in
    let cs = rows_each f.columns numbers r.row f.plain (length xs) [] (at + 1) i.rows k l in
    obeyed f.columns c _ (cs.good c (omega (arith, length-map f.columns (λ l. below l), f.long, m)))

each_below : (numbers : List ℕ) (rs : List ListRule) (ws : List ℕ) (a : AllColumns numbers rs ws) (at : ℕ) {ls : List (List (List ℕ))} {q : ℕ} → lists rs numbers at ≡ got ls q
    → (j k c : ℕ) → j < length ws → k < length (get_or ls j []) → c < get_or ws j 0 → get_or (get_or (get_or ls j []) k []) c 0 < get_or (get_or (limits_of numbers rs ws a) j []) c 0
each_below numbers [] [] a at e j k c h l m = absurd (omega arith)
each_below numbers [] (w ∷ ws) a at e j k c h l m = absurd a
each_below numbers (r ∷ rs) [] a at e j k c h l m = absurd a
each_below numbers (r ∷ rs) (w ∷ ws) a at {ls} {q} e zero k c h l m =
    let f = lists_first r rs numbers at e in
    let i = ap (λ x. get_or x 0 []) f.is in
    rw i (row_below numbers r w a.0 at f.here k c (rw i at l) m)
each_below numbers (r ∷ rs) (w ∷ ws) a at {ls} {q} e (suc j) k c h l m =
    let f = lists_first r rs numbers at e in
    let i = ap (λ x. get_or x (suc j) []) f.is in
    rw i (each_below numbers rs ws a.1 f.end f.there j k c (omega arith) (rw i at l) m)

-- modules
module _ (numbers table : List ℕ) (t : ModuleTable numbers table) (m : ℕ) (h : m < (header_in numbers).modules) where
  abbrev the_module : Item
  the_module = get_or (modules_in numbers) m no_item

  -- number c of row k of list j
  pub module_list_below : (j k c : ℕ) → j < 10 → k < length (get_or the_module.rows j []) → c < get_or module_widths j 0
      → get_or (get_or (get_or the_module.rows j []) k []) c 0 < get_or (get_or (module_limits (header_in numbers) (statements_of the_module)) j []) c 0
  unfolding module_rules module_lists import_lists export_lists name_lists module_widths module_limits statements_of
  module_list_below j k c d l w = each_below numbers (module_lists (header_in numbers) numbers (get_or the_module.head 9 0)) module_widths (module_columns (header_in numbers) numbers (get_or the_module.head 9 0)) _ (its-read numbers table t m h).read.rows j k c d l w

  -- the wrapper, if there is one, is a symbol
  pub wrapper_below : get_or the_module.head 6 0 < (header_in numbers).symbols + 1
  unfolding module_rules
  wrapper_below = ((its-read numbers table t m h).read.head.good 6 (omega arith)).1

-- symbols
module _ (numbers table : List ℕ) (t : SymbolTable numbers table) (s : ℕ) (h : s < (header_in numbers).symbols) where
  abbrev the_symbol : Item
  the_symbol = get_or (symbols_in numbers) s no_item

  pub symbol_list_below : (j k : ℕ) → j < 3 → k < length (get_or the_symbol.rows j [])
      → get_or (get_or (get_or the_symbol.rows j []) k []) 0 0 < get_or (get_or (symbol_limits (header_in numbers) (statements_of (get_or (modules_in numbers) (get_or the_symbol.head 0 0) no_item))) j []) 0 0
  unfolding symbol_rules symbol_lists symbol_widths symbol_limits
  symbol_list_below j k d l = each_below numbers (symbol_lists (header_in numbers) numbers (statements_of (get_or (modules_in numbers) (get_or the_symbol.head 0 0) no_item))) symbol_widths (symbol_columns (header_in numbers) numbers (statements_of (get_or (modules_in numbers) (get_or the_symbol.head 0 0) no_item))) _ (symbol-read numbers table t s h).1.rows j k 0 d l (one j d)
    where
      one : (i : ℕ) → i < 3 → 0 < get_or (1 ∷ 1 ∷ 1 ∷ []) i 0
      one zero p = omega arith
      one (suc zero) p = omega arith
      one (suc (suc zero)) p = omega arith
      one (suc (suc (suc i))) p = absurd (omega arith)

  pub owner_below : get_or the_symbol.head 0 0 < (header_in numbers).modules
  unfolding symbol_rules
  owner_below = ((symbol-read numbers table t s h).1.head.good 0 (omega arith)).1

  pub root_below : get_or the_symbol.head 2 0 < (header_in numbers).symbols
  unfolding symbol_rules
  root_below = ((symbol-read numbers table t s h).1.head.good 2 (omega arith)).1

  -- the alias's namespace, if there is one, is a symbol
  pub alias_below : get_or the_symbol.head 3 0 < (header_in numbers).symbols + 1
  unfolding symbol_rules
  alias_below = ((symbol-read numbers table t s h).1.head.good 3 (omega arith)).1
