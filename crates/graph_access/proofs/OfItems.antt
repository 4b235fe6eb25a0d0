-- The lists of a module and of a symbol.
use Prim.Native.Nat.{ℕ, ◌+◌, ◌<◌}
use mathlib.Core.List.{List, [], ◌∷◌}
use lib.ListN.{get_or}
use Rattle.graph.specs.rows_crate.Walk.{no_item, any}
use Rattle.graph.specs.graph_format_crate.declared.Header.{Header}
use Rattle.graph.specs.graph_format_crate.Format.{module_rules, import_lists, export_lists, name_lists, module_lists, symbol_rules, symbol_lists}
use Rattle.graph.specs.graph_tables_crate.Tables.{header_in, modules_in, symbols_in}
use Rattle.graph.specs.graph_tables_crate.Places.{ModuleTable, SymbolTable}
use Rattle.graph.proofs.graph_tables_crate.Facts.{its-read, symbol-read}
use Rattle.graph_access.specs.Lists.{place_of, Inside, module_widths, symbol_widths}
use Rattle.graph_access.proofs.Fixed.{AllColumns, of_plain, of_distinct, plain_columns, Stands, each_stands, each_inside}

abbrev pub module_columns : (h : Header) (numbers : List ℕ) (n : ℕ) → AllColumns numbers (module_lists h numbers n) module_widths
unfolding module_lists import_lists export_lists name_lists module_widths
module_columns h numbers n = (
  of_plain numbers ((h.modules + 1) ∷ 3 ∷ 4 ∷ []),
  (
    of_plain numbers (h.modules ∷ []),
    (
      of_plain numbers (h.symbols ∷ []),
      (
        of_plain numbers (h.symbols ∷ []),
        (
          of_plain numbers (h.symbols ∷ []),
          (
            of_plain numbers (h.symbols ∷ []),
            (
              of_distinct numbers (any ∷ h.symbols ∷ 2 ∷ []),
              (
                of_distinct numbers (h.symbols ∷ h.modules ∷ []),
                (of_plain numbers (any ∷ any ∷ []), (of_plain numbers (h.helpers ∷ n ∷ []), tt)),
              ),
            ),
          ),
        ),
      ),
    ),
  ),
)

abbrev pub symbol_columns : (h : Header) (numbers : List ℕ) (n : ℕ) → AllColumns numbers (symbol_lists h numbers n) symbol_widths
unfolding symbol_lists symbol_widths
symbol_columns h numbers n = (of_plain numbers (h.symbols ∷ []), (plain_columns numbers (n ∷ []) _, (plain_columns numbers (n ∷ []) _, tt)))

module _ (numbers table : List ℕ) (t : ModuleTable numbers table) (m : ℕ) (h : m < (header_in numbers).modules) (j : ℕ) (l : j < 10) where
  pub module_stands : Stands numbers (place_of numbers ((get_or (modules_in numbers) m no_item).place + 12) module_widths j) (get_or module_widths j 0) (get_or (get_or (modules_in numbers) m no_item).rows j [])
  unfolding module_rules module_widths
  module_stands = each_stands numbers _ _ (module_columns (header_in numbers) numbers _) _ (its-read numbers table t m h).read.rows j l

  pub module_inside : Inside numbers ((get_or (modules_in numbers) m no_item).place + 12) module_widths j
  unfolding module_rules module_widths
  module_inside = each_inside numbers _ _ (module_columns (header_in numbers) numbers _) _ (its-read numbers table t m h).read.rows j l

module _ (numbers table : List ℕ) (t : SymbolTable numbers table) (s : ℕ) (h : s < (header_in numbers).symbols) (j : ℕ) (l : j < 3) where
  pub symbol_stands : Stands numbers (place_of numbers ((get_or (symbols_in numbers) s no_item).place + 6) symbol_widths j) (get_or symbol_widths j 0) (get_or (get_or (symbols_in numbers) s no_item).rows j [])
  unfolding symbol_rules symbol_widths
  symbol_stands = each_stands numbers _ _ (symbol_columns (header_in numbers) numbers _) _ (symbol-read numbers table t s h).1.rows j l

  pub symbol_lists_inside : Inside numbers ((get_or (symbols_in numbers) s no_item).place + 6) symbol_widths j
  unfolding symbol_rules symbol_widths
  symbol_lists_inside = each_inside numbers _ _ (symbol_columns (header_in numbers) numbers _) _ (symbol-read numbers table t s h).1.rows j l
