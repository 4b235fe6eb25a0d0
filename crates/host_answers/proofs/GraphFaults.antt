-- The refusals of a check are 2, 3 or 4: the parts of a graph, the rules that read a later number, and numbers left over.
use Prim.Native.Nat.{ℕ, ◌+◌}
use mathlib.Core.Bool.{Bool}
use mathlib.Core.List.{List, [], ◌∷◌}
use lib.Dec.{eqb, ltb}
use lib.ListN.{length, get_or}
use Rattle.determine_side_effects.specs.rows_crate.Walk.{below, firsts, plain_row, plain, distinct, Item, no_item}
use Rattle.determine_side_effects.specs.graph_format_crate.declared.Header.{Header}
use Rattle.determine_side_effects.specs.graph_format_crate.declared.Left.{Left}
use Rattle.determine_side_effects.specs.graph_format_crate.Format.{header_rules, header_of, import_lists, export_lists, name_lists, module_lists, module_at, less_module, modules_at, kind_of, statements_of, import_records_of, symbol_rules, owners_statements, symbol_lists, symbol_at, following, symbols_at, depended_at, member_rules, parts_at, reference_at, statement_lists, statement_at, module_statements, statements_at, related_module_at, related_import_record_at, related_at, entry_at, entries_at}
use Rattle.determine_side_effects.specs.graph_crate.Check.{Graph, helpers_at, graph_at, walked, each, runtime_normal, owns_namespace, root_is_root, later_rules, check_of}
use Rattle.host_answers.proofs.Faults.{Faults, of_got, no_such, cut_short, of_then, of_test, of_number, of_cells, of_many, of_plain, of_distinct, RowFaults, AllRows, none, more, of_list, of_item}

-- lists of plain rows, of distinct ones, and of statements of a symbol's owner
plain_rows : (numbers columns : List ℕ) → RowFaults (plain numbers columns)
plain_rows numbers columns = record { rows = of_plain columns numbers }

distinct_rows : (numbers columns : List ℕ) → RowFaults (distinct numbers columns)
distinct_rows numbers columns = record { rows = of_distinct columns numbers }

owners_rows : (numbers : List ℕ) (n : ℕ) → RowFaults (owners_statements numbers n)
owners_rows numbers n = record { rows = of_plain (n ∷ []) numbers }

-- Modules --------------------------------------------------------------------------------------------------------------------------------

module _ (h : Header) (numbers : List ℕ) where
  lists_of_module : (n : ℕ) → AllRows (module_lists h numbers n)
  unfolding module_lists import_lists export_lists name_lists
  lists_of_module n =
      more (plain_rows numbers _) (more (plain_rows numbers _) (more (plain_rows numbers _)
      (more (plain_rows numbers _) (more (plain_rows numbers _) (more (plain_rows numbers _)
      (more (distinct_rows numbers _) (more (distinct_rows numbers _) (more (plain_rows numbers _) (more (plain_rows numbers _) none)))))))))

  of_module : (left : Left) (at : ℕ) → Faults (module_at h numbers left at)
  unfolding module_at
  of_module left at = of_item _ _ (λ head. lists_of_module (get_or head 9 0)) numbers at

  of_modules : (at : ℕ) → Faults (modules_at h numbers at)
  unfolding modules_at
  of_modules at = of_many (module_at h numbers) less_module of_module h.modules _ at

-- Symbols --------------------------------------------------------------------------------------------------------------------------------

module _ (h : Header) (numbers : List ℕ) where
  lists_of_symbol : (n : ℕ) → AllRows (symbol_lists h numbers n)
  unfolding symbol_lists
  lists_of_symbol n = more (plain_rows numbers _) (more (owners_rows numbers _) (more (owners_rows numbers _) none))

  module _ (modules : List Item) where
    of-symbol : (i at : ℕ) → Faults (symbol_at h modules numbers i at)
    unfolding symbol_at
    of-symbol i at = of_item (symbol_rules h) _ (λ head. lists_of_symbol (statements_of (get_or modules (get_or head 0 0) no_item))) numbers at

    of_symbols : (at : ℕ) → Faults (symbols_at h modules numbers at)
    unfolding symbols_at
    of_symbols at = of_many (symbol_at h modules numbers) following of-symbol h.symbols 0 at

-- Statements -----------------------------------------------------------------------------------------------------------------------------

module _ (symbols : ℕ) (numbers : List ℕ) where
  of_depended : (at : ℕ) → Faults (depended_at symbols numbers at)
  unfolding depended_at
  of_depended at =
      of_then (of_cells (below symbols ∷ below 2 ∷ []) numbers at)
      (λ parts q. of_then (of_list (plain numbers (symbols ∷ [])) (plain_rows numbers _) numbers q) (λ ds p. of_got))

  of_parts : (kind at : ℕ) → Faults (parts_at kind symbols numbers at)
  unfolding parts_at
  of_parts kind at =
      of_test (eqb kind 0) (of_cells (below symbols ∷ []) numbers at)
      (of_test (eqb kind 1) of_got (of_test (eqb kind 2) (of_depended at) (of_cells (member_rules symbols) numbers at)))

  of_reference : (seen : List ℕ) (at : ℕ) → Faults (reference_at symbols numbers seen at)
  unfolding reference_at
  of_reference seen at = of_then (of_number (below 4) numbers at) (λ kind q. of_then (of_parts kind q) (λ parts p. of_got))

module _ (h : Header) (numbers : List ℕ) where
  lists_of_statement : (r : ℕ) → AllRows (statement_lists h numbers r)
  unfolding statement_lists
  lists_of_statement r = more (plain_rows numbers _) (more (record { rows = of_reference h.symbols numbers }) none)

  of_statement : (r i at : ℕ) → Faults (statement_at h r numbers i at)
  unfolding statement_at
  of_statement r i at = of_item (below 32 ∷ []) _ (λ head. lists_of_statement r) numbers at

  module _ (modules : List Item) where
    of-module-statements : (m at : ℕ) → Faults (module_statements h modules numbers m at)
    unfolding module_statements
    of-module-statements m at =
        let r = length (import_records_of (get_or modules m no_item)) in
        of_many (statement_at h r numbers) following (of_statement r) (statements_of (get_or modules m no_item)) 0 at

    of_statements : (at : ℕ) → Faults (statements_at h modules numbers at)
    unfolding statements_at
    of_statements at = of_many (module_statements h modules numbers) (λ m s. m + 1) of-module-statements h.modules 0 at

-- Entries --------------------------------------------------------------------------------------------------------------------------------

module _ (h : Header) (numbers : List ℕ) (modules : List Item) where
  of_related_module : (at : ℕ) → Faults (related_module_at h modules numbers at)
  unfolding related_module_at
  of_related_module at = of_then (of_number (below h.modules) numbers at) (λ m q. of_test (eqb (kind_of (get_or modules m no_item)) 1) of_got no_such)

  of_related_record : (import_records : List (List ℕ)) (at : ℕ) → Faults (related_import_record_at import_records numbers at)
  unfolding related_import_record_at
  of_related_record import_records at =
      of_then (of_number (below (length import_records)) numbers at) (λ r q. of_test (eqb (get_or (get_or import_records r []) 0 0) 0) no_such of_got)

  of_related : (seen : List ℕ) (at : ℕ) → Faults (related_at h modules numbers seen at)
  unfolding related_at
  of_related seen at =
      of_then (of_related_module at)
      (λ m q. of_then (of_number (below (statements_of (get_or modules m no_item))) numbers q)
      (λ s p. of_then (of_related_record (import_records_of (get_or modules m no_item)) p)
      (λ r o. of_then (of_number (below 2) numbers o) (λ u n. of_got))))

  of_entry : (i at : ℕ) → Faults (entry_at h modules numbers i at)
  unfolding entry_at
  of_entry i at = of_item (below h.modules ∷ below 3 ∷ []) _ (λ head. more (record { rows = of_related }) none) numbers at

  of_entries : (at : ℕ) → Faults (entries_at h modules numbers at)
  unfolding entries_at
  of_entries at = of_many (entry_at h modules numbers) following of_entry h.entries 0 at

-- The whole ------------------------------------------------------------------------------------------------------------------------------

of_helpers : (h : Header) (numbers : List ℕ) (at : ℕ) → Faults (helpers_at h numbers at)
unfolding helpers_at
of_helpers h numbers at = of_many (plain_row (h.symbols ∷ []) numbers) firsts (of_plain (h.symbols ∷ []) numbers) h.helpers [] at

of_graph : (h : Header) (numbers : List ℕ) (at : ℕ) → Faults (graph_at h numbers at)
unfolding graph_at
of_graph h numbers at =
    of_then (of_helpers h numbers at)
    (λ hs p. of_then (of_modules h numbers p)
    (λ ms q. of_then (of_symbols h numbers ms q)
    (λ ys r. of_then (of_statements h numbers ms r)
    (λ ss s. of_then (of_entries h numbers ms s) (λ es t. of_got)))))

of_each : (test : ℕ → Item → Bool) (offset i : ℕ) (xs : List Item) → Faults (each test offset i xs)
unfolding each
of_each test offset i [] = of_got
of_each test offset i (x ∷ xs) = of_test (test i x) (of_each test offset (i + 1) xs) no_such

of_later : (g : Graph) → Faults (later_rules g)
unfolding later_rules
of_later g =
    of_test (runtime_normal g)
    (of_then (of_each (owns_namespace g.symbols) 7 0 g.modules) (λ i p. of_each (root_is_root g.symbols) 2 0 g.symbols))
    no_such

of_walked : (numbers : List ℕ) → Faults (walked numbers)
unfolding walked
of_walked numbers = of_then (of_cells header_rules numbers 0) (λ h q. of_graph (header_of h) numbers q)

pub check_faults : (numbers : List ℕ) → Faults (check_of numbers)
unfolding check_of
check_faults numbers =
    of_then (of_walked numbers) (λ g q. of_then (of_later g) (λ i p. of_test (ltb q (length numbers)) cut_short of_got))
