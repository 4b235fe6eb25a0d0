-- The whole listing: rows that are long enough, and all parts.
use Prim.Native.Nat.{ℕ, ◌*◌, ◌<◌, ◌≤◌}
use mathlib.Core.Path.{◌≡◌, refl, ap}
use mathlib.Core.List.{List, [], ◌∷◌, ◌++◌}
use native.Mathlib.Omega.{arith}
use lib.ListN.{length, get_or}
use Rattle.graph_access.specs.graph_format_crate.declared.Header.{Header}
use Rattle.graph_access.specs.graph_tables_crate.Tables.{header_in}
use Rattle.graph_access.specs.graph_crate.Check.{graph_in}
use Rattle.graph_access.specs.Names.{import_records}
use Rattle.graph_access.specs.Words.{module_of, statement_list}
use Rattle.answer_rows.specs.Shown.{bytes_before}
use Rattle.dynamic_entries.specs.Alive.{records_before}
use Rattle.listing.specs.Text.{line, text_of}
use Rattle.listing.specs.Listing.{Shown, Fits, rounds_word, used_word, external_word, entry_text, module_text, statement_text, symbol_text, json_text, dead_text, listing_of}
use Rattle.listing.specs.Parts.{of_entries, of_modules, of_statements, of_json, of_dead}

module _ (numbers : List ℕ) (a : Shown) (h : Header) (is : h ≡ header_in numbers) where
  -- what the parts ask of the rows
  module _ (f : Fits (graph_in numbers) a) where
    pub modules_fit : (h.modules ≤ length a.verdicts) × (h.modules ≤ 8 * length a.modules) × (h.modules ≤ length a.reason) × (h.modules ≤ length a.helpers)
    unfolding graph_in
    modules_fit = let e = ap (λ x. x.modules) is in (omega (arith, e, f.verdicts_long), omega (arith, e, f.modules_long), omega (arith, e, f.reason_long), omega (arith, e, f.helpers_long))

    pub statements_fit : bytes_before (graph_in numbers).statements h.modules ≤ length a.statements
    unfolding graph_in
    statements_fit = rw is f.statements_long

    pub symbols-fit : (h.symbols ≤ 8 * length a.used) × (h.symbols ≤ 8 * length a.external) × (h.symbols ≤ 8 * length a.json)
    unfolding graph_in
    symbols-fit = let e = ap (λ x. x.symbols) is in (omega (arith, e, f.used_long), omega (arith, e, f.external_long), omega (arith, e, f.json_long))

    pub dead_fit : records_before (graph_in numbers).modules h.modules ≤ 8 * length a.dead
    unfolding graph_in
    dead_fit = rw is f.dead_long

    pub entries-few : a.count ≤ (header_in numbers).entries
    unfolding graph_in
    entries-few = f.count_few

    pub entries_are : (k : ℕ) → k < a.count → get_or a.entries k 0 < (header_in numbers).entries
    unfolding graph_in
    entries_are = f.entries_below

  -- all parts
  pub listing_is :
      line rounds_word (a.rounds ∷ [])
      ++ (text_of (entry_text (graph_in numbers) (of_entries a.entries)) 0 a.count
      ++ (text_of (module_text (graph_in numbers) (of_modules a.verdicts a.modules a.reason a.helpers)) 0 h.modules
      ++ (text_of (λ m. text_of (statement_text (graph_in numbers) (of_statements a.statements) m) 0 (length (statement_list (graph_in numbers) m))) 0 h.modules
      ++ (text_of (symbol_text used_word a.used) 0 h.symbols
      ++ (text_of (symbol_text external_word a.external) 0 h.symbols
      ++ (text_of (λ m. text_of (json_text (graph_in numbers) (of_json a.json) m) 0 h.symbols) 0 h.modules
      ++ text_of (λ m. text_of (dead_text (graph_in numbers) (of_dead a.dead) m) 0 (length (import_records (module_of (graph_in numbers) m)))) 0 h.modules))))))
      ≡ listing_of (graph_in numbers) a
  unfolding listing_of graph_in entry_text module_text statement_text json_text dead_text
  listing_is = rw is refl
