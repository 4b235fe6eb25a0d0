-- The tables of places where only words behind them were written.
use Prim.Native.Nat.{ℕ, ◌<◌, ◌≤◌}
use mathlib.Core.Path.{refl}
use mathlib.Core.List.{List}
use native.Mathlib.Omega.{arith}
use Rattle.graph_entries.specs.graph_format_crate.declared.Header.{Header}
use Rattle.graph_entries.specs.tables_crate.Layout.{start_of, symbol_places, first_statements, statement_places, entry_places, Laid, Kept}
use Rattle.graph_entries.proofs.tables_crate.Sections.{laid_less, laid_kept, section_kept}
use Rattle.graph_entries.specs.graph_tables_crate.Tables.{header_in}
use Rattle.graph_entries.specs.graph_tables_crate.Places.{SymbolTable, StatementTable, EntryTable}
use Rattle.graph_entries.proofs.graph_tables_crate.Sections.{modules_kept}
use Rattle.graph.specs.Loaded.{Loaded}

module _ {h : Header} {n : ℕ} {xs ys : List ℕ} (t : Laid h n xs) (j : ℕ) (b : j ≤ n) (q : Kept (start_of h j) xs ys) {numbers : List ℕ} where
  pub symbols_kept : 1 < j → SymbolTable numbers (symbol_places xs) → SymbolTable numbers (symbol_places ys)
  symbols_kept l s = rw (section_kept t j b q 1 l) s

  pub statements_kept : 3 < j → StatementTable numbers (first_statements xs) (statement_places xs) → StatementTable numbers (first_statements ys) (statement_places ys)
  statements_kept l s = rw (section_kept t j b q 2 (omega (arith, l)), section_kept t j b q 3 l) s

  entries_kept : 4 < j → EntryTable numbers (entry_places xs) → EntryTable numbers (entry_places ys)
  entries_kept l s = rw (section_kept t j b q 4 l) s

-- nothing in front of section j was written, so the graph is loaded as before
pub loaded_kept : {numbers xs ys : List ℕ} → Loaded numbers xs → (j : ℕ) → 5 ≤ j → Laid (header_in numbers) j xs → Kept (start_of (header_in numbers) j) xs ys → Loaded numbers ys
loaded_kept {numbers} {xs} {ys} p j l t q =
    let b : j ≤ j = omega arith in
    record {
      accepted = p.accepted;
      long = p.long;
      laid = laid_less l (laid_kept t j b q);
      of_modules = modules_kept t j (omega (arith, l)) b q p.of_modules refl;
      of_symbols = symbols_kept t j b q (omega (arith, l)) p.of_symbols;
      of_statements = statements_kept t j b q (omega (arith, l)) p.of_statements;
      of_entries = entries_kept t j b q l p.of_entries;
      few_modules = p.few_modules;
      few_symbols = p.few_symbols;
      few_statements = p.few_statements;
      few_entries = p.few_entries;
    }
