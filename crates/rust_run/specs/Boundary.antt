-- T11 at the boundary: what a caller of the run reads in its answer and in its rows is what the Rust has. The theorem is `run_shows_rust` in
-- proofs/Boundary.antt.
use Rattle.std.specs.Prelude.{◌≡◌, ℕ, ◌+◌, ◌*◌, ◌<◌, true, false, ◌↔◌, List, length, take, slice_index}
use Rattle.bit_row.specs.Row.{bit_at}
use Rattle.determine_side_effects.specs.graph_crate.Check.{Graph, graph_in}
use Rattle.determine_side_effects.specs.graph_access_crate.Names.{owner, import_records}
use Rattle.determine_side_effects.specs.graph_access_crate.Words.{module_of, symbol_of, statement_list, option}
use Rattle.answer_rows.specs.Shown.{bytes_before}
use Rattle.dynamic_entries.specs.Alive.{records_before}
use Rattle.run_parts.specs.declared.Totals.{Totals}
use Rattle.run_parts.specs.Operation.{Rows, Runs}
use Rattle.rust_values.specs.Values.{pair, In}
use Rattle.rust_run.specs.IncludeStatements.{Outcome, Returns}
use Rattle.rust_run.specs.Agreement.{AsRust}
use Rattle.std.specs.Prelude.{Ok}

-- bits by module, by statement from a whole byte for each module, by symbol, eight by module for its reasons (1 Unknown, 2
-- ReExportDynamicExports), by import record; a word of helpers by module; and the final entries by number. The Rust knows no bit 6 of the options,
-- and nothing here but the dead records depends on it: those are the Rust's without the bit.
pub record RowsAgree (g : Graph) (o : Outcome) (rounds entries : ℕ) (after : Rows) : Type 0 where
  pub rounds_are : rounds ≡ o.rounds
  pub entry_count : entries ≡ length o.entries
  pub entries_are : take entries after.entries ≡ o.entries
  pub module_bits : (m : ℕ) → m < g.header.modules → (bit_at after.modules m ≡ true) ↔ In m o.context.modules
  pub statement_bits : (m i : ℕ) → m < g.header.modules → i < length (statement_list g m) → (bit_at after.statements (8 * bytes_before g.statements m + i) ≡ true) ↔ In (pair m i) o.context.statements
  pub used_bits : (s : ℕ) → s < g.header.symbols → (bit_at after.used s ≡ true) ↔ In s o.context.used
  pub external_bits : (s : ℕ) → s < g.header.symbols → (bit_at after.external s ≡ true) ↔ In s o.context.external
  pub json_bits : (s : ℕ) → s < g.header.symbols → (bit_at after.json s ≡ true) ↔ In (pair (owner (symbol_of g s)) s) o.main.json
  pub unknown_bits : (m : ℕ) → m < g.header.modules → (bit_at after.reason (8 * m) ≡ true) ↔ In (pair m 1) o.main.reasons
  pub re_export_bits : (m : ℕ) → m < g.header.modules → (bit_at after.reason (8 * m + 1) ≡ true) ↔ In (pair m 2) o.main.reasons
  pub dead_bits : option g 6 ≡ false → (m k : ℕ) → m < g.header.modules → k < length (import_records (module_of g m)) → (bit_at after.dead (records_before g.modules m + k) ≡ true) ↔ In (pair m k) o.dead
  pub helper_words : (m : ℕ) → m < g.header.modules → slice_index after.helpers m ≡ o.helpers m

-- for every run that is not refused, whatever the numbers and the lent rows, and every outcome to which the Rust returns
abbrev pub RunShowsRust : Type 0
RunShowsRust =
    (numbers : List ℕ) (lent after : Rows) (totals : Totals) → Runs numbers (Ok totals) lent after
    → AsRust (graph_in numbers) → (o : Outcome) → Returns (graph_in numbers) o → RowsAgree (graph_in numbers) o totals.rounds totals.entries after
