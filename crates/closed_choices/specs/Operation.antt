-- T5 and T6 over the operation: what a drain that is not refused leaves, for all numbers, starts and lent rows. The theorems are
-- `drain_shows`, `drain_enough` and `no_starts` in proofs/OfOperation.antt.
use Rattle.std.specs.Prelude.{ℕ, ◌+◌, ◌*◌, ◌/◌, ◌%◌, ◌<◌, ◌≤◌, ◌≡◌, ◌↔◌, true, false, List, [], length}
use Rattle.bit_row.specs.Row.{bit_at}
use Rattle.determine_side_effects.specs.graph_crate.Check.{Graph, graph_in, check_of, answer_of}
use Rattle.determine_side_effects.specs.index_crate.declared.ModuleIdx.{ModuleIdx}
use Rattle.determine_side_effects.specs.index_crate.declared.StmtIdx.{StmtIdx}
use Rattle.determine_side_effects.specs.facts_crate.declared.Fact.{Fact}
use Rattle.determine_side_effects.specs.facts_crate.declared.Fact.TheVariants.{Module, Statement}
use Rattle.determine_side_effects.specs.facts_crate.Facts.{Good, mark_of, mark_count}
use Rattle.determine_side_effects.specs.graph_access_crate.Words.{statement_list, normal}
use Rattle.keep_record.specs.declared.Line.{Line}
use Rattle.starts.specs.Starts.{starts_of, starts_fault}
use Rattle.answer_rows.specs.declared.Row.{Row}
use Rattle.answer_rows.specs.declared.Row.TheVariants.{Modules, Statements, Used, External, Json, NamespaceReason}
use Rattle.answer_rows.specs.Shown.{bytes_before, row_bytes}
use Rattle.drain_parts.specs.Operation.{Rooms, done, outcome_of, marks_after, row_after, enough}
use Rattle.closed_choices.specs.Choice.{Smallest, HasLine, RowShows}
use Rattle.std.specs.Prelude.{Ok}

-- a bit of a row that stands for no module, statement, symbol or reason (docs/OPERATIONS.md, Rows)
abbrev pub Spare : Graph → Row → ℕ → Type 0
Spare g Modules j = g.header.modules ≤ j
Spare g Statements j = (m i : ℕ) → m < g.header.modules → i < length (statement_list g m) → j ≡ 8 * bytes_before g.statements m + i → ⊥
Spare g Used j = g.header.symbols ≤ j
Spare g External j = g.header.symbols ≤ j
Spare g Json j = g.header.symbols ≤ j
Spare g NamespaceReason j = 2 ≤ j % 8

-- What these lines and the rows after them say, where `g` is the graph:
-- the facts are the smallest closed choice that holds the starts; each answer row shows what they give, and nothing else, with its spare
-- bits 0; a mark is set exactly if its fact has a line, and no mark past the last fact's; only normal modules are kept.
pub record DrainShows (g : Graph) (starts : List ℕ) (lines : List Line) : Type 1 where
  pub smallest : Smallest g (starts_of starts) (HasLine lines)
  pub rows_show : (row : Row) (lent : List ℕ) → RowShows g row (HasLine lines) lent (row_after row (done g lines) lent)
  pub spare_bits : (row : Row) (lent : List ℕ) (j : ℕ) → j < 8 * row_bytes g row → Spare g row j → bit_at (row_after row (done g lines) lent) j ≡ false
  pub marks_are : (lent : List ℕ) → mark_count g ≤ 8 * length lent → (f : Fact) → Good g f → (bit_at (marks_after (done g lines) lent) (mark_of g f) ≡ true) ↔ HasLine lines f
  pub spare_marks : (lent : List ℕ) (j : ℕ) → mark_count g ≤ j → bit_at (marks_after (done g lines) lent) j ≡ false
  pub module_normal : (m : ModuleIdx) → HasLine lines (Module m) → (m.0 < g.header.modules) × (normal g m.0 ≡ true)
  pub statement_normal : (m : ModuleIdx) (i : StmtIdx) → HasLine lines (Statement m i) → (m.0 < g.header.modules) × (normal g m.0 ≡ true)

-- for every drain that is not refused
abbrev pub EveryDrainShows : Type 1
EveryDrainShows =
    (numbers starts : List ℕ) (room : Rooms) (g : Graph) (lines : List Line) → outcome_of numbers starts room ≡ done g lines
    → (g ≡ graph_in numbers) × DrainShows g starts lines

-- no 5 with enough room: accepted numbers, starts without a fault, rows that are long enough and six numbers for each mark
abbrev pub EnoughDrains : Type 0
EnoughDrains =
    (numbers starts : List ℕ) (room : Rooms) → answer_of (check_of numbers) ≡ Ok tt → length starts % 3 ≡ 0
    → starts_fault (graph_in numbers) starts 0 (length starts / 3) ≡ 0 → enough (graph_in numbers) room ≡ true
    → 6 * mark_count (graph_in numbers) ≤ room.lines → (lines : List Line) × (outcome_of numbers starts room ≡ done (graph_in numbers) lines)

-- without a start there is no fact, for every graph
abbrev pub NoStartsNoFacts : Type 0
NoStartsNoFacts = (numbers : List ℕ) (room : Rooms) (g : Graph) (lines : List Line) → outcome_of numbers [] room ≡ done g lines → lines ≡ []
