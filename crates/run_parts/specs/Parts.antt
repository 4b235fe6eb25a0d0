-- What the parts of the run's code take and leave.
use Rattle.std.specs.Prelude.{ℕ, ◌+◌, ◌*◌, ◌<◌, ◌≤◌, ◌≡◌, Bool, true, List, length, get_or, replicate}
use Rattle.bit_row.specs.Row.{bytes_for}
use Rattle.determine_side_effects.specs.graph_format_crate.declared.Header.{Header}
use Rattle.determine_side_effects.specs.graph_crate.Check.{Graph, graph_in}
use Rattle.keep_rules.specs.Prepared.{Prepared}
use Rattle.keep_record.specs.declared.Line.{Line}
use Rattle.keep_record.specs.Lines.{has}
use Rattle.keep_record.specs.Held.{lines_of, Held}
use Rattle.answer_rows.specs.Tabled.{FirstBytes}
use Rattle.entry_order.specs.Plan.{live_in, dead_in, words_at}
use Rattle.dynamic_entries.specs.Tries.{Planned}
use Rattle.passes.specs.Helpers.{helper_word}
use Rattle.tree_shaking.specs.declared.Reached.{Reached}
use Rattle.tree_shaking.specs.Rounds.{final_entries}
use Rattle.dead_records.specs.Dead.{record_count, dead_row}
use Rattle.run_rows.specs.Run.{Run, run_of, helpers_row, entries_row}
use Rattle.run_parts.specs.declared.Lengths.{Lengths}
use Rattle.run_parts.specs.declared.Part.{Part}
use Rattle.run_parts.specs.declared.Part.TheVariants.{Whole, Main}
use Rattle.run_parts.specs.Operation.{Rooms, before, enough, worked, outcome_of}
use Rattle.std.specs.Prelude.{Result, Ok, Err}
use Rattle.determine_side_effects.specs.refusal_crate.declared.Refusal.{Refusal}
use Rattle.keep_record.specs.declared.Full.{Full}
use Rattle.keep_record.specs.Held.{no_room}

-- the lengths of the lent rows
abbrev pub room_for : ℕ → Lengths → Rooms
room_for lines l =
    record {
      marks = l.marks;
      lines = lines;
      modules = l.modules;
      statements = l.statements;
      used = l.used;
      external = l.external;
      json = l.json;
      reason = l.reason;
      dead = l.dead;
      helpers = l.helpers;
      entries = l.entries;
    }

-- Whether a run may begin: a refusal is the run's outcome whatever the record's length; without one the graph is accepted with all its tables, marks
-- and answer rows are long enough, and the outcome is that of the work.
pub record MayBegin (numbers : List ℕ) (lengths : Lengths) (tables : List ℕ) (r : Result Unit Refusal) : Type 0 where
  pub refused : (why : Refusal) → r ≡ Err why → (lines : ℕ) → outcome_of numbers (room_for lines lengths) ≡ before why
  pub good : r ≡ Ok tt → Prepared numbers tables × FirstBytes numbers tables
  pub fits : r ≡ Ok tt → (lines : ℕ) → enough (graph_in numbers) (room_for lines lengths) ≡ true
  pub goes : r ≡ Ok tt → (lines : ℕ) → outcome_of numbers (room_for lines lengths) ≡ worked (graph_in numbers) (run_of (graph_in numbers)) lines

-- the lines of a part of a run
abbrev pub lines_of_part : Part → Run → List Line
lines_of_part Whole r = r.lines
lines_of_part Main r = r.main

-- how many lines are the base of its last stage: the runtime stage has those of the main part, of whose marks only modules and statements stay; the
-- main part has none
abbrev pub base_of : Part → ℕ → ℕ
base_of Whole main = main
base_of Main main = 0

-- What the plan holds at the end of the main part.
pub record Leaves (g : Graph) (plan : List ℕ) (users : ℕ) : Type 0 where
  pub planned : Planned g plan users
  pub live_are : ◌≡◌ {A = ℕ → Bool} (live_in g.header plan) (run_of g).live
  pub dead_are : ◌≡◌ {A = ℕ → Bool} (dead_in g.header plan) (run_of g).dead

-- the helper words stand in it
abbrev pub HasWords : Graph → List ℕ → Type 0
HasWords g plan =
    (m : ℕ) → m < g.header.modules
    → (get_or plan (words_at g.header + m) 0 ≡ helper_word g (has g 0 (run_of g).main) m) × (get_or plan (words_at g.header + m) 0 < 4294967296)

-- What the rows hold after the stages of a part: the first `main` of `total` lines are those of the main part.
pub record Holds (g : Graph) (part : Part) (marks row plan : List ℕ) (x : Reached) : Type 0 where
  pub main_lines : lines_of x.main row ≡ (run_of g).main
  pub all_lines : lines_of x.total row ≡ lines_of_part part (run_of g)
  pub held : Held g (base_of part x.main) marks row x.total
  pub rounds_are : x.rounds ≡ (run_of g).rounds
  pub taken_are : x.taken ≡ (run_of g).taken
  pub taken_inside : x.taken ≤ x.main
  pub leaves : Leaves g plan x.users
  pub words : part ≡ Whole → HasWords g plan

-- over cleared rows, or the record is too short for the lines
pub record StagesEnd (g : Graph) (part : Part) (marks row plan : List ℕ) (r : Result Reached Full) : Type 0 where
  pub holds : (x : Reached) → r ≡ Ok x → Holds g part marks row plan x
  pub too_long : r ≡ no_room → length row < 6 * length (lines_of_part part (run_of g))

-- the work: the same over rows as lent, and in a record that is too short marks and record are zero
pub record WorkEnds (g : Graph) (part : Part) (marks₀ row₀ marks row plan : List ℕ) (r : Result Reached Full) : Type 0 where
  pub holds : (x : Reached) → r ≡ Ok x → Holds g part marks row plan x
  pub too_long : r ≡ no_room → (length row₀ < 6 * length (lines_of_part part (run_of g))) × (marks ≡ replicate (length marks₀) 0) × (row ≡ replicate (length row₀) 0)

-- what the rows that only a run has are shown from: marks and lines of both stages, the plan and the helper words
pub record Shows (g : Graph) (plan marks row : List ℕ) (x : Reached) : Type 0 where
  pub main_lines : lines_of x.main row ≡ (run_of g).main
  pub held : Held g x.main marks row x.total
  pub leaves : Leaves g plan x.users
  pub words : HasWords g plan

-- so many words of a scratch row are enough for it: one for each module and each entry, and one for each module and each statement
pub record ScratchFits (h : Header) (scratch : ℕ) : Type 0 where
  pub chain : h.modules + h.entries ≤ scratch
  pub kept : h.modules + h.statements ≤ scratch

-- they are long enough
pub record RowsFit (g : Graph) (dead helpers entries : ℕ) : Type 0 where
  pub dead_fit : bytes_for (record_count g) ≤ dead
  pub helpers_fit : g.header.modules ≤ helpers
  pub entries_fit : g.header.entries ≤ entries

-- they are shown, and so many entries are final
pub record RunShown (g : Graph) (dead₀ helpers₀ entries₀ dead helpers entries : List ℕ) (r : ℕ) : Type 0 where
  pub dead_shown : dead ≡ dead_row g (run_of g).main (run_of g).live (run_of g).dead dead₀
  pub helpers_shown : helpers ≡ helpers_row g (run_of g).main helpers₀
  pub entries_shown : entries ≡ entries_row g (run_of g).live entries₀
  pub counted : r ≡ length (final_entries g (run_of g).live)
