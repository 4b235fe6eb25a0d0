-- What the parts of the drain's code answer.
use Rattle.std.specs.Prelude.{ℕ, ◌*◌, ◌<◌, ◌≡◌, true, List, length, replicate}
use Rattle.determine_side_effects.specs.graph_crate.Check.{Graph, graph_in}
use Rattle.determine_side_effects.specs.Effects.{last_verdicts}
use Rattle.keep_rules.specs.Prepared.{Prepared}
use Rattle.keep_record.specs.declared.Line.{Line}
use Rattle.keep_record.specs.Held.{lines_of, Held}
use Rattle.starts.specs.Starts.{starts_of, StartsGood}
use Rattle.worklist.specs.Drain.{drain_of}
use Rattle.answer_rows.specs.declared.Lengths.{Lengths}
use Rattle.answer_rows.specs.Tabled.{FirstBytes}
use Rattle.drain_parts.specs.Operation.{Rooms, before, enough, worked, outcome_of}
use Rattle.std.specs.Prelude.{Result, Ok, Err}
use Rattle.determine_side_effects.specs.refusal_crate.declared.Refusal.{Refusal}
use Rattle.keep_record.specs.declared.Full.{Full}
use Rattle.keep_record.specs.Held.{no_room}

-- the lengths of the lent rows: marks, record and answer rows
abbrev pub room_for : ℕ → ℕ → Lengths → Rooms
room_for marks lines l =
    record { marks = marks; lines = lines; modules = l.modules; statements = l.statements; used = l.used; external = l.external; json = l.json; reason = l.reason }

-- Whether a drain may begin: a refusal is the drain's outcome whatever the record's length; without one the graph is accepted with all its tables, the
-- starts are good facts, marks and answer rows are long enough, and the outcome is that of the work.
pub record MayBegin (numbers starts : List ℕ) (marks : ℕ) (lengths : Lengths) (tables : List ℕ) (r : Result Unit Refusal) : Type 0 where
  pub refused : (why : Refusal) → r ≡ Err why → (lines : ℕ) → outcome_of numbers starts (room_for marks lines lengths) ≡ before why
  pub good : r ≡ Ok tt → Prepared numbers tables × FirstBytes numbers tables × StartsGood (graph_in numbers) (starts_of starts)
  pub fits : r ≡ Ok tt → (lines : ℕ) → enough (graph_in numbers) (room_for marks lines lengths) ≡ true
  pub goes : r ≡ Ok tt → (lines : ℕ)
      → outcome_of numbers starts (room_for marks lines lengths) ≡ worked (graph_in numbers) (drain_of (graph_in numbers) (last_verdicts (graph_in numbers)) (starts_of starts)) lines

-- the work: the rows hold these lines, or the record is too short for them and both rows are zero
pub record Worked (g : Graph) (lines : List Line) (marks₀ row₀ marks row : List ℕ) (r : Result ℕ Full) : Type 0 where
  pub holds : (c : ℕ) → r ≡ Ok c → (lines_of c row ≡ lines) × Held g 0 marks row c
  pub too_long : r ≡ no_room → (length row₀ < 6 * length lines) × (marks ≡ replicate (length marks₀) 0) × (row ≡ replicate (length row₀) 0)
