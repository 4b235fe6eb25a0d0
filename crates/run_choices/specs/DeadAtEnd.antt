-- What options bit 6 promises of the row of dead import records (docs/RULES.md, Dead records), over the operation. The theorems are in
-- proofs/OfDead.antt.
use Rattle.std.specs.Prelude.{ℕ, ◌<◌, ◌≡◌, ◌↔◌, true, false, List, [], length, get_or}
use Rattle.bit_row.specs.Row.{bit_at}
use Rattle.determine_side_effects.specs.graph_crate.Check.{Graph}
use Rattle.determine_side_effects.specs.graph_access_crate.Names.{related, related_module, related_statement, unreachable}
use Rattle.determine_side_effects.specs.graph_access_crate.Words.{option, entry_of}
use Rattle.determine_side_effects.specs.facts_crate.Facts.{statement_fact}
use Rattle.determine_side_effects.specs.Effects.{last_verdicts}
use Rattle.keep_record.specs.Lines.{elem}
use Rattle.entry_order.specs.Order.{module_of_entry, is_dynamic}
use Rattle.dynamic_entries.specs.Alive.{dead_of}
use Rattle.dynamic_entries.specs.Tries.{Progress, now_dead, tried}
use Rattle.dead_records.specs.Dead.{record_count, is_dead_record, record_number}
use Rattle.run_rows.specs.Run.{Run}
use Rattle.run_parts.specs.Operation.{Rooms, done, outcome_of, dead_after}
use Rattle.closed_choices.specs.Choice.{HasLine}

-- row k of the statements that entry e relates
abbrev pub related_row : Graph → ℕ → ℕ → List ℕ
related_row g e k = get_or (related (entry_of g e)) k []

-- entry e is a dynamic entry of a module that is live in the end, and its row k a reachable statement that is kept
pub record RelatesLive (g : Graph) (r : Run) (e k : ℕ) : Type 0 where
  pub entry : e < g.header.entries
  pub row : k < length (related (entry_of g e))
  pub dynamic : is_dynamic g e ≡ true
  pub live : r.live (module_of_entry g e) ≡ true
  pub reachable : unreachable (related_row g e k) ≡ 0
  pub kept : HasLine r.main (statement_fact (related_module (related_row g e k)) (related_statement (related_row g e k)))

-- what a run has come to after the last round
abbrev pub after_rounds : Run → Progress
after_rounds r = record { lines = r.main; live = r.live; dead = r.dead }

-- entry e is a dynamic entry of a module that is not live in the end; one more try of it, the step 4 of the rounds, would find it dead, and such a
-- try marks import record j
pub record MarksInTheEnd (g : Graph) (r : Run) (j e : ℕ) : Type 0 where
  pub entry : e < g.header.entries
  pub dynamic : is_dynamic g e ≡ true
  pub not_live : r.live (module_of_entry g e) ≡ false
  pub found_dead : tried g (last_verdicts g) e (after_rounds r) ≡ now_dead e (after_rounds r)
  pub marks : elem j (dead_of g (last_verdicts g) (related (entry_of g e))) ≡ true

-- With the bit, of a row of dead bits: an import of an exporter that comes alive is not dropped, that is, no record that a dynamic entry of a live
-- module relates through a kept, reachable statement is dead; the dead records are among those that the tries of the rounds marked; and they are
-- exactly what the entries mark that are dead in the end, but for the first.
pub record DeadAtEnd (g : Graph) (r : Run) (row : List ℕ) : Type 0 where
  pub live_not_dead : (e k : ℕ) → RelatesLive g r e k → bit_at row (record_number g (related_row g e k)) ≡ false
  pub dead_fewer : (j : ℕ) → j < record_count g → bit_at row j ≡ true → is_dead_record g r.dead j ≡ true
  pub dead_exactly : (j : ℕ) → j < record_count g
      → (bit_at row j ≡ true) ↔ (((e : ℕ) × MarksInTheEnd g r j e) × ((e k : ℕ) → RelatesLive g r e k → record_number g (related_row g e k) ≡ j → ⊥))

-- for every run that is not refused
abbrev pub EveryDeadAtEnd : Type 0
EveryDeadAtEnd =
    (numbers : List ℕ) (room : Rooms) (g : Graph) (r : Run) → outcome_of numbers room ≡ done g r → option g 6 ≡ true
    → (lent : List ℕ) → DeadAtEnd g r (dead_after (done g r) lent)

-- without the bit the dead records are those that the tries of the rounds marked
abbrev pub DeadAsMarked : Type 0
DeadAsMarked =
    (g : Graph) (r : Run) → option g 6 ≡ false → (lent : List ℕ) (j : ℕ) → j < record_count g → bit_at (dead_after (done g r) lent) j ≡ is_dead_record g r.dead j
