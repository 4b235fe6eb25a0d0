-- An answered run over an accepted graph, with the program's rows: they fit the listing, and it is the text.
use Prim.Native.Nat.{ℕ}
use mathlib.Core.Path.{◌≡◌, ◌∙◌, sym}
use mathlib.Core.List.{List}
use lib.ListN.{length}
use Rattle.determine_side_effects.specs.graph_crate.Check.{graph_in}
use Rattle.determine_side_effects.specs.graph_crate.Loaded.{Loaded}
use Rattle.determine_side_effects.specs.Effects.{last_verdicts}
use Rattle.run_rows.specs.Run.{run_of}
use Rattle.run_parts.specs.declared.Totals.{Totals}
use Rattle.run_parts.specs.Operation.{Rows, rooms_of, outcome_of, answered, Ends}
use Rattle.listing.specs.Listing.{Shown, shown, Fits, listing_of, refused_text}
use Rattle.answer_text.specs.Program.{program_rooms, outcome_text}
use Rattle.answer_text.proofs.Outcomes.{IsDone, text_refused, done_is}
use Rattle.answer_text.proofs.Fitting.{rows_fit, shown_is}
use Rattle.answer_text.proofs.Texts.{lent_rows, rooms_text, entries_done}
use Rattle.std.specs.Prelude.{Result, Ok, Err}
use Rattle.determine_side_effects.specs.refusal_crate.Number.{number_of}
use Rattle.determine_side_effects.specs.refusal_crate.declared.Refusal.{Refusal}

abbrev pub shown_by : List ℕ → ℕ → ℕ → Rows → Shown
shown_by numbers rounds count r =
    shown rounds count (last_verdicts (graph_in numbers)) r.entries r.modules r.statements r.used r.external r.json r.reason r.dead r.helpers

module _ {numbers tables : List ℕ} (t : Loaded numbers tables) {x : Result Totals Refusal} {totals : Totals} (is : x ≡ Ok totals) (after : Rows) (e : Ends (outcome_of numbers (rooms_of lent_rows)) x lent_rows after) where
  ended : IsDone numbers (rooms_of lent_rows) totals
  ended = done_is numbers t.accepted (rooms_of lent_rows) (sym is ∙ e.answer)

  pub ran_fits : length after.modules ≡ length lent_rows.modules → length after.statements ≡ length lent_rows.statements → length after.used ≡ length lent_rows.used
      → length after.external ≡ length lent_rows.external → length after.json ≡ length lent_rows.json → length after.reason ≡ length lent_rows.reason
      → length after.dead ≡ length lent_rows.dead → length after.helpers ≡ length lent_rows.helpers → Fits (graph_in numbers) (shown_by numbers totals.rounds totals.entries after)
  ran_fits i j k l m n o p =
      rows_fit t lent_rows ended.has_room totals.rounds totals.entries after.entries after.modules after.statements after.used after.external after.json
      after.reason after.dead after.helpers ended.made ended.final
      (entries_done (graph_in numbers) (run_of (graph_in numbers)) (outcome_of numbers (rooms_of lent_rows)) lent_rows.entries after.entries ended.is e.entries_are) i j k l m n o p

  pub ran_text : listing_of (graph_in numbers) (shown_by numbers totals.rounds totals.entries after) ≡ outcome_text (outcome_of numbers program_rooms)
  ran_text =
      shown_is (graph_in numbers) (run_of (graph_in numbers)) (outcome_of numbers (rooms_of lent_rows)) ended.is totals.rounds totals.entries after.entries after.modules after.statements after.used
      after.external after.json after.reason after.dead after.helpers ended.made ended.final e.entries_are e.modules_are e.statements_are e.used_are
      e.external_are e.json_are e.reasons_are e.dead_are e.helpers_are
      ∙ rooms_text numbers

-- and a refused one
pub refused_text_lem : (numbers : List ℕ) {x : Result Totals Refusal} {why : Refusal} → x ≡ Err why → x ≡ answered (outcome_of numbers (rooms_of lent_rows)) → refused_text (number_of why) ≡ outcome_text (outcome_of numbers program_rooms)
refused_text_lem numbers is e = text_refused (outcome_of numbers (rooms_of lent_rows)) (sym is ∙ e) ∙ rooms_text numbers
