-- Whether it may begin, and the work, make the drain.
use Prim.Native.Nat.{ℕ, ◌+◌, ◌*◌, ◌≤◌}
use mathlib.Core.Path.{◌≡◌, ap, ◌∙◌, sym}
use mathlib.Core.Bool.{true}
use mathlib.Core.List.{List}
use lib.ListN.{length}
use Rattle.determine_side_effects.specs.graph_format_crate.declared.Header.{Header}
use Rattle.determine_side_effects.specs.graph_tables_crate.Tables.{header_in}
use Rattle.determine_side_effects.specs.graph_crate.Check.{graph_in}
use Rattle.determine_side_effects.specs.Effects.{last_verdicts}
use Rattle.starts.specs.Starts.{starts_of}
use Rattle.worklist.specs.Drain.{drain_of}
use Rattle.answer_rows.specs.declared.Lengths.{Lengths}
use Rattle.answer_rows.specs.Together.{lengths_of}
use Rattle.drain_parts.specs.Operation.{Rows, rooms_of, enough, worked, outcome_of, Ends}
use Rattle.drain_parts.specs.Parts.{room_for, MayBegin}
use Rattle.drain_parts.proofs.Ending.{answer_rows, ends_before, ends_same}
use Rattle.std.specs.Prelude.{Result, Ok, Err}
use Rattle.determine_side_effects.specs.refusal_crate.declared.Refusal.{Refusal}

pub partners_fit : (numbers : List ℕ) (h : Header) (n : ℕ) → h ≡ header_in numbers → 3 * h.modules + h.symbols ≤ n → 3 * (header_in numbers).modules + (header_in numbers).symbols ≤ n
partners_fit numbers h n e l = rw e at l

module _ (numbers starts : List ℕ) (lengths : Lengths) (tables : List ℕ) (r : Result Unit Refusal) (lent : Rows) (l : lengths ≡ lengths_of (answer_rows lent))
    (may : MayBegin numbers starts (length lent.marks) lengths tables r) where
  rooms_are : rooms_of lent ≡ room_for (length lent.marks) (length lent.lines) lengths
  unfolding rooms_of
  rooms_are = ap (λ w. room_for (length lent.marks) (length lent.lines) w) (sym l)

  pub tier_enough : r ≡ Ok tt → enough (graph_in numbers) (rooms_of lent) ≡ true
  tier_enough e = ap (λ w. enough (graph_in numbers) w) rooms_are ∙ may.fits e (length lent.lines)

  pub tier_refused : {why : Refusal} → r ≡ Err why → Ends (outcome_of numbers starts (rooms_of lent)) (Err why) lent lent
  tier_refused {why} e = ends_before _ why lent (ap (λ w. outcome_of numbers starts w) rooms_are ∙ may.refused why e (length lent.lines))

  pub tier_worked : r ≡ Ok tt → {q : Result ℕ Refusal} {after : Rows}
      → Ends (worked (graph_in numbers) (drain_of (graph_in numbers) (last_verdicts (graph_in numbers)) (starts_of starts)) (length lent.lines)) q lent after
      → Ends (outcome_of numbers starts (rooms_of lent)) q lent after
  tier_worked e {q} {after} w = ends_same _ _ q lent after (ap (λ w. outcome_of numbers starts w) rooms_are ∙ may.goes e (length lent.lines)) w
