-- Whether a drain may begin, by its ends.
use Prim.Native.Nat.{ℕ, ◌<◌, ◌≤◌}
use mathlib.Core.Path.{◌≡◌, ap, ◌∙◌, sym}
use mathlib.Core.Bool.{Bool, true, false, ◌&&◌}
use mathlib.Core.List.{List}
use native.Mathlib.Omega.{arith}
use borrow.Author.Tests.{lt-leb, le-leb}
use lib.Dec.{leb}
use Rattle.bit_row.specs.Row.{bytes_for}
use Rattle.determine_side_effects.specs.graph_crate.Check.{graph_in, check_of, answer_of}
use Rattle.determine_side_effects.proofs.graph_crate.Checking.{once_refused}
use Rattle.determine_side_effects.specs.facts_crate.Facts.{mark_count}
use Rattle.keep_rules.specs.Prepared.{Prepared}
use Rattle.starts.specs.Starts.{starts_walk, starts_of, StartsGood}
use Rattle.answer_rows.specs.declared.Lengths.{Lengths}
use Rattle.answer_rows.specs.Shown.{rows_enough}
use Rattle.answer_rows.specs.Tabled.{FirstBytes}
use Rattle.drain_parts.specs.Operation.{before, enough, outcome_of}
use Rattle.drain_parts.specs.Parts.{room_for, MayBegin}
use Rattle.drain_parts.proofs.Ending.{outcome_refused, outcome_accepted, outcome_walk, by_room}
use Rattle.std.specs.Prelude.{Ok, Err}
use Rattle.determine_side_effects.specs.refusal_crate.declared.Refusal.{Refusal}
use Rattle.determine_side_effects.specs.refusal_crate.declared.Refusal.TheVariants.{NoRoom}

module _ (numbers starts : List ℕ) (marks : ℕ) (lengths : Lengths) (tables : List ℕ) where
  refused_is : (why : Refusal) → ((lines : ℕ) → outcome_of numbers starts (room_for marks lines lengths) ≡ before why) → MayBegin numbers starts marks lengths tables (Err why)
  refused_is why e =
      record {
        refused = λ q k lines. let b : before why ≡ before q = cc in e lines ∙ b;
        good = (once_refused _).known;
        fits = (once_refused _).known;
        goes = (once_refused _).known;
      }

  pub by_check : {why : Refusal} → answer_of (check_of numbers) ≡ Err why → MayBegin numbers starts marks lengths tables (Err why)
  by_check {why} e = refused_is why (λ lines. outcome_refused numbers starts (room_for marks lines lengths) e)

  module _ (a : answer_of (check_of numbers) ≡ Ok tt) where
    pub by-starts : {why : Refusal} → starts_walk (graph_in numbers) starts ≡ Err why → MayBegin numbers starts marks lengths tables (Err why)
    by-starts {why} e =
        refused_is why (λ lines. outcome_accepted numbers starts (room_for marks lines lengths) a ∙ outcome_walk (graph_in numbers) starts (room_for marks lines lengths) e)

    module _ {q : ℕ} (s : starts_walk (graph_in numbers) starts ≡ Ok q) where
      begun : {b : Bool} → ((lines : ℕ) → enough (graph_in numbers) (room_for marks lines lengths) ≡ b) → (lines : ℕ)
          → outcome_of numbers starts (room_for marks lines lengths) ≡ by_room (graph_in numbers) starts (room_for marks lines lengths) b
      begun e lines =
          let room = room_for marks lines lengths in
          outcome_accepted numbers starts room a ∙ outcome_walk (graph_in numbers) starts room s ∙ ap (by_room (graph_in numbers) starts room) (e lines)

      module _ {k b : ℕ} (i : k ≡ mark_count (graph_in numbers)) (j : b ≡ bytes_for k) where
        bytes_are : b ≡ bytes_for (mark_count (graph_in numbers))
        bytes_are = j ∙ ap bytes_for i

        pub by-marks : marks < b → MayBegin numbers starts marks lengths tables (Err NoRoom)
        unfolding enough
        by-marks h =
            let l : leb (bytes_for (mark_count (graph_in numbers))) marks ≡ false = lt-leb (bytes_for (mark_count (graph_in numbers))) marks (omega (arith, h, bytes_are)) in
            refused_is NoRoom (begun (λ lines. ap (λ t. t && rows_enough (graph_in numbers) lengths) l))

        module _ (h : b ≤ marks) {r : Bool} (o : r ≡ rows_enough (graph_in numbers) lengths) where
          enough-are : (lines : ℕ) → enough (graph_in numbers) (room_for marks lines lengths) ≡ r
          unfolding enough
          enough-are lines = ap (λ t. t && rows_enough (graph_in numbers) lengths) (le-leb (bytes_for (mark_count (graph_in numbers))) marks (omega (arith, h, bytes_are))) ∙ sym o

          pub by_rows : r ≡ false → MayBegin numbers starts marks lengths tables (Err NoRoom)
          by_rows e = refused_is NoRoom (begun (λ lines. enough-are lines ∙ e))

          pub begins : r ≡ true → Prepared numbers tables × FirstBytes numbers tables → StartsGood (graph_in numbers) (starts_of starts) → MayBegin numbers starts marks lengths tables (Ok tt)
          begins e p g =
              record {
                refused = λ q k. absurd ((once_refused ⊥).known (sym k));
                good = λ k. (p.0, p.1, g);
                fits = λ k lines. enough-are lines ∙ e;
                goes = λ k. begun (λ lines. enough-are lines ∙ e);
              }
