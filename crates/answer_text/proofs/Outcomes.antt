-- What a run's answer tells of its outcome, and the text of an outcome that is no answer.
use Prim.Native.Nat.{ℕ, ◌*◌}
use mathlib.Core.Path.{◌≡◌, refl, ap, ◌∙◌, sym}
use mathlib.Core.Bool.{Bool, true, false}
use mathlib.Core.List.{List}
use native.Mathlib.Omega.{arith}
use lib.Dec.{ltb}
use lib.ListN.{length}
use Rattle.determine_side_effects.specs.graph_crate.Check.{Graph, graph_in, check_of, answer_of}
use Rattle.tree_shaking.specs.Rounds.{final_entries}
use Rattle.run_rows.specs.Run.{run_of}
use Rattle.run_parts.specs.declared.Totals.{Totals}
use Rattle.run_parts.specs.Operation.{Rooms, Outcome, before, short, done, enough, worked, outcome_of, totals_of, answered}
use Rattle.run_parts.proofs.Readying.{outcome_short, outcome_work, outcome_refused, outcome_accepted}
use Rattle.listing.specs.Listing.{refused_text}
use Rattle.answer_text.specs.Program.{outcome_text}
use Rattle.std.specs.Prelude.{Ok, Err}
use Rattle.determine_side_effects.specs.refusal_crate.Number.{number_of}
use Rattle.determine_side_effects.specs.refusal_crate.declared.Refusal.{Refusal}
use Rattle.determine_side_effects.specs.refusal_crate.declared.Refusal.TheVariants.{NoRoom}

-- a refused run
pub text_refused : (o : Outcome) {why : Refusal} → Err why ≡ answered o → refused_text (number_of why) ≡ outcome_text o
unfolding answered outcome_text
text_refused (before q) {why} e = let i : why ≡ q = cc in ap (λ w. refused_text (number_of w)) i
text_refused short {why} e = let i : why ≡ NoRoom = cc in ap (λ w. refused_text (number_of w)) i
text_refused (done g r) {why} e = absurd cc

-- numbers that the check refuses
pub text_rejected : (numbers : List ℕ) (room : Rooms) {why : Refusal} → answer_of (check_of numbers) ≡ Err why → refused_text (number_of why) ≡ outcome_text (outcome_of numbers room)
unfolding outcome_text
text_rejected numbers room e = sym (ap outcome_text (outcome_refused numbers room e))

-- an answer over accepted numbers is that of their graph's run
pub record IsDone (numbers : List ℕ) (room : Rooms) (totals : Totals) : Type 0 where
  pub is : outcome_of numbers room ≡ done (graph_in numbers) (run_of (graph_in numbers))
  pub has_room : enough (graph_in numbers) room ≡ true
  pub made : totals.rounds ≡ (run_of (graph_in numbers)).rounds
  pub final : totals.entries ≡ length (final_entries (graph_in numbers) (run_of (graph_in numbers)).live)

module _ (numbers : List ℕ) (ok : answer_of (check_of numbers) ≡ Ok tt) (room : Rooms) where
  abbrev g : Graph
  g = graph_in numbers

  begun : (b : Bool) → enough g room ≡ b → outcome_of numbers room ≡ elim b [ true ↦ worked g (run_of g) room.lines | false ↦ before NoRoom ]
  begun true e = outcome_accepted numbers room ok ∙ outcome_work g room e
  begun false e = outcome_accepted numbers room ok ∙ outcome_short g room e

  pub done_is : {totals : Totals} → Ok totals ≡ answered (outcome_of numbers room) → IsDone numbers room totals
  unfolding worked answered
  done_is {totals} e = go (enough g room) refl
    where
      go : (x : Bool) → enough g room ≡ x → IsDone numbers room totals
      go false q = let i : Ok totals ≡ Err NoRoom = e ∙ ap answered (begun false q) in let z : ◌≡◌ {A = ℕ} 0 1 = cc in absurd (omega arith)
      go true q = within (ltb room.lines (6 * length (run_of g).lines)) refl
        where
          within : (y : Bool) → ltb room.lines (6 * length (run_of g).lines) ≡ y → IsDone numbers room totals
          within true l =
              let o : worked g (run_of g) room.lines ≡ short = rw (l, worked) in
              let i : Ok totals ≡ Err NoRoom = e ∙ ap answered (begun true q ∙ o) in
              let z : ◌≡◌ {A = ℕ} 0 1 = cc in absurd (omega arith)
          within false l =
              let o : worked g (run_of g) room.lines ≡ done g (run_of g) = rw (l, worked) in
              let i : Ok totals ≡ Ok (totals_of g (run_of g)) = e ∙ ap answered (begun true q ∙ o) in
              let same : totals ≡ totals_of g (run_of g) = cc in
              record { is = begun true q ∙ o; has_room = q; made = ap (λ (t : Totals). t.rounds) same; final = ap (λ (t : Totals). t.entries) same }
