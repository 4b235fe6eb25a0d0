-- What is known of a drain that is done: the numbers and the starts are without a fault, the rows are long enough, the lines are all those
-- that the drain has.
use Prim.Native.Nat.{ℕ, ◌*◌, ◌/◌, ◌%◌, ◌≤◌}
use mathlib.Core.Path.{◌≡◌, refl, ap, ◌∙◌, sym}
use mathlib.Core.Bool.{Bool, true, false}
use mathlib.Core.List.{List}
use native.Mathlib.Omega.{arith}
use borrow.Author.Tests.{eqb-true, ltb-false, eq-eqb}
use lib.Dec.{eqb, ltb}
use lib.ListN.{length}
use Rattle.determine_side_effects.specs.rows_crate.Walk.{Parsed, got, fault}
use Rattle.determine_side_effects.specs.graph_crate.Check.{Graph, graph_in, check_of, answer_of}
use Rattle.determine_side_effects.specs.Effects.{last_verdicts}
use Rattle.keep_record.specs.declared.Line.{Line}
use Rattle.worklist.specs.Drain.{drain_of}
use Rattle.starts.specs.Starts.{starts_of, starts_fault}
use Rattle.drain_parts.specs.Operation.{Rooms, before, short, done, worked, enough, outcome_in, outcome_of}
use Rattle.drain_parts.proofs.Ending.{outcome_short, outcome_work, outcome_accepted}
use Rattle.std.specs.Prelude.{Ok}
use Rattle.determine_side_effects.specs.refusal_crate.declared.Refusal.{Refusal}
use Rattle.determine_side_effects.specs.refusal_crate.declared.Refusal.TheVariants.{NoRoom}

pub record Done (numbers starts : List ℕ) (room : Rooms) (g : Graph) (lines : List Line) : Type 0 where
  pub accepted : answer_of (check_of numbers) ≡ Ok tt
  pub graph_is : g ≡ graph_in numbers
  pub whole : length starts % 3 ≡ 0
  pub faultless : starts_fault (graph_in numbers) starts 0 (length starts / 3) ≡ 0
  pub long_enough : enough (graph_in numbers) room ≡ true
  pub lines_are : lines ≡ drain_of (graph_in numbers) (last_verdicts (graph_in numbers)) (starts_of starts)
  pub have_room : 6 * length lines ≤ room.lines

-- done is neither of the other outcomes
not_before : (why : Refusal) (g : Graph) (lines : List Line) → before why ≡ done g lines → ⊥
not_before why g lines e = let z : ◌≡◌ {A = ℕ} 0 1 = cc in omega arith

not_short : (g : Graph) (lines : List Line) → short ≡ done g lines → ⊥
not_short g lines e = let z : ◌≡◌ {A = ℕ} 0 1 = cc in omega arith

-- work that is done was done on these lines, and they have room
worked_done : (g h : Graph) (all lines : List Line) (room : ℕ) → worked g all room ≡ done h lines → (h ≡ g) × (lines ≡ all) × (6 * length all ≤ room)
unfolding worked
worked_done g h all lines room e = go (ltb room (6 * length all)) refl
  where
    go : (b : Bool) → ltb room (6 * length all) ≡ b → (h ≡ g) × (lines ≡ all) × (6 * length all ≤ room)
    go true t = absurd (not_short h lines (rw (t, worked) at e))
    go false t = let d : done g all ≡ done h lines = rw (t, worked) at e in (cc, cc, ltb-false room (6 * length all) t)

-- by the tests that it has passed: those of the starts and of the rows
module _ (g : Graph) (starts : List ℕ) (room : Rooms) (h : Graph) (lines : List Line) (e : outcome_in g starts room ≡ done h lines) where
  abbrev at : ℕ
  at = starts_fault g starts 0 (length starts / 3)

  in_threes : length starts % 3 ≡ 0
  unfolding outcome_in
  in_threes = go (eqb (length starts % 3) 0) refl
    where
      go : (b : Bool) → eqb (length starts % 3) 0 ≡ b → length starts % 3 ≡ 0
      go true t = eqb-true (length starts % 3) 0 t
      go false t = absurd (not_before _ h lines (rw (t, outcome_in) at e))

  without_fault : at ≡ 0
  unfolding outcome_in
  without_fault = go (eqb at 0) refl
    where
      go : (b : Bool) → eqb at 0 ≡ b → at ≡ 0
      go true t = eqb-true at 0 t
      go false t = absurd (not_before _ h lines (rw (eq-eqb (length starts % 3) 0 in_threes, t, outcome_in) at e))

  with_room : enough g room ≡ true
  with_room = go (enough g room) refl
    where
      go : (b : Bool) → enough g room ≡ b → enough g room ≡ true
      go true t = t
      go false t = absurd (not_before NoRoom h lines (sym (outcome_short g starts room in_threes without_fault t) ∙ e))

  work_done : worked g (drain_of g (last_verdicts g) (starts_of starts)) room.lines ≡ done h lines
  work_done = sym (outcome_work g starts room in_threes without_fault with_room) ∙ e

-- and the check of the numbers
module _ (numbers starts : List ℕ) (room : Rooms) (g : Graph) (lines : List Line) (e : outcome_of numbers starts room ≡ done g lines) where
  passed : answer_of (check_of numbers) ≡ Ok tt
  unfolding outcome_of answer_of
  passed = go (check_of numbers) refl
    where
      go : (x : Parsed Graph) → check_of numbers ≡ x → answer_of (check_of numbers) ≡ Ok tt
      go (got h q) t = ap answer_of t
      go (fault why) t = absurd (not_before why g lines (rw (t, outcome_of) at e))

  pub drain_done : Done numbers starts room g lines
  drain_done =
      let i : outcome_in (graph_in numbers) starts room ≡ done g lines = sym (outcome_accepted numbers starts room passed) ∙ e in
      let w = worked_done (graph_in numbers) g (drain_of (graph_in numbers) (last_verdicts (graph_in numbers)) (starts_of starts)) lines room.lines (work_done (graph_in numbers) starts room g lines i) in
      record {
        accepted = passed;
        graph_is = w.0;
        whole = in_threes (graph_in numbers) starts room g lines i;
        faultless = without_fault (graph_in numbers) starts room g lines i;
        long_enough = with_room (graph_in numbers) starts room g lines i;
        lines_are = w.1;
        have_room = rw w.1 w.2;
      }
