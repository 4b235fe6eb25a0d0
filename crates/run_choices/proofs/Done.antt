-- What is known of a run that is done: the numbers are accepted, the rows are long enough, the run is that of the graph.
use Prim.Native.Nat.{ℕ, ◌*◌, ◌≤◌}
use mathlib.Core.Path.{◌≡◌, refl, ap, ◌∙◌, sym}
use mathlib.Core.Bool.{Bool, true, false}
use mathlib.Core.List.{List}
use native.Mathlib.Omega.{arith}
use borrow.Author.Tests.{ltb-false}
use lib.Dec.{ltb}
use lib.ListN.{length}
use Rattle.determine_side_effects.specs.rows_crate.Walk.{Parsed, got, fault}
use Rattle.determine_side_effects.specs.graph_crate.Check.{Graph, graph_in, check_of, answer_of}
use Rattle.determine_side_effects.proofs.graph_crate.WellFormed.{accepted_is}
use Rattle.run_rows.specs.Run.{Run, run_of}
use Rattle.run_parts.specs.Operation.{Rooms, before, short, done, worked, enough, outcome_in, outcome_of}
use Rattle.std.specs.Prelude.{Ok}
use Rattle.determine_side_effects.specs.refusal_crate.declared.Refusal.{Refusal}
use Rattle.determine_side_effects.specs.refusal_crate.declared.Refusal.TheVariants.{NoRoom}

pub record Done (numbers : List ℕ) (room : Rooms) (g : Graph) (r : Run) : Type 0 where
  pub accepted : answer_of (check_of numbers) ≡ Ok tt
  pub graph_is : g ≡ graph_in numbers
  pub long_enough : enough (graph_in numbers) room ≡ true
  pub run_is : r ≡ run_of (graph_in numbers)
  pub have_room : 6 * length r.lines ≤ room.lines

-- done is neither of the other outcomes
not_before : (why : Refusal) (g : Graph) (r : Run) → before why ≡ done g r → ⊥
not_before why g r e = let z : ◌≡◌ {A = ℕ} 0 1 = cc in omega arith

not_short : (g : Graph) (r : Run) → short ≡ done g r → ⊥
not_short g r e = let z : ◌≡◌ {A = ℕ} 0 1 = cc in omega arith

-- work that is done is that of this run, and its lines have room
worked_done : (g h : Graph) (all r : Run) (room : ℕ) → worked g all room ≡ done h r → (h ≡ g) × (r ≡ all) × (6 * length all.lines ≤ room)
unfolding worked
worked_done g h all r room e = go (ltb room (6 * length all.lines)) refl
  where
    go : (b : Bool) → ltb room (6 * length all.lines) ≡ b → (h ≡ g) × (r ≡ all) × (6 * length all.lines ≤ room)
    go true t = absurd (not_short h r (rw (t, worked) at e))
    go false t = let d : done g all ≡ done h r = rw (t, worked) at e in (cc, cc, ltb-false room (6 * length all.lines) t)

-- the outcome by the tests
pub outcome_work : (g : Graph) (room : Rooms) → enough g room ≡ true → outcome_in g room ≡ worked g (run_of g) room.lines
unfolding outcome_in
outcome_work g room e = rw (e, outcome_in)

pub outcome_accepted : (numbers : List ℕ) (room : Rooms) → answer_of (check_of numbers) ≡ Ok tt → outcome_of numbers room ≡ outcome_in (graph_in numbers) room
unfolding outcome_of
outcome_accepted numbers room e = rw ((accepted_is numbers e).1, outcome_of)

with_room : (g : Graph) (room : Rooms) (h : Graph) (r : Run) → outcome_in g room ≡ done h r → enough g room ≡ true
unfolding outcome_in
with_room g room h r e = go (enough g room) refl
  where
    go : (b : Bool) → enough g room ≡ b → enough g room ≡ true
    go true t = t
    go false t = absurd (not_before NoRoom h r (rw (t, outcome_in) at e))

module _ (numbers : List ℕ) (room : Rooms) (g : Graph) (r : Run) (e : outcome_of numbers room ≡ done g r) where
  passed : answer_of (check_of numbers) ≡ Ok tt
  unfolding outcome_of answer_of
  passed = go (check_of numbers) refl
    where
      go : (x : Parsed Graph) → check_of numbers ≡ x → answer_of (check_of numbers) ≡ Ok tt
      go (got h q) t = ap answer_of t
      go (fault why) t = absurd (not_before why g r (rw (t, outcome_of) at e))

  pub run_done : Done numbers room g r
  run_done =
      let i : outcome_in (graph_in numbers) room ≡ done g r = sym (outcome_accepted numbers room passed) ∙ e in
      let l = with_room (graph_in numbers) room g r i in
      let w = worked_done (graph_in numbers) g (run_of (graph_in numbers)) r room.lines (sym (outcome_work (graph_in numbers) room l) ∙ i) in
      record { accepted = passed; graph_is = w.0; long_enough = l; run_is = w.1; have_room = rw w.1 w.2 }
