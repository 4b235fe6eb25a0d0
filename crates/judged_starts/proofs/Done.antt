-- What is known of starts that are given: the numbers are accepted, and the graph is theirs.
use Prim.Native.Nat.{ℕ, ◌*◌}
use mathlib.Core.Path.{◌≡◌, refl, ap}
use mathlib.Core.Bool.{Bool, true, false}
use mathlib.Core.List.{List}
use native.Mathlib.Omega.{arith}
use lib.Dec.{ltb, leb}
use lib.ListN.{length}
use Rattle.bit_row.specs.Row.{bytes_for}
use Rattle.determine_side_effects.specs.rows_crate.Walk.{Parsed, got, fault}
use Rattle.determine_side_effects.specs.graph_crate.Check.{Graph, graph_in, check_of, answer_of}
use Rattle.determine_side_effects.proofs.graph_crate.WellFormed.{accepted_is}
use Rattle.determine_side_effects.specs.facts_crate.Facts.{mark_count}
use Rattle.run_rows.specs.Run.{run_of}
use Rattle.run_starts.specs.Operation.{Rooms, own_starts_once, before, short, done, worked, outcome_in, outcome_of}
use Rattle.std.specs.Prelude.{Ok}
use Rattle.determine_side_effects.specs.refusal_crate.declared.Refusal.{Refusal}
use Rattle.determine_side_effects.specs.refusal_crate.declared.Refusal.TheVariants.{NoRoom}

pub record Done (numbers : List ℕ) (g : Graph) : Type 0 where
  pub accepted : answer_of (check_of numbers) ≡ Ok tt
  pub graph_is : g ≡ graph_in numbers

-- done is neither of the other outcomes
not_before : (why : Refusal) (g : Graph) → before why ≡ done g → ⊥
not_before why g e = let z : ◌≡◌ {A = ℕ} 0 1 = cc in omega arith

not_short : (g : Graph) → short ≡ done g → ⊥
not_short g e = let z : ◌≡◌ {A = ℕ} 0 1 = cc in omega arith

-- work that is done is that of this graph
worked_done : (g h : Graph) (lines starts : ℕ) → worked g lines starts ≡ done h → h ≡ g
unfolding worked
worked_done g h lines starts e = go (ltb lines (6 * length (run_of g).main)) refl (ltb starts (3 * length (own_starts_once g))) refl
  where
    go : (a : Bool) → ltb lines (6 * length (run_of g).main) ≡ a → (b : Bool) → ltb starts (3 * length (own_starts_once g)) ≡ b → h ≡ g
    go true s b t = absurd (not_short h (rw (s, worked) at e))
    go false s true t = absurd (not_short h (rw (s, t, worked) at e))
    go false s false t = let d : done g ≡ done h = rw (s, t, worked) at e in cc

in_done : (g : Graph) (room : Rooms) (h : Graph) → outcome_in g room ≡ done h → h ≡ g
unfolding outcome_in
in_done g room h e = go (leb (bytes_for (mark_count g)) room.marks) refl
  where
    go : (b : Bool) → leb (bytes_for (mark_count g)) room.marks ≡ b → h ≡ g
    go true t = worked_done g h room.lines room.starts (rw (t, outcome_in) at e)
    go false t = absurd (not_before NoRoom h (rw (t, outcome_in) at e))

module _ (numbers : List ℕ) (room : Rooms) (g : Graph) (e : outcome_of numbers room ≡ done g) where
  passed : answer_of (check_of numbers) ≡ Ok tt
  unfolding outcome_of answer_of
  passed = go (check_of numbers) refl
    where
      go : (x : Parsed Graph) → check_of numbers ≡ x → answer_of (check_of numbers) ≡ Ok tt
      go (got h q) t = ap answer_of t
      go (fault why) t = absurd (not_before why g (rw (t, outcome_of) at e))

  pub starts_done : Done numbers g
  unfolding outcome_of
  starts_done =
      let i : outcome_in (graph_in numbers) room ≡ done g = rw ((accepted_is numbers passed).1, outcome_of) at e in
      record { accepted = passed; graph_is = in_done (graph_in numbers) room g i }
