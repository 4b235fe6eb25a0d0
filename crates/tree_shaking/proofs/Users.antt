-- The user-defined entries of a plan, started one after another.
use Prim.Native.Nat.{ℕ, ◌+◌, ◌<◌, ◌≤◌}
use mathlib.Core.Path.{◌≡◌, refl, ap, ◌∙◌, sym}
use mathlib.Core.List.{List, [], ◌++◌}
use native.Mathlib.Numerals.{add-one}
use native.Mathlib.Omega.{arith}
use lib.ListN.{length, get_or, drop, drop_of_length-le, get_or-append}
use lib.Seq.{drop-cons, get_or-take}
use Rattle.determine_side_effects.specs.graph_crate.Check.{Graph}
use Rattle.determine_side_effects.specs.facts_crate.declared.Fact.{Fact}
use Rattle.determine_side_effects.specs.Effects.{last_verdicts}
use Rattle.keep_record.specs.Held.{lines_of}
use Rattle.keep_record.proofs.Rows.{no_lines}
use Rattle.worklist.specs.Drain.{drained_all}
use Rattle.entry_order.specs.Order.{module_of_entry, user_entries}
use Rattle.entry_starts.specs.Starts.{user_starts}
use Rattle.entry_starts.specs.Working.{Working, Started}
use Rattle.entry_starts.proofs.Together.{Along, along_start, along_step, along_full, along_done, along_as}
use Rattle.dynamic_entries.specs.Sorted.{sorted_entries}
use Rattle.dynamic_entries.specs.Tries.{Planned}
use Rattle.tree_shaking.specs.Rounds.{users_starts}
use Rattle.std.specs.Prelude.{Ok}
use Rattle.keep_record.specs.Held.{no_room}

-- what the entries from place i on start
unfoldable pub users_from : Graph → ℕ → List Fact
users_from g i = users_starts g (drop i (user_entries g))

pub users_all : (g : Graph) → users_from g 0 ≡ users_starts g (user_entries g)
unfolding users_from
users_all g = refl

-- in the loop, at place i
abbrev pub Including : Graph → ℕ → List ℕ → List ℕ → List ℕ → ℕ → Type 0
Including g i partners marks row c = Along g 0 (drained_all g (last_verdicts g) 0 (users_starts g (user_entries g)) []) (users_from g i) partners marks row c

pub users_begin : (g : Graph) (partners marks row : List ℕ) → Working g 0 partners marks row 0 → Including g 0 partners marks row 0
unfolding users_from
users_begin g partners marks row w = rw (no_lines row) at (along_start g 0 (users_starts g (user_entries g)) partners marks row 0 w)

module _ (g : Graph) (plan : List ℕ) (users : ℕ) (p : Planned g plan users) (i : ℕ) where
  pub user_inside : i < users → get_or plan i 0 < g.header.entries
  user_inside h = p.are_entries.below i (omega (arith, p.users_are, p.all))

  user_place : i < users → get_or plan i 0 ≡ get_or (user_entries g) i 0
  user_place h =
      let l : i < length (user_entries g) = omega (arith, p.users_are) in
      sym (get_or-take g.header.entries plan i 0 (omega (arith, p.users_are, p.all))) ∙ ap (λ (xs : List ℕ). get_or xs i 0) p.order ∙ get_or-append (user_entries g) (sorted_entries g) 0 i l

  pub users_next : i < users → (u : ℕ) → u ≡ module_of_entry g (get_or plan i 0) → users_from g i ≡ user_starts g u ++ users_from g (i + 1)
  unfolding users_from users_starts
  users_next h u e =
      let l : i < length (user_entries g) = omega (arith, p.users_are) in
      let q : u ≡ module_of_entry g (get_or (user_entries g) i 0) = e ∙ ap (module_of_entry g) (user_place h) in
      rw (q, add-one i, drop-cons (user_entries g) i 0 l)

  pub users_over : users ≤ i → users_from g i ≡ []
  unfolding users_from users_starts
  users_over h = let l : length (user_entries g) ≤ i = omega (arith, p.users_are) in rw (drop_of_length-le (user_entries g) l)

  module _ (pa ma row : List ℕ) (c : ℕ) (a : Including g i pa ma row c) where
    pub users-done : users ≤ i → Started g 0 (users_starts g (user_entries g)) [] pa ma row (Ok c)
    users-done h = along_done g 0 (users_starts g (user_entries g)) [] pa ma row c (along_as g 0 _ (users_from g i) [] pa ma row c (users_over h) a)

    module _ (h : i < users) (u : ℕ) (e : u ≡ module_of_entry g (get_or plan i 0)) (pa' ma' row' : List ℕ) where
      here : Along g 0 (drained_all g (last_verdicts g) 0 (users_starts g (user_entries g)) []) (user_starts g u ++ users_from g (i + 1)) pa ma row c
      here = along_as g 0 _ (users_from g i) (user_starts g u ++ users_from g (i + 1)) pa ma row c (users_next h u e) a

      pub users-step : (d : ℕ) → Started g 0 (user_starts g u) (lines_of c row) pa' ma' row' (Ok d) → Including g (i + 1) pa' ma' row' d
      users-step d s = along_step g 0 _ (user_starts g u) (users_from g (i + 1)) pa ma row c here pa' ma' row' d s

      pub users-full : Started g 0 (user_starts g u) (lines_of c row) pa' ma' row' no_room → Started g 0 (users_starts g (user_entries g)) [] pa' ma' row' no_room
      users-full s = along_full g 0 (users_starts g (user_entries g)) [] (user_starts g u) (users_from g (i + 1)) pa ma row c here pa' ma' row' s
