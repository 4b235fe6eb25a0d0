-- After a round each dynamic entry is of a live module or was found dead.
use Prim.Native.Nat.{ℕ, zero, suc, ◌+◌, ◌<◌}
use mathlib.Core.Path.{◌≡◌, refl, sym, subst}
use mathlib.Core.Logic.{◌⊎◌, inl, inr, ⊎_elim}
use mathlib.Core.Bool.{Bool, true, false, ◌||◌}
use mathlib.Core.List.{List, [], ◌∷◌}
use native.Mathlib.Omega.{arith}
use borrow.Author.Tests.{eq-eqb}
use lib.Dec.{eqb}
use lib.ListN.{length}
use Rattle.determine_side_effects.specs.graph_crate.Check.{Graph, graph_in}
use Rattle.determine_side_effects.specs.graph_crate.Loaded.{Loaded}
use Rattle.determine_side_effects.specs.facts_crate.declared.Fact.{Fact}
use Rattle.entry_order.specs.Order.{module_of_entry, is_dynamic}
use Rattle.entry_starts.specs.Starts.{module_starts}
use Rattle.cycles.proofs.Members.{In, in_none, in_cases, never_both}
use Rattle.dynamic_entries.specs.Sorted.{sorted_entries}
use Rattle.dynamic_entries.specs.Tries.{Progress, starting, lives, now_live, now_dead, tried, tries}
use Rattle.tree_shaking.specs.Rounds.{bailed, round, goes_on, rounds_fuel, Ended, ended_at, rounds_from, begun, main_part}
use Rattle.run_choices.proofs.Further.{or_right, try_old, try_live, try_dead}
use Rattle.run_choices.proofs.Sorted.{dynamic_sorted}

or_left : (a b : Bool) → a ≡ true → (a || b) ≡ true
or_left true b e = refl
or_left false b e = absurd (never_both e refl)

abbrev picked : Ended → Progress
picked e = e.end

-- its module is live, or a try found it dead
abbrev IsTried : Graph → ℕ → Progress → Type 0
IsTried g e p = (p.live (module_of_entry g e) ≡ true) ⊎ (p.dead e ≡ true)

module _ (g : Graph) (v : List ℕ) where
  -- what a try does to what was met, and to its own entry
  live_met : (fs : List Fact) (x e : ℕ) (p : Progress) → IsTried g x p → IsTried g x (starting g v fs (now_live g e p))
  unfolding starting now_live
  live_met fs x e p m = ⊎_elim (λ a. inl (or_right (eqb (module_of_entry g x) (module_of_entry g e)) (p.live (module_of_entry g x)) a)) (λ a. inr a) m

  pub live_after : (fs : List Fact) (e : ℕ) (p : Progress) → (starting g v fs (now_live g e p)).live (module_of_entry g e) ≡ true
  unfolding starting now_live
  live_after fs e p = or_left (eqb (module_of_entry g e) (module_of_entry g e)) (p.live (module_of_entry g e)) (eq-eqb (module_of_entry g e) (module_of_entry g e) refl)

  live_meets : (fs : List Fact) (e : ℕ) (p : Progress) → IsTried g e (starting g v fs (now_live g e p))
  live_meets fs e p = inl (live_after fs e p)

  dead_met : (x e : ℕ) (p : Progress) → IsTried g x p → IsTried g x (now_dead e p)
  unfolding now_dead
  dead_met x e p m = ⊎_elim (λ a. inl a) (λ a. inr (or_right (eqb x e) (p.dead x) a)) m

  dead_meets : (e : ℕ) (p : Progress) → IsTried g e (now_dead e p)
  unfolding now_dead
  dead_meets e p = inr (or_left (eqb e e) (p.dead e) (eq-eqb e e refl))

  try_met : (x e : ℕ) (p : Progress) → IsTried g x p → IsTried g x (tried g v e p)
  try_met x e p m = go (p.live (module_of_entry g e)) refl (lives g v p e) refl
    where
      go : (b : Bool) → p.live (module_of_entry g e) ≡ b → (c : Bool) → lives g v p e ≡ c → IsTried g x (tried g v e p)
      go true a c d = subst (λ (q : Progress). IsTried g x q) (sym (try_old g v e p a)) m
      go false a true d = subst (λ (q : Progress). IsTried g x q) (sym (try_live g v e p a d)) (live_met (module_starts g (module_of_entry g e)) x e p m)
      go false a false d = subst (λ (q : Progress). IsTried g x q) (sym (try_dead g v e p a d)) (dead_met x e p m)

  try_meets : (e : ℕ) (p : Progress) → IsTried g e (tried g v e p)
  try_meets e p = go (p.live (module_of_entry g e)) refl (lives g v p e) refl
    where
      go : (b : Bool) → p.live (module_of_entry g e) ≡ b → (c : Bool) → lives g v p e ≡ c → IsTried g e (tried g v e p)
      go true a c d = subst (λ (q : Progress). IsTried g e q) (sym (try_old g v e p a)) (inl a)
      go false a true d = subst (λ (q : Progress). IsTried g e q) (sym (try_live g v e p a d)) (live_meets (module_starts g (module_of_entry g e)) e p)
      go false a false d = subst (λ (q : Progress). IsTried g e q) (sym (try_dead g v e p a d)) (dead_meets e p)

  tries_met : (es : List ℕ) (x : ℕ) (p : Progress) → IsTried g x p → IsTried g x (tries g v es p)
  unfolding tries
  tries_met [] x p m = m
  tries_met (e ∷ es) x p m = tries_met es x (tried g v e p) (try_met x e p m)

  tries_meet : (es : List ℕ) (x : ℕ) (p : Progress) → In es x → IsTried g x (tries g v es p)
  unfolding tries
  tries_meet [] x p i = absurd (in_none x i)
  tries_meet (e ∷ es) x p i =
      ⊎_elim (λ q. tries_met es x (tried g v e p) (subst (λ y. IsTried g y (tried g v e p)) (sym q) (try_meets e p)))
      (λ j. tries_meet es x (tried g v e p) j) (in_cases x e es i)

  round_meets : (x taken : ℕ) (p : Progress) → In (sorted_entries g) x → IsTried g x (round g v taken p)
  unfolding round
  round_meets x taken p i = tries_meet (sorted_entries g) x (bailed g v taken p) i

  rounds_meet : (x : ℕ) → In (sorted_entries g) x → (fuel made taken : ℕ) (p : Progress) → IsTried g x p ⊎ (0 < fuel) → IsTried g x (rounds_from g v (goes_on g) fuel made taken p).end
  unfolding rounds_from
  rounds_meet x i zero made taken p s = ⊎_elim (λ m. m) (λ h. absurd (omega (arith, h))) s
  rounds_meet x i (suc fuel) made taken p s =
      go (goes_on g p (round g v taken p)) (rounds_meet x i fuel (made + 1) (length p.lines) (round g v taken p) (inl (round_meets x taken p i)))
    where
      go : (b : Bool) → IsTried g x (rounds_from g v (goes_on g) fuel (made + 1) (length p.lines) (round g v taken p)).end
          → IsTried g x (picked (elim b [ true ↦ rounds_from g v (goes_on g) fuel (made + 1) (length p.lines) (round g v taken p) | false ↦ ended_at (made + 1) (length p.lines) (round g v taken p) ]))
      go true r = r
      go false r = round_meets x taken p i

  main_meets : (x : ℕ) → In (sorted_entries g) x → IsTried g x (main_part g v).end
  unfolding main_part
  main_meets x i = rounds_meet x i (rounds_fuel g) 0 0 (begun g v) (inr (omega arith))

-- a dynamic entry of a module that is not live at the end was found dead
module _ {numbers tables : List ℕ} (t : Loaded numbers tables) (v : List ℕ) where
  pub was_dead : (e : ℕ) → e < (graph_in numbers).header.entries → is_dynamic (graph_in numbers) e ≡ true
      → (main_part (graph_in numbers) v).end.live (module_of_entry (graph_in numbers) e) ≡ false → (main_part (graph_in numbers) v).end.dead e ≡ true
  was_dead e h d l = ⊎_elim (λ a. absurd (never_both a l)) (λ a. a) (main_meets (graph_in numbers) v e (dynamic_sorted t e h d))
