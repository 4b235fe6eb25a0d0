-- Tries and rounds only append lines.
use Prim.Native.Nat.{ℕ, zero, suc, ◌+◌, ◌≤◌}
use mathlib.Core.Path.{◌≡◌, refl}
use mathlib.Core.Bool.{Bool, true, false}
use mathlib.Core.List.{List, [], ◌∷◌}
use native.Mathlib.Omega.{arith}
use lib.ListN.{length, drop}
use Rattle.determine_side_effects.specs.graph_crate.Check.{Graph}
use Rattle.determine_side_effects.specs.facts_crate.declared.Fact.{Fact}
use Rattle.worklist.proofs.Ends.{all_longer}
use Rattle.entry_order.specs.Order.{module_of_entry}
use Rattle.entry_starts.specs.Starts.{module_starts}
use Rattle.dynamic_entries.specs.Sorted.{sorted_entries}
use Rattle.dynamic_entries.specs.Tries.{Progress, starting, lives, now_live, now_dead, tried, tries}
use Rattle.passes.specs.Bailouts.{bailouts_starts}
use Rattle.entry_liveness.proofs.Passing.{tried_live, tried_dead, tried_lives}
use Rattle.tree_shaking.specs.Rounds.{bailed, round, goes_on, rounds_from, rounds_fuel, Ended, ended_at, begun, main_part}

module _ (g : Graph) (v : List ℕ) where
  pub starting_longer : (facts : List Fact) (p : Progress) → length p.lines ≤ length (starting g v facts p).lines
  unfolding starting
  starting_longer facts p = all_longer g v 0 facts p.lines

  pub tried_longer : (e : ℕ) (p : Progress) → length p.lines ≤ length (tried g v e p).lines
  unfolding now_live now_dead
  tried_longer e p = go (p.live (module_of_entry g e)) refl (lives g v p e) refl
    where
      go : (a : Bool) → p.live (module_of_entry g e) ≡ a → (b : Bool) → lives g v p e ≡ b → length p.lines ≤ length (tried g v e p).lines
      go true x b y = rw (tried_live g v e p x) (omega arith)
      go false x true y = rw (tried_lives g v e p x y) (starting_longer (module_starts g (module_of_entry g e)) (now_live g e p))
      go false x false y = rw (tried_dead g v e p x y) (omega arith)

  pub tries_longer : (es : List ℕ) (p : Progress) → length p.lines ≤ length (tries g v es p).lines
  unfolding tries
  tries_longer [] p = omega arith
  tries_longer (e ∷ es) p = omega (arith, tried_longer e p, tries_longer es (tried g v e p))

  pub round_longer : (taken : ℕ) (p : Progress) → length (bailed g v taken p).lines ≤ length (round g v taken p).lines
  unfolding round
  round_longer taken p = tries_longer (sorted_entries g) (bailed g v taken p)

  pub bailed_longer : (taken : ℕ) (p : Progress) → length p.lines ≤ length (bailed g v taken p).lines
  unfolding bailed
  bailed_longer taken p = starting_longer (bailouts_starts g (drop taken p.lines)) p

  module _ (test : Progress → Progress → Bool) where
    -- one more round, or the last one
    pub rounds-next : (fuel made taken : ℕ) (p : Progress) → test p (round g v taken p) ≡ true
        → rounds_from g v test (suc fuel) made taken p ≡ rounds_from g v test fuel (made + 1) (length p.lines) (round g v taken p)
    unfolding rounds_from
    rounds-next fuel made taken p e = rw (e, rounds_from)

    pub rounds-last : (fuel made taken : ℕ) (p : Progress) → test p (round g v taken p) ≡ false → rounds_from g v test (suc fuel) made taken p ≡ ended_at (made + 1) (length p.lines) (round g v taken p)
    unfolding rounds_from
    rounds-last fuel made taken p e = rw (e, rounds_from)

    -- from a round on, by what further ones bring
    first_by : (fuel made taken : ℕ) (p : Progress) → ((m t : ℕ) (q : Progress) → length q.lines ≤ length (rounds_from g v test fuel m t q).end.lines)
        → length (round g v taken p).lines ≤ length (rounds_from g v test (suc fuel) made taken p).end.lines
    first_by fuel made taken p more = go (test p (round g v taken p)) refl
      where
        go : (b : Bool) → test p (round g v taken p) ≡ b → length (round g v taken p).lines ≤ length (rounds_from g v test (suc fuel) made taken p).end.lines
        go true e = rw (rounds-next fuel made taken p e) (more (made + 1) (length p.lines) (round g v taken p))
        go false e = rw (rounds-last fuel made taken p e) (omega arith)

    pub rounds-longer : (fuel made taken : ℕ) (p : Progress) → length p.lines ≤ length (rounds_from g v test fuel made taken p).end.lines
    unfolding rounds_from
    rounds-longer zero made taken p = omega arith
    rounds-longer (suc fuel) made taken p = omega (arith, bailed_longer taken p, round_longer taken p, first_by fuel made taken p (λ m t q. rounds-longer fuel m t q))

    pub first-longer : (fuel made taken : ℕ) (p : Progress) → length (round g v taken p).lines ≤ length (rounds_from g v test (suc fuel) made taken p).end.lines
    first-longer fuel made taken p = first_by fuel made taken p (λ m t q. rounds-longer fuel m t q)

    -- the lines whose bailouts are taken are among the lines at the end, and those taken before are among them
    pub taken_more : (fuel made taken : ℕ) (p : Progress) → taken ≤ length p.lines
        → (taken ≤ (rounds_from g v test fuel made taken p).taken) × ((rounds_from g v test fuel made taken p).taken ≤ length (rounds_from g v test fuel made taken p).end.lines)
    unfolding rounds_from
    taken_more zero made taken p h = (omega arith, h)
    taken_more (suc fuel) made taken p h = go (taken_more fuel (made + 1) (length p.lines) (round g v taken p) longer) (test p (round g v taken p)) refl
      where
        longer : length p.lines ≤ length (round g v taken p).lines
        longer = omega (arith, bailed_longer taken p, round_longer taken p)

        next : Ended
        next = rounds_from g v test fuel (made + 1) (length p.lines) (round g v taken p)

        go : (length p.lines ≤ next.taken) × (next.taken ≤ length next.end.lines) → (b : Bool) → test p (round g v taken p) ≡ b
            → (taken ≤ (rounds_from g v test (suc fuel) made taken p).taken) × ((rounds_from g v test (suc fuel) made taken p).taken ≤ length (rounds_from g v test (suc fuel) made taken p).end.lines)
        go q true e = rw (rounds-next fuel made taken p e) (omega (arith, h, q.0), q.1)
        go q false e = rw (rounds-last fuel made taken p e) (h, longer)

pub main_taken : (g : Graph) (v : List ℕ) → (main_part g v).taken ≤ length (main_part g v).end.lines
unfolding main_part
main_taken g v = (taken_more g v (goes_on g) (rounds_fuel g) 0 0 (begun g v) (omega arith)).1
