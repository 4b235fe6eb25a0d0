-- How many rounds there are: at least one, and no more than the fuel.
-- The fuel is one more than twice the modules (`main_rounds`).
use Prim.Native.Nat.{ℕ, zero, suc, ◌+◌, ◌<◌, ◌≤◌}
use mathlib.Core.Bool.{Bool, true, false}
use mathlib.Core.List.{List}
use native.Mathlib.Omega.{arith}
use lib.ListN.{length}
use Rattle.determine_side_effects.specs.graph_crate.Check.{Graph}
use Rattle.dynamic_entries.specs.Tries.{Progress}
use Rattle.tree_shaking.specs.Rounds.{round, goes_on, rounds_fuel, Ended, ended_at, rounds_from, begun, main_part}

-- from `made` rounds on
pub record Made (made fuel : ℕ) (e : Ended) : Type 0 where
  pub least : made ≤ e.rounds
  pub most : e.rounds ≤ made + fuel
  pub some : 0 < fuel → made < e.rounds

module _ (g : Graph) (v : List ℕ) (test : Progress → Progress → Bool) where
  pub rounds_from_lem : (fuel made taken : ℕ) (p : Progress) → Made made fuel (rounds_from g v test fuel made taken p)
  unfolding rounds_from
  rounds_from_lem zero made taken p = record { least = omega arith; most = omega arith; some = λ h. absurd (omega (arith, h)) }
  rounds_from_lem (suc fuel) made taken p =
      go (test p (round g v taken p)) (rounds_from_lem fuel (made + 1) (length p.lines) (round g v taken p))
    where
      go : (b : Bool) → Made (made + 1) fuel (rounds_from g v test fuel (made + 1) (length p.lines) (round g v taken p))
          → Made made (suc fuel) (elim b [ true ↦ rounds_from g v test fuel (made + 1) (length p.lines) (round g v taken p) | false ↦ ended_at (made + 1) (length p.lines) (round g v taken p) ])
      go true r = record { least = omega (arith, r.least); most = omega (arith, r.most); some = λ h. omega (arith, r.least) }
      go false r = record { least = omega arith; most = omega arith; some = λ h. omega arith }

pub main_rounds : (g : Graph) (v : List ℕ) → (1 ≤ (main_part g v).rounds) × ((main_part g v).rounds ≤ rounds_fuel g)
unfolding main_part
main_rounds g v =
    let r = rounds_from_lem g v (goes_on g) (rounds_fuel g) 0 0 (begun g v) in
    (omega (arith, r.some (omega arith)), omega (arith, r.most))
