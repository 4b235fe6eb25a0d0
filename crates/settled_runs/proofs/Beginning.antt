-- A test by which more rounds follow comes further by the same steps: the lines without the option are the first lines with it.
use Prim.Native.Nat.{ℕ, zero, suc, ◌+◌, ◌<◌}
use mathlib.Core.Path.{◌≡◌, refl, ap, ◌∙◌, sym, subst}
use mathlib.Core.Bool.{Bool, true, false}
use mathlib.Core.List.{List}
use lib.ListN.{length}
use Rattle.determine_side_effects.specs.graph_crate.Check.{Graph}
use Rattle.determine_side_effects.specs.graph_access_crate.Words.{option}
use Rattle.determine_side_effects.specs.Effects.{last_verdicts}
use Rattle.cycles.proofs.Members.{never_both}
use Rattle.dynamic_entries.specs.Tries.{Progress}
use Rattle.tree_shaking.specs.Rounds.{round, keeps_module, has_moved, goes_on, Ended, ended_at, rounds_fuel, rounds_from, begun, main_part}
use Rattle.run_choices.proofs.Further.{Further, further_none, rounds_further}
use Rattle.other_options.specs.Options.{with_options}
use Rattle.other_options.proofs.Rounds.{begun_same, rounds_same, moved_same}
use Rattle.settled_runs.proofs.Tests.{keeps_moves, goes_with, goes_without}

abbrev end_of : Ended → Progress
end_of e = e.end

module _ (g : Graph) (v : List ℕ) (less more : Progress → Progress → Bool) (both : (p q : Progress) → less p q ≡ true → more p q ≡ true) where
  pub rounds_first : (fuel made taken : ℕ) (p : Progress) → Further (rounds_from g v less fuel made taken p).end (rounds_from g v more fuel made taken p).end
  unfolding rounds_from
  rounds_first zero made taken p = further_none p
  rounds_first (suc fuel) made taken p = go (less p z) refl (more p z) refl (rounds_first fuel (made + 1) (length p.lines) z)
    where
      z : Progress
      z = round g v taken p

      by : (Progress → Progress → Bool) → Ended
      by test = rounds_from g v test fuel (made + 1) (length p.lines) z

      last : Ended
      last = ended_at (made + 1) (length p.lines) z

      go : (b : Bool) → less p z ≡ b → (c : Bool) → more p z ≡ c → Further (by less).end (by more).end
          → Further (end_of (elim b [ true ↦ by less | false ↦ last ])) (end_of (elim c [ true ↦ by more | false ↦ last ]))
      go true a true c r = r
      go true a false c r = absurd (never_both (both p z a) c)
      go false a true c r = rounds_further g v more fuel (made + 1) (length p.lines) z
      go false a false c r = further_none z

-- the rounds by a test, and the main part as such rounds
abbrev rounds_by : Graph → (Progress → Progress → Bool) → Ended
rounds_by g test = rounds_from g (last_verdicts g) test (rounds_fuel g) 0 0 (begun g (last_verdicts g))

main_is : (g : Graph) (test : Progress → Progress → Bool) → goes_on g ≡ test → main_part g (last_verdicts g) ≡ rounds_by g test
unfolding main_part
main_is g test e = ap (λ (x : Progress → Progress → Bool). rounds_by g x) e

-- over a graph with other options: the same rounds, by either test
module _ (g : Graph) (o : ℕ) (same : (j : ℕ) → j < 6 → option (with_options g o) j ≡ option g j) where
  by_same : (test : Progress → Progress → Bool) → rounds_by (with_options g o) test ≡ rounds_by g test
  by_same test =
      ap (λ (p : Progress). rounds_from (with_options g o) (last_verdicts (with_options g o)) test (rounds_fuel g) 0 0 p) (begun_same g o same)
      ∙ rounds_same g o same test (rounds_fuel g) 0 0 (begun g (last_verdicts g))

  moved_both : has_moved (with_options g o) ≡ has_moved g
  moved_both = λ i p q. moved_same g o same p q i

  pub further_with : option g 7 ≡ false → option (with_options g o) 7 ≡ true → Further (main_part g (last_verdicts g)).end (main_part (with_options g o) (last_verdicts (with_options g o))).end
  further_with off on =
      let a = main_is g keeps_module (goes_without g off) in
      let b = main_is (with_options g o) (has_moved g) (goes_with (with_options g o) on ∙ moved_both) ∙ by_same (has_moved g) in
      subst (λ (e : Ended). Further e.end (main_part (with_options g o) (last_verdicts (with_options g o))).end) (sym a)
      (subst (λ (e : Ended). Further (rounds_by g keeps_module).end e.end) (sym b)
      (rounds_first g (last_verdicts g) keeps_module (has_moved g) (keeps_moves g) (rounds_fuel g) 0 0 (begun g (last_verdicts g))))
