-- What is picked is a good fact.
use Prim.Native.Nat.{ℕ}
use mathlib.Core.Path.{◌≡◌, ap, subst}
use native.Mathlib.Omega.{arith}
use Rattle.determine_side_effects.specs.graph_crate.Check.{Graph}
use Rattle.determine_side_effects.specs.facts_crate.declared.Fact.{Fact}
use Rattle.determine_side_effects.specs.facts_crate.Facts.{Good}
use Rattle.keep_rules.specs.Prepared.{GoodCandidate}
use Rattle.keep_rules.specs.declared.Candidate.{Candidate}
use Rattle.keep_rules.specs.declared.Candidate.TheVariants.{Gives, Nothing}

-- the fact that is given, another one for nothing; and how many are given
given : Fact → Candidate → Fact
given other (Gives f) = f
given other Nothing = other

many : Candidate → ℕ
many (Gives f) = 1
many Nothing = 0

pub gives_good : {g : Graph} {f : Fact} → Good g f → GoodCandidate g (Gives f)
unfolding given
gives_good {g} {f} h = record { known = λ e i. subst (λ x. Good g x) (ap (given f) i) h }

pub nothing_good : {g : Graph} → GoodCandidate g Nothing
unfolding many
nothing_good {g} = record { known = λ f i. absurd (clash (ap many i)) }
  where
    clash : ◌≡◌ {A = ℕ} 0 1 → ⊥
    clash e = omega (arith, e)
