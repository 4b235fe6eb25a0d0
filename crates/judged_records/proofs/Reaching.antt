-- Lines that are justified stay inside every choice that is closed by the rules and holds the starts.
use Prim.Native.Nat.{ℕ, zero, suc, ◌-◌, ◌<◌, ◌≤◌}
use mathlib.Core.Path.{◌≡◌, subst}
use mathlib.Core.List.{List}
use native.Mathlib.Omega.{arith}
use Rattle.determine_side_effects.specs.graph_crate.Check.{Graph}
use Rattle.determine_side_effects.specs.Effects.{last_verdicts}
use Rattle.determine_side_effects.specs.facts_crate.declared.Fact.{Fact}
use Rattle.closed_choices.specs.Choice.{Choice, HoldsStarts}
use Rattle.judged_records.specs.Choice.{ClosedByRules}
use Rattle.judged_records.specs.Sentence.{rule_at, because_at, and_at, fact_in, named_in, Names, of_start, of_K1, of_rule, Justified, as_start, by_K1, by_K1_exchanged, by_rule}
use Rattle.judged_records.proofs.Lines.{Standing}

-- the names of a line by its rule
names_one : {k r a b : ℕ} → Names k r a b → 1 ≤ r → (1 ≤ a) × (a ≤ k)
names_one of_start l = absurd (omega arith)
names_one (of_K1 a b p q u w) l = (p, q)
names_one (of_rule r a p q u w) l = (u, w)

names_two : {k r a b : ℕ} → Names k r a b → r ≡ 1 → (1 ≤ b) × (b ≤ k)
names_two of_start e = absurd (omega (arith, e))
names_two (of_K1 a b p q u w) e = (u, w)
names_two (of_rule r a p q u w) e = absurd (omega (arith, p, e))

module _ (g : Graph) (starts : List Fact) (D : Choice) (holds : HoldsStarts starts D) (closed : ClosedByRules g D)
    (row : List ℕ) (n : ℕ) (stand : (k : ℕ) → k < n → Standing g starts row k) where
  line_in : (k : ℕ) → k < n → ((i : ℕ) → i < k → D (fact_in row i)) → D (fact_in row k)
  line_in k u earlier = go (stand k u).justified
    where
      names : Names k (rule_at row k) (because_at row k) (and_at row k)
      names = (stand k u).in_form_holds.names_good

      named-in : (a : ℕ) → (1 ≤ a) × (a ≤ k) → D (named_in row a)
      named-in a p = earlier (a - 1) (omega (arith, p.0, p.1))

      go : Justified g (last_verdicts g) starts row k → D (fact_in row k)
      go (as_start i z w e) = subst (λ x. D x) e (holds i w)
      go (by_K1 o j) = closed.by_K1 _ _ (fact_in row k) j (named-in (because_at row k) (names_one names (omega (arith, o)))) (named-in (and_at row k) (names_two names o))
      go (by_K1_exchanged o j) = closed.by_K1 _ _ (fact_in row k) j (named-in (and_at row k) (names_two names o)) (named-in (because_at row k) (names_one names (omega (arith, o))))
      go (by_rule l h) = closed.by_K2_to_K14 (rule_at row k) (named_in row (because_at row k)) (fact_in row k) h (named-in (because_at row k) (names_one names (omega (arith, l))))

  before_in : (m : ℕ) → m ≤ n → (k : ℕ) → k < m → D (fact_in row k)
  before_in zero l k u = absurd (omega arith)
  before_in (suc m) l k u = line_in k (omega arith) (λ i w. before_in m (omega (arith, l)) i (omega (arith, u, w)))

  pub lines_in : (k : ℕ) → k < n → D (fact_in row k)
  lines_in k u = before_in n (omega arith) k u
