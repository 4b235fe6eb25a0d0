-- A line stands exactly if it is of the form, repeats no fact, and is justified.
use Prim.Native.Nat.{ℕ, zero, suc, ◌+◌, ◌-◌, ◌<◌, ◌≤◌}
use mathlib.Core.Path.{◌≡◌, refl, ap, ◌∙◌, sym, subst}
use mathlib.Core.Logic.{◌⊎◌, inl, inr}
use mathlib.Core.Bool.{Bool, true, false}
use mathlib.Core.List.{List}
use native.Mathlib.Decide.{dec_lt}
use native.Mathlib.Omega.{arith}
use Rattle.determine_side_effects.proofs.Lists.{both}
use Rattle.determine_side_effects.specs.graph_crate.Check.{Graph, graph_in}
use Rattle.determine_side_effects.specs.graph_crate.Loaded.{Loaded}
use Rattle.determine_side_effects.specs.Effects.{last_verdicts}
use Rattle.determine_side_effects.specs.facts_crate.declared.Fact.{Fact}
use Rattle.determine_side_effects.specs.facts_crate.Facts.{Good}
use Rattle.keep_record.specs.Held.{line_at}
use Rattle.record_form.specs.Form.{in_form}
use Rattle.line_judgement.specs.Stand.{named, is_justified, stands, first_bad}
use Rattle.rule_relation.specs.Relation.{Gives, Joins}
use Rattle.rule_relation.proofs.Tests.{Says, says_as, says_equal, says_both, says_by}
use Rattle.closed_choices.specs.Choice.{HoldsStarts}
use Rattle.judged_records.specs.Sentence.{rule_at, because_at, and_at, fact_in, named_in, Names, of_start, of_K1, of_rule, LineInForm, Justified, as_start, by_K1, by_K1_exchanged, by_rule}
use Rattle.judged_records.proofs.Tests.{says_then}
use Rattle.judged_records.proofs.ByRules.{good_normal}
use Rattle.judged_records.proofs.Form.{says_form}
use Rattle.judged_records.proofs.Follows.{says_follows, says_joined_either}
use Rattle.judged_records.proofs.Facts.{Started, says-new, says-start}

-- a line's first name is no later line's
because_earlier : {k r a b : ℕ} → Names k r a b → a ≤ k
because_earlier of_start = omega arith
because_earlier (of_K1 a b p q u w) = q
because_earlier (of_rule r a p q u w) = w

-- what a line stands by
pub record Standing (g : Graph) (starts : List Fact) (row : List ℕ) (k : ℕ) : Type 0 where
  pub in_form_holds : LineInForm g row k
  pub new : (i : ℕ) → i < k → fact_in row i ≡ fact_in row k → ⊥
  pub justified : Justified g (last_verdicts g) starts row k

module _ {numbers tables : List ℕ} (t : Loaded numbers tables) (starts : List Fact) (starts_good : HoldsStarts starts (Good (graph_in numbers))) (row : List ℕ) (k : ℕ) where
  abbrev g : Graph
  g = graph_in numbers

  abbrev v : List ℕ
  v = last_verdicts (graph_in numbers)

  abbrev f : Fact
  f = fact_in row k

  -- the justifications, by the rule
  abbrev ByRule : Type 0
  ByRule =
      ((rule_at row k ≡ 0) × Started starts f)
      ⊎ ((rule_at row k ≡ 0 → ⊥) × (((rule_at row k ≡ 1) × (Joins g (named_in row (because_at row k)) (named_in row (and_at row k)) f ⊎ Joins g (named_in row (and_at row k)) (named_in row (because_at row k)) f))
      ⊎ ((rule_at row k ≡ 1 → ⊥) × Gives g v (rule_at row k) (named_in row (because_at row k)) f)))

  by_rule_justified : ByRule → Justified g v starts row k
  by_rule_justified (inl (z, s)) = as_start s.0 z s.1 s.2
  by_rule_justified (inr (z, inl (o, inl j))) = by_K1 o j
  by_rule_justified (inr (z, inl (o, inr j))) = by_K1_exchanged o j
  by_rule_justified (inr (z, inr (o, h))) = by_rule (omega (arith, z, o)) h

  justified_by_rule : Justified g v starts row k → ByRule
  justified_by_rule (as_start i z u e) = inl (z, (i, u, e))
  justified_by_rule (by_K1 o j) = inr (λ z. omega (arith, o, z), inl (o, inl j))
  justified_by_rule (by_K1_exchanged o j) = inr (λ z. omega (arith, o, z), inl (o, inr j))
  justified_by_rule (by_rule l h) = inr (λ z. omega (arith, l, z), inr (λ o. omega (arith, l, o), h))

  -- A line that is of the form names good facts, if it and the lines before it have good ones. Where it has no name there is 0, which stands
  -- for line 0.
  named_good : ((i : ℕ) → i < k → Good g (fact_in row i)) → Good g f → (a : ℕ) → a ≤ k → Good g (named_in row a)
  named_good earlier h a l = go (dec_lt (a - 1) k)
    where
      go : Dec (a - 1 < k) → Good g (named_in row a)
      go (yes u) = earlier (a - 1) u
      go (no u) = let z : k ≡ a - 1 = omega (arith, l, u) in subst (λ i. Good g (fact_in row i)) z h

  says_justified : ((i : ℕ) → i < k → Good g (fact_in row i)) → LineInForm g row k → Says (is_justified g v starts row k) (Justified g v starts row k)
  unfolding is_justified named line_at
  says_justified earlier x =
      let h = x.parts_good in
      let because = named_in row (because_at row k) in
      let n = good_normal g because (named_good earlier h (because_at row k) (because_earlier x.names_good)) in
      says_as
      (says_by (says_equal (rule_at row k) 0) (says-start t starts starts_good f h)
      (says_by (says_equal (rule_at row k) 1) (says_joined_either g because (named_in row (and_at row k)) f) (says_follows g v because (rule_at row k) f n)))
      by_rule_justified justified_by_rule

  -- where the lines before it have good facts
  pub says_stands : ((i : ℕ) → i < k → Good g (fact_in row i)) → Says (stands g v starts row k) (Standing g starts row k)
  unfolding stands line_at
  says_stands good =
      says_as (says_then (says_form t row k) (λ x. says_both (says-new t row k good f x.parts_good) (says_justified good x)))
      (λ x. record { in_form_holds = x.0; new = x.1.0; justified = x.1.1 }) (λ x. (x.in_form_holds, (x.new, x.justified)))

-- all of n lines stand exactly if the first bad one is behind them
module _ (good : ℕ → Bool) where
  all_pass : (k n : ℕ) → first_bad good k n ≡ k + n → (i : ℕ) → i < n → good (k + i) ≡ true
  unfolding first_bad
  all_pass k zero e i u = absurd (omega arith)
  all_pass k (suc n) e i u = go (good k) refl (λ r. all_pass (k + 1) n r)
    where
      at : good k ≡ true → ((i : ℕ) → i < n → good (k + 1 + i) ≡ true) → (i : ℕ) → i < suc n → good (k + i) ≡ true
      at h r zero w = let z : k + 0 ≡ k = omega arith in ap good z ∙ h
      at h r (suc i) w = let z : k + suc i ≡ k + 1 + i = omega arith in ap good z ∙ r i (omega arith)

      go : (b : Bool) → good k ≡ b → (first_bad good (k + 1) n ≡ k + 1 + n → (i : ℕ) → i < n → good (k + 1 + i) ≡ true) → good (k + i) ≡ true
      go true h r = let q : first_bad good (k + 1) n ≡ k + suc n = rw (h, first_bad) at e in at h (r (omega (arith, q))) i u
      go false h r = let q : k ≡ k + suc n = rw (h, first_bad) at e in absurd (omega (arith, q))

  pass_all : (k n : ℕ) → ((i : ℕ) → i < n → good (k + i) ≡ true) → first_bad good k n ≡ k + n
  unfolding first_bad
  pass_all k zero h = omega arith
  pass_all k (suc n) h =
      let z : k + 0 ≡ k = omega arith in
      let p : good k ≡ true = ap good (sym z) ∙ h 0 (omega arith) in
      let r : first_bad good (k + 1) n ≡ k + 1 + n = pass_all (k + 1) n (λ i u. let w : k + 1 + i ≡ k + suc i = omega arith in ap good w ∙ h (suc i) (omega (arith, u))) in
      rw (p, first_bad) (omega (arith, r))

  pub first_bad_none : (n : ℕ) → first_bad good 0 n ≡ n → (i : ℕ) → i < n → good i ≡ true
  first_bad_none n e i u = let z : i ≡ 0 + i = omega arith in ap good z ∙ all_pass 0 n (omega (arith, e)) i u

  pub none_first_bad : (n : ℕ) → ((i : ℕ) → i < n → good i ≡ true) → first_bad good 0 n ≡ n
  none_first_bad n h = omega (arith, pass_all 0 n (λ i u. let z : 0 + i ≡ i = omega arith in ap good z ∙ h i u))

-- all lines
module _ {numbers tables : List ℕ} (t : Loaded numbers tables) (starts : List Fact) (starts_good : HoldsStarts starts (Good (graph_in numbers))) (row : List ℕ) where
  form_good : (k : ℕ) → stands (graph_in numbers) (last_verdicts (graph_in numbers)) starts row k ≡ true → Good (graph_in numbers) (fact_in row k)
  unfolding stands
  form_good k e = ((says_form t row k).tells (both (in_form (graph_in numbers) row k) _ e).0).parts_good

  pub all_stand : (n : ℕ) → ((k : ℕ) → k < n → stands (graph_in numbers) (last_verdicts (graph_in numbers)) starts row k ≡ true) → (k : ℕ) → k < n → Standing (graph_in numbers) starts row k
  all_stand n h k u = (says_stands t starts starts_good row k (λ i w. form_good i (h i (omega (arith, w))))).tells (h k u)

  pub stand_all : (n : ℕ) → ((k : ℕ) → k < n → Standing (graph_in numbers) starts row k) → (k : ℕ) → k < n → stands (graph_in numbers) (last_verdicts (graph_in numbers)) starts row k ≡ true
  stand_all n h k u = (says_stands t starts starts_good row k (λ i w. (h i (omega (arith, w))).in_form_holds.parts_good)).holds (h k u)
