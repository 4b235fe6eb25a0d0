-- A use that a use gives, by the rules and by its place in the list of consequences.
use Prim.Native.Nat.{ℕ, ◌<◌}
use mathlib.Core.Path.{◌≡◌, refl, ap, ◌∙◌, sym, subst}
use mathlib.Core.Logic.{◌⊎◌, inl, inr}
use mathlib.Core.List.{List}
use native.Mathlib.Omega.{arith}
use lib.ListN.{length, get_or}
use Rattle.determine_side_effects.specs.graph_crate.Check.{Graph}
use Rattle.determine_side_effects.specs.facts_crate.declared.Fact.{Fact}
use Rattle.determine_side_effects.specs.facts_crate.Facts.{kind_of, use_fact}
use Rattle.determine_side_effects.specs.Effects.{last_verdicts}
use Rattle.keep_rules.specs.Rules.{gives}
use Rattle.closed_choices.specs.Choice.{nothing_given}
use Rattle.rule_relation.specs.Relation.{Gives}
use Rattle.rule_relation.specs.Relation.{K2_effect, K2_eval, K2_unforced, K2_forced, K3_effects, K3_whole, K4, K5, K6, K7, K8_forward, K8_use, K8_depended, K8_target, K8_member, K9_use, K9_namespace, K9_own, K9_default, K10, K11, K12_use, K12_forward, K13_statement, K13_module, K14}
use Rattle.rule_relation.specs.Same.{Listed}
use Rattle.rule_relation.proofs.Exactly.{gives_exactly, given_listed}
use Rattle.rust_returns.specs.Circle.{GivesUse, by_alias, by_wrapper}

-- only K11 and K12 give a use from a use
by_two_rules : {g : Graph} {v : List ℕ} {r : ℕ} {f e : Fact} → Gives g v r f e → kind_of f ≡ 3 → kind_of e ≡ 3 → (r ≡ 11) ⊎ (r ≡ 12)
by_two_rules (K2_effect m i s h b e w) p q = absurd (omega (arith, p))
by_two_rules (K2_eval m i s h b e f) p q = absurd (omega (arith, p))
by_two_rules (K2_unforced m i s h b f) p q = absurd (omega (arith, p))
by_two_rules (K2_forced m i s h b f) p q = absurd (omega (arith, p))
by_two_rules (K3_effects m k d s l w n e) p q = absurd (omega (arith, p))
by_two_rules (K3_whole m k d s l w n o) p q = absurd (omega (arith, p))
by_two_rules (K4 m k s e t l) p q = absurd (omega (arith, p))
by_two_rules (K5 m k s l) p q = absurd (omega (arith, p))
by_two_rules (K6 m s o n x) p q = absurd (omega (arith, p))
by_two_rules (K7 m i k t l b) p q = absurd (omega (arith, p))
by_two_rules (K8_forward m i k f l w a) p q = absurd (omega (arith, p))
by_two_rules (K8_use m i k x l w r) p q = absurd (omega (arith, p))
by_two_rules (K8_depended m i k j l w u) p q = absurd (omega (arith, p))
by_two_rules (K8_target m i k x l w f r) p q = absurd (omega (arith, p))
by_two_rules (K8_member m i k x l w f r) p q = absurd (omega (arith, p))
by_two_rules (K9_use s x) p q = absurd (omega (arith, p))
by_two_rules (K9_namespace s x n w) p q = absurd (omega (arith, p))
by_two_rules (K9_own s x o) p q = absurd (omega (arith, p))
by_two_rules (K9_default s x a n w d c) p q = absurd (omega (arith, p))
by_two_rules (K10 s x b i h f w l e) p q = absurd (omega (arith, q))
by_two_rules (K11 s x a n e h w c t d y) p q = inl refl
by_two_rules (K12_use s x w h d) p q = inr refl
by_two_rules (K12_forward s x w f h d a) p q = absurd (omega (arith, q))
by_two_rules (K13_statement s x k h n l) p q = absurd (omega (arith, q))
by_two_rules (K13_module s x h n d) p q = absurd (omega (arith, q))
by_two_rules (K14 s x k h o n l) p q = absurd (omega (arith, q))

module _ (g : Graph) (s x t y : ℕ) where
  -- a place of the list where the use stands
  pub record Place : Type 0 where
    pub place : ℕ
    pub inside : place < length (gives g (last_verdicts g) (use_fact s x))
    pub is : (get_or (gives g (last_verdicts g) (use_fact s x)) place nothing_given).fact ≡ use_fact t y

  of_rule : (r : ℕ) → Gives g (last_verdicts g) r (use_fact s x) (use_fact t y) → GivesUse g s x t y
  of_rule r h = go (by_two_rules h refl refl)
    where
      go : (r ≡ 11) ⊎ (r ≡ 12) → GivesUse g s x t y
      go (inl e) = by_alias (subst (λ k. Gives g (last_verdicts g) k (use_fact s x) (use_fact t y)) e h)
      go (inr e) = by_wrapper (subst (λ k. Gives g (last_verdicts g) k (use_fact s x) (use_fact t y)) e h)

  pub at_place : Place → GivesUse g s x t y
  unfolding nothing_given
  at_place k =
      let c = get_or (gives g (last_verdicts g) (use_fact s x)) k.place nothing_given in
      let h : Gives g (last_verdicts g) c.rule (use_fact s x) c.fact =
      (gives_exactly g (last_verdicts g) c.rule (use_fact s x) c.fact tt).0 (record { number = k.place; inside = k.inside; is = refl }) in
      of_rule c.rule (subst (λ f. Gives g (last_verdicts g) c.rule (use_fact s x) f) k.is h)

  listed_place : (r : ℕ) → Listed r (use_fact t y) (gives g (last_verdicts g) (use_fact s x)) → Place
  unfolding nothing_given
  listed_place r l = record { place = l.number; inside = l.inside; is = ap (λ z. z.fact) l.is }

  pub placed : GivesUse g s x t y → Place
  placed (by_alias h) = listed_place 11 (given_listed g (last_verdicts g) h)
  placed (by_wrapper h) = listed_place 12 (given_listed g (last_verdicts g) h)
