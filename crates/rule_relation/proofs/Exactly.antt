-- The list of consequences is the relation.
use Prim.Native.Nat.{ℕ}
use mathlib.Core.Path.{◌≡◌, refl}
use mathlib.Core.Logic.{inl, inr}
use mathlib.Core.Bool.{Bool, true, false}
use mathlib.Core.List.{List, [], ◌∷◌}
use borrow.Author.Tests.{not-true}
use Rattle.determine_side_effects.specs.graph_crate.Check.{Graph}
use Rattle.determine_side_effects.specs.facts_crate.declared.Fact.{Fact}
use Rattle.determine_side_effects.specs.facts_crate.declared.Fact.TheVariants.{Module, Statement, Use, CheckedUse, Forward, Bailout}
use Rattle.determine_side_effects.specs.facts_crate.Facts.{module_fact, statement_fact, use_fact, checked_fact}
use Rattle.keep_rules.specs.Rules.{segment, quiet_runtime, checked_candidate, bypassed, module_segments, statement_segments, use_segments, segments_of, gives}
use Rattle.rule_relation.specs.Relation.{Sweeps, Follows, Gives}
use Rattle.rule_relation.specs.Relation.{K2_effect, K2_eval, K2_unforced, K2_forced, K3_effects, K3_whole, K4, K5, K6, K7, K8_forward, K8_use, K8_depended, K8_target, K8_member, K9_use, K9_namespace, K9_own, K9_default, K10, K11, K12_use, K12_forward, K13_statement, K13_module, K14}
use Rattle.rule_relation.specs.Same.{Listed, OfNormal, GivesExactly}
use Rattle.rule_relation.proofs.Tests.{denies, denied}
use Rattle.rule_relation.proofs.Listing.{OnlySegments, given_only, Offered, offered_given}
use Rattle.rule_relation.proofs.OfModule as of_module
use Rattle.rule_relation.proofs.OfStatement as of_statement
use Rattle.rule_relation.proofs.OfSymbol as of-symbol

module _ (g : Graph) (v : List ℕ) where
  -- what is listed is given, except from an external module: its segments are read without asking what it is
  segments_only : (f : Fact) → OfNormal g f → OnlySegments (λ r. Gives g v r f) (segments_of g v f)
  unfolding segments_of
  segments_only (Module m) n = go (quiet_runtime g v m.0) refl
    where
      go : (b : Bool) → quiet_runtime g v m.0 ≡ b → OnlySegments (λ r. Gives g v r (Module m)) (elim b [ true ↦ [] | false ↦ module_segments g v m.0 ])
      go true e = tt
      go false e = of_module.module-only g v m.0 (record { is_normal = n; no_quiet_runtime = (of_module.says_no_quiet_runtime g v m.0).tells (rw e) })
  segments_only (Statement m i) n = of_statement.statement_only g v m.0 i.0
  segments_only (CheckedUse s x) n = of-symbol.checked_segments_only g v s.0 x.bits
  segments_only (Use s x) n = go (bypassed g s.0 x.bits) refl
    where
      go : (b : Bool) → bypassed g s.0 x.bits ≡ b → OnlySegments (λ r. Gives g v r (Use s x)) (elim b [ true ↦ [] | false ↦ use_segments g v s.0 x.bits ])
      go true e = tt
      go false e = of-symbol.use_only g v s.0 x.bits (denies (of-symbol.says_bypassed g s.0 x.bits) e)
  segments_only (Forward s) n = tt
  segments_only (Bailout m) n = tt

  listed_given : (r : ℕ) (f e : Fact) → OfNormal g f → Listed r e (gives g v f) → Gives g v r f e
  unfolding gives
  listed_given r f e n l = given_only (λ r. Gives g v r f) (segments_of g v f) (segments_only f n) r e l

  -- what is given is listed, from every fact
  module _ {r : ℕ} {e : Fact} where
    in-module : (m : ℕ) → Sweeps g v m → Offered r e (module_segments g v m) → Listed r e (gives g v (module_fact m))
    unfolding gives segments_of
    in-module m s o = let q : quiet_runtime g v m ≡ false = not-true (quiet_runtime g v m) ((of_module.says_no_quiet_runtime g v m).holds s.no_quiet_runtime) in offered_given (segments_of g v (module_fact m)) (rw (q, segments_of) o)

    in-statement : (m i : ℕ) → Offered r e (statement_segments g v m i) → Listed r e (gives g v (statement_fact m i))
    unfolding gives segments_of
    in-statement m i o = offered_given (statement_segments g v m i) o

    in-checked : (s x : ℕ) → Offered r e (segment 9 4 (checked_candidate g s x) ∷ []) → Listed r e (gives g v (checked_fact s x))
    unfolding gives segments_of
    in-checked s x o = offered_given (segment 9 4 (checked_candidate g s x) ∷ []) o

    in_use : (s x : ℕ) → Follows g s x → Offered r e (use_segments g v s x) → Listed r e (gives g v (use_fact s x))
    unfolding gives segments_of
    in_use s x h o = offered_given (segments_of g v (use_fact s x)) (rw (denied (of-symbol.says_bypassed g s x) h, segments_of) o)

  pub given_listed : {r : ℕ} {f e : Fact} → Gives g v r f e → Listed r e (gives g v f)
  given_listed (K2_effect m i s h b e w) = in-module m s (of_module.effect_offered g v m i h b e w)
  given_listed (K2_eval m i s h b e f) = in-module m s (of_module.eval_offered g v m i h b e f)
  given_listed (K2_unforced m i s h b f) = in-module m s (of_module.unforced_offered g v m i h b f)
  given_listed (K2_forced m i s h b f) = in-module m s (of_module.forced_offered g v m i h b f)
  given_listed (K3_effects m k d s l q n e) = in-module m s (of_module.dependency_offered g v m k d l q n (inr e))
  given_listed (K3_whole m k d s l q n o) = in-module m s (of_module.dependency_offered g v m k d l q n (inl o))
  given_listed (K4 m k s e t l) = in-module m s (of_module.import_offered g v m k e t l)
  given_listed (K5 m k s l) = in-module m s (of_module.export_symbol_offered g v m k l)
  given_listed (K6 m s o n x) = in-module m s (of_module.dev_offered g v m o n x)
  given_listed (K7 m i k t l b) = in-statement m i (of_statement.record_offered g v m i k t l b)
  given_listed (K8_forward m i k f l p a) = in-statement m i (of_statement.forward-offered g v m i k l p a)
  given_listed (K8_use m i k x l p r) = in-statement m i (of_statement.use-offered g v m i k l p r)
  given_listed (K8_depended m i k j l q u) = in-statement m i (of_statement.depended-offered g v m i k l j q u)
  given_listed (K8_target m i k x l q f r) = in-statement m i (of_statement.target-offered g v m i k l q f r)
  given_listed (K8_member m i k x l q f r) = in-statement m i (of_statement.member-offered g v m i k l q f r)
  given_listed (K9_use s x) = in-checked s x (of-symbol.checked_use_offered g v s x)
  given_listed (K9_namespace s x n q) = in-checked s x (of-symbol.namespace_offered g v s x q)
  given_listed (K9_own s x o) = in-checked s x (of-symbol.own_offered g v s x o)
  given_listed (K9_default s x a n q d c) = in-checked s x (of-symbol.default_offered g v s x q d c)
  given_listed (K10 s x b i h f q l e) = in_use s x h (of-symbol.demand_offered g v s x b i f q l e)
  given_listed (K11 s x a n e h q c t d y) = in_use s x h (of-symbol.alias_offered g v s x q c t d y)
  given_listed (K12_use s x w h d) = in_use s x h (of-symbol.wrapper_use_offered g v s x d)
  given_listed (K12_forward s x w f h d a) = in_use s x h (of-symbol.wrapper_forward_offered g v s x d a)
  given_listed (K13_statement s x k h n l) = in_use s x h (of-symbol.declared_offered g v s x k n l)
  given_listed (K13_module s x h n d) = in_use s x h (of-symbol.owner_offered g v s x n d)
  given_listed (K14 s x k h o n l) = in_use s x h (of-symbol.write_offered g v s x k o n l)

pub gives_exactly : GivesExactly
gives_exactly g v r f e n = (listed_given g v r f e n, given_listed g v)
