-- K9 from a checked use, K10 to K14 from a use.
use Prim.Native.Nat.{ℕ, suc, ◌+◌, ◌-◌, ◌<◌}
use mathlib.Core.Path.{◌≡◌, refl, sym, ◌∙◌}
use mathlib.Core.Bool.{Bool, true, false, ◌&&◌, not, false≢true}
use mathlib.Core.List.{List, [], ◌∷◌}
use native.Mathlib.Omega.{arith}
use borrow.Author.Tests.{eqb-true, eqb-false, ne_eqb, ltb-true, lt-ltb, le-ltb}
use lib.Dec.{eqb, ltb, eqb-suc-zero}
use lib.ListN.{length, get_or}
use Rattle.determine_side_effects.specs.graph_crate.Check.{Graph}
use Rattle.determine_side_effects.specs.graph_access_crate.Names.{wrap, wrapper, namespace, resolved_exports, only, owner, alias_namespace, alias_name, constant_bits, declaring_statements, written_property_statements}
use Rattle.determine_side_effects.specs.graph_access_crate.Words.{flag, module_of, symbol_of, statement_list, normal, option}
use Rattle.determine_side_effects.specs.facts_crate.declared.Fact.{Fact}
use Rattle.determine_side_effects.specs.facts_crate.Facts.{module_fact, statement_fact, use_fact, checked_fact, forward_fact, bailout_fact}
use Rattle.on_demand.specs.Demand.{gated, body_of}
use Rattle.linking_metadata.specs.Namespaces.{common_js_of, is_namespace, target_of}
use Rattle.keep_rules.specs.Rules.{segment, forwards, bailout_candidate, default_alias, checked_candidate, bypassed, demanded, demand_candidates, demand_candidate, export_of, export_candidate, alias_candidate, needs_wrapper, wrapper_candidates, wrapper_candidate, declaration_candidates, declaration_candidate, write_candidates, write_candidate, use_segments}
use Rattle.rule_relation.specs.Relation.{root_symbol, Along, Bypassed, Follows, OwnersNamespace, Wrapped, Gives}
use Rattle.rule_relation.specs.Relation.{K9_use, K9_namespace, K9_own, K9_default, K10, K11, K12_use, K12_forward, K13_statement, K13_module, K14}
use Rattle.rule_relation.proofs.Tests.{Says, says_as, says_it, says_equal, says_false, says_not, says_both, says_if_or, denied}
use Rattle.rule_relation.proofs.Listing.{Only, only_fact, only_nothing, only_if, only_when, only_there, Picks, when_true, picks_there, first, counted, counts, OnlySegments, Offered, here, there}
use Rattle.rule_relation.proofs.Forwards.{less_one, less, forward_only, along_at}

-- the tests
module _ (g : Graph) where
  says_namespace : (s : ℕ) → Says (is_namespace g s) (OwnersNamespace g s)
  unfolding is_namespace
  says_namespace s = says_as (says_equal (namespace (module_of g (owner (symbol_of g s)))) (s + 1)) (λ e. omega (arith, e)) (λ e. omega (arith, e))

  pub says_bypassed : (s x : ℕ) → Says (bypassed g s x) (Bypassed g s x)
  unfolding bypassed
  says_bypassed s x =
      let bits = constant_bits (symbol_of g (root_symbol g s)) in
      says_as (says_both (says_it (flag 0 bits)) (says_both (says_false (flag 2 bits)) (says_both (says_false (flag 1 x)) (says_if_or (says_it (option g 1)) (says_it (flag 1 bits))))))
      (λ h. record { known = h.0; no_common_js = h.1.0; no_entry = h.1.1.0; inlines = h.1.1.1 })
      (λ h. (h.known, (h.no_common_js, (h.no_entry, h.inlines))))

  -- the wrapper, by 1 more than its symbol
  abbrev wrapper_of : ℕ → ℕ
  wrapper_of t = wrapper (module_of g (owner (symbol_of g t)))

  says_wrapped : (t : ℕ) → Says (needs_wrapper g t) (Wrapped g t (wrapper_of t - 1))
  unfolding needs_wrapper
  says_wrapped t =
      says_as (says_both (says_it (normal g (owner (symbol_of g t)))) (says_both (says_equal (wrap (module_of g (owner (symbol_of g t)))) 2) (says_both (says_not (says_equal (wrapper_of t) 0)) (says_not (says_equal (wrapper_of t) (t + 1))))))
      (λ h. record { is_normal = h.0; is_esm = h.1.0; is_wrapper = omega (arith, h.1.1.0); another = λ e. h.1.1.1 (omega (arith, e, h.1.1.0)) })
      (λ h. (h.is_normal, (h.is_esm, ((λ e. omega (arith, e, h.is_wrapper)), (λ e. h.another (omega (arith, e, h.is_wrapper)))))))

  says_owner : (t x : ℕ) → Says (not (is_namespace g t && flag 4 x)) (OwnersNamespace g t → flag 4 x ≡ false)
  says_owner t x =
      says_as (says_not (says_both (says_namespace t) (says_it (flag 4 x))))
      (λ h o. denied (says_it (flag 4 x)) (λ f. h (o, f))) (λ h y. false≢true (sym (h y.0) ∙ y.1))

  says_writes : (s : ℕ) → Says (option g 3 && normal g (owner (symbol_of g s))) ((option g 3 ≡ true) × (normal g (owner (symbol_of g s)) ≡ true))
  says_writes s = says_both (says_it (option g 3)) (says_it (normal g (owner (symbol_of g s))))

-- K9
bailout_only : {P : Fact → Type 0} (n : ℕ) → ((j : ℕ) → n ≡ suc j → P (bailout_fact j)) → Only P (bailout_candidate n)
unfolding bailout_candidate
bailout_only n h = only_there n (λ q. only_fact (h (n - 1) q))

bailout_picks : {n j : ℕ} → n ≡ suc j → Picks (bailout_candidate n) (bailout_fact j)
unfolding bailout_candidate
bailout_picks q = picks_there q (rw (less q))

module _ (g : Graph) (v : List ℕ) (s x : ℕ) where
  abbrev root : ℕ
  root = root_symbol g s

  default_only : Only (Gives g v 9 (checked_fact s x)) (default_alias g root)
  unfolding default_alias
  default_only =
      let a = alias_namespace (symbol_of g root) in
      only_there a (λ q. only_if (eqb (alias_name (symbol_of g root)) 0) (λ t. bailout_only (common_js_of g (a - 1)) (λ n c. K9_default s x (a - 1) n q (eqb-true (alias_name (symbol_of g root)) 0 t) c)) (λ t. only_nothing))

  checked_only : (k : ℕ) → Only (Gives g v 9 (checked_fact s x)) (checked_candidate g s x k)
  unfolding checked_candidate
  checked_only k =
      only_if (eqb k 0) (λ e. only_fact (K9_use s x))
      (λ e. only_if (eqb k 1) (λ e. bailout_only (common_js_of g root) (λ n q. K9_namespace s x n q))
      (λ e. only_if (eqb k 2) (λ e. only_when (is_namespace g root) (bailout_fact (owner (symbol_of g root))) (λ t. K9_own s x ((says_namespace g root).tells t))) (λ e. default_only)))

  pub checked_segments_only : OnlySegments (λ r. Gives g v r (checked_fact s x)) (segment 9 4 (checked_candidate g s x) ∷ [])
  checked_segments_only = ((λ k u. checked_only k), tt)

  checked_offered : {e : Fact} (k : ℕ) → k < 4 → Picks (checked_candidate g s x k) e → Offered 9 e (segment 9 4 (checked_candidate g s x) ∷ [])
  checked_offered k u is = here refl k u is

  pub checked_use_offered : Offered 9 (use_fact s x) (segment 9 4 (checked_candidate g s x) ∷ [])
  unfolding checked_candidate
  checked_use_offered = checked_offered 0 (omega arith) refl

  pub namespace_offered : {n : ℕ} → common_js_of g root ≡ suc n → Offered 9 (bailout_fact n) (segment 9 4 (checked_candidate g s x) ∷ [])
  unfolding checked_candidate
  namespace_offered q = checked_offered 1 (omega arith) (bailout_picks q)

  pub own_offered : OwnersNamespace g root → Offered 9 (bailout_fact (owner (symbol_of g root))) (segment 9 4 (checked_candidate g s x) ∷ [])
  unfolding checked_candidate
  own_offered o = checked_offered 2 (omega arith) (when_true (bailout_fact (owner (symbol_of g root))) ((says_namespace g root).holds o))

  pub default_offered : {a n : ℕ} → alias_namespace (symbol_of g root) ≡ suc a → alias_name (symbol_of g root) ≡ 0 → common_js_of g a ≡ suc n
      → Offered 9 (bailout_fact n) (segment 9 4 (checked_candidate g s x) ∷ [])
  unfolding checked_candidate default_alias
  default_offered {a} {n} q d c = checked_offered 3 (omega arith) (picks_there q (rw (d, less q) (bailout_picks c)))

-- K10
module _ (g : Graph) where
  demanded_is : (v : List ℕ) (s x b : ℕ) → demanded g v s x ≡ suc b → (flag 4 x ≡ false) × (body_of g v (root_symbol g s) ≡ suc b)
  unfolding demanded
  demanded_is v s x b q = go (flag 4 x) q
    where
      go : (c : Bool) → elim c [ true ↦ 0 | false ↦ body_of g v (root_symbol g s) ] ≡ suc b → (c ≡ false) × (body_of g v (root_symbol g s) ≡ suc b)
      go true e = absurd (omega (arith, e))
      go false e = (refl, e)

  is_demanded : (v : List ℕ) (s x b : ℕ) → flag 4 x ≡ false → body_of g v (root_symbol g s) ≡ suc b → demanded g v s x ≡ suc b
  unfolding demanded
  is_demanded v s x b f q = rw (f, demanded) q

  demand_counted : (body i : ℕ) → i < demand_candidates g body → (body ≡ suc (body - 1)) × (i < length (statement_list g (body - 1)))
  unfolding demand_candidates
  demand_counted body i u = go (eqb body 0) refl u
    where
      go : (c : Bool) → eqb body 0 ≡ c → i < elim c [ true ↦ 0 | false ↦ length (statement_list g (body - 1)) ] → (body ≡ suc (body - 1)) × (i < length (statement_list g (body - 1)))
      go true e w = absurd (omega (arith, w))
      go false e w = (omega (arith, eqb-false body 0 e), w)

  demand_counts : (body b i : ℕ) → body ≡ suc b → i < length (statement_list g b) → i < demand_candidates g body
  unfolding demand_candidates
  demand_counts body b i q u = rw (ne_eqb body 0 (λ e. omega (arith, e, q)), less q, demand_candidates) u

  demand_picks : (body b i : ℕ) → body ≡ suc b → gated g b i ≡ true → Picks (demand_candidate g body i) (statement_fact b i)
  unfolding demand_candidate
  demand_picks body b i q e = rw (less q) (when_true (statement_fact b i) e)

  -- K11
  export_picks : (name n k e : ℕ) → n ≡ suc k → normal g k ≡ true → (name ≡ 0 → ⊥) → export_of name (resolved_exports (module_of g k)) ≡ suc e → Picks (export_candidate g name n) (use_fact e 1)
  unfolding export_candidate
  export_picks name n k e q t h x = picks_there q (rw (less q, t, ne_eqb name 0 h, less q) (picks_there x (rw (less q, less x))))

  alias_picks : (root k a n e : ℕ) → alias_namespace (symbol_of g root) ≡ suc a → common_js_of g a ≡ suc n → normal g n ≡ true → (alias_name (symbol_of g root) ≡ 0 → ⊥)
      → export_of (alias_name (symbol_of g root)) (resolved_exports (module_of g n)) ≡ suc e → Picks (alias_candidate g root k) (use_fact e 1)
  unfolding alias_candidate
  alias_picks root k a n e q c t h x = picks_there q (rw (less q) (export_picks (alias_name (symbol_of g root)) (common_js_of g a) n e c t h x))

-- what the segments of a use give
module _ (g : Graph) (v : List ℕ) (s x : ℕ) (h : Follows g s x) where
  abbrev of_use : ℕ → Fact → Type 0
  of_use r = Gives g v r (use_fact s x)

  demand_only : (i : ℕ) → i < demand_candidates g (demanded g v s x) → Only (of_use 10) (demand_candidate g (demanded g v s x) i)
  unfolding demand_candidate
  demand_only i u =
      let b = demanded g v s x - 1 in
      let c = demand_counted g (demanded g v s x) i u in
      let d = demanded_is g v s x b c.0 in
      only_when (gated g b i) (statement_fact b i) (λ e. K10 s x b i h d.0 d.1 c.1 e)

  export_only : (a n : ℕ) → alias_namespace (symbol_of g (root_symbol g s)) ≡ suc a → common_js_of g a ≡ n → Only (of_use 11) (export_candidate g (alias_name (symbol_of g (root_symbol g s))) n)
  unfolding export_candidate
  export_only a n q c =
      let name = alias_name (symbol_of g (root_symbol g s)) in
      only_there n (λ d. only_if (normal g (n - 1)) (λ t. only_if (eqb name 0) (λ z. only_nothing)
      (λ z. only_there (export_of name (resolved_exports (module_of g (n - 1)))) (λ e. only_fact (K11 s x a (n - 1) (export_of name (resolved_exports (module_of g (n - 1))) - 1) h q (c ∙ d) t (eqb-false name 0 z) e)))) (λ t. only_nothing))

  alias_only : (k : ℕ) → Only (of_use 11) (alias_candidate g (root_symbol g s) k)
  unfolding alias_candidate
  alias_only k = let a = alias_namespace (symbol_of g (root_symbol g s)) in only_there a (λ q. export_only (a - 1) (common_js_of g (a - 1)) q refl)

  wrapper_only : (k : ℕ) → k < wrapper_candidates g s (target_of g s) → Only (of_use 12) (wrapper_candidate g s (target_of g s) k)
  unfolding wrapper_candidates wrapper_candidate
  wrapper_only k u =
      let t = target_of g s in
      let c = counted (needs_wrapper g t) u in
      let w = (says_wrapped g t).tells c.0 in
      only_if (eqb k 0) (λ e. only_fact (K12_use s x (wrapper_of g t - 1) h w)) (λ e. forward_only g s (k - 1) (omega (arith, c.1, eqb-false k 0 e)) (λ f a. K12_forward s x (wrapper_of g t - 1) f h w a))

  declaration_only : (k : ℕ) → k < declaration_candidates g (target_of g s) → Only (of_use 13) (declaration_candidate g (target_of g s) x k)
  unfolding declaration_candidates declaration_candidate
  declaration_only k u =
      let t = target_of g s in
      let c = counted (normal g (owner (symbol_of g t))) u in
      let n = length (declaring_statements (symbol_of g t)) in
      only_if (ltb k n) (λ e. only_fact (K13_statement s x k h c.0 (ltb-true k n e)))
      (λ e. only_when (not (is_namespace g t && flag 4 x)) (module_fact (owner (symbol_of g t))) (λ e. K13_module s x h c.0 ((says_owner g t x).tells e)))

  write_only : (k : ℕ) → k < write_candidates g s → Only (of_use 14) (write_candidate g s k)
  unfolding write_candidates write_candidate
  write_only k u =
      let c = counted (option g 3 && normal g (owner (symbol_of g s))) u in
      only_fact (K14 s x k h ((says_writes g s).tells c.0).0 ((says_writes g s).tells c.0).1 c.1)

  pub use_only : OnlySegments of_use (use_segments g v s x)
  unfolding use_segments
  use_only = (demand_only, ((λ k u. alias_only k), (wrapper_only, (declaration_only, (write_only, tt)))))

-- what the relation says is there
module _ (g : Graph) (v : List ℕ) (s x : ℕ) where
  pub demand_offered : (b i : ℕ) → flag 4 x ≡ false → body_of g v (root_symbol g s) ≡ suc b → i < length (statement_list g b) → gated g b i ≡ true
      → Offered 10 (statement_fact b i) (use_segments g v s x)
  unfolding use_segments
  demand_offered b i f q l e = let d = is_demanded g v s x b f q in here refl i (demand_counts g (demanded g v s x) b i d l) (demand_picks g (demanded g v s x) b i d e)

  pub alias_offered : {a n e : ℕ} → alias_namespace (symbol_of g (root_symbol g s)) ≡ suc a → common_js_of g a ≡ suc n → normal g n ≡ true
      → (alias_name (symbol_of g (root_symbol g s)) ≡ 0 → ⊥) → export_of (alias_name (symbol_of g (root_symbol g s))) (resolved_exports (module_of g n)) ≡ suc e
      → Offered 11 (use_fact e 1) (use_segments g v s x)
  unfolding use_segments
  alias_offered {a} {n} {e} q c t h y = there (here refl 0 first (alias_picks g (root_symbol g s) 0 a n e q c t h y))

  -- K12
  abbrev target : ℕ
  target = target_of g s

  wrapper_offered : {w : ℕ} {e : Fact} (k : ℕ) → Wrapped g target w → k < 1 + forwards g s → Picks (wrapper_candidate g s target k) e → Offered 12 e (use_segments g v s x)
  unfolding use_segments wrapper_candidates
  wrapper_offered {w} k h u is = there (there (here refl k (counts ((says_wrapped g target).holds (rw (← less h.is_wrapper) at h)) u) is))

  pub wrapper_use_offered : {w : ℕ} → Wrapped g target w → Offered 12 (use_fact w 1) (use_segments g v s x)
  unfolding wrapper_candidate
  wrapper_use_offered h = wrapper_offered 0 h (omega arith) (rw (less h.is_wrapper))

  pub wrapper_forward_offered : {w f : ℕ} → Wrapped g target w → Along g s f → Offered 12 (forward_fact f) (use_segments g v s x)
  unfolding wrapper_candidate
  wrapper_forward_offered {w} {f} h a = let y = along_at g s a in wrapper_offered (suc y.place) h (omega (arith, y.inside)) (rw (eqb-suc-zero y.place, less_one y.place, wrapper_candidate) y.is)

  -- K13
  abbrev many : ℕ
  many = length (declaring_statements (symbol_of g target))

  declaration_offered : {e : Fact} (k : ℕ) → normal g (owner (symbol_of g target)) ≡ true → k < many + 1 → Picks (declaration_candidate g target x k) e → Offered 13 e (use_segments g v s x)
  unfolding use_segments declaration_candidates
  declaration_offered k n u is = there (there (there (here refl k (counts n u) is)))

  pub declared_offered : (k : ℕ) → normal g (owner (symbol_of g target)) ≡ true → k < length (declaring_statements (symbol_of g target))
      → Offered 13 (statement_fact (owner (symbol_of g target)) (only (get_or (declaring_statements (symbol_of g target)) k []))) (use_segments g v s x)
  unfolding declaration_candidate
  declared_offered k n l = declaration_offered k n (omega arith) (rw (lt-ltb k many l, declaration_candidate))

  pub owner_offered : normal g (owner (symbol_of g target)) ≡ true → (OwnersNamespace g target → flag 4 x ≡ false) → Offered 13 (module_fact (owner (symbol_of g target))) (use_segments g v s x)
  unfolding declaration_candidate
  owner_offered n h = declaration_offered many n (omega arith) (rw (le-ltb many many (omega arith), declaration_candidate) (when_true (module_fact (owner (symbol_of g target))) ((says_owner g target x).holds h)))

  -- K14
  pub write_offered : (k : ℕ) → option g 3 ≡ true → normal g (owner (symbol_of g s)) ≡ true → k < length (written_property_statements (symbol_of g s))
      → Offered 14 (statement_fact (owner (symbol_of g s)) (only (get_or (written_property_statements (symbol_of g s)) k []))) (use_segments g v s x)
  unfolding use_segments write_candidates write_candidate
  write_offered k o n l = there (there (there (there (here refl k (counts ((says_writes g s).holds (o, n)) l) refl))))
