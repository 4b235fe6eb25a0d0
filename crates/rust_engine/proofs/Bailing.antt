-- A symbol that is pushed and checked: `push_symbol_and_check_cjs_bailout` asks for a checked use (K9).
use Rattle.std.proofs.Common.{◌≡◌, ℕ, zero, suc, ◌+◌, ◌-◌, ◌<◌, Bool, true, false, eqb, List, [], ◌∷◌, sym, refl, ap, ◌∙◌, subst, arith, eq-eqb, ne_eqb, eqb-true}
use mathlib.Core.Bool.{false≢true}
use borrow.Author.Tests.{eqb-false}
use Rattle.determine_side_effects.specs.graph_crate.Check.{Graph}
use Rattle.determine_side_effects.specs.graph_access_crate.Names.{owner, namespace, alias_namespace, alias_name, common_js_namespaces, namespace_symbol, namespace_module}
use Rattle.determine_side_effects.specs.graph_access_crate.Words.{root_of}
use Rattle.determine_side_effects.specs.graph_access_crate.Words.{symbol_of, module_of}
use Rattle.determine_side_effects.specs.facts_crate.declared.Fact.{Fact}
use Rattle.determine_side_effects.specs.facts_crate.Facts.{use_fact, checked_fact, bailout_fact}
use Rattle.determine_side_effects.specs.Effects.{last_verdicts}
use Rattle.linking_metadata.specs.Namespaces.{namespace_in, common_js_of, is_namespace}
use Rattle.keep_rules.specs.declared.Candidate.{Candidate}
use Rattle.keep_rules.specs.declared.Candidate.TheVariants.{Gives, Nothing}
use Rattle.keep_rules.specs.Rules.{bailout_candidate, default_alias, checked_candidate, segments_of}
use Rattle.rust_values.specs.Values.{Found, none, found, optional}
use Rattle.rust_engine.specs.Context.{Context, symbol_item, push, insert_bailout}
use Rattle.rust_engine.specs.Tables.{owner_of, canonical_ref_for, namespace_row, import_record_ns_to_cjs_module, is_module_namespace}
use Rattle.rust_engine.specs.Engine.{bailout_of, default_bailout, check_cjs_bailout, push_symbol_and_check_cjs_bailout}
use Rattle.rust_engine.proofs.Kept.{AllGiven, Kept₀}
use Rattle.rust_engine.proofs.Theorem.{Over, ClosedHere}
use Rattle.rust_engine.proofs.Views.{Holds, HoldsAll, given_segments, segments_given, holds_when, when_holds}
use Rattle.rust_engine.proofs.Asking.{Asks, asks_nothing, asks_then, asks_when, asks_as}
use Rattle.rust_engine.proofs.Inserting.{asks_push, asks_bailout}

-- an index that is there, or not
unfoldable is_found : Found → Bool
is_found none = false
is_found (found n) = true

unfoldable the_found : Found → ℕ
the_found none = 0
the_found (found n) = n

pub none_found : (n : ℕ) → none ≡ found n → ⊥
unfolding is_found
none_found n e = false≢true (ap (λ r. is_found r) e)

pub found_same : (m n : ℕ) → found m ≡ found n → m ≡ n
unfolding the_found
found_same m n e = ap (λ r. the_found r) e

pub suc_zero : (n : ℕ) → eqb (suc n) 0 ≡ false
suc_zero n = ne_eqb (suc n) 0 (λ e. omega (arith, e))

pub suc_eqb : (n k : ℕ) → eqb (suc n) (k + 1) ≡ eqb n k
suc_eqb n k = go (eqb n k) refl
  where
    go : (b : Bool) → eqb n k ≡ b → eqb (suc n) (k + 1) ≡ b
    go true e = eq-eqb (suc n) (k + 1) (omega (arith, eqb-true n k e))
    go false e = ne_eqb (suc n) (k + 1) (λ z. eqb-false n k e (omega (arith, z)))

pub less_one : (n : ℕ) → suc n - 1 ≡ n
less_one n = omega arith

pub plus_one : (n : ℕ) → optional (n + 1) ≡ found n
unfolding optional
plus_one n = let e : n + 1 ≡ suc n = omega arith in rw (e) refl

pub bailout_suc : (n : ℕ) → bailout_candidate (suc n) ≡ Gives (bailout_fact n)
unfolding bailout_candidate
bailout_suc n = rw (suc_zero n, bailout_candidate) (ap (λ x. Gives (bailout_fact x)) (less_one n))

-- by the last row that names it, in both
pub namespaces_same : (s n : ℕ) (rows : List (List ℕ)) → optional (namespace_in s n rows) ≡ namespace_row s (optional n) rows
unfolding namespace_in namespace_row optional
namespaces_same s n [] = refl
namespaces_same s n (row ∷ rows) =
    go (eqb (namespace_symbol row) s) (namespaces_same s (namespace_module row + 1) rows ∙ ap (λ r. namespace_row s r rows) (plus_one (namespace_module row)))
    (namespaces_same s n rows)
  where
    go : (b : Bool) → optional (namespace_in s (namespace_module row + 1) rows) ≡ namespace_row s (found (namespace_module row)) rows
        → optional (namespace_in s n rows) ≡ namespace_row s (optional n) rows
        → optional (namespace_in s (elim b [ true ↦ namespace_module row + 1 | false ↦ n ]) rows) ≡ namespace_row s
        (elim b [ true ↦ found (namespace_module row) | false ↦ optional n ]) rows
    go true a b = a
    go false a b = b

pub common_js_same : (g : Graph) (s : ℕ) → import_record_ns_to_cjs_module g s ≡ optional (common_js_of g s)
unfolding import_record_ns_to_cjs_module common_js_of optional
common_js_same g s = sym (namespaces_same s 0 (common_js_namespaces (module_of g (owner (symbol_of g s)))))

pub namespace_same : (g : Graph) (s : ℕ) → is_module_namespace g s ≡ is_namespace g s
unfolding is_module_namespace is_namespace optional
namespace_same g s = go (namespace (module_of g (owner (symbol_of g s))))
  where
    go : (n : ℕ) → (elim (optional n) [ none ↦ false | found k ↦ eqb k s ]) ≡ eqb n (s + 1)
    go zero = sym (ne_eqb 0 (s + 1) (λ e. omega (arith, e)))
    go (suc n) = sym (suc_eqb n s)

-- what `check_cjs_bailout` inserts
module _ (g : Graph) (P : Fact → Type 0) (s : ℕ) where
  abbrev pub OfNamespace : Type 0
  OfNamespace = (m : ℕ) → import_record_ns_to_cjs_module g (canonical_ref_for g s) ≡ found m → P (bailout_fact m)

  abbrev pub OfOwner : Type 0
  OfOwner = is_module_namespace g (canonical_ref_for g s) ≡ true → P (bailout_fact (owner_of g (canonical_ref_for g s)))

  abbrev pub OfDefault : Type 0
  OfDefault =
      (n : ℕ) → optional (alias_namespace (symbol_of g (canonical_ref_for g s))) ≡ found n → eqb (alias_name (symbol_of g (canonical_ref_for g s))) 0 ≡ true → (m : ℕ)
      → import_record_ns_to_cjs_module g n ≡ found m → P (bailout_fact m)

  abbrev pub Bails : Type 0
  Bails = (OfNamespace × OfOwner) × OfDefault

  from_bailout : (n : ℕ) → Holds P (bailout_candidate n) → (m : ℕ) → optional n ≡ found m → P (bailout_fact m)
  unfolding bailout_candidate optional
  from_bailout zero h m e = absurd (none_found m e)
  from_bailout (suc n) h m e = subst (λ x. P (bailout_fact x)) (found_same n m e) (rw (bailout_suc n) at h)

  to_bailout : (n : ℕ) → ((m : ℕ) → optional n ≡ found m → P (bailout_fact m)) → Holds P (bailout_candidate n)
  unfolding bailout_candidate optional
  to_bailout zero h = tt
  to_bailout (suc n) h = rw (bailout_suc n) (h n refl)

  abbrev root : ℕ
  root = root_of g.symbols s

  abbrev default_candidate : ℕ → Bool → Candidate
  default_candidate a b = elim (eqb a 0) [ true ↦ Nothing | false ↦ elim b [ true ↦ bailout_candidate (common_js_of g (a - 1)) | false ↦ Nothing ] ]

  default_suc : (a : ℕ) (b : Bool) → default_candidate (suc a) b ≡ elim b [ true ↦ bailout_candidate (common_js_of g a) | false ↦ Nothing ]
  default_suc a b = rw (suc_zero a, default_candidate) (go b)
    where
      go : (b : Bool) → ◌≡◌ {A = Candidate} (elim b [ true ↦ bailout_candidate (common_js_of g (suc a - 1)) | false ↦ Nothing ])
          (elim b [ true ↦ bailout_candidate (common_js_of g a) | false ↦ Nothing ])
      go true = ap (λ x. bailout_candidate (common_js_of g x)) (less_one a)
      go false = refl

  from_default : (a : ℕ) (b : Bool) → Holds P (default_candidate a b) → (n : ℕ) → optional a ≡ found n → b ≡ true → (m : ℕ)
      → import_record_ns_to_cjs_module g n ≡ found m → P (bailout_fact m)
  unfolding optional
  from_default zero b h n e q m f = absurd (none_found n e)
  from_default (suc a) true h n e q m f =
      from_bailout (common_js_of g a) (subst (λ p. Holds P p) (default_suc a true) h) m
      (sym (common_js_same g a) ∙ (ap (λ x. import_record_ns_to_cjs_module g x) (found_same a n e) ∙ f))
  from_default (suc a) false h n e q m f = absurd (false≢true q)

  to_default : (a : ℕ) (b : Bool) → ((n : ℕ) → optional a ≡ found n → b ≡ true → (m : ℕ) → import_record_ns_to_cjs_module g n ≡ found m → P (bailout_fact m))
      → Holds P (default_candidate a b)
  unfolding optional
  to_default zero b h = tt
  to_default (suc a) true h = subst (λ p. Holds P p) (sym (default_suc a true)) (to_bailout (common_js_of g a) (λ m e. h a refl refl m (common_js_same g a ∙ e)))
  to_default (suc a) false h = subst (λ p. Holds P p) (sym (default_suc a false)) tt

  pub from_checked : (x : ℕ) → HoldsAll P (segments_of g (last_verdicts g) (checked_fact s x)) → P (use_fact s x) × Bails
  unfolding segments_of checked_candidate default_alias
  from_checked x h = (
    h.0 0 (omega arith),
    (
      (
        λ m e. from_bailout (common_js_of g root) (h.0 1 (omega arith)) m (sym (common_js_same g root) ∙ e),
        λ e. holds_when P (is_namespace g root) (bailout_fact (owner (symbol_of g root))) (h.0 2 (omega arith)) (sym (namespace_same g root) ∙ e),
      ),
      from_default (alias_namespace (symbol_of g root)) (eqb (alias_name (symbol_of g root)) 0) (h.0 3 (omega arith)),
    ),
  )

  pub to_checked : (x : ℕ) → P (use_fact s x) → Bails → HoldsAll P (segments_of g (last_verdicts g) (checked_fact s x))
  unfolding segments_of checked_candidate default_alias
  to_checked x u b = (λ k l. place k l, tt)
    where
      place : (k : ℕ) → k < 4 → Holds P (checked_candidate g s x k)
      place zero l = u
      place (suc zero) l = to_bailout (common_js_of g root) (λ m e. b.0.0 m (common_js_same g root ∙ e))
      place (suc (suc zero)) l = when_holds P (is_namespace g root) (bailout_fact (owner (symbol_of g root))) (λ e. b.0.1 (namespace_same g root ∙ e))
      place (suc (suc (suc zero))) l = to_default (alias_namespace (symbol_of g root)) (eqb (alias_name (symbol_of g root)) 0) b.1
      place (suc (suc (suc (suc k)))) l = absurd (omega (arith, l))

module _ (g : Graph) where
  abbrev v : List ℕ
  v = last_verdicts g

  asks_bailout_of : (r : Found) (c : Context) → Asks g v (λ w. (m : ℕ) → r ≡ found m → w.fact (bailout_fact m)) c (bailout_of r c)
  unfolding bailout_of
  asks_bailout_of none c =
      asks_as g v (λ w. Unit {0}) (λ w. (m : ℕ) → none ≡ found m → w.fact (bailout_fact m)) c c (λ w q. tt) (λ w p m e. absurd (none_found m e))
      (asks_nothing g v c)
  asks_bailout_of (found n) c =
      asks_as g v (λ w. w.fact (bailout_fact n)) (λ w. (m : ℕ) → found n ≡ found m → w.fact (bailout_fact m)) c (insert_bailout n c) (λ w q. q n refl)
      (λ w p m e. subst (λ x. w.fact (bailout_fact x)) (found_same n m e) p) (asks_bailout g v n c)

  asks_default : (root : ℕ) (r : Found) (c : Context)
      → Asks g v (λ w. (n : ℕ) → r ≡ found n → eqb (alias_name (symbol_of g root)) 0 ≡ true → (m : ℕ) → import_record_ns_to_cjs_module g n ≡ found m
      → w.fact (bailout_fact m)) c (default_bailout g root r c)
  unfolding default_bailout
  asks_default root none c =
      asks_as g v (λ w. Unit {0}) (λ w. (n : ℕ) → none ≡ found n → eqb (alias_name (symbol_of g root)) 0 ≡ true → (m : ℕ)
      → import_record_ns_to_cjs_module g n ≡ found m → w.fact (bailout_fact m)) c c
      (λ w q. tt) (λ w p n e. absurd (none_found n e)) (asks_nothing g v c)
  asks_default root (found a) c =
      asks_as g v (λ w. eqb (alias_name (symbol_of g root)) 0 ≡ true → (m : ℕ) → import_record_ns_to_cjs_module g a ≡ found m → w.fact (bailout_fact m))
      (λ w. (n : ℕ) → found a ≡ found n → eqb (alias_name (symbol_of g root)) 0 ≡ true → (m : ℕ) → import_record_ns_to_cjs_module g n ≡ found m → w.fact (bailout_fact m))
      c (elim (eqb (alias_name (symbol_of g root)) 0) [ true ↦ bailout_of (import_record_ns_to_cjs_module g a) c | false ↦ c ]) (λ w q. q a refl)
      (λ w p n e. subst (λ x. eqb (alias_name (symbol_of g root)) 0 ≡ true → (m : ℕ) → import_record_ns_to_cjs_module g x ≡ found m → w.fact (bailout_fact m))
      (found_same a n e) p)
      (asks_when g v (eqb (alias_name (symbol_of g root)) 0) (λ w. (m : ℕ) → import_record_ns_to_cjs_module g a ≡ found m → w.fact (bailout_fact m))
      (bailout_of (import_record_ns_to_cjs_module g a)) c
      (λ e. asks_bailout_of (import_record_ns_to_cjs_module g a) c))

  pub asks_check : (s : ℕ) (c : Context) → Asks g v (λ w. Bails g w.fact s) c (check_cjs_bailout g s c)
  unfolding check_cjs_bailout
  asks_check s c =
      asks_then g v (λ w. OfNamespace g w.fact s × OfOwner g w.fact s) (λ w. OfDefault g w.fact s) c _ _
      (asks_then g v (λ w. OfNamespace g w.fact s) (λ w. OfOwner g w.fact s) c _ _ (asks_bailout_of (import_record_ns_to_cjs_module g (canonical_ref_for g s)) c)
      (asks_when g v (is_module_namespace g (canonical_ref_for g s)) (λ w. w.fact (bailout_fact (owner_of g (canonical_ref_for g s))))
      (insert_bailout (owner_of g (canonical_ref_for g s))) _
      (λ e. asks_bailout g v (owner_of g (canonical_ref_for g s)) _)))
      (asks_default (canonical_ref_for g s) (optional (alias_namespace (symbol_of g (canonical_ref_for g s)))) _)

  closed_checked : (S : Over) → ClosedHere g S → (s x : ℕ) → S.choice (checked_fact s x) → AllGiven g v S.choice (checked_fact s x)
  closed_checked S k s x h i u = k.by_K2_to_K14 (checked_fact s x) i h (λ z. z) u

  -- push_symbol_and_check_cjs_bailout: a checked use
  pub asks_checked : (s x : ℕ) (c : Context) → Asks g v (λ w. w.fact (checked_fact s x)) c (push_symbol_and_check_cjs_bailout g s x c)
  unfolding push_symbol_and_check_cjs_bailout
  asks_checked s x c =
      let a = asks_then g v (λ w. w.fact (use_fact s x)) (λ w. Bails g w.fact s) c _ _ (asks_push g v (symbol_item s x) c)
      (asks_check s (push (symbol_item s x) c)) in
      record {
        grown = a.grown;
        within = λ S k p w. a.within S k (from_checked g S.choice s x (given_segments S.choice g v (checked_fact s x) (closed_checked S k s x p))) w;
        keeps =
            λ taken uses e f h. let r = a.keeps taken uses e f h in segments_given (Kept₀ g v taken uses e) g v (checked_fact s x)
            (to_checked g (Kept₀ g v taken uses e) s x r.0 r.1);
        pushes = λ e h. (a.pushes e h).0;
      }
