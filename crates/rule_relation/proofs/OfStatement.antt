-- K7 and K8, from a statement.
use Prim.Native.Nat.{ℕ, ◌+◌, ◌-◌, ◌<◌}
use mathlib.Core.Path.{◌≡◌, refl}
use mathlib.Core.Bool.{Bool, true, false, ◌&&◌, ◌||◌, not, false≢true}
use mathlib.Core.List.{List, []}
use native.Mathlib.Omega.{arith}
use borrow.Author.Tests.{eqb-true, eqb-false, eq-eqb, ne_eqb, ltb-true, lt-ltb, le-ltb}
use lib.Dec.{eqb, ltb}
use lib.ListN.{length, get_or}
use Rattle.determine_side_effects.specs.graph_crate.Check.{Graph}
use Rattle.determine_side_effects.specs.graph_access_crate.Names.{exports, module_type, flags, reexport_count, enum_members, import_record_target, import_record_kind, import_record_bits, enum_name, enum_member, owner, symbol_name, statement_import_records, references, reference_kind, reference_symbol, reference_flag, property_count, first_property, depended_on}
use Rattle.determine_side_effects.specs.graph_access_crate.Words.{flag, module_of, symbol_of, statement_of, normal}
use Rattle.determine_side_effects.specs.facts_crate.declared.Fact.{Fact}
use Rattle.determine_side_effects.specs.facts_crate.Facts.{statement_fact, use_fact, checked_fact, forward_fact, bailout_fact}
use Rattle.determine_side_effects.specs.Effects.{has_effects}
use Rattle.keep_rules.specs.Rules.{bails_out, import_record_of, import_record_candidate, reason_of, inlined, forwards, forward_candidate, plain_candidate, resolved_candidate, reference_candidates, reference_candidate, reference_segment, statement_segments}
use Rattle.rule_relation.specs.Relation.{BailsOut, record_at, reference_at, Reasoned, Inlined, Plain, Along, Gives, bits_at, root_symbol}
use Rattle.rule_relation.specs.Relation.{normal_use, reexport, json_use, json_reexport, symbol, object, K7, K8_forward, K8_use, K8_depended, K8_target, K8_member}
use Rattle.rule_relation.proofs.Tests.{Says, says_as, says_it, says_equal, says_less, says_not, says_both, says_if_or, says_if_and, says_some, denies, denied}
use Rattle.rule_relation.proofs.Listing.{Only, only_fact, only_if, only_when, Picks, when_true, OnlySegments, only-map, Offered, here, there, offered_map}
use Rattle.rule_relation.proofs.Forwards.{forward_only, along_at}

-- K7
module _ (g : Graph) (v : List ℕ) (m : ℕ) (row : List ℕ) where
  abbrev target : ℕ
  target = import_record_target row - 1

  says_bails_out : Says (bails_out g v m row) (BailsOut g v m row target)
  unfolding bails_out
  says_bails_out = go (eqb (import_record_target row) 0) refl
    where
      go : (b : Bool) → eqb (import_record_target row) 0 ≡ b
          → Says (elim b [ true ↦ false | false ↦ normal g target && (eqb (exports (module_of g target)) 1 && (not (eqb (import_record_kind row) 0) && (not (flag 1 (import_record_bits row) && not (has_effects v target)) && (not (flag 2 (flags (module_of g m))) || ltb 1 (reexport_count (module_of g m)))))) ]) (BailsOut g v m row target)
      go true e = record { tells = λ t. absurd (false≢true t); holds = λ x. absurd (omega (arith, x.resolved, eqb-true (import_record_target row) 0 e)) }
      go false e =
          says_as
          (says_both (says_it (normal g target)) (says_both (says_equal (exports (module_of g target)) 1) (says_both (says_not (says_equal (import_record_kind row) 0))
          (says_both (says_if_and (says_it (flag 1 (import_record_bits row))) (says_it (has_effects v target))) (says_if_or (says_it (flag 2 (flags (module_of g m)))) (says_less 1 (reexport_count (module_of g m))))))))
          (λ x. record { resolved = omega (arith, eqb-false (import_record_target row) 0 e); is_normal = x.0; common_js = x.1.0; no_import = x.1.1.0; wanted = x.1.1.1.0; one_of_several = λ f. omega (arith, x.1.1.1.1 f) })
          (λ x. (x.is_normal, (x.common_js, (x.no_import, (x.wanted, (λ f. omega (arith, x.one_of_several f)))))))

-- what a reference's tests say
module _ (g : Graph) (m i : ℕ) where
  reasoned : Reasoned g m i (reason_of g m i)
  unfolding reason_of
  reasoned = go (flag 3 (bits_at g m i)) refl (eqb (module_type (module_of g m)) 2) refl
    where
      go : (a : Bool) → flag 3 (bits_at g m i) ≡ a → (b : Bool) → eqb (module_type (module_of g m)) 2 ≡ b → Reasoned g m i (elim a [ true ↦ 4 | false ↦ 1 ] + elim b [ true ↦ 8 | false ↦ 0 ])
      go true p true q = json_reexport p (eqb-true (module_type (module_of g m)) 2 q)
      go true p false q = reexport p (eqb-false (module_type (module_of g m)) 2 q)
      go false p true q = json_use p (eqb-true (module_type (module_of g m)) 2 q)
      go false p false q = normal_use p (eqb-false (module_type (module_of g m)) 2 q)

  reason_is : {x : ℕ} → Reasoned g m i x → reason_of g m i ≡ x
  unfolding reason_of
  reason_is (normal_use p h) = rw (p, ne_eqb (module_type (module_of g m)) 2 h)
  reason_is (reexport p h) = rw (p, ne_eqb (module_type (module_of g m)) 2 h)
  reason_is (json_use p h) = rw (p, eq-eqb (module_type (module_of g m)) 2 h)
  reason_is (json_reexport p h) = rw (p, eq-eqb (module_type (module_of g m)) 2 h)

module _ (g : Graph) (row : List ℕ) where
  abbrev root : ℕ
  root = root_symbol g (reference_symbol row)

  says_inlined : Says (inlined g row) (Inlined g row)
  unfolding inlined
  says_inlined =
      says_as (says_both (says_it (normal g (owner (symbol_of g root)))) (says_both (says_equal (reference_flag row) 0) (says_both (says_equal (property_count row) 1)
      (says_some _ [] (enum_members (module_of g (owner (symbol_of g root)))) (λ e. says_both (says_equal (enum_name e) (symbol_name (symbol_of g root))) (says_equal (enum_member e) (first_property row)))))))
      (λ x. let k = x.1.1.1 in record { is_normal = x.0; is_read = x.1.0; one_property = x.1.1.0; member = k.0; listed = k.1; of_enum = k.2.0; is_member = k.2.1 })
      (λ x. (x.is_normal, (x.is_read, (x.one_property, (x.member, x.listed, (x.of_enum, x.is_member))))))

  -- a reference that has candidates is plain, or a resolved member
  plain_counted : (k : ℕ) → eqb (reference_kind row) 2 ≡ false → k < reference_candidates g row → Plain g row
  unfolding reference_candidates
  plain_counted k q u = go (eqb (reference_kind row) 0) refl (eqb (reference_kind row) 1) refl (inlined g row) refl
    where
      go : (a : Bool) → eqb (reference_kind row) 0 ≡ a → (b : Bool) → eqb (reference_kind row) 1 ≡ b → (c : Bool) → inlined g row ≡ c → Plain g row
      go true p b r c t = symbol (eqb-true (reference_kind row) 0 p)
      go false p true r c t = let w : k < 0 = rw (p, r, reference_candidates) at u in absurd (omega (arith, w))
      go false p false r true t = let w : k < 0 = rw (p, r, q, t, reference_candidates) at u in absurd (omega (arith, w))
      go false p false r false t = object (omega (arith, eqb-false (reference_kind row) 0 p, eqb-false (reference_kind row) 1 r, eqb-false (reference_kind row) 2 q)) (denies says_inlined t)

  plain_kind : Plain g row → eqb (reference_kind row) 2 ≡ false
  plain_kind (symbol e) = rw e
  plain_kind (object l h) = ne_eqb (reference_kind row) 2 (λ e. omega (arith, l, e))

  plain_counts : (k : ℕ) → Plain g row → k < forwards g (reference_symbol row) + 1 → k < reference_candidates g row
  unfolding reference_candidates
  plain_counts k (symbol e) u = rw (e, reference_candidates) u
  plain_counts k (object l h) u =
      rw (ne_eqb (reference_kind row) 0 (λ e. omega (arith, l, e)), ne_eqb (reference_kind row) 1 (λ e. omega (arith, l, e)), ne_eqb (reference_kind row) 2 (λ e. omega (arith, l, e)), denied says_inlined h, reference_candidates) u

  resolved_counts : (k : ℕ) → reference_kind row ≡ 2 → k < length (depended_on row) + 1 → k < reference_candidates g row
  unfolding reference_candidates
  resolved_counts k e u = rw (e, e, e, reference_candidates) u

-- what the segments give, and that what the relation says is there
module _ (g : Graph) (v : List ℕ) (m i : ℕ) where
  record_only : (k : ℕ) → k < length (statement_import_records (statement_of g m i)) → Only (Gives g v 7 (statement_fact m i)) (import_record_candidate g v m i k)
  unfolding import_record_candidate import_record_of
  record_only k l = let row = record_at g m i k in only_when (bails_out g v m row) (bailout_fact (import_record_target row - 1)) (λ e. K7 m i k (import_record_target row - 1) l ((says_bails_out g v m row).tells e))

  pub record_offered : (k t : ℕ) → k < length (statement_import_records (statement_of g m i)) → BailsOut g v m (record_at g m i k) t → Offered 7 (bailout_fact t) (statement_segments g v m i)
  unfolding statement_segments import_record_candidate import_record_of
  record_offered k t l b = here refl k l (go (omega (arith, b.resolved)) b)
    where
      go : import_record_target (record_at g m i k) - 1 ≡ t → BailsOut g v m (record_at g m i k) t → Picks (import_record_candidate g v m i k) (bailout_fact t)
      go same b = rw (← same) (when_true (bailout_fact (import_record_target (record_at g m i k) - 1)) ((says_bails_out g v m (record_at g m i k)).holds (rw (← same) at b)))

  -- reference k
  module _ (k : ℕ) (l : k < length (references (statement_of g m i))) where
    abbrev row : List ℕ
    row = reference_at g m i k

    resolved-only : reference_kind row ≡ 2 → (j : ℕ) → Only (Gives g v 8 (statement_fact m i)) (resolved_candidate row (reason_of g m i) j)
    unfolding resolved_candidate
    resolved-only q j =
        only_if (ltb j (length (depended_on row))) (λ e. only_fact (K8_depended m i k j l q (ltb-true j (length (depended_on row)) e)))
        (λ e. only_if (eqb (reference_flag row) 1) (λ t. only_fact (K8_target m i k (reason_of g m i) l q (eqb-true (reference_flag row) 1 t) (reasoned g m i)))
        (λ t. only_fact (K8_member m i k (reason_of g m i) l q (eqb-false (reference_flag row) 1 t) (reasoned g m i))))

    plain-only : Plain g row → (j : ℕ) → Only (Gives g v 8 (statement_fact m i)) (plain_candidate g (reference_symbol row) (reason_of g m i) j)
    unfolding plain_candidate
    plain-only p j =
        let s = reference_symbol row in
        only_if (ltb j (forwards g s)) (λ e. forward_only g s j (ltb-true j (forwards g s) e) (λ f a. K8_forward m i k f l p a)) (λ e. only_fact (K8_use m i k (reason_of g m i) l p (reasoned g m i)))

    reference-only : (j : ℕ) → j < reference_candidates g row → Only (Gives g v 8 (statement_fact m i)) (reference_candidate g (reason_of g m i) row j)
    unfolding reference_candidate
    reference-only j u = only_if (eqb (reference_kind row) 2) (λ e. resolved-only (eqb-true (reference_kind row) 2 e) j) (λ e. plain-only (plain_counted g row j e u) j)

    reference-offered : {e : Fact} (j : ℕ) → j < reference_candidates g row → Picks (reference_candidate g (reason_of g m i) row j) e → Offered 8 e (statement_segments g v m i)
    unfolding statement_segments reference_segment
    reference-offered j u is = there (offered_map (reference_segment g (reason_of g m i)) [] (references (statement_of g m i)) k l refl j u is)

    pub forward-offered : {f : ℕ} → Plain g row → Along g (reference_symbol row) f → Offered 8 (forward_fact f) (statement_segments g v m i)
    unfolding reference_candidate plain_candidate
    forward-offered {f} p a =
        let x = along_at g (reference_symbol row) a in
        reference-offered x.place (plain_counts g row x.place p (omega (arith, x.inside)))
        (go x.place x.inside x.is)
      where
        go : (j : ℕ) → j < forwards g (reference_symbol row) → Picks (forward_candidate g (reference_symbol row) j) (forward_fact f) → Picks (reference_candidate g (reason_of g m i) row j) (forward_fact f)
        go j u is = rw (plain_kind g row p, lt-ltb j (forwards g (reference_symbol row)) u, plain_candidate, reference_candidate) is

    pub use-offered : {x : ℕ} → Plain g row → Reasoned g m i x → Offered 8 (checked_fact (reference_symbol row) x) (statement_segments g v m i)
    unfolding reference_candidate plain_candidate
    use-offered p r =
        let n = forwards g (reference_symbol row) in
        reference-offered n (plain_counts g row n p (omega arith)) (rw (plain_kind g row p, le-ltb n n (omega arith), reason_is g m i r, plain_candidate, reference_candidate))

    pub depended-offered : (j : ℕ) → reference_kind row ≡ 2 → j < length (depended_on row) → Offered 8 (forward_fact (get_or (depended_on row) j 0)) (statement_segments g v m i)
    unfolding reference_candidate resolved_candidate
    depended-offered j q u = reference-offered j (resolved_counts g row j q (omega arith)) (rw (q, lt-ltb j (length (depended_on row)) u, resolved_candidate, reference_candidate))

    pub target-offered : {x : ℕ} → reference_kind row ≡ 2 → reference_flag row ≡ 1 → Reasoned g m i x → Offered 8 (use_fact (reference_symbol row) x) (statement_segments g v m i)
    unfolding reference_candidate resolved_candidate
    target-offered q f r =
        let n = length (depended_on row) in
        reference-offered n (resolved_counts g row n q (omega arith)) (rw (q, le-ltb n n (omega arith), f, reason_is g m i r, resolved_candidate, reference_candidate))

    pub member-offered : {x : ℕ} → reference_kind row ≡ 2 → (reference_flag row ≡ 1 → ⊥) → Reasoned g m i x → Offered 8 (checked_fact (reference_symbol row) x) (statement_segments g v m i)
    unfolding reference_candidate resolved_candidate
    member-offered q f r =
        let n = length (depended_on row) in
        reference-offered n (resolved_counts g row n q (omega arith)) (rw (q, le-ltb n n (omega arith), ne_eqb (reference_flag row) 1 f, reason_is g m i r, resolved_candidate, reference_candidate))

  pub statement_only : OnlySegments (λ r. Gives g v r (statement_fact m i)) (statement_segments g v m i)
  unfolding statement_segments reference_segment
  statement_only = (record_only, only-map (reference_segment g (reason_of g m i)) [] (λ r. Gives g v r (statement_fact m i)) (references (statement_of g m i)) reference-only)
