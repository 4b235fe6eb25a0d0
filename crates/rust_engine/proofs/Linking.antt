-- What the bodies ask for and what the rules give are the same: statements (K7, K8).
use Rattle.std.proofs.Common.{◌≡◌, ℕ, zero, suc, ◌+◌, ◌-◌, ◌<◌, Bool, true, false, not, ◌&&◌, ◌||◌, eqb, ltb, List, [], ◌∷◌, map, length, get_or, sym, refl, ap, ◌∙◌, subst, inl, inr, arith, le-ltb, lt-ltb, ne_eqb, eqb-true}
use mathlib.Core.Bool.{false≢true}
use native.Mathlib.Decide.{dec_lt}
use Rattle.determine_side_effects.specs.graph_crate.Check.{Graph}
use Rattle.determine_side_effects.specs.graph_access_crate.Names.{exports, module_type, flags, reexport_count, import_records, only, import_record_target, import_record_kind, import_record_bits, export_chain, statement_bits, statement_import_records, references, reference_kind, reference_symbol, reference_flag, depended_on}
use Rattle.determine_side_effects.specs.graph_access_crate.Words.{flag, symbol_of, module_of, statement_of, normal}
use Rattle.determine_side_effects.specs.facts_crate.declared.Fact.{Fact}
use Rattle.determine_side_effects.specs.facts_crate.Facts.{statement_fact, checked_fact, forward_fact, bailout_fact}
use Rattle.determine_side_effects.specs.Effects.{last_verdicts, has_effects, effectful}
use Rattle.keep_rules.specs.Rules.{import_record_of, bails_out, import_record_candidate, reason_of, inlined, forwards, forward_candidate, plain_candidate, resolved_candidate, reference_candidates, reference_candidate, reference_segment, statement_segments, segments_of}
use Rattle.rust_values.specs.Values.{In, Found, none, found, optional, is_empty}
use Rattle.rust_engine.specs.Tables.{has_side_effects}
use Rattle.rust_engine.specs.Engine.{is_inlined_enum_member_access, include_kind}
use Rattle.rust_engine.proofs.Kept.{AllGiven}
use Rattle.rust_engine.proofs.Views.{Holds, HoldsAll, given_segments, segments_given, holds_when, when_holds}
use Rattle.rust_values.proofs.Members.{in_at, at_in}
use Rattle.rust_engine.proofs.Asking.{World}
use Rattle.rust_engine.proofs.Bailing.{none_found, found_same, suc_zero, less_one}
use Rattle.rust_engine.proofs.Demanding.{both, and_true}
use Rattle.rust_engine.proofs.Statements.{Scans, ResolvedUse, Reference, StatementAsks}

-- lists by index and by element
pub by_index : {A : Type 0} (Q : A → Type 0) (xs : List A) (d : A) → ((x : A) → In x xs → Q x) → (k : ℕ) → k < length xs → Q (get_or xs k d)
by_index Q xs d h k u = h (get_or xs k d) (in_at xs d k u)

pub by_element : {A : Type 0} (Q : A → Type 0) (xs : List A) (d : A) → ((k : ℕ) → k < length xs → Q (get_or xs k d)) → (x : A) → In x xs → Q x
by_element Q xs d h x q = let r = at_in x xs d q in subst Q r.is (h r.place r.inside)

pub effects_same : (v : List ℕ) (m : ℕ) → has_side_effects v m ≡ has_effects v m
unfolding has_side_effects has_effects effectful
effects_same v m = refl

pub neither : (a b : Bool) → not (not a || b) ≡ true → (a ≡ true) × (not b ≡ true)
neither true b e = (refl, e)
neither false b e = absurd (false≢true e)

pub no_either : (a b : Bool) → a ≡ true → not b ≡ true → not (not a || b) ≡ true
no_either true b e f = f
no_either false b e f = absurd (false≢true e)

module _ (g : Graph) (P : Fact → Type 0) where
  abbrev v : List ℕ
  v = last_verdicts g

  -- K7, one record
  module _ (m : ℕ) (row : List ℕ) where
    abbrev Test : ℕ → Bool
    Test t =
        normal g t && (eqb (exports (module_of g t)) 1 && (not (eqb (import_record_kind row) 0)
        && (not (flag 1 (import_record_bits row) && not (has_effects v t)) && (not (flag 2 (flags (module_of g m))) || ltb 1 (reexport_count (module_of g m))))))

    abbrev TestAt : ℕ → Bool
    TestAt n = elim (eqb n 0) [ true ↦ false | false ↦ Test (n - 1) ]

    test-suc : (t : ℕ) → TestAt (suc t) ≡ Test t
    test-suc t = rw (suc_zero t, TestAt) (ap (λ x. Test x) (less_one t))

    abbrev ScansP : Found → Type 0
    ScansP r = (t : ℕ) → r ≡ found t → normal g t ≡ true → not (not (eqb (exports (module_of g t)) 1) || eqb (import_record_kind row) 0) ≡ true
        → not (flag 1 (import_record_bits row) && not (has_side_effects v t)) ≡ true
        → (not (flag 2 (flags (module_of g m))) || ltb 1 (reexport_count (module_of g m))) ≡ true → P (bailout_fact t)

    scan-from : (n : ℕ) → (TestAt n ≡ true → P (bailout_fact (n - 1))) → ScansP (optional n)
    unfolding optional
    scan-from zero h t e a b c d = absurd (none_found t e)
    scan-from (suc n) h t e a b c d =
        let z = neither (eqb (exports (module_of g t)) 1) (eqb (import_record_kind row) 0) b in
        let q : Test t ≡ true = and_true _ _ a (and_true _ _ z.0
        (and_true _ _ z.1 (and_true _ _ (subst (λ x. not (flag 1 (import_record_bits row) && not x) ≡ true) (effects_same v t) c) d))) in
        subst (λ x. P (bailout_fact x)) (less_one n ∙ found_same n t e) (h (test-suc n ∙ (ap (λ x. Test x) (found_same n t e) ∙ q)))

    scan-to : (n : ℕ) → ScansP (optional n) → TestAt n ≡ true → P (bailout_fact (n - 1))
    unfolding optional
    scan-to zero h e = absurd (false≢true e)
    scan-to (suc n) h e =
        let q : Test n ≡ true = sym (test-suc n) ∙ e in
        let a = both _ _ q in
        let b = both _ _ a.1 in
        let c = both _ _ b.1 in
        let d = both _ _ c.1 in
        subst (λ x. P (bailout_fact x)) (sym (less_one n))
        (h n refl a.0 (no_either (eqb (exports (module_of g n)) 1) (eqb (import_record_kind row) 0) b.0 c.0)
        (subst (λ x. not (flag 1 (import_record_bits row) && not x) ≡ true) (sym (effects_same v n)) d.0) d.1)

  -- a symbol's forwards
  abbrev Chain : ℕ → Type 0
  Chain s = P (forward_fact s) × ((row : List ℕ) → In row (export_chain (symbol_of g s)) → P (forward_fact (only row)))

  pub forwards_from : (s : ℕ) → ((k : ℕ) → k < forwards g s → Holds P (forward_candidate g s k)) → Chain s
  unfolding forwards forward_candidate
  forwards_from s h =
      (h 0 (omega arith), by_element (λ row. P (forward_fact (only row))) (export_chain (symbol_of g s)) [] (λ k u. at k u (h (suc k) (omega (arith, u)))))
    where
      at : (k : ℕ) → k < length (export_chain (symbol_of g s)) → Holds P (forward_candidate g s (suc k))
          → P (forward_fact (only (get_or (export_chain (symbol_of g s)) k [])))
      at k u q = rw (suc_zero k, forward_candidate, less_one k) at q

  pub forwards_to : (s : ℕ) → Chain s → (k : ℕ) → k < forwards g s → Holds P (forward_candidate g s k)
  unfolding forwards forward_candidate
  forwards_to s h zero u = h.0
  forwards_to s h (suc k) u =
      rw (suc_zero k, forward_candidate, less_one k) (by_index (λ row. P (forward_fact (only row))) (export_chain (symbol_of g s)) [] h.1 k (omega (arith, u)))

  -- K8, one reference
  module _ (x : ℕ) (row : List ℕ) where
    abbrev s : ℕ
    s = reference_symbol row

    abbrev UseP : Bool → Type 0
    UseP b = ResolvedUse g b s x P

    plain-from : ((k : ℕ) → k < forwards g s + 1 → Holds P (plain_candidate g s x k)) → Chain s × P (checked_fact s x)
    unfolding plain_candidate
    plain-from h = (forwards_from s (λ k u. early k u (h k (omega (arith, u)))), late (h (forwards g s) (omega arith)))
      where
        early : (k : ℕ) → k < forwards g s → Holds P (plain_candidate g s x k) → Holds P (forward_candidate g s k)
        early k u q = rw (lt-ltb k (forwards g s) u, plain_candidate) at q

        late : Holds P (plain_candidate g s x (forwards g s)) → P (checked_fact s x)
        late q = rw (le-ltb (forwards g s) (forwards g s) (omega arith), plain_candidate) at q

    plain-to : Chain s → P (checked_fact s x) → (k : ℕ) → k < forwards g s + 1 → Holds P (plain_candidate g s x k)
    unfolding plain_candidate
    plain-to a b k u =
        elim (dec_lt k (forwards g s)) [
          | yes z ↦ rw (lt-ltb k (forwards g s) z, plain_candidate) (forwards_to s a k z)
          | no z ↦ rw
              (le-ltb k (forwards g s) (omega (arith, z)), plain_candidate) b
        ]

    resolved-from : ((k : ℕ) → k < length (depended_on row) + 1 → Holds P (resolved_candidate row x k))
        → ((t : ℕ) → In t (depended_on row) → P (forward_fact t)) × UseP (eqb (reference_flag row) 1)
    unfolding resolved_candidate
    resolved-from h = (
      by_element (λ t. P (forward_fact t)) (depended_on row) 0 (λ k u. early k u (h k (omega (arith, u)))),
      late (eqb (reference_flag row) 1) refl
          (h (length (depended_on row)) (omega arith)),
    )
      where
        early : (k : ℕ) → k < length (depended_on row) → Holds P (resolved_candidate row x k) → P (forward_fact (get_or (depended_on row) k 0))
        early k u q = rw (lt-ltb k (length (depended_on row)) u, resolved_candidate) at q

        late : (b : Bool) → eqb (reference_flag row) 1 ≡ b → Holds P (resolved_candidate row x (length (depended_on row))) → UseP b
        late true e q = rw (le-ltb (length (depended_on row)) (length (depended_on row)) (omega arith), e, resolved_candidate) at q
        late false e q = rw (le-ltb (length (depended_on row)) (length (depended_on row)) (omega arith), e, resolved_candidate) at q

    resolved-to : ((t : ℕ) → In t (depended_on row) → P (forward_fact t)) → UseP (eqb (reference_flag row) 1) → (k : ℕ) → k < length (depended_on row) + 1
        → Holds P (resolved_candidate row x k)
    unfolding resolved_candidate
    resolved-to a b k u =
        elim (dec_lt k (length (depended_on row))) [
          | yes z ↦ rw (lt-ltb k (length (depended_on row)) z, resolved_candidate) (by_index (λ t. P (forward_fact t)) (depended_on row) 0 a k z)
          | no z ↦ late z (eqb (reference_flag row) 1) refl b
        ]
      where
        late : (k < length (depended_on row) → ⊥) → (q : Bool) → eqb (reference_flag row) 1 ≡ q → UseP q → Holds P (resolved_candidate row x k)
        late z true e b = rw (le-ltb k (length (depended_on row)) (omega (arith, z)), e, resolved_candidate) b
        late z false e b = rw (le-ltb k (length (depended_on row)) (omega (arith, z)), e, resolved_candidate) b

    -- by the kind of the reference
    abbrev ReferenceP : Bool → Bool → Bool → Bool → Type 0
    ReferenceP p q r t =
        elim p [
          | true ↦ Chain s × P (checked_fact s x)
          | false ↦ elim q [
            | true ↦ Unit {0}
            | false ↦ elim r [
              | true ↦ ((t : ℕ) → In t (depended_on row) → P (forward_fact t)) × UseP (eqb (reference_flag row) 1)
              | false ↦ elim t [ true ↦ Unit {0} | false ↦ Chain s × P (checked_fact s x) ]
            ]
          ]
        ]

    abbrev SegmentP : Type 0
    SegmentP = (k : ℕ) → k < reference_candidates g row → Holds P (reference_candidate g x row k)

    not_both : eqb (reference_kind row) 0 ≡ true → eqb (reference_kind row) 2 ≡ false
    not_both e = ne_eqb (reference_kind row) 2 (λ z. let a : reference_kind row ≡ 0 = eqb-true (reference_kind row) 0 e in omega (arith, a, z))

    reference-from : (p q r t : Bool) → eqb (reference_kind row) 0 ≡ p → eqb (reference_kind row) 1 ≡ q → eqb (reference_kind row) 2 ≡ r → inlined g row ≡ t
        → SegmentP → ReferenceP p q r t
    unfolding reference_candidates reference_candidate
    reference-from true q r t a b c d h = plain-from (λ k u. rw (not_both a, reference_candidate) at (h k (rw (a, reference_candidates) u)))
    reference-from false true r t a b c d h = tt
    reference-from false false true t a b c d h = resolved-from (λ k u. rw (c, reference_candidate) at (h k (rw (a, b, c, reference_candidates) u)))
    reference-from false false false true a b c d h = tt
    reference-from false false false false a b c d h = plain-from (λ k u. rw (c, reference_candidate) at (h k (rw (a, b, c, d, reference_candidates) u)))

    reference-to : (p q r t : Bool) → eqb (reference_kind row) 0 ≡ p → eqb (reference_kind row) 1 ≡ q → eqb (reference_kind row) 2 ≡ r → inlined g row ≡ t
        → ReferenceP p q r t → SegmentP
    unfolding reference_candidates reference_candidate
    reference-to true q r t a b c d h k u = rw (not_both a, reference_candidate) (plain-to h.0 h.1 k (rw (a, reference_candidates) at u))
    reference-to false true r t a b c d h k u = absurd (none (rw (a, b, reference_candidates) at u))
      where
        none : k < 0 → ⊥
        none z = omega (arith, z)
    reference-to false false true t a b c d h k u = rw (c, reference_candidate) (resolved-to h.0 h.1 k (rw (a, b, c, reference_candidates) at u))
    reference-to false false false true a b c d h k u = absurd (none (rw (a, b, c, d, reference_candidates) at u))
      where
        none : k < 0 → ⊥
        none z = omega (arith, z)
    reference-to false false false false a b c d h k u = rw (c, reference_candidate) (plain-to h.0 h.1 k (rw (a, b, c, d, reference_candidates) at u))

  references_from : (x : ℕ) (rows : List (List ℕ)) → HoldsAll P (map (reference_segment g x) rows) → (row : List ℕ) → In row rows → SegmentP x row
  unfolding reference_segment
  references_from x [] h row q = absurd q
  references_from x (r ∷ rows) h row (inl e) = subst (λ z. SegmentP x z) (sym e) h.0
  references_from x (r ∷ rows) h row (inr q) = references_from x rows h.1 row q

  references_to : (x : ℕ) (rows : List (List ℕ)) → ((row : List ℕ) → In row rows → SegmentP x row) → HoldsAll P (map (reference_segment g x) rows)
  unfolding reference_segment
  references_to x [] h = tt
  references_to x (r ∷ rows) h = (h r (inl refl), references_to x rows (λ row q. h row (inr q)))

inlined_same : (g : Graph) (row : List ℕ) → is_inlined_enum_member_access g row ≡ inlined g row
unfolding is_inlined_enum_member_access inlined
inlined_same g row = refl

-- a statement with a reference: the same reason
kind_same : (g : Graph) (m i : ℕ) (row : List ℕ) → In row (references (statement_of g m i)) → include_kind g m i ≡ reason_of g m i
unfolding include_kind reason_of is_empty
kind_same g m i row q =
    ap (λ b. first + eight b) (right (eqb (module_type (module_of g m)) 2) (not (is_empty (references (statement_of g m i))))
    (filled (references (statement_of g m i)) q))
  where
    first : ℕ
    first = elim (flag 3 (statement_bits (statement_of g m i))) [ true ↦ 4 | false ↦ 1 ]

    eight : Bool → ℕ
    eight b = elim b [ true ↦ 8 | false ↦ 0 ]

    right : (a b : Bool) → b ≡ true → (a && b) ≡ a
    right true b e = e
    right false b e = refl

    filled : (rows : List (List ℕ)) → In row rows → not (is_empty rows) ≡ true
    filled [] q = absurd q
    filled (r ∷ rows) q = refl

module _ (g : Graph) where
  pub statement_from : (w : World g (last_verdicts g)) (m i : ℕ) → AllGiven g (last_verdicts g) w.fact (statement_fact m i) → StatementAsks g m i w
  unfolding segments_of statement_segments import_record_candidate import_record_of bails_out
  statement_from w m i h =
      let a = given_segments w.fact g (last_verdicts g) (statement_fact m i) h in (
        by_element (λ k. Scans g m (get_or (import_records (module_of g m)) (only k) [])
            (optional (import_record_target (get_or (import_records (module_of g m)) (only k) []))) w) (statement_import_records (statement_of g m i)) []
            (λ k u. scan-from g w.fact m (import_record_of g m i k) (import_record_target (import_record_of g m i k))
            (holds_when w.fact (bails_out g (last_verdicts g) m (import_record_of g m i k)) (bailout_fact (import_record_target (import_record_of g m i k) - 1))
            (a.0 k u))),
        λ row q. subst (λ x. Reference g x row w) (sym (kind_same g m i row q))
            (subst (λ t. ReferenceP g w.fact (reason_of g m i) row (eqb (reference_kind row) 0) (eqb (reference_kind row) 1) (eqb (reference_kind row) 2) t)
            (sym (inlined_same g row))
            (reference-from g w.fact (reason_of g m i) row (eqb (reference_kind row) 0) (eqb (reference_kind row) 1) (eqb (reference_kind row) 2)
            (inlined g row) refl refl refl refl
            (references_from g w.fact (reason_of g m i) (references (statement_of g m i)) a.1 row q))),
      )

  pub statement_to : (w : World g (last_verdicts g)) (m i : ℕ) → StatementAsks g m i w → AllGiven g (last_verdicts g) w.fact (statement_fact m i)
  unfolding segments_of statement_segments import_record_candidate import_record_of bails_out
  statement_to w m i h =
      segments_given w.fact g (last_verdicts g) (statement_fact m i) (
        λ k u. when_holds w.fact (bails_out g (last_verdicts g) m (import_record_of g m i k)) (bailout_fact (import_record_target (import_record_of g m i k) - 1))
            (scan-to g w.fact m (import_record_of g m i k) (import_record_target (import_record_of g m i k))
            (by_index (λ k. Scans g m (get_or (import_records (module_of g m)) (only k) [])
            (optional (import_record_target (get_or (import_records (module_of g m)) (only k) []))) w) (statement_import_records (statement_of g m i)) [] h.0 k u)),
        references_to g w.fact (reason_of g m i) (references (statement_of g m i))
            (λ row q. reference-to g w.fact (reason_of g m i) row (eqb (reference_kind row) 0) (eqb (reference_kind row) 1) (eqb (reference_kind row) 2)
            (inlined g row) refl refl refl refl
            (subst (λ t. ReferenceP g w.fact (reason_of g m i) row (eqb (reference_kind row) 0) (eqb (reference_kind row) 1) (eqb (reference_kind row) 2) t)
            (inlined_same g row)
            (subst (λ x. Reference g x row w) (kind_same g m i row q) (h.1 row q)))),
      )
