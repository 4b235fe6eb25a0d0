-- What the body of a symbol asks for and what the rules give are the same, rule by rule: K10 to K14.
use Rattle.std.proofs.Common.{◌≡◌, ℕ, zero, suc, ◌+◌, ◌-◌, ◌<◌, Bool, true, false, not, ◌&&◌, eqb, List, [], ◌∷◌, length, get_or, sym, refl, ap, ◌∙◌, subst, arith, le-ltb, lt-ltb}
use mathlib.Core.Bool.{false≢true}
use native.Mathlib.Decide.{dec_lt}
use Rattle.determine_side_effects.specs.graph_crate.Check.{Graph}
use Rattle.determine_side_effects.specs.graph_access_crate.Names.{wrap, wrapper, resolved_exports, only, export_name, export_symbol, owner, alias_name, export_chain, declaring_statements, written_property_statements}
use Rattle.determine_side_effects.specs.graph_access_crate.Words.{flag, symbol_of, module_of, statement_list, normal, option}
use Rattle.determine_side_effects.specs.facts_crate.declared.Fact.{Fact}
use Rattle.determine_side_effects.specs.facts_crate.Facts.{module_fact, statement_fact, use_fact, forward_fact}
use Rattle.determine_side_effects.specs.Effects.{last_verdicts}
use Rattle.on_demand.specs.Demand.{gated, has_body, claims, claimed, body_of}
use Rattle.linking_metadata.specs.Namespaces.{common_js_of, is_namespace}
use Rattle.keep_rules.specs.declared.Candidate.{Candidate}
use Rattle.keep_rules.specs.declared.Candidate.TheVariants.{Gives, Nothing}
use Rattle.keep_rules.specs.Rules.{when, demand_candidates, demand_candidate, export_of, export_candidate, needs_wrapper, forwards, forward_candidate, wrapper_candidates, wrapper_candidate, declaration_candidates, declaration_candidate, write_candidates, write_candidate}
use Rattle.rust_values.specs.Values.{In, Found, found, optional}
use Rattle.rust_engine.specs.Tables.{import_record_ns_to_cjs_module, resolved_export}
use Rattle.rust_engine.specs.Engine.{is_simulated_facade_chunk}
use Rattle.rust_engine.proofs.Views.{Holds, holds_when, when_holds}
use Rattle.rust_engine.proofs.Bailing.{none_found, found_same, suc_zero, suc_eqb, less_one, plus_one, common_js_same, namespace_same}
use Rattle.rust_engine.proofs.Demanding.{both, and_true, true_not, Gated}
use Rattle.rust_engine.proofs.Linking.{by_index, by_element, forwards_from, forwards_to}

module _ (g : Graph) where
  abbrev v : List ℕ
  v = last_verdicts g

  -- K10
  claimed_normal : (s n b : ℕ) → claimed g v s n ≡ suc b → normal g b ≡ true
  unfolding claimed claims has_body
  claimed_normal s zero b e = absurd (clash e)
    where
      clash : 0 ≡ suc b → ⊥
      clash z = omega (arith, z)
  claimed_normal s (suc n) b e = go (claims g v n s) refl e (λ q. claimed_normal s n b q)
    where
      is : claims g v n s ≡ true → normal g n ≡ true
      is q = (both _ _ (both _ _ q).0).0

      go : (q : Bool) → claims g v n s ≡ q → (elim q [ true ↦ suc n | false ↦ claimed g v s n ]) ≡ suc b → (claimed g v s n ≡ suc b → normal g b ≡ true)
          → normal g b ≡ true
      go true q z r = subst (λ y. normal g y ≡ true) (let y : n ≡ b = omega (arith, z) in y) (is q)
      go false q z r = r z

  module _ (P : Fact → Type 0) where
    candidates-suc : (n : ℕ) → demand_candidates g (suc n) ≡ length (statement_list g n)
    unfolding demand_candidates
    candidates-suc n = rw (suc_zero n, demand_candidates) (ap (λ b. length (statement_list g b)) (less_one n))

    demand-suc : (n i : ℕ) → demand_candidate g (suc n) i ≡ when (gated g n i) (statement_fact n i)
    unfolding demand_candidate
    demand-suc n i = ap (λ b. when (gated g b i) (statement_fact b i)) (less_one n)

    pub demand-from : (n : ℕ) → ((k : ℕ) → k < demand_candidates g n → Holds P (demand_candidate g n k)) → (b : ℕ) → optional n ≡ found b → Gated g b P
    unfolding optional
    demand-from zero h b e = absurd (none_found b e)
    demand-from (suc n) h b e =
        subst (λ x. Gated g x P) (found_same n b e)
        (λ z i u t. holds_when P (gated g n i) (statement_fact n i)
        (subst (λ p. Holds P p) (demand-suc n i) (h i (subst (λ k. i < k) (sym (candidates-suc n)) u))) t)

    pub demand-to : (n : ℕ) → ((b : ℕ) → n ≡ suc b → normal g b ≡ true) → ((b : ℕ) → optional n ≡ found b → Gated g b P) → (k : ℕ) → k < demand_candidates g n
        → Holds P (demand_candidate g n k)
    unfolding optional demand_candidates
    demand-to zero nm h k u = absurd (omega (arith, u))
    demand-to (suc n) nm h k u =
        subst (λ p. Holds P p) (sym (demand-suc n k)) (when_holds P (gated g n k) (statement_fact n k)
        (λ t. h n refl (nm n refl) k (subst (λ y. k < y) (candidates-suc n) u) t))

    pub body_normal : (s b : ℕ) → body_of g v s ≡ suc b → normal g b ≡ true
    unfolding body_of
    body_normal s b e = go (option g 0) e
      where
        clash : 0 ≡ suc b → ⊥
        clash z = omega (arith, z)

        go : (q : Bool) → (elim q [ true ↦ claimed g v s g.header.modules | false ↦ 0 ]) ≡ suc b → normal g b ≡ true
        go true z = claimed_normal s g.header.modules b z
        go false z = absurd (clash z)

    -- K11
    exports-same : (name : ℕ) (rows : List (List ℕ)) → resolved_export name rows ≡ optional (export_of name rows)
    unfolding resolved_export export_of optional
    exports-same name [] = refl
    exports-same name (row ∷ rows) = go (eqb (export_name row) name) (exports-same name rows)
      where
        go : (b : Bool) → resolved_export name rows ≡ optional (export_of name rows)
            → (elim b [ true ↦ found (export_symbol row) | false ↦ resolved_export name rows ]) ≡ optional
            (elim b [ true ↦ export_symbol row + 1 | false ↦ export_of name rows ])
        go true e = sym (plus_one (export_symbol row))
        go false e = e

    abbrev NamedP : ℕ → ℕ → Type 0
    NamedP name n =
        (idx : ℕ) → optional n ≡ found idx → normal g idx ≡ true → (e : ℕ) → resolved_export name (resolved_exports (module_of g idx)) ≡ found e → not
        (eqb name 0) ≡ true → P (use_fact e 1)

    abbrev ExportCandidate : Bool → Bool → ℕ → Candidate
    ExportCandidate a b n =
        elim a [ true ↦ elim b [ true ↦ Nothing | false ↦ elim (eqb n 0) [ true ↦ Nothing | false ↦ Gives (use_fact (n - 1) 1) ] ] | false ↦ Nothing ]

    ex-suc : (n : ℕ) → ◌≡◌ {A = Candidate} (elim (eqb (suc n) 0) [ true ↦ Nothing | false ↦ Gives (use_fact (suc n - 1) 1) ]) (Gives (use_fact n 1))
    ex-suc n = rw (suc_zero n) (ap (λ y. Gives (use_fact y 1)) (less_one n))

    export-from : (a b : Bool) (n : ℕ) → Holds P (ExportCandidate a b n) → a ≡ true → (e : ℕ) → optional n ≡ found e → not b ≡ true → P (use_fact e 1)
    unfolding optional
    export-from true false zero h q e f r = absurd (none_found e f)
    export-from true false (suc n) h q e f r = subst (λ x. P (use_fact x 1)) (found_same n e f) (subst (λ p. Holds P p) (ex-suc n) h)
    export-from true true n h q e f r = absurd (false≢true r)
    export-from false b n h q e f r = absurd (false≢true q)

    export-to : (a b : Bool) (n : ℕ) → (a ≡ true → (e : ℕ) → optional n ≡ found e → not b ≡ true → P (use_fact e 1)) → Holds P (ExportCandidate a b n)
    unfolding optional
    export-to true false zero h = tt
    export-to true false (suc n) h = subst (λ p. Holds P p) (sym (ex-suc n)) (h refl n refl refl)
    export-to true true n h = tt
    export-to false b n h = tt

    export-suc : (name n : ℕ) → export_candidate g name (suc n) ≡ ExportCandidate (normal g n) (eqb name 0) (export_of name (resolved_exports (module_of g n)))
    unfolding export_candidate
    export-suc name n =
        rw (suc_zero n, export_candidate) (ap (λ i. ExportCandidate (normal g i) (eqb name 0) (export_of name (resolved_exports (module_of g i)))) (less_one n))

    named-from : (name n : ℕ) → Holds P (export_candidate g name n) → NamedP name n
    unfolding optional
    named-from name zero h idx e = absurd (none_found idx e)
    named-from name (suc n) h idx e =
        subst (λ i. normal g i ≡ true → (e : ℕ) → resolved_export name (resolved_exports (module_of g i)) ≡ found e → not (eqb name 0) ≡ true → P (use_fact e 1))
        (found_same n idx e)
        (λ q y z r. export-from (normal g n) (eqb name 0) (export_of name (resolved_exports (module_of g n))) (subst (λ p. Holds P p) (export-suc name n) h) q y
        (sym (exports-same name (resolved_exports (module_of g n))) ∙ z) r)

    named-to : (name n : ℕ) → NamedP name n → Holds P (export_candidate g name n)
    unfolding optional export_candidate
    named-to name zero h = tt
    named-to name (suc n) h =
        subst (λ p. Holds P p) (sym (export-suc name n))
        (export-to (normal g n) (eqb name 0) (export_of name (resolved_exports (module_of g n)))
        (λ q y z r. h n refl q y (exports-same name (resolved_exports (module_of g n)) ∙ z) r))

    abbrev AliasAt : ℕ → ℕ → Candidate
    AliasAt root n = elim (eqb n 0) [ true ↦ Nothing | false ↦ export_candidate g (alias_name (symbol_of g root)) (common_js_of g (n - 1)) ]

    alias-suc : (root n : ℕ) → AliasAt root (suc n) ≡ export_candidate g (alias_name (symbol_of g root)) (common_js_of g n)
    alias-suc root n = rw (suc_zero n, AliasAt) (ap (λ i. export_candidate g (alias_name (symbol_of g root)) (common_js_of g i)) (less_one n))

    abbrev AliasP : ℕ → Found → Type 0
    AliasP root r = (n : ℕ) → r ≡ found n → (idx : ℕ) → import_record_ns_to_cjs_module g n ≡ found idx → normal g idx ≡ true
        → (e : ℕ) → resolved_export (alias_name (symbol_of g root)) (resolved_exports (module_of g idx)) ≡ found e → not (eqb (alias_name (symbol_of g root)) 0) ≡ true
        → P (use_fact e 1)

    pub alias-from : (root n : ℕ) → Holds P (AliasAt root n) → AliasP root (optional n)
    unfolding optional
    alias-from root zero h a e = absurd (none_found a e)
    alias-from root (suc n) h a e =
        subst (λ i. (idx : ℕ) → import_record_ns_to_cjs_module g i ≡ found idx → normal g idx ≡ true → (e : ℕ) → resolved_export (alias_name (symbol_of g root))
        (resolved_exports (module_of g idx)) ≡ found e → not (eqb (alias_name (symbol_of g root)) 0) ≡ true → P (use_fact e 1)) (found_same n a e)
        (λ idx q. named-from (alias_name (symbol_of g root)) (common_js_of g n) (subst (λ p. Holds P p) (alias-suc root n) h) idx (sym (common_js_same g n) ∙ q))

    pub alias-to : (root n : ℕ) → AliasP root (optional n) → Holds P (AliasAt root n)
    unfolding optional
    alias-to root zero h = tt
    alias-to root (suc n) h =
        subst (λ p. Holds P p) (sym (alias-suc root n)) (named-to (alias_name (symbol_of g root)) (common_js_of g n) (λ idx q. h n refl idx (common_js_same g n ∙ q)))

    -- K12
    abbrev NeedsWrapper : ℕ → ℕ → Bool
    NeedsWrapper t n = eqb (wrap (module_of g (owner (symbol_of g t)))) 2 && (not (eqb n 0) && not (eqb n (t + 1)))

    abbrev ChainP : ℕ → Type 0
    ChainP s = P (forward_fact s) × ((row : List ℕ) → In row (export_chain (symbol_of g s)) → P (forward_fact (only row)))

    abbrev WrapperP : ℕ → ℕ → ℕ → Type 0
    WrapperP s t n = eqb (wrap (module_of g (owner (symbol_of g t)))) 2 ≡ true → (a : ℕ) → optional n ≡ found a → not (eqb a t) ≡ true → P (use_fact a 1) × ChainP s

    abbrev WrapperSegment : ℕ → ℕ → ℕ → Type 0
    WrapperSegment s n k = Holds P (elim (eqb k 0) [ true ↦ Gives (use_fact (n - 1) 1) | false ↦ forward_candidate g s (k - 1) ])

    wrapper-from : (s t n : ℕ) → (NeedsWrapper t n ≡ true → (k : ℕ) → k < 1 + forwards g s → WrapperSegment s n k) → WrapperP s t n
    unfolding optional
    wrapper-from s t zero h q a e r = absurd (none_found a e)
    wrapper-from s t (suc n) h q a e r =
        let i : NeedsWrapper t (suc n) ≡ true = and_true _ _ q
        (and_true _ _ (true_not _ (suc_zero n)) (subst (λ b. not b ≡ true) (sym (suc_eqb n t ∙ ap (λ y. eqb y t) (found_same n a e))) r)) in (
          subst (λ y. P (use_fact y 1)) (less_one n ∙ found_same n a e) (h i 0 (omega arith)),
          forwards_from g P s
              (λ k u. later k (h i (suc k) (omega (arith, u)))),
        )
      where
        later : (k : ℕ) → WrapperSegment s (suc n) (suc k) → Holds P (forward_candidate g s k)
        later k z = subst (λ y. Holds P (forward_candidate g s y)) (less_one k) (rw (suc_zero k) at z)

    wrapper-to : (s t n : ℕ) → WrapperP s t n → NeedsWrapper t n ≡ true → (k : ℕ) → k < 1 + forwards g s → WrapperSegment s n k
    unfolding optional
    wrapper-to s t zero h i k u =
        absurd (false≢true (both (not (eqb 0 0)) (not (eqb 0 (t + 1)))
        (both (eqb (wrap (module_of g (owner (symbol_of g t)))) 2) (not (eqb 0 0) && not (eqb 0 (t + 1))) i).1).0)
    wrapper-to s t (suc n) h i k u = go k u
      where
        r : P (use_fact n 1) × ChainP s
        r =
            let a = both (eqb (wrap (module_of g (owner (symbol_of g t)))) 2) (not (eqb (suc n) 0) && not (eqb (suc n) (t + 1))) i in
            h a.0 n refl (subst (λ b. not b ≡ true) (suc_eqb n t) (both (not (eqb (suc n) 0)) (not (eqb (suc n) (t + 1))) a.1).1)

        go : (k : ℕ) → k < 1 + forwards g s → WrapperSegment s (suc n) k
        go zero u = subst (λ y. P (use_fact y 1)) (sym (less_one n)) r.0
        go (suc k) u = rw (suc_zero k) (subst (λ y. Holds P (forward_candidate g s y)) (sym (less_one k)) (forwards_to g P s r.1 k (omega (arith, u))))

    -- K13
    abbrev DeclaresP : ℕ → Type 0
    DeclaresP t = (row : List ℕ) → In row (declaring_statements (symbol_of g t)) → P (statement_fact (owner (symbol_of g t)) (only row))

    facade-same : (t x : ℕ) → is_simulated_facade_chunk g t x ≡ (is_namespace g t && flag 4 x)
    unfolding is_simulated_facade_chunk
    facade-same t x = ap (λ b. b && flag 4 x) (namespace_same g t)

    pub declared-from : (t x : ℕ) → normal g (owner (symbol_of g t)) ≡ true → ((k : ℕ) → k < declaration_candidates g t → Holds P (declaration_candidate g t x k))
        → DeclaresP t × (not (is_simulated_facade_chunk g t x) ≡ true → P (module_fact (owner (symbol_of g t))))
    unfolding declaration_candidates declaration_candidate
    declared-from t x n h = (
      by_element (λ row. P (statement_fact (owner (symbol_of g t)) (only row))) (declaring_statements (symbol_of g t)) []
          (λ k u. early k u (h k (rw (n, declaration_candidates) (omega (arith, u))))),
      λ e. holds_when P (not (is_namespace g t && flag 4 x)) (module_fact (owner (symbol_of g t)))
          (late (h (length (declaring_statements (symbol_of g t))) (rw (n, declaration_candidates) (omega arith)))) (ap (λ b. not b) (sym (facade-same t x)) ∙ e),
    )
      where
        early : (k : ℕ) → k < length (declaring_statements (symbol_of g t)) → Holds P (declaration_candidate g t x k)
            → P (statement_fact (owner (symbol_of g t)) (only (get_or (declaring_statements (symbol_of g t)) k [])))
        early k u q = rw (lt-ltb k (length (declaring_statements (symbol_of g t))) u, declaration_candidate) at q

        late : Holds P (declaration_candidate g t x (length (declaring_statements (symbol_of g t))))
            → Holds P (when (not (is_namespace g t && flag 4 x)) (module_fact (owner (symbol_of g t))))
        late q = rw (le-ltb (length (declaring_statements (symbol_of g t))) (length (declaring_statements (symbol_of g t))) (omega arith), declaration_candidate) at q

    pub declared-to : (t x : ℕ)
        → (normal g (owner (symbol_of g t)) ≡ true → DeclaresP t × (not (is_simulated_facade_chunk g t x) ≡ true → P (module_fact (owner (symbol_of g t)))))
        → (k : ℕ) → k < declaration_candidates g t → Holds P (declaration_candidate g t x k)
    unfolding declaration_candidates declaration_candidate
    declared-to t x h k u = go (normal g (owner (symbol_of g t))) refl u
      where
        at_place : normal g (owner (symbol_of g t)) ≡ true → k < length (declaring_statements (symbol_of g t)) + 1 → Holds P (declaration_candidate g t x k)
        at_place n u =
            elim (dec_lt k (length (declaring_statements (symbol_of g t)))) [
              | yes z ↦ rw (lt-ltb k (length (declaring_statements (symbol_of g t))) z, declaration_candidate)
                  (by_index (λ row. P (statement_fact (owner (symbol_of g t)) (only row))) (declaring_statements (symbol_of g t)) [] (h n).0 k z)
              | no z ↦ rw (le-ltb k (length (declaring_statements (symbol_of g t))) (omega (arith, z)), declaration_candidate)
                  (when_holds P (not (is_namespace g t && flag 4 x)) (module_fact (owner (symbol_of g t))) (λ e. (h n).1 (ap (λ b. not b) (facade-same t x) ∙ e)))
            ]

        go : (b : Bool) → normal g (owner (symbol_of g t)) ≡ b → k < (elim b [ true ↦ length (declaring_statements (symbol_of g t)) + 1 | false ↦ 0 ])
            → Holds P (declaration_candidate g t x k)
        go true n u = at_place n u
        go false n u = absurd (omega (arith, u))

    -- K14
    abbrev WritesP : ℕ → Type 0
    WritesP s =
        option g 3 ≡ true → normal g (owner (symbol_of g s)) ≡ true → (row : List ℕ) → In row (written_property_statements (symbol_of g s)) → P
        (statement_fact (owner (symbol_of g s)) (only row))

    pub writes-from : (s : ℕ) → ((k : ℕ) → k < write_candidates g s → Holds P (write_candidate g s k)) → WritesP s
    unfolding write_candidates write_candidate
    writes-from s h a b =
        by_element (λ row. P (statement_fact (owner (symbol_of g s)) (only row))) (written_property_statements (symbol_of g s)) []
        (λ k u. h k (rw (a, b, write_candidates) u))

    pub writes-to : (s : ℕ) → WritesP s → (k : ℕ) → k < write_candidates g s → Holds P (write_candidate g s k)
    unfolding write_candidates write_candidate
    writes-to s h k u = go (option g 3) refl (normal g (owner (symbol_of g s))) refl u
      where
        go : (a : Bool) → option g 3 ≡ a → (b : Bool) → normal g (owner (symbol_of g s)) ≡ b
            → k < (elim (a && b) [ true ↦ length (written_property_statements (symbol_of g s)) | false ↦ 0 ])
            → P (statement_fact (owner (symbol_of g s)) (only (get_or (written_property_statements (symbol_of g s)) k [])))
        go true a true b u = by_index (λ row. P (statement_fact (owner (symbol_of g s)) (only row))) (written_property_statements (symbol_of g s)) [] (h a b) k u
        go true a false b u = absurd (omega (arith, u))
        go false a q b u = absurd (omega (arith, u))

    -- K12, with the owner normal
    pub wrapped-from : (s t : ℕ) → normal g (owner (symbol_of g t)) ≡ true → ((k : ℕ) → k < wrapper_candidates g s t → Holds P (wrapper_candidate g s t k))
        → WrapperP s t (wrapper (module_of g (owner (symbol_of g t))))
    unfolding wrapper_candidates wrapper_candidate needs_wrapper
    wrapped-from s t n h =
        wrapper-from s t (wrapper (module_of g (owner (symbol_of g t)))) (λ i k u. h k (rw (initial i, wrapper_candidates) u))
      where
        initial : NeedsWrapper t (wrapper (module_of g (owner (symbol_of g t)))) ≡ true → needs_wrapper g t ≡ true
        initial i = and_true (normal g (owner (symbol_of g t))) (NeedsWrapper t (wrapper (module_of g (owner (symbol_of g t))))) n i

    pub wrapped-to : (s t : ℕ) → (normal g (owner (symbol_of g t)) ≡ true → WrapperP s t (wrapper (module_of g (owner (symbol_of g t))))) → (k : ℕ)
        → k < wrapper_candidates g s t → Holds P (wrapper_candidate g s t k)
    unfolding wrapper_candidates wrapper_candidate needs_wrapper
    wrapped-to s t h k u = go (needs_wrapper g t) refl u
      where
        go : (b : Bool) → needs_wrapper g t ≡ b → k < (elim b [ true ↦ 1 + forwards g s | false ↦ 0 ]) → Holds P (wrapper_candidate g s t k)
        go true e u =
            let r = both (normal g (owner (symbol_of g t))) (NeedsWrapper t (wrapper (module_of g (owner (symbol_of g t))))) e in
            wrapper-to s t (wrapper (module_of g (owner (symbol_of g t)))) (h r.0) r.1 k u
        go false e u = absurd (omega (arith, u))
