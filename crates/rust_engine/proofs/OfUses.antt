-- What the bodies ask for and what the rules give are the same: uses (K10 to K14) and the rows that they show.
use Rattle.std.proofs.Common.{◌≡◌, ℕ, zero, suc, ◌+◌, ◌-◌, ◌*◌, ◌<◌, Bool, true, false, not, ◌&&◌, ◌||◌, eqb, ◌⊎◌, List, [], ◌∷◌, ◌++◌, sym, refl, ap, ◌∙◌, subst, inl, inr, arith}
use mathlib.Core.Bool.{false≢true}
use Rattle.determine_side_effects.specs.graph_crate.Check.{Graph}
use Rattle.determine_side_effects.specs.graph_access_crate.Names.{module_type, owner, alias_namespace, constant_bits}
use Rattle.determine_side_effects.specs.graph_access_crate.Words.{root_of, flag, symbol_of, module_of, normal, option}
use Rattle.determine_side_effects.specs.facts_crate.Facts.{use_fact}
use Rattle.determine_side_effects.specs.Effects.{last_verdicts}
use Rattle.on_demand.specs.Demand.{body_of}
use Rattle.linking_metadata.specs.Namespaces.{is_namespace, target_of}
use Rattle.keep_rules.specs.Rules.{bypassed, demanded, demand_candidates, demand_candidate, alias_candidate, use_segments, segments_of}
use Rattle.keep_record.specs.Lines.{elem}
use Rattle.answer_rows.specs.Shown.{only_if, used_by, external_by, json_by, reason_by}
use Rattle.rust_values.specs.Values.{In, none, found, optional, get}
use Rattle.rust_engine.specs.Tables.{canonical_ref_for, owner_of, is_module_namespace}
use Rattle.rust_engine.specs.OnDemand.{compute_body_demand_keys}
use Rattle.rust_engine.specs.Engine.{is_bypassed_inlined_constant, alias_target}
use Rattle.rust_engine.proofs.Kept.{ReasonIn, AllGiven}
use Rattle.rust_engine.proofs.Views.{Holds, HoldsAll, given_segments, segments_given}
use Rattle.rust_values.proofs.Members.{elem_in, in_elem, in_append, in_append_left, in_append_right}
use Rattle.rust_engine.proofs.Asking.{World}
use Rattle.rust_engine.proofs.Bailing.{none_found, found_same, suc_zero, less_one, namespace_same}
use Rattle.rust_engine.proofs.Demanding.{both, and_true, not_true, true_not, Gated}
use Rattle.rust_engine.proofs.Keys.{keys_same}
use Rattle.rust_engine.proofs.UseRules.{demand-from, demand-to, body_normal, alias-from, alias-to, wrapped-from, wrapped-to, declared-from, declared-to, writes-from, writes-to}
use Rattle.rust_engine.proofs.Symbols.{NotedBy, Alias, Body, Symbol}
use Rattle.rust_engine.proofs.Handling.{RowsOf}

found_number : (n b : ℕ) → optional n ≡ found b → n ≡ suc b
unfolding optional
found_number zero b e = absurd (none_found b e)
found_number (suc n) b e = ap (λ x. suc x) (found_same n b e)

module _ (g : Graph) where
  abbrev v : List ℕ
  v = last_verdicts g

  bypass_same : (s x : ℕ) → is_bypassed_inlined_constant g (canonical_ref_for g s) x ≡ bypassed g s x
  unfolding is_bypassed_inlined_constant bypassed
  bypass_same s x =
      turn (flag 0 (constant_bits (symbol_of g (root_of g.symbols s)))) (not (flag 2 (constant_bits (symbol_of g (root_of g.symbols s))))) (not (flag 1 x))
      (not (option g 1) || flag 1 (constant_bits (symbol_of g (root_of g.symbols s))))
    where
      turn : (a p q r : Bool) → (a && (q && (r && p))) ≡ (a && (p && (q && r)))
      turn false p q r = refl
      turn true true true true = refl
      turn true true true false = refl
      turn true true false r = refl
      turn true false true true = refl
      turn true false true false = refl
      turn true false false r = refl

  target_same : (s : ℕ) → alias_target (canonical_ref_for g s) (optional (alias_namespace (symbol_of g (canonical_ref_for g s)))) ≡ target_of g s
  unfolding target_of alias_target optional
  target_same s = go (alias_namespace (symbol_of g (root_of g.symbols s)))
    where
      go : (n : ℕ) → alias_target (root_of g.symbols s) (optional n) ≡ (elim (eqb n 0) [ true ↦ root_of g.symbols s | false ↦ n - 1 ])
      go zero = refl
      go (suc n) = rw (suc_zero n) (sym (less_one n))

  -- the rows
  used_list : (s x : ℕ) → bypassed g s x ≡ false → used_by g s x ≡ s ∷ target_of g s ∷ []
  unfolding used_by
  used_list s x e = rw (e, used_by) refl

  external_list : (s x : ℕ) → bypassed g s x ≡ false
      → external_by g s x ≡ only_if (not (normal g (owner (symbol_of g s)))) s ++ only_if (not (normal g (owner (symbol_of g (target_of g s))))) (target_of g s)
  unfolding external_by
  external_list s x e = rw (e, external_by) refl

  abbrev json_test : ℕ → ℕ → Bool
  json_test t x = normal g (owner (symbol_of g t)) && (eqb (module_type (module_of g (owner (symbol_of g t)))) 2 && not (flag 3 x))

  json_list : (s x : ℕ) → bypassed g s x ≡ false → json_by g s x ≡ only_if (json_test (target_of g s) x) (target_of g s)
  unfolding json_by
  json_list s x e = rw (e, json_by) refl

  -- the reasons of a use whose target is its owner's namespace
  reason_list : (s x : ℕ) → bypassed g s x ≡ false → is_namespace g (target_of g s) ≡ true → (a : Bool) → (flag 0 x || flag 1 x) ≡ a
      → reason_by g s x ≡ (elim a [ true ↦ (8 * owner (symbol_of g (target_of g s))) ∷ [] | false ↦ only_if (flag 2 x) (8 * owner (symbol_of g (target_of g s)) + 1) ])
  unfolding reason_by
  reason_list s x e n true q = rw (e, n, q, reason_by) refl
  reason_list s x e n false q = rw (e, n, q, reason_by) refl

  reason_none : (s x : ℕ) → bypassed g s x ≡ true → reason_by g s x ≡ []
  unfolding reason_by
  reason_none s x e = rw (e, reason_by) refl

  reason_other : (s x : ℕ) → bypassed g s x ≡ false → is_namespace g (target_of g s) ≡ false → reason_by g s x ≡ []
  unfolding reason_by
  reason_other s x e n = rw (e, n, reason_by) refl

  in_only : (b : Bool) (n : ℕ) → b ≡ true → In n (only_if b n)
  unfolding only_if
  in_only true n e = inl refl
  in_only false n e = absurd (false≢true e)

  only_in : (b : Bool) (n j : ℕ) → In j (only_if b n) → (b ≡ true) × (j ≡ n)
  unfolding only_if
  only_in true n j (inl e) = (refl, e)
  only_in true n j (inr h) = absurd h
  only_in false n j h = absurd h

  shown : (j : ℕ) (xs ys : List ℕ) → xs ≡ ys → In j ys → elem j xs ≡ true
  shown j xs ys e h = in_elem j xs (subst (λ zs. In j zs) (sym e) h)

  listed : (j : ℕ) (xs ys : List ℕ) → xs ≡ ys → elem j xs ≡ true → In j ys
  listed j xs ys e h = subst (λ zs. In j zs) e (elem_in j xs h)

  module _ (w : World g v) (s x : ℕ) where
    abbrev t : ℕ
    t = target_of g s

    abbrev root : ℕ
    root = root_of g.symbols s

    -- `Symbol`, by the target of the rules
    abbrev SymbolAt : ℕ → Type 0
    SymbolAt n =
        ((((not (flag 4 x) ≡ true → (b : ℕ) → get (canonical_ref_for g s) (compute_body_demand_keys g v) ≡ found b → Gated g b w.fact) × w.used s)
        × (not (normal g (owner_of g s)) ≡ true → w.external s)) × Alias g v (canonical_ref_for g s)
        (optional (alias_namespace (symbol_of g (canonical_ref_for g s)))) w)
        × Body g v s n x w

    abbrev Segments : Type 0
    Segments = HoldsAll w.fact (use_segments g v s x)

    from_segments : bypassed g s x ≡ false → Segments → RowsOf g w s x → SymbolAt t
    unfolding use_segments demanded alias_candidate
    from_segments e h r = (
      (
        (
          (
            λ f b q. demand-from g w.fact (body_of g v root) (λ k u. h10 f k u) b (sym (keys_same g v root) ∙ q),
            r.rows-used s (shown s (used_by g s x) (s ∷ t ∷ []) (used_list s x e) (inl refl)),
          ),
          λ n. r.rows-external s (shown s (external_by g s x) _ (external_list s x e)
              (in_append_left s (only_if (not (normal g (owner (symbol_of g s)))) s) (only_if (not (normal g (owner (symbol_of g t)))) t) (in_only _ s n))),
        ),
        alias-from g w.fact root (alias_namespace (symbol_of g root)) (h.1.0 0 (omega arith)),
      ),
      (
        (
          (
            (λ n. noted n (flag 0 x || flag 1 x) refl (flag 2 x) refl, r.rows-used t (shown t (used_by g s x) (s ∷ t ∷ []) (used_list s x e) (inr (inl refl)))),
            λ n. r.rows-external t (shown t (external_by g s x) _ (external_list s x e)
                (in_append_right t (only_if (not (normal g (owner (symbol_of g s)))) s) (only_if (not (normal g (owner (symbol_of g t)))) t) (in_only _ t n))),
          ),
          λ n. let d = declared-from g w.fact t x n h.1.1.1.0 in (
            (
              (
                wrapped-from g w.fact s t n h.1.1.0,
                λ q. let z = both (not (flag 3 x)) (eqb (module_type (module_of g (owner (symbol_of g t)))) 2) q in
                    r.rows-json t (shown t (json_by g s x) _ (json_list s x e)
                    (in_only (json_test t x) t (and_true (normal g (owner (symbol_of g t)))
                    (eqb (module_type (module_of g (owner (symbol_of g t)))) 2 && not (flag 3 x)) n
                    (and_true (eqb (module_type (module_of g (owner (symbol_of g t)))) 2) (not (flag 3 x)) z.1 z.0)))),
              ),
              λ n. d.0,
            ),
            d.1,
          ),
        ),
        writes-from g w.fact s h.1.1.1.1.0,
      ),
    )
      where
        noted : is_module_namespace g t ≡ true → (a : Bool) → (flag 0 x || flag 1 x) ≡ a → (b : Bool) → flag 2 x ≡ b → NotedBy g v a b t w
        noted n true q b z =
            r.rows-reason (owner (symbol_of g t)) 1 (inl (
              refl,
              shown (8 * owner (symbol_of g t)) (reason_by g s x) _
                  (reason_list s x e (sym (namespace_same g t) ∙ n) true q) (inl refl),
            ))
        noted n false q true z =
            r.rows-reason (owner (symbol_of g t)) 2 (inr (
              refl,
              shown (8 * owner (symbol_of g t) + 1) (reason_by g s x) _
                  (reason_list s x e (sym (namespace_same g t) ∙ n) false q) (in_only (flag 2 x) (8 * owner (symbol_of g t) + 1) z),
            ))
        noted n false q false z = tt

        h10 : not (flag 4 x) ≡ true → (k : ℕ) → k < demand_candidates g (body_of g v root) → Holds w.fact (demand_candidate g (body_of g v root) k)
        h10 f k u = subst (λ n. Holds w.fact (demand_candidate g n k)) same (h.0 k (subst (λ n. k < demand_candidates g n) (sym same) u))
          where
            same : demanded g v s x ≡ body_of g v root
            same = rw (not_true (flag 4 x) f, demanded) refl

    to_segments : SymbolAt t → Segments
    unfolding use_segments demanded alias_candidate
    to_segments h = (
      λ k u. h10 (flag 4 x) refl k u,
      (
        λ k u. alias-to g w.fact root (alias_namespace (symbol_of g root)) h.0.1,
        (
          wrapped-to g w.fact s t (λ n. (h.1.0.1 n).0.0.0),
          (
            declared-to g w.fact t x (λ n. ((h.1.0.1 n).0.1 n, (h.1.0.1 n).1)),
            (writes-to g w.fact s h.1.1, tt),
          ),
        ),
      ),
    )
      where
        h10 : (b : Bool) → flag 4 x ≡ b → (k : ℕ) → k < demand_candidates g (elim b [ true ↦ 0 | false ↦ body_of g v root ])
            → Holds w.fact (demand_candidate g (elim b [ true ↦ 0 | false ↦ body_of g v root ]) k)
        h10 true e k u = demand-to g w.fact 0 (λ b z. absurd (let y : 0 ≡ suc b = z in omega (arith, y))) (λ b z. absurd (nothing b z)) k u
          where
            nothing : (b : ℕ) → optional 0 ≡ found b → ⊥
            nothing b z = let y : 0 ≡ suc b = found_number 0 b z in omega (arith, y)
        h10 false e k u =
            demand-to g w.fact (body_of g v root) (λ b z. body_normal g w.fact root b z)
            (λ b z. h.0.0.0.0 (true_not (flag 4 x) e) b (keys_same g v root ∙ z)) k u

    to-rows : (bypassed g s x ≡ false → SymbolAt t) → RowsOf g w s x
    unfolding used_by external_by json_by elem
    to-rows h = go (bypassed g s x) refl
      where
        nothing : reason_by g s x ≡ [] → (m b : ℕ) → ReasonIn (reason_by g s x) m b → ⊥
        nothing e m b (inl q) = listed (8 * m) (reason_by g s x) [] e q.1
        nothing e m b (inr q) = listed (8 * m + 1) (reason_by g s x) [] e q.1

        none : (m b : ℕ) → ReasonIn (reason_by g s x) m b → bypassed g s x ≡ true → ⊥
        none m b q e = nothing (reason_none s x e) m b q

        equal : (m n : ℕ) → 8 * m ≡ 8 * n → n ≡ m
        equal m n e = omega (arith, e)

        equal-odd : (m n : ℕ) → 8 * m + 1 ≡ 8 * n + 1 → n ≡ m
        equal-odd m n e = omega (arith, e)

        apart : (m n : ℕ) → 8 * m ≡ 8 * n + 1 → ⊥
        apart m n e = omega (arith, e)

        act : bypassed g s x ≡ false → is_namespace g t ≡ true → (fa : Bool) → (flag 0 x || flag 1 x) ≡ fa → (fb : Bool) → flag 2 x ≡ fb → NotedBy g v fa fb t w
            → (m b : ℕ) → ReasonIn (reason_by g s x) m b → w.reason m b
        act e n true p fb q a m b (inl (z, y)) = one (listed (8 * m) (reason_by g s x) _ (reason_list s x e n true p) y)
          where
            one : In (8 * m) ((8 * owner (symbol_of g t)) ∷ []) → w.reason m b
            one (inl i) = subst (λ k. w.reason m k) (sym z) (subst (λ k. w.reason k 1) (equal m (owner (symbol_of g t)) i) a)
            one (inr i) = absurd i
        act e n true p fb q a m b (inr (z, y)) = absurd (one (listed (8 * m + 1) (reason_by g s x) _ (reason_list s x e n true p) y))
          where
            one : In (8 * m + 1) ((8 * owner (symbol_of g t)) ∷ []) → ⊥
            one (inl i) = apart (owner (symbol_of g t)) m (sym i)
            one (inr i) = i
        act e n false p true q a m b (inl (z, y)) =
            absurd (apart m (owner (symbol_of g t)) (only_in (flag 2 x) (8 * owner (symbol_of g t) + 1) (8 * m)
            (listed (8 * m) (reason_by g s x) _ (reason_list s x e n false p) y)).1)
        act e n false p true q a m b (inr (z, y)) =
            let i = (only_in (flag 2 x) (8 * owner (symbol_of g t) + 1) (8 * m + 1) (listed (8 * m + 1) (reason_by g s x) _ (reason_list s x e n false p) y)).1 in
            subst (λ k. w.reason m k) (sym z) (subst (λ k. w.reason k 2) (equal-odd m (owner (symbol_of g t)) i) a)
        act e n false p false q a m b (inl (z, y)) =
            absurd (false≢true (sym q ∙ (only_in (flag 2 x) (8 * owner (symbol_of g t) + 1) (8 * m)
            (listed (8 * m) (reason_by g s x) _ (reason_list s x e n false p) y)).0))
        act e n false p false q a m b (inr (z, y)) =
            absurd (false≢true (sym q ∙ (only_in (flag 2 x) (8 * owner (symbol_of g t) + 1) (8 * m + 1)
            (listed (8 * m + 1) (reason_by g s x) _ (reason_list s x e n false p) y)).0))

        go : (b : Bool) → bypassed g s x ≡ b → RowsOf g w s x
        go true e =
            record {
              rows-used = λ j q. absurd (false≢true (rw (e, used_by) at q));
              rows-external = λ j q. absurd (false≢true (rw (e, external_by) at q));
              rows-json = λ j q. absurd (false≢true (rw (e, json_by) at q));
              rows-reason = λ m b q. absurd (none m b q e);
            }
        go false e =
            record {
              rows-used = λ j q. used j (listed j (used_by g s x) (s ∷ t ∷ []) (used_list s x e) q);
              rows-external = λ j q. external j (in_append j (only_if (not (normal g (owner (symbol_of g s)))) s) (only_if (not (normal g (owner (symbol_of g t)))) t)
                  (listed j (external_by g s x) _ (external_list s x e) q));
              rows-json = λ j q. json j (only_in (json_test t x) t j (listed j (json_by g s x) _ (json_list s x e) q));
              rows-reason = λ m b q. reasons m b (is_namespace g t) refl q;
            }
          where
            a : SymbolAt t
            a = h e

            reasons : (m b : ℕ) (n : Bool) → is_namespace g t ≡ n → ReasonIn (reason_by g s x) m b → w.reason m b
            reasons m b true n q = act e n (flag 0 x || flag 1 x) refl (flag 2 x) refl (a.1.0.0.0.0 (namespace_same g t ∙ n)) m b q
            reasons m b false n q = absurd (nothing (reason_other s x e n) m b q)

            used : (j : ℕ) → In j (s ∷ t ∷ []) → w.used j
            used j (inl q) = subst (λ y. w.used y) (sym q) a.0.0.0.1
            used j (inr (inl q)) = subst (λ y. w.used y) (sym q) a.1.0.0.0.1
            used j (inr (inr q)) = absurd q

            external : (j : ℕ) → In j (only_if (not (normal g (owner (symbol_of g s)))) s) ⊎ In j (only_if (not (normal g (owner (symbol_of g t)))) t) → w.external j
            external j (inl q) = let r = only_in (not (normal g (owner (symbol_of g s)))) s j q in subst (λ y. w.external y) (sym r.1) (a.0.0.1 r.0)
            external j (inr q) = let r = only_in (not (normal g (owner (symbol_of g t)))) t j q in subst (λ y. w.external y) (sym r.1) (a.1.0.0.1 r.0)

            json : (j : ℕ) → (json_test t x ≡ true) × (j ≡ t) → w.json j
            json j r =
                let p = both (normal g (owner (symbol_of g t))) (eqb (module_type (module_of g (owner (symbol_of g t)))) 2 && not (flag 3 x)) r.0 in
                let q = both (eqb (module_type (module_of g (owner (symbol_of g t)))) 2) (not (flag 3 x)) p.1 in
                subst (λ y. w.json y) (sym r.1) ((a.1.0.1 p.0).0.0.1
                (and_true (not (flag 3 x)) (eqb (module_type (module_of g (owner (symbol_of g t)))) 2) q.1 q.0))

  pub symbol_from : (w : World g v) (s x : ℕ) → is_bypassed_inlined_constant g (canonical_ref_for g s) x ≡ false → AllGiven g v w.fact (use_fact s x)
      → RowsOf g w s x → Symbol g v s x w
  unfolding segments_of
  symbol_from w s x e h r =
      let b : bypassed g s x ≡ false = sym (bypass_same s x) ∙ e in
      subst (λ n. SymbolAt w s x n) (sym (target_same s)) (from_segments w s x b (rw (b, segments_of) at (given_segments w.fact g v (use_fact s x) h)) r)

  pub symbol_to : (w : World g v) (s x : ℕ) → (is_bypassed_inlined_constant g (canonical_ref_for g s) x ≡ false → Symbol g v s x w)
      → AllGiven g v w.fact (use_fact s x) × RowsOf g w s x
  unfolding segments_of
  symbol_to w s x h = (segments_given w.fact g v (use_fact s x) (go (bypassed g s x) refl), to-rows w s x asked)
    where
      asked : bypassed g s x ≡ false → SymbolAt w s x (target_of g s)
      asked e = subst (λ n. SymbolAt w s x n) (target_same s) (h (bypass_same s x ∙ e))

      go : (b : Bool) → bypassed g s x ≡ b → HoldsAll w.fact (elim b [ true ↦ [] | false ↦ use_segments g v s x ])
      go true e = tt
      go false e = to_segments w s x (asked e)
