-- Bodies on demand: `drain_body_demand_stmts` (K10) and the tables of 001.
use Rattle.std.proofs.Common.{◌≡◌, ℕ, zero, suc, ◌+◌, ◌-◌, ◌<◌, ◌≤◌, Bool, true, false, not, ◌&&◌, eqb, ltb, ◌⊎◌, List, [], ◌∷◌, length, sym, refl, ap, ◌∙◌, subst, inl, inr, arith, ltb-false, eq-eqb, ne_eqb, eqb-true}
use mathlib.Core.Bool.{false≢true}
use borrow.Author.Tests.{eqb-false}
use Rattle.determine_side_effects.specs.graph_crate.Check.{Graph}
use Rattle.determine_side_effects.specs.graph_access_crate.Names.{statement_bits, statement_import_records, references}
use Rattle.determine_side_effects.specs.graph_access_crate.Words.{flag, tabulate, statement_list, statement_of, normal}
use Rattle.determine_side_effects.specs.facts_crate.declared.Fact.{Fact}
use Rattle.determine_side_effects.specs.facts_crate.Facts.{statement_fact}
use Rattle.on_demand.specs.Demand.{gated}
use Rattle.keep_record.specs.Lines.{elem}
use Rattle.rust_values.specs.Values.{In, Found, none, found, get, is_empty}
use Rattle.rust_engine.specs.Context.{Context, statement_item, push, insert_swept, for_each}
use Rattle.rust_engine.specs.Tables.{iter_enumerated_without_namespace_stmt}
use Rattle.rust_engine.specs.OnDemand.{is_gated_side_effect_stmt, compute_body_demand_keys}
use Rattle.rust_engine.specs.Engine.{sweep_body, drain_body_demand_stmts}
use Rattle.rust_engine.proofs.Theorem.{Over, Within}
use Rattle.rust_engine.proofs.Bailing.{none_found, found_same, suc_zero}
use Rattle.rust_values.proofs.Members.{elem_in}
use Rattle.rust_engine.proofs.Asking.{Grown, grown_refl, kept_statement, SweptDone, Asks, asks_nothing, asks_when, asks_each, asks_as}
use Rattle.rust_engine.proofs.Inserting.{Item, asks_push}

-- tests
pub both : (a b : Bool) → (a && b) ≡ true → (a ≡ true) × (b ≡ true)
both true b e = (refl, e)
both false b e = absurd (false≢true e)

pub and_true : (a b : Bool) → a ≡ true → b ≡ true → (a && b) ≡ true
and_true a b e f = rw (e) f

pub not_true : (b : Bool) → not b ≡ true → b ≡ false
not_true true e = absurd (false≢true e)
not_true false e = refl

pub true_not : (b : Bool) → b ≡ false → not b ≡ true
true_not b e = rw (e) refl

-- numbers in a row
pub in_tabulate : (a n i : ℕ) → a ≤ i → i < a + n → In i (tabulate (λ j. j) a n)
unfolding tabulate
in_tabulate a zero i l u = absurd (omega (arith, l, u))
in_tabulate a (suc n) i l u = go (eqb i a) refl (λ z. in_tabulate (a + 1) n i z (omega (arith, u)))
  where
    go : (b : Bool) → eqb i a ≡ b → (a + 1 ≤ i → In i (tabulate (λ j. j) (a + 1) n)) → (i ≡ a) ⊎ In i (tabulate (λ j. j) (a + 1) n)
    go true e r = inl (eqb-true i a e)
    go false e r = let z : i ≡ a → ⊥ = eqb-false i a e in inr (r (omega (arith, l, z)))

pub tabulate_in : (a n i : ℕ) → In i (tabulate (λ j. j) a n) → (a ≤ i) × (i < a + n)
unfolding tabulate
tabulate_in a zero i h = absurd h
tabulate_in a (suc n) i (inl e) = (omega (arith, e), omega (arith, e))
tabulate_in a (suc n) i (inr h) = let r = tabulate_in (a + 1) n i h in (omega (arith, r.0), omega (arith, r.1))

module _ (g : Graph) where
  -- the statements but the namespace's
  pub in_iter : (m i : ℕ) → i < length (statement_list g m) → (i ≡ 0 → ⊥) → In i (iter_enumerated_without_namespace_stmt g m)
  unfolding iter_enumerated_without_namespace_stmt
  in_iter m i u n = in_tabulate 1 (length (statement_list g m) - 1) i (omega (arith, n)) (omega (arith, u, n))

  pub iter_in : (m i : ℕ) → In i (iter_enumerated_without_namespace_stmt g m) → (1 ≤ i) × (i < length (statement_list g m))
  unfolding iter_enumerated_without_namespace_stmt
  iter_in m i h = let r = tabulate_in 1 (length (statement_list g m) - 1) i h in (r.0, omega (arith, r.0, r.1))

  empty-length : {A : Type 0} (xs : List A) → is_empty xs ≡ eqb (length xs) 0
  unfolding is_empty
  empty-length [] = sym (eq-eqb 0 0 refl)
  empty-length (x ∷ xs) = sym (suc_zero (length xs))

  filled_length : {A : Type 0} (xs : List A) → not (is_empty xs) ≡ ltb 0 (length xs)
  unfolding is_empty
  filled_length [] = refl
  filled_length (x ∷ xs) = go (ltb 0 (suc (length xs))) refl
    where
      go : (b : Bool) → ltb 0 (suc (length xs)) ≡ b → true ≡ b
      go true e = refl
      go false e = absurd (let z : suc (length xs) ≤ 0 = ltb-false 0 (suc (length xs)) e in omega (arith, z))

  pub gated_split : (m i : ℕ) → gated g m i ≡ (not (eqb i 0) && is_gated_side_effect_stmt (statement_of g m i))
  unfolding gated is_gated_side_effect_stmt
  gated_split m i =
      ap (λ b. not (eqb i 0) && (flag 0 (statement_bits (statement_of g m i)) && b))
      (ap (λ b. b && eqb (length (statement_import_records (statement_of g m i))) 0) (sym (filled_length (references (statement_of g m i))))
      ∙ ap (λ b. not (is_empty (references (statement_of g m i))) && b) (sym (empty-length (statement_import_records (statement_of g m i)))))

  pub is_gated : (m i : ℕ) → gated g m i ≡ true → (i ≡ 0 → ⊥) × (is_gated_side_effect_stmt (statement_of g m i) ≡ true)
  is_gated m i e =
      let r = both (not (eqb i 0)) (is_gated_side_effect_stmt (statement_of g m i)) (sym (gated_split m i) ∙ e) in
      (eqb-false i 0 (not_true (eqb i 0) r.0), r.1)

  pub gated_is : (m i : ℕ) → 1 ≤ i → is_gated_side_effect_stmt (statement_of g m i) ≡ true → gated g m i ≡ true
  gated_is m i l e =
      gated_split m i ∙ and_true (not (eqb i 0)) (is_gated_side_effect_stmt (statement_of g m i)) (true_not (eqb i 0) (ne_eqb i 0 (λ z. omega (arith, l, z)))) e

  -- the gated statements of a module
  abbrev pub Gated : ℕ → (Fact → Type 0) → Type 0
  Gated b P = normal g b ≡ true → (i : ℕ) → i < length (statement_list g b) → gated g b i ≡ true → P (statement_fact b i)

  module _ (v : List ℕ) where
    abbrev one : ℕ → ℕ → Context → Context
    one b i c = elim (is_gated_side_effect_stmt (statement_of g b i)) [ true ↦ push (statement_item b i) c | false ↦ c ]

    -- the loop over them
    asks-loop : (b : ℕ) (c : Context) → Asks g v (λ w. Gated b w.fact) c
        (elim (normal g b) [ true ↦ for_each (one b) (iter_enumerated_without_namespace_stmt g b) c | false ↦ c ])
    asks-loop b c =
        asks_as g v (λ w. normal g b ≡ true → (i : ℕ) → In i (iter_enumerated_without_namespace_stmt g b) → is_gated_side_effect_stmt (statement_of g b i) ≡ true
        → w.fact (statement_fact b i)) (λ w. Gated b w.fact)
        c _
        (λ w q n i h e. let r = iter_in b i h in q n i r.1 (gated_is b i r.0 e))
        (λ w p n i u e. let r = is_gated b i e in p n i (in_iter b i u r.0) r.1)
        (asks_when g v (normal g b) (λ w. (i : ℕ) → In i (iter_enumerated_without_namespace_stmt g b) → is_gated_side_effect_stmt (statement_of g b i) ≡ true → w.fact
        (statement_fact b i))
        (for_each (one b) (iter_enumerated_without_namespace_stmt g b)) c
        (λ n. asks_each g v (λ i w. is_gated_side_effect_stmt (statement_of g b i) ≡ true → w.fact (statement_fact b i)) (one b)
        (iter_enumerated_without_namespace_stmt g b) c
        (λ i q d. asks_when g v (is_gated_side_effect_stmt (statement_of g b i)) (Item g v (statement_item b i)) (push (statement_item b i)) d
        (λ e. asks_push g v (statement_item b i) d))))

    each-grown : (b : ℕ) (xs : List ℕ) (c : Context) → Grown g v c (for_each (one b) xs c)
    each-grown b xs c =
        (asks_each g v (λ i w. is_gated_side_effect_stmt (statement_of g b i) ≡ true → w.fact (statement_fact b i)) (one b) xs c
        (λ i q d. asks_when g v (is_gated_side_effect_stmt (statement_of g b i)) (Item g v (statement_item b i)) (push (statement_item b i)) d
        (λ e. asks_push g v (statement_item b i) d))).grown

    pushed : (b i : ℕ) (xs : List ℕ) (c : Context) → In i xs → is_gated_side_effect_stmt (statement_of g b i) ≡ true
        → In (statement_item b i) (for_each (one b) xs c).pending
    unfolding for_each push
    pushed b i [] c h t = absurd h
    pushed b i (y ∷ ys) c (inl e) t =
        (each-grown b ys (one b y c)).pending-sub (statement_item b i)
        (subst (λ j. In (statement_item b i) (one b j c).pending) e (here (is_gated_side_effect_stmt (statement_of g b i)) t))
      where
        out : Bool → Context
        out q = elim q [ true ↦ push (statement_item b i) c | false ↦ c ]

        here : (q : Bool) → q ≡ true → In (statement_item b i) (out q).pending
        here true r = inl refl
        here false r = absurd (false≢true r)
    pushed b i (y ∷ ys) c (inr h) t = pushed b i ys (one b y c) h t

    -- a module that is swept for the first time
    module _ (b : ℕ) (c : Context) where
      abbrev looped : Bool → Context
      looped q = elim q [ true ↦ for_each (one b) (iter_enumerated_without_namespace_stmt g b) (insert_swept b c) | false ↦ insert_swept b c ]

      loop-done : (q : Bool) → normal g b ≡ q → SweptDone g v (looped q) b
      loop-done true e n i u t = let r = is_gated b i t in inr (pushed b i (iter_enumerated_without_namespace_stmt g b) (insert_swept b c) (in_iter b i u r.0) r.1)
      loop-done false e n i u t = absurd (false≢true (sym e ∙ n))

      a : Asks g v (λ w. Gated b w.fact) (insert_swept b c) (looped (normal g b))
      a = asks-loop b (insert_swept b c)

      swept-within : (S : Over) → Within g S c → Within g S (insert_swept b c)
      unfolding insert_swept
      swept-within S w =
          record {
            queued = w.queued;
            of_modules = w.of_modules;
            of_statements = w.of_statements;
            of_deferred = w.of_deferred;
            of_bailouts = w.of_bailouts;
            of_used = w.of_used;
            of_external = w.of_external;
            of_json = w.of_json;
            of_reasons = w.of_reasons;
          }

      loop-grown : Grown g v c (looped (normal g b))
      unfolding insert_swept
      loop-grown =
          record {
            modules_same = a.grown.modules_same;
            changed-same = a.grown.changed-same;
            statements-same = a.grown.statements-same;
            pending-sub = a.grown.pending-sub;
            deferred-sub = a.grown.deferred-sub;
            bailouts-sub = a.grown.bailouts-sub;
            used-sub = a.grown.used-sub;
            external-sub = a.grown.external-sub;
            json-sub = a.grown.json-sub;
            reasons-sub = a.grown.reasons-sub;
            swept-back = λ n h. back n (a.grown.swept-back n h);
          }
        where
          back : (n : ℕ) → ((n ≡ b) ⊎ In n c.swept) ⊎ SweptDone g v (looped (normal g b)) n → In n c.swept ⊎ SweptDone g v (looped (normal g b)) n
          back n (inl (inl e)) = inr (subst (λ x. SweptDone g v (looped (normal g b)) x) (sym e) (loop-done (normal g b) refl))
          back n (inl (inr h)) = inl h
          back n (inr h) = inr h

      loop-asks : Asks g v (λ w. Gated b w.fact) c (looped (normal g b))
      loop-asks =
          record {
            grown = loop-grown;
            within = λ S k p w. a.within S k p (swept-within S w);
            keeps = λ taken uses d f h n i u t. kept_statement g v (looped (normal g b)) d h b i (loop-done (normal g b) refl n i u t);
            pushes = λ d h n i u t. tt;
          }

      asks-swept : Asks g v (λ w. Gated b w.fact) c (sweep_body g (found b) c)
      unfolding sweep_body
      asks-swept = go (elem b c.swept) refl
        where
          go : (q : Bool) → elem b c.swept ≡ q → Asks g v (λ w. Gated b w.fact) c (elim q [ true ↦ c | false ↦ looped (normal g b) ])
          go true e =
              record {
                grown = grown_refl g v c;
                within = λ S k p w. w;
                keeps = λ taken uses d f h n i u q. kept_statement g v c d h b i (f.swept-done b (elem_in b c.swept e) n i u q);
                pushes = λ d h n i u q. tt;
              }
          go false e = loop-asks

    asks-sweep : (r : Found) (c : Context) → Asks g v (λ w. (b : ℕ) → r ≡ found b → Gated b w.fact) c (sweep_body g r c)
    unfolding sweep_body
    asks-sweep none c =
        asks_as g v (λ w. Unit {0}) (λ w. (b : ℕ) → none ≡ found b → Gated b w.fact) c c (λ w q. tt) (λ w p b e. absurd (none_found b e))
        (asks_nothing g v c)
    asks-sweep (found n) c =
        asks_as g v (λ w. Gated n w.fact) (λ w. (b : ℕ) → found n ≡ found b → Gated b w.fact) c (sweep_body g (found n) c) (λ w q. q n refl)
        (λ w p b e. subst (λ x. Gated x w.fact) (found_same n b e) p) (asks-swept n c)

    -- drain_body_demand_stmts
    pub asks-demand : (root : ℕ) (c : Context)
        → Asks g v (λ w. (b : ℕ) → get root (compute_body_demand_keys g v) ≡ found b → Gated b w.fact) c (drain_body_demand_stmts g v root c)
    unfolding drain_body_demand_stmts
    asks-demand root c = asks-sweep (get root (compute_body_demand_keys g v)) c
