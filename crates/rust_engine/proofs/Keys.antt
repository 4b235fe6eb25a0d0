-- The tables of 001, in the Rust's way and in the rules': modules on demand, and the keys of their bodies.
use Rattle.std.proofs.Common.{◌≡◌, ℕ, zero, suc, ◌+◌, ◌-◌, ◌≤◌, Bool, true, false, not, ◌&&◌, ◌||◌, eqb, ltb, List, [], ◌∷◌, ◌++◌, map, length, get_or, sym, refl, ap, ◌∙◌, arith, eq-eqb, ne_eqb, eqb-true}
use mathlib.Core.Bool.{false≢true}
use borrow.Author.Tests.{eqb-false}
use Rattle.determine_side_effects.specs.rows_crate.Walk.{Item}
use Rattle.determine_side_effects.specs.graph_crate.Check.{Graph}
use Rattle.determine_side_effects.specs.graph_access_crate.Names.{exports, flags, namespace, own_exports, only, entry_module, entry_kind}
use Rattle.determine_side_effects.specs.graph_access_crate.Words.{root_of, flag, some, tabulate, module_of, statement_list, statement_of, normal, option}
use Rattle.on_demand.specs.Demand.{user_entry, on_demand, gated, has_gated, has_body, claims, claimed, body_of}
use Rattle.keep_record.specs.Lines.{elem}
use Rattle.rust_values.specs.Values.{Pair, pair, Found, none, found, optional, get}
use Rattle.rust_engine.specs.Tables.{iter_enumerated_without_namespace_stmt}
use Rattle.rust_engine.specs.OnDemand.{entry_idxs, user_defined_entry_module_idxs, side_effects_included_on_demand, is_gated_side_effect_stmt, insert_keys, keys_of, demands_of, demands_from, compute_body_demand_keys}
use Rattle.rust_engine.proofs.Bailing.{suc_eqb}
use Rattle.rust_engine.proofs.Demanding.{gated_split}

eqb_sym : (a b : ℕ) → eqb a b ≡ eqb b a
eqb_sym a b = go (eqb b a) refl
  where
    go : (q : Bool) → eqb b a ≡ q → eqb a b ≡ q
    go true e = eq-eqb a b (sym (eqb-true b a e))
    go false e = ne_eqb a b (λ z. eqb-false b a e (sym z))

module _ (g : Graph) (v : List ℕ) where
  users : (m : ℕ) (es : List Item) → elem m (entry_idxs es) ≡ some (λ e. eqb (entry_module e) m && ltb (entry_kind e) 2) es
  unfolding entry_idxs some elem
  users m [] = refl
  users m (e ∷ es) = go (ltb (entry_kind e) 2) (eqb (entry_module e) m) (eqb_sym m (entry_module e)) (users m es)
    where
      go : (a b : Bool) → eqb m (entry_module e) ≡ b → elem m (entry_idxs es) ≡ some (λ e. eqb (entry_module e) m && ltb (entry_kind e) 2) es
          → elem m (elim a [ true ↦ entry_module e ∷ entry_idxs es | false ↦ entry_idxs es ]) ≡
          (elim (b && a) [ true ↦ true | false ↦ some (λ e. eqb (entry_module e) m && ltb (entry_kind e) 2) es ])
      go true true q r = rw (q) refl
      go true false q r = rw (q) r
      go false true q r = r
      go false false q r = r

  pub on_demand_same : (m : ℕ) → side_effects_included_on_demand g v m ≡ on_demand g v m
  unfolding side_effects_included_on_demand on_demand user_defined_entry_module_idxs user_entry
  on_demand_same m = ap (λ b. eqb (get_or v m 0) 2 && (eqb (exports (module_of g m)) 0 && (not (flag 0 (flags (module_of g m))) && not b))) (users m g.entries)

  -- a module's gated statements
  some_same : (m a n : ℕ) → 1 ≤ a → some (λ i. is_gated_side_effect_stmt (statement_of g m i)) (tabulate (λ i. i) a n) ≡ some (gated g m) (tabulate (λ i. i) a n)
  unfolding some tabulate
  some_same m a zero l = refl
  some_same m a (suc n) l =
      go (is_gated_side_effect_stmt (statement_of g m a)) (gated g m a) (sym (gated_split g m a ∙ here (is_gated_side_effect_stmt (statement_of g m a))))
      (some_same m (a + 1) n (omega arith))
    where
      here : (b : Bool) → (not (eqb a 0) && b) ≡ b
      here b = rw (ne_eqb a 0 (λ z. omega (arith, l, z))) refl

      go : (p q : Bool) → p ≡ q
          → some (λ i. is_gated_side_effect_stmt (statement_of g m i)) (tabulate (λ i. i) (a + 1) n) ≡ some (gated g m) (tabulate (λ i. i) (a + 1) n)
          → ◌≡◌ {A = Bool} (elim p [ true ↦ true | false ↦ some (λ i. is_gated_side_effect_stmt (statement_of g m i)) (tabulate (λ i. i) (a + 1) n) ])
          (elim q [ true ↦ true | false ↦ some (gated g m) (tabulate (λ i. i) (a + 1) n) ])
      go true true e r = refl
      go true false e r = absurd (false≢true (sym e))
      go false true e r = absurd (false≢true e)
      go false false e r = r

  gated_some : (m : ℕ) → some (λ i. is_gated_side_effect_stmt (statement_of g m i)) (iter_enumerated_without_namespace_stmt g m) ≡ has_gated g m
  unfolding iter_enumerated_without_namespace_stmt has_gated some tabulate
  gated_some m = go (length (statement_list g m))
    where
      zeroth : gated g m 0 ≡ false
      zeroth = gated_split g m 0

      skip : (b r : Bool) → b ≡ false → (elim b [ true ↦ true | false ↦ r ]) ≡ r
      skip true r e = absurd (false≢true (sym e))
      skip false r e = refl

      go : (n : ℕ) → some (λ i. is_gated_side_effect_stmt (statement_of g m i)) (tabulate (λ i. i) 1 (n - 1)) ≡ some (gated g m) (tabulate (λ i. i) 0 n)
      go zero = refl
      go (suc n) =
          let e : suc n - 1 ≡ n = omega arith in
          ap (λ k. some (λ i. is_gated_side_effect_stmt (statement_of g m i)) (tabulate (λ i. i) 1 k)) e ∙
          (some_same m 1 n (omega arith) ∙ sym (skip (gated g m 0) (some (gated g m) (tabulate (λ i. i) 1 n)) zeroth))

  -- keys that are inserted
  insert_get : (s m : ℕ) (keys : List ℕ) (map : List Pair) → get s (insert_keys m keys map) ≡ elim (elem s keys) [ true ↦ found m | false ↦ get s map ]
  unfolding insert_keys get elem
  insert_get s m [] map = refl
  insert_get s m (k ∷ keys) map = insert_get s m keys (pair k m ∷ map) ∙ go (elem s keys) (eqb k s) (eqb s k) (eqb_sym k s)
    where
      go : (a b c : Bool) → b ≡ c
          → ◌≡◌ {A = Found} (elim a [ true ↦ found m | false ↦ elim b [ true ↦ found m | false ↦ get s map ] ])
          (elim (c || a) [ true ↦ found m | false ↦ get s map ])
      go true true true e = refl
      go true false false e = refl
      go false true true e = refl
      go false false false e = refl
      go a true false e = absurd (false≢true (sym e))
      go a false true e = absurd (false≢true e)

  elem-append : (s : ℕ) (xs ys : List ℕ) → elem s (xs ++ ys) ≡ (elem s xs || elem s ys)
  unfolding elem
  elem-append s [] ys = refl
  elem-append s (x ∷ xs) ys = go (eqb s x) (elem-append s xs ys)
    where
      go : (b : Bool) → elem s (xs ++ ys) ≡ (elem s xs || elem s ys) → (b || elem s (xs ++ ys)) ≡ ((b || elem s xs) || elem s ys)
      go true e = refl
      go false e = e

  elem_roots : (s : ℕ) (rows : List (List ℕ))
      → elem s (map (λ row. root_of g.symbols (only row)) rows) ≡ some (λ row. eqb (root_of g.symbols (only row)) s) rows
  unfolding elem some
  elem_roots s [] = refl
  elem_roots s (row ∷ rows) =
      go (eqb s (root_of g.symbols (only row))) (eqb (root_of g.symbols (only row)) s) (eqb_sym s (root_of g.symbols (only row))) (elem_roots s rows)
    where
      go : (a b : Bool) → a ≡ b → elem s (map (λ row. root_of g.symbols (only row)) rows) ≡ some (λ row. eqb (root_of g.symbols (only row)) s) rows
          → (a || elem s (map (λ row. root_of g.symbols (only row)) rows)) ≡
          (elim b [ true ↦ true | false ↦ some (λ row. eqb (root_of g.symbols (only row)) s) rows ])
      go true true e r = refl
      go false false e r = r
      go true false e r = absurd (false≢true (sym e))
      go false true e r = absurd (false≢true e)

  elem_namespace : (s n : ℕ) → elem s (elim (optional n) [ none ↦ [] | found k ↦ k ∷ [] ]) ≡ eqb n (s + 1)
  unfolding optional elem
  elem_namespace s zero = sym (ne_eqb 0 (s + 1) (λ z. omega (arith, z)))
  elem_namespace s (suc n) = go (eqb s n) refl
    where
      go : (b : Bool) → eqb s n ≡ b → (b || false) ≡ eqb (suc n) (s + 1)
      go true e = sym (suc_eqb n s ∙ (eqb_sym n s ∙ e))
      go false e = sym (suc_eqb n s ∙ (eqb_sym n s ∙ e))

  elem_keys : (s m : ℕ)
      → elem s (keys_of g m) ≡ (some (λ row. eqb (root_of g.symbols (only row)) s) (own_exports (module_of g m)) || eqb (namespace (module_of g m)) (s + 1))
  unfolding keys_of
  elem_keys s m =
      elem-append s (map (λ row. root_of g.symbols (only row)) (own_exports (module_of g m)))
      (elim (optional (namespace (module_of g m))) [ none ↦ [] | found k ↦ k ∷ [] ])
      ∙ (ap (λ b. b || elem s (elim (optional (namespace (module_of g m))) [ none ↦ [] | found k ↦ k ∷ [] ])) (elem_roots s (own_exports (module_of g m)))
      ∙ ap (λ b. some (λ row. eqb (root_of g.symbols (only row)) s) (own_exports (module_of g m)) || b) (elem_namespace s (namespace (module_of g m))))

  -- one module
  one_module : (s m : ℕ) (map : List Pair) → get s (demands_of g v m map) ≡ elim (claims g v m s) [ true ↦ found m | false ↦ get s map ]
  unfolding demands_of claims has_body
  one_module s m map =
      ap (λ b. get s (body b)) (ap (λ b. normal g m && (b && some (λ i. is_gated_side_effect_stmt (statement_of g m i)) (iter_enumerated_without_namespace_stmt g m)))
      (on_demand_same m) ∙ ap (λ b. normal g m && (on_demand g v m && b)) (gated_some m))
      ∙ go (normal g m && (on_demand g v m && has_gated g m))
    where
      body : Bool → List Pair
      body b = elim b [ true ↦ insert_keys m (keys_of g m) map | false ↦ map ]

      key : Bool
      key = some (λ row. eqb (root_of g.symbols (only row)) s) (own_exports (module_of g m)) || eqb (namespace (module_of g m)) (s + 1)

      go : (b : Bool) → get s (body b) ≡ elim (b && key) [ true ↦ found m | false ↦ get s map ]
      go true = insert_get s m (keys_of g m) map ∙ ap (λ b. elim b as (λ x. Found) [ true ↦ found m | false ↦ get s map ]) (elem_keys s m)
      go false = refl

  from_last : (m n : ℕ) (map : List Pair) → demands_from g v m (suc n) map ≡ demands_of g v (m + n) (demands_from g v m n map)
  unfolding demands_from
  from_last m zero map = let e : m ≡ m + 0 = omega arith in ap (λ k. demands_of g v k map) e
  from_last m (suc n) map =
      let e : m + 1 + n ≡ m + suc n = omega arith in from_last (m + 1) n (demands_of g v m map) ∙ ap
      (λ k. demands_of g v k (demands_from g v (m + 1) n (demands_of g v m map))) e

  claimed_same : (s n : ℕ) → get s (demands_from g v 0 n []) ≡ optional (claimed g v s n)
  unfolding claimed get demands_from optional
  claimed_same s zero = refl
  claimed_same s (suc n) =
      let e : 0 + n ≡ n = omega arith in
      ap (λ m. get s m) (from_last 0 n [] ∙ ap (λ k. demands_of g v k (demands_from g v 0 n [])) e) ∙
      (one_module s n (demands_from g v 0 n []) ∙ go (claims g v n s) (claimed_same s n))
    where
      go : (b : Bool) → get s (demands_from g v 0 n []) ≡ optional (claimed g v s n)
          → (elim b [ true ↦ found n | false ↦ get s (demands_from g v 0 n []) ]) ≡ optional (elim b [ true ↦ suc n | false ↦ claimed g v s n ])
      go true e = refl
      go false e = e

  -- compute_body_demand_keys
  pub keys_same : (s : ℕ) → get s (compute_body_demand_keys g v) ≡ optional (body_of g v s)
  unfolding compute_body_demand_keys body_of get optional
  keys_same s = go (option g 0)
    where
      table : Bool → List Pair
      table b = elim b [ true ↦ demands_from g v 0 g.header.modules [] | false ↦ [] ]

      go : (b : Bool) → get s (table b) ≡ optional (elim b [ true ↦ claimed g v s g.header.modules | false ↦ 0 ])
      go true = claimed_same s g.header.modules
      go false = refl
