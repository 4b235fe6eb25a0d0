-- `handle_include_module` behind its bit asks for what K2 to K6 give.
use Rattle.std.proofs.Common.{◌≡◌, ℕ, ◌-◌, Bool, true, false, not, ◌&&◌, ◌||◌, eqb, ltb, ◌⊎◌, List, [], ◌∷◌, get_or, sym, refl, ap, subst, inl, inr}
use Rattle.determine_side_effects.specs.graph_crate.Check.{Graph}
use Rattle.determine_side_effects.specs.graph_access_crate.Names.{exports, module_type, flags, dependencies, named_imports, common_js_export_symbols, only, statement_bits}
use Rattle.determine_side_effects.specs.graph_access_crate.Words.{flag, module_of, statement_of, normal, option}
use Rattle.determine_side_effects.specs.facts_crate.Facts.{module_fact, statement_fact, checked_fact}
use Rattle.determine_side_effects.specs.Effects.{last_verdicts}
use Rattle.keep_record.specs.Lines.{elem}
use Rattle.rust_values.specs.Values.{In}
use Rattle.rust_engine.specs.Context.{Context, module_item, statement_item, push, insert_reason, for_each, when as when_do}
use Rattle.rust_engine.specs.Tables.{has_side_effects, iter_enumerated_without_namespace_stmt}
use Rattle.rust_engine.specs.Engine.{push_symbol_and_check_cjs_bailout, sweeps, sweep_side_effect_statements, include_whole, include_statements_without_treeshaking, include_dependency, index_set, include_side_effectful_dependencies, Orders, Reorders, module_body}
use Rattle.rust_engine.proofs.Bailing.{asks_checked}
use Rattle.rust_values.proofs.Members.{elem_in}
use Rattle.rust_engine.proofs.Asking.{World, grown_refl, Asks, asks_then, asks_when, asks_each, asks_as}
use Rattle.rust_engine.proofs.Inserting.{Item, asks_push, asks_reason}

-- an index set has the elements of its list
set-row : (d : ℕ) (before : List ℕ) (rows : List (List ℕ)) → In d (index_set before rows) → (row : List ℕ) × In row rows × (d ≡ only row)
unfolding index_set
set-row d before [] q = absurd q
set-row d before (row ∷ rows) q = go (elem (only row) before) q (λ h. set-row d before rows h) (λ h. set-row d (only row ∷ before) rows h)
  where
    later : (r : List ℕ) × In r rows × (d ≡ only r) → (r : List ℕ) × In r (row ∷ rows) × (d ≡ only r)
    later z = (z.0, inr z.1, z.2)

    go : (b : Bool) → In d (elim b [ true ↦ index_set before rows | false ↦ only row ∷ index_set (only row ∷ before) rows ])
        → (In d (index_set before rows) → (r : List ℕ) × In r rows × (d ≡ only r)) → (In d (index_set (only row ∷ before) rows) → (r : List ℕ) × In r rows × (d ≡ only r))
        → (r : List ℕ) × In r (row ∷ rows) × (d ≡ only r)
    go true h f k = later (f h)
    go false (inl e) f k = (row, inl refl, e)
    go false (inr h) f k = later (k h)

row-set : (row : List ℕ) (before : List ℕ) (rows : List (List ℕ)) → In row rows → In (only row) before ⊎ In (only row) (index_set before rows)
unfolding index_set
row-set row before [] q = absurd q
row-set row before (r ∷ rows) q = go (elem (only r) before) refl q (λ h. row-set row before rows h) (λ h. row-set row (only r ∷ before) rows h)
  where
    next : (In (only row) (only r ∷ before)) ⊎ In (only row) (index_set (only r ∷ before) rows) → In (only row) before ⊎ In (only row) (only r ∷ index_set (only r ∷ before) rows)
    next (inl (inl e)) = inr (inl e)
    next (inl (inr h)) = inl h
    next (inr h) = inr (inr h)

    go : (b : Bool) → elem (only r) before ≡ b → (row ≡ r) ⊎ In row rows → (In row rows → In (only row) before ⊎ In (only row) (index_set before rows))
        → (In row rows → In (only row) (only r ∷ before) ⊎ In (only row) (index_set (only r ∷ before) rows))
        → In (only row) before ⊎ In (only row) (elim b [ true ↦ index_set before rows | false ↦ only r ∷ index_set (only r ∷ before) rows ])
    go true e (inl h) f k = inl (subst (λ x. In (only x) before) (sym h) (elem_in (only r) before e))
    go true e (inr h) f k = f h
    go false e (inl h) f k = inr (inl (ap only h))
    go false e (inr h) f k = next (k h)

module _ (g : Graph) where
  abbrev v : List ℕ
  v = last_verdicts g

  abbrev W : Type 1
  W = World g v

  -- K2
  abbrev pub whole : ℕ → ℕ → Bool
  whole m i = not (flag 2 (statement_bits (statement_of g m i))) || flag 0 (statement_bits (statement_of g m i))

  abbrev pub sweeps_by : Bool → ℕ → ℕ → Bool
  sweeps_by b m i = elim b [ true ↦ sweeps g v m i | false ↦ whole m i ]

  abbrev pub Sweeps : Bool → ℕ → W → Type 0
  Sweeps b m w = (i : ℕ) → In i (iter_enumerated_without_namespace_stmt g m) → sweeps_by b m i ≡ true → w.fact (statement_fact m i)

  asks_whole : (m i : ℕ) (c : Context) → Asks g v (λ w. whole m i ≡ true → w.fact (statement_fact m i)) c (include_whole g m i c)
  unfolding include_whole
  asks_whole m i c = go (flag 2 (statement_bits (statement_of g m i))) (flag 0 (statement_bits (statement_of g m i)))
    where
      go : (a b : Bool) → Asks g v (λ w. (not a || b) ≡ true
          → w.fact (statement_fact m i)) c (elim a [ true ↦ elim b [ true ↦ push (statement_item m i) c | false ↦ c ] | false ↦ push (statement_item m i) c ])
      go true b = asks_when g v b (Item g v (statement_item m i)) (push (statement_item m i)) c (λ e. asks_push g v (statement_item m i) c)
      go false b =
          asks_as g v (Item g v (statement_item m i)) (λ w. true ≡ true → w.fact (statement_fact m i)) c (push (statement_item m i) c) (λ w q. q refl)
          (λ w p e. p) (asks_push g v (statement_item m i) c)

  asks_sweeps : (b : Bool) (m : ℕ) (c : Context)
      → Asks g v (Sweeps b m) c (elim b [ true ↦ sweep_side_effect_statements g v m c | false ↦ include_statements_without_treeshaking g m c ])
  unfolding sweep_side_effect_statements include_statements_without_treeshaking
  asks_sweeps true m c =
      asks_each g v (λ i w. sweeps g v m i ≡ true → w.fact (statement_fact m i)) (λ i. when_do (sweeps g v m i) (push (statement_item m i)))
      (iter_enumerated_without_namespace_stmt g m) c
      (λ i q d. asks_when g v (sweeps g v m i) (Item g v (statement_item m i)) (push (statement_item m i)) d (λ e. asks_push g v (statement_item m i) d))
  asks_sweeps false m c =
      asks_each g v (λ i w. whole m i ≡ true → w.fact (statement_fact m i)) (include_whole g m) (iter_enumerated_without_namespace_stmt g m) c
      (λ i q d. asks_whole m i d)

  -- K3; a dependency that is included already is kept
  abbrev pub Depends : ℕ → W → Type 0
  Depends d w = normal g d ≡ true → (not (option g 0) || has_side_effects v d) ≡ true → w.fact (module_fact d)

  asks_dependency : (n : ℕ) (c : Context) → Asks g v (Depends n) c (include_dependency g v n c)
  unfolding include_dependency
  asks_dependency n c = go (elem n c.modules) refl
    where
      go : (b : Bool) → elem n c.modules ≡ b
          → Asks g v (Depends n) c (elim b [ true ↦ c | false ↦ when_do (normal g n) (when_do (not (option g 0) || has_side_effects v n) (push (module_item n))) c ])
      go true e =
          record {
            grown = grown_refl g v c;
            within = λ S k p w. w;
            keeps = λ taken uses d f h a b. inl (subst (λ xs. In n xs) (sym h.modules_same) (elem_in n c.modules e));
            pushes = λ d h a b. tt;
          }
      go false e =
          asks_when g v (normal g n) (λ w. (not (option g 0) || has_side_effects v n) ≡ true → w.fact (module_fact n))
          (when_do (not (option g 0) || has_side_effects v n) (push (module_item n))) c
          (λ a. asks_when g v (not (option g 0) || has_side_effects v n) (Item g v (module_item n)) (push (module_item n)) c (λ b. asks_push g v (module_item n) c))

  abbrev pub DependsAll : ℕ → W → Type 0
  DependsAll m w = (row : List ℕ) → In row (dependencies (module_of g m)) → Depends (only row) w

  asks_dependencies : (m : ℕ) (c : Context) → Asks g v (DependsAll m) c (include_side_effectful_dependencies g v m c)
  unfolding include_side_effectful_dependencies
  asks_dependencies m c =
      let rows = dependencies (module_of g m) in
      asks_as g v (λ w. (d : ℕ) → In d (index_set [] rows) → Depends d w) (DependsAll m) c (for_each (include_dependency g v) (index_set [] rows) c)
      (λ w h d q. let r = set-row d [] rows q in subst (λ x. Depends x w) (sym r.2) (h r.0 r.1))
      (λ w h row q. h (only row) (first_in (only row) (row-set row [] rows q)))
      (asks_each g v Depends (include_dependency g v) (index_set [] rows) c (λ d q e. asks_dependency d e))
    where
      first_in : (d : ℕ) → ⊥ ⊎ In d (index_set [] (dependencies (module_of g m))) → In d (index_set [] (dependencies (module_of g m)))
      first_in d (inl z) = absurd z
      first_in d (inr z) = z

  -- K4 and K5
  abbrev pub CheckedAll : List (List ℕ) → W → Type 0
  CheckedAll rows w = (row : List ℕ) → In row rows → w.fact (checked_fact (only row) 1)

  asks_checked_all : (rows : List (List ℕ)) (c : Context) → Asks g v (CheckedAll rows) c (for_each (λ row. push_symbol_and_check_cjs_bailout g (only row) 1) rows c)
  asks_checked_all rows c =
      asks_each g v (λ row w. w.fact (checked_fact (only row) 1)) (λ row. push_symbol_and_check_cjs_bailout g (only row) 1) rows c
      (λ row q d. asks_checked g (only row) 1 d)

  abbrev pub eval_test : ℕ → Bool
  eval_test m = flag 0 (flags (module_of g m)) && ltb (module_type (module_of g m)) 2

  abbrev pub dev_test : ℕ → Bool
  dev_test m = option g 4 && (not (eqb m g.header.runtime) && eqb (exports (module_of g m)) 0)

  abbrev pub shaken : ℕ → Bool
  shaken m = option g 0 && not (eqb (get_or v m 0) 4)

  abbrev pub ModuleAsks : ℕ → W → Type 0
  ModuleAsks m w =
      (((Sweeps (shaken m) m w × DependsAll m w) × (eval_test m ≡ true → CheckedAll (named_imports (module_of g m)) w)) × CheckedAll
      (common_js_export_symbols (module_of g m)) w)
      × (dev_test m ≡ true → w.fact (statement_fact m 0) × w.reason m 1)

  module _ (order : Orders) (ordered : Reorders order) (m : ℕ) (c : Context) where
    abbrev c₁ : Context
    c₁ = elim (shaken m) as (λ b. Context) [ true ↦ sweep_side_effect_statements g v m c | false ↦ include_statements_without_treeshaking g m c ]

    abbrev c₂ : Context
    c₂ = include_side_effectful_dependencies g v m c₁

    abbrev c₃ : Context
    c₃ = when_do (eval_test m) (for_each (λ row. push_symbol_and_check_cjs_bailout g (only row) 1) (order.of_imports (named_imports (module_of g m)))) c₂

    abbrev c₄ : Context
    c₄ = for_each (λ row. push_symbol_and_check_cjs_bailout g (only row) 1) (order.of_exports (common_js_export_symbols (module_of g m))) c₃

    -- in whatever order
    asks-checked-any : (xs rows : List (List ℕ)) → ((row : List ℕ) → In row xs → In row rows) → ((row : List ℕ) → In row rows → In row xs) → (d : Context)
        → Asks g v (CheckedAll rows) d (for_each (λ row. push_symbol_and_check_cjs_bailout g (only row) 1) xs d)
    asks-checked-any xs rows from back d =
        asks_as g v (CheckedAll xs) (CheckedAll rows) d (for_each (λ row. push_symbol_and_check_cjs_bailout g (only row) 1) xs d)
        (λ w q row h. q row (from row h)) (λ w p row h. p row (back row h)) (asks_checked_all xs d)

    pub asks-module : Asks g v (ModuleAsks m) c (module_body g v order m c)
    unfolding module_body
    asks-module =
        asks_then g v (λ w. ((Sweeps (shaken m) m w × DependsAll m w) × (eval_test m ≡ true → CheckedAll (named_imports (module_of g m)) w)) × CheckedAll
        (common_js_export_symbols (module_of g m)) w)
        (λ w. dev_test m ≡ true → w.fact (statement_fact m 0) × w.reason m 1) c c₄ _
        (asks_then g v (λ w. (Sweeps (shaken m) m w × DependsAll m w) × (eval_test m ≡ true → CheckedAll (named_imports (module_of g m)) w))
        (CheckedAll (common_js_export_symbols (module_of g m))) c c₃ c₄
        (asks_then g v (λ w. Sweeps (shaken m) m w × DependsAll m w) (λ w. eval_test m ≡ true → CheckedAll (named_imports (module_of g m)) w) c c₂ c₃
        (asks_then g v (Sweeps (shaken m) m) (DependsAll m) c c₁ c₂ (asks_sweeps (shaken m) m c) (asks_dependencies m c₁))
        (asks_when g v (eval_test m) (CheckedAll (named_imports (module_of g m)))
        (for_each (λ row. push_symbol_and_check_cjs_bailout g (only row) 1) (order.of_imports (named_imports (module_of g m)))) c₂
        (λ e. asks-checked-any (order.of_imports (named_imports (module_of g m))) (named_imports (module_of g m)) (ordered.from_imports (named_imports (module_of g m))) (ordered.back_imports (named_imports (module_of g m))) c₂)))
        (asks-checked-any (order.of_exports (common_js_export_symbols (module_of g m))) (common_js_export_symbols (module_of g m)) (ordered.from_exports (common_js_export_symbols (module_of g m))) (ordered.back_exports (common_js_export_symbols (module_of g m))) c₃))
        (asks_when g v (dev_test m) (λ w. w.fact (statement_fact m 0) × w.reason m 1) (λ c. insert_reason m 1 (push (statement_item m 0) c)) c₄
        (λ e. asks_then g v (Item g v (statement_item m 0)) (λ w. w.reason m 1) c₄ (push (statement_item m 0) c₄) _ (asks_push g v (statement_item m 0) c₄)
        (asks_reason g v m 1 (push (statement_item m 0) c₄))))
