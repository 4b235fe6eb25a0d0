-- What the loops of a run start: each of them leads from one course of entry points to another, with the facts that the run's definition starts.
use Rattle.std.proofs.Common.{◌≡◌, ℕ, zero, suc, ◌<◌, Bool, true, false, eqb, ◌⊎◌, List, [], ◌∷◌, ◌++◌, map, sym, refl, ap, ◌∙◌, subst, inl, inr, append_assoc}
use mathlib.Core.Bool.{false≢true}
use Rattle.determine_side_effects.specs.graph_crate.Check.{Graph}
use Rattle.determine_side_effects.specs.graph_access_crate.Names.{entry_references, export_symbol, export_from_common_js, resolved_exports, only}
use Rattle.determine_side_effects.specs.graph_access_crate.Words.{module_of, normal}
use Rattle.determine_side_effects.specs.facts_crate.declared.Fact.{Fact}
use Rattle.determine_side_effects.specs.facts_crate.Facts.{module_fact, checked_fact, bailout_fact}
use Rattle.entry_order.specs.Order.{module_of_entry}
use Rattle.entry_starts.specs.Starts.{declared, reference_starts, references_starts, module_starts, user_starts}
use Rattle.passes.specs.Bailouts.{export_starts}
use Rattle.tree_shaking.specs.Rounds.{users_starts}
use Rattle.closed_choices.proofs.Every.{Every, every_append, every_left, every_right}
use Rattle.rust_values.specs.Values.{In, SameMembers}
use Rattle.rust_engine.specs.Context.{Context, module_item, push, insert_bailout}
use Rattle.rust_engine.specs.Tables.{owner_of}
use Rattle.rust_engine.specs.Engine.{Drains, enqueue_declaring_statements, push_symbol_and_check_cjs_bailout}
use Rattle.rust_engine.specs.EntryPoints.{Reached, bails_out, include_declaring, include_checked, include_module, declared_facts}
use Rattle.rust_order.specs.DynamicEntries.{entry_idx}
use Rattle.rust_run.specs.DynamicEntries as tries
use Rattle.rust_run.specs.Passes as passes
use Rattle.rust_run.specs.IncludeStatements as whole

-- the same facts are asked for: what holds of every one of the first holds of every one of the others, and back
pub record Alike (xs ys : List Fact) : Type 1 where
  pub there : (P : Fact → Type 0) → Every P xs → Every P ys
  pub back : (P : Fact → Type 0) → Every P ys → Every P xs

pub alike_refl : (xs : List Fact) → Alike xs xs
alike_refl xs = record { there = λ P h. h; back = λ P h. h }

-- the newer ones stand in front on one side, behind on the other
pub alike_then : (cs ds xs ys : List Fact) → Alike cs xs → Alike ds ys → Alike (ds ++ cs) (xs ++ ys)
alike_then cs ds xs ys a b =
    record {
      there = λ P h. every_append P xs ys (a.there P (every_right P ds cs h)) (b.there P (every_left P ds cs h));
      back = λ P h. every_append P ds cs (b.back P (every_right P xs ys h)) (a.back P (every_left P xs ys h));
    }

module _ (g : Graph) (v : List ℕ) (b : Context) where
  -- a course with starts ss goes on to context d by further starts that are like fs
  pub record Onward (ss : List Fact) (taken : List ℕ) (d : Context) (fs : List Fact) : Type 1 where
    pub gs : List Fact
    pub reached : Reached g v b (gs ++ ss) taken d
    pub alike : Alike gs fs

  pub onward_none : (ss : List Fact) (taken : List ℕ) (c : Context) → Reached g v b ss taken c → Onward ss taken c []
  onward_none ss taken c r = record { gs = []; reached = r; alike = alike_refl [] }

  pub onward_then : (ss : List Fact) (taken : List ℕ) (c d : Context) (fs hs : List Fact) (o : Onward ss taken c fs) → Onward (o.gs ++ ss) taken d hs → Onward ss taken d (fs ++ hs)
  onward_then ss taken c d fs hs o p =
      record {
        gs = p.gs ++ o.gs;
        reached = subst (λ (l : List Fact). Reached g v b l taken d) (sym (append_assoc p.gs o.gs ss)) p.reached;
        alike = alike_then o.gs p.gs fs hs o.alike p.alike;
      }

  -- one entry reference
  declared_are : (s : ℕ) → normal g (owner_of g s) ≡ true → declared_facts g s ≡ declared g s
  unfolding declared_facts declared
  declared_are s e = rw (e, declared_facts, declared)

  pub reference_is : (s : ℕ) → normal g (owner_of g s) ≡ true → reference_starts g s ≡ declared_facts g s ++ (checked_fact s 2 ∷ [])
  unfolding reference_starts
  reference_is s e = rw (declared_are s e) (rw (e, reference_starts))

  reference_onward : (s : ℕ) (ss : List Fact) (taken : List ℕ) (c c₁ c₂ : Context) → normal g (owner_of g s) ≡ true → Reached g v b ss taken c
      → Drains g v (enqueue_declaring_statements g s c) c₁ → Drains g v (push_symbol_and_check_cjs_bailout g s 2 c₁) c₂ → Onward ss taken c₂ (reference_starts g s)
  reference_onward s ss taken c c₁ c₂ n r a e =
      record {
        gs = checked_fact s 2 ∷ declared_facts g s;
        reached = include_checked (declared_facts g s ++ ss) taken c₁ c₂ s 2 (include_declaring ss taken c c₁ s r a) e;
        alike =
            subst (λ (l : List Fact). Alike (checked_fact s 2 ∷ declared_facts g s) l) (sym (reference_is s n))
            (alike_then (declared_facts g s) (checked_fact s 2 ∷ []) (declared_facts g s) (checked_fact s 2 ∷ []) (alike_refl (declared_facts g s)) (alike_refl (checked_fact s 2 ∷ [])));
      }

  no_reference : (s : ℕ) → normal g (owner_of g s) ≡ false → reference_starts g s ≡ []
  unfolding reference_starts
  no_reference s e = rw (e, reference_starts)

  references_onward : (rows : List (List ℕ)) (c d : Context) → tries.References g v rows c d → (ss : List Fact) (taken : List ℕ) → Reached g v b ss taken c
      → Onward ss taken d (references_starts g rows)
  unfolding references_starts
  references_onward rows c d (tries.References.no_more _) ss taken r = onward_none ss taken c r
  references_onward rows c d (tries.References.of_external row rows' _ _ n more) ss taken r = rw (no_reference (only row) n) (references_onward rows' c d more ss taken r)
  references_onward rows c d (tries.References.of_normal row rows' _ c₁ c₂ _ n x y more) ss taken r =
      let o = reference_onward (only row) ss taken c c₁ c₂ n r x y in
      onward_then ss taken c₂ d (reference_starts g (only row)) (references_starts g rows') o (references_onward rows' c₂ d more (o.gs ++ ss) taken o.reached)

  -- an entry's module
  pub module_normal : (m : ℕ) → normal g m ≡ true → module_starts g m ≡ references_starts g (entry_references (module_of g m)) ++ (module_fact m ∷ [])
  unfolding module_starts
  module_normal m e = rw (e, module_starts)

  pub entry_onward : (m : ℕ) (c d : Context) → normal g m ≡ true → tries.IncludesEntry g v m c d → (ss : List Fact) (taken : List ℕ) → Reached g v b ss taken c → Onward ss taken d (module_starts g m)
  entry_onward m c d n s ss taken r =
      let o = references_onward (entry_references (module_of g m)) c s.between s.of_references ss taken r in
      rw (module_normal m n)
      (onward_then ss taken s.between d (references_starts g (entry_references (module_of g m))) (module_fact m ∷ []) o
      (record { gs = module_fact m ∷ []; reached = include_module (o.gs ++ ss) taken s.between d m o.reached s.of_module; alike = alike_refl (module_fact m ∷ []) }))

  -- the user-defined entries
  pub user_normal : (m : ℕ) → normal g m ≡ true → user_starts g m ≡ (bailout_fact m ∷ []) ++ module_starts g m
  unfolding user_starts
  user_normal m e = rw (e, user_starts)

  user_external : (m : ℕ) → normal g m ≡ false → user_starts g m ≡ []
  unfolding user_starts
  user_external m e = rw (e, user_starts)

  pub users_onward : (es : List ℕ) (c d : Context) → whole.IncludesUserDefined g v es c d → (ss : List Fact) (taken : List ℕ) → Reached g v b ss taken c → Onward ss taken d (users_starts g es)
  unfolding users_starts entry_idx module_of_entry
  users_onward es c d (whole.IncludesUserDefined.no_more _) ss taken r = onward_none ss taken c r
  users_onward es c d (whole.IncludesUserDefined.of_external e es' _ _ n more) ss taken r = rw (user_external (entry_idx g e) n) (users_onward es' c d more ss taken r)
  users_onward es c d (whole.IncludesUserDefined.of_normal e es' _ c₁ _ n x more) ss taken r =
      let m = entry_idx g e in
      let one : Onward ss taken (insert_bailout m c) (bailout_fact m ∷ []) = record { gs = bailout_fact m ∷ []; reached = bails_out ss taken c m r; alike = alike_refl (bailout_fact m ∷ []) } in
      let two = onward_then ss taken (insert_bailout m c) c₁ (bailout_fact m ∷ []) (module_starts g m) one (entry_onward m (insert_bailout m c) c₁ n x (bailout_fact m ∷ ss) taken one.reached) in
      let here : Onward ss taken c₁ (user_starts g m) = subst (λ (l : List Fact). Onward ss taken c₁ l) (sym (user_normal m n)) two in
      onward_then ss taken c₁ d (user_starts g m) (users_starts g es') here (users_onward es' c₁ d more (here.gs ++ ss) taken here.reached)

  -- the exports of bailouts, whatever their order
  pub export_none : (row : List ℕ) (rows : List (List ℕ)) → eqb (export_from_common_js row) 1 ≡ false → export_starts (row ∷ rows) ≡ export_starts rows
  unfolding export_starts
  export_none row rows e = rw (e, export_starts)

  pub export_one : (row : List ℕ) (rows : List (List ℕ)) → eqb (export_from_common_js row) 1 ≡ true → export_starts (row ∷ rows) ≡ (checked_fact (export_symbol row) 1 ∷ []) ++ export_starts rows
  unfolding export_starts
  export_one row rows e = rw (e, export_starts)

  exports_onward : (rows : List (List ℕ)) (c d : Context) → passes.IncludesExports g v rows c d → (ss : List Fact) (taken : List ℕ) → Reached g v b ss taken c → Onward ss taken d (export_starts rows)
  unfolding export_starts
  exports_onward rows c d (passes.IncludesExports.no_more _) ss taken r = onward_none ss taken c r
  exports_onward rows c d (passes.IncludesExports.not_from_commonjs row rows' _ _ n more) ss taken r = rw (export_none row rows' n) (exports_onward rows' c d more ss taken r)
  exports_onward rows c d (passes.IncludesExports.from_commonjs row rows' _ c₁ _ n x more) ss taken r =
      let f = checked_fact (export_symbol row) 1 in
      let one : Onward ss taken c₁ (f ∷ []) = record { gs = f ∷ []; reached = include_checked ss taken c c₁ (export_symbol row) 1 r x; alike = alike_refl (f ∷ []) } in
      rw (export_one row rows' n) (onward_then ss taken c₁ d (f ∷ []) (export_starts rows') one (exports_onward rows' c₁ d more (f ∷ ss) taken one.reached))

  -- what holds of every export of a list of modules
  unfoldable pub ExportsOf : (Fact → Type 0) → List ℕ → Type 0
  ExportsOf P ms = (m : ℕ) → In m ms → Every P (export_starts (resolved_exports (module_of g m)))

  exported : (P : Fact → Type 0) (rows : List (List ℕ)) → Every P (export_starts rows) → (row : List ℕ) → In row rows → eqb (export_from_common_js row) 1 ≡ true → P (checked_fact (export_symbol row) 1)
  exported P [] h row q e = absurd q
  exported P (r ∷ rows) h row q e = go (eqb (export_from_common_js r) 1) refl q (λ k s. exported P rows k row s e)
    where
      go : (c : Bool) → eqb (export_from_common_js r) 1 ≡ c → In row (r ∷ rows) → (Every P (export_starts rows) → In row rows → P (checked_fact (export_symbol row) 1)) → P (checked_fact (export_symbol row) 1)
      go true n (inl s) more = subst (λ x. P (checked_fact (export_symbol x) 1)) (sym s) (subst (λ (l : List Fact). Every P l) (export_one r rows n) h).0
      go true n (inr s) more = more (subst (λ (l : List Fact). Every P l) (export_one r rows n) h).1 s
      go false n (inl s) more = absurd (false≢true (sym n ∙ subst (λ x. eqb (export_from_common_js x) 1 ≡ true) s e))
      go false n (inr s) more = more (subst (λ (l : List Fact). Every P l) (export_none r rows n) h) s

  no_exports : export_starts [] ≡ []
  unfolding export_starts
  no_exports = refl

  all_exported : (P : Fact → Type 0) (rows : List (List ℕ)) → ((row : List ℕ) → In row rows → eqb (export_from_common_js row) 1 ≡ true → P (checked_fact (export_symbol row) 1)) → Every P (export_starts rows)
  all_exported P [] h = subst (λ (l : List Fact). Every P l) (sym no_exports) tt
  all_exported P (r ∷ rows) h = go (eqb (export_from_common_js r) 1) refl (all_exported P rows (λ row q e. h row (inr q) e))
    where
      go : (c : Bool) → eqb (export_from_common_js r) 1 ≡ c → Every P (export_starts rows) → Every P (export_starts (r ∷ rows))
      go true n k = subst (λ (l : List Fact). Every P l) (sym (export_one r rows n)) (h r (inl refl) n, k)
      go false n k = subst (λ (l : List Fact). Every P l) (sym (export_none r rows n)) k

  pub same_exports : (P : Fact → Type 0) (xs ys : List (List ℕ)) → ((row : List ℕ) → In row ys → In row xs) → Every P (export_starts xs) → Every P (export_starts ys)
  same_exports P xs ys s h = all_exported P ys (λ row q e. exported P xs h row (s row q) e)

  -- a course goes on by the exports of these modules
  pub record ByExports (ss : List Fact) (taken : List ℕ) (d : Context) (ms : List ℕ) : Type 1 where
    pub gs : List Fact
    pub reached : Reached g v b (gs ++ ss) taken d
    pub there : (P : Fact → Type 0) → Every P gs → ExportsOf P ms
    pub back : (P : Fact → Type 0) → ExportsOf P ms → Every P gs

  each_bailout : (ms : List ℕ) (c d : Context) → passes.IncludesBailouts g v ms c d → (ss : List Fact) (taken : List ℕ) → Reached g v b ss taken c → ByExports ss taken d ms
  unfolding ExportsOf
  each_bailout ms c d (passes.IncludesBailouts.no_more _) ss taken r = record { gs = []; reached = r; there = λ P h m q. absurd q; back = λ P h. tt }
  each_bailout ms c d (passes.IncludesBailouts.one m ms' order _ c₁ _ s x more) ss taken r =
      let o = exports_onward order c c₁ x ss taken r in
      let p = each_bailout ms' c₁ d more (o.gs ++ ss) taken o.reached in
      record {
        gs = p.gs ++ o.gs;
        reached = subst (λ (l : List Fact). Reached g v b l taken d) (sym (append_assoc p.gs o.gs ss)) p.reached;
        there = λ P h. all P (same_exports P order (resolved_exports (module_of g m)) s.back (o.alike.there P (every_right P p.gs o.gs h))) (p.there P (every_left P p.gs o.gs h));
        back = λ P h. every_append P p.gs o.gs (p.back P (λ n q. h n (inr q))) (o.alike.back P (same_exports P (resolved_exports (module_of g m)) order s.from (h m (inl refl))));
      }
    where
      all : (P : Fact → Type 0) → Every P (export_starts (resolved_exports (module_of g m))) → ((n : ℕ) → In n ms' → Every P (export_starts (resolved_exports (module_of g n))))
          → (n : ℕ) → In n (m ∷ ms') → Every P (export_starts (resolved_exports (module_of g n)))
      all P h k n (inl e) = subst (λ x. Every P (export_starts (resolved_exports (module_of g x)))) (sym e) h
      all P h k n (inr q) = k n q

  pub bailouts_onward : (ms : List ℕ) (c d : Context) → passes.IncludeCjsBailoutExports g v ms c d → (ss : List Fact) (taken : List ℕ) → Reached g v b ss taken c → ByExports ss taken d ms
  unfolding ExportsOf
  bailouts_onward ms c d x ss taken r =
      let o = each_bailout x.order c d x.includes ss taken r in
      record {
        gs = o.gs;
        reached = o.reached;
        there = λ P h m q. o.there P h m (x.same.back m q);
        back = λ P h. o.back P (λ m q. h m (x.same.from m q));
      }
