-- What the handlers have in common: what a body asks for is what the rules give (`Links`), nothing that was kept is lost, what is settled stays so.
use Rattle.std.proofs.Common.{◌≡◌, ℕ, ◌-◌, Bool, true, false, not, ◌&&◌, eqb, ◌⊎◌, List, [], get_or, sym, subst, inl, inr}
use Rattle.determine_side_effects.specs.graph_crate.Check.{Graph}
use Rattle.determine_side_effects.specs.graph_access_crate.Names.{owner, declaring_statements, only}
use Rattle.determine_side_effects.specs.graph_access_crate.Words.{symbol_of}
use Rattle.determine_side_effects.specs.facts_crate.declared.Fact.{Fact}
use Rattle.determine_side_effects.specs.facts_crate.declared.Fact.TheVariants.{Module, Statement, Use, CheckedUse, Forward, Bailout}
use Rattle.determine_side_effects.specs.facts_crate.Facts.{module_fact, statement_fact, use_fact}
use Rattle.determine_side_effects.specs.Effects.{last_verdicts}
use Rattle.keep_rules.specs.Rules.{gives, dev_namespace}
use Rattle.keep_record.specs.Lines.{elem}
use Rattle.answer_rows.specs.Shown.{used_by, external_by, json_by, reason_by}
use Rattle.closed_choices.specs.Choice.{nothing_given}
use Rattle.rust_values.specs.Values.{Pair, pair, In}
use Rattle.rust_engine.specs.Context.{Context, WorkItem, module_item, symbol_item, statement_item}
use Rattle.rust_engine.specs.Tables.{owner_of, canonical_ref_for, has_side_effects}
use Rattle.rust_engine.specs.Engine.{is_bypassed_inlined_constant}
use Rattle.rust_engine.proofs.Kept.{ReasonIn, fact_of_item, AllGiven, Kept, Kept₀, Forwarded, UseShown, Settled, Grows}
use Rattle.rust_engine.proofs.Theorem.{Within, HasRows, good_over}
use Rattle.rust_engine.proofs.Asking.{grown_rows, World, SweptAll, Fit, Grown, kept_statement}
use Rattle.rust_engine.proofs.Symbols.{Symbol}
use Rattle.rust_engine.proofs.Statements.{StatementAsks}
use Rattle.rust_engine.proofs.Modules.{ModuleAsks}

module _ (g : Graph) where
  abbrev v : List ℕ
  v = last_verdicts g

  abbrev pub quiet : ℕ → Bool
  quiet m = eqb m g.header.runtime && not (has_side_effects v m)

  pub record RowsOf (w : World g v) (s x : ℕ) : Type 0 where
    pub rows-used : (j : ℕ) → elem j (used_by g s x) ≡ true → w.used j
    pub rows-external : (j : ℕ) → elem j (external_by g s x) ≡ true → w.external j
    pub rows-json : (j : ℕ) → elem j (json_by g s x) ≡ true → w.json j
    pub rows-reason : (m b : ℕ) → ReasonIn (reason_by g s x) m b → w.reason m b

  -- what a body asks for is what the rules give, in every world
  pub record Links : Type 1 where
    pub module_from : (w : World g v) (m : ℕ) → (dev_namespace g m ≡ true → w.reason m 1) → AllGiven g v w.fact (module_fact m) → not (quiet m) ≡ true
        → ModuleAsks g m w
    pub module_to : (w : World g v) (m : ℕ) → (not (quiet m) ≡ true → ModuleAsks g m w) → AllGiven g v w.fact (module_fact m)
        × (dev_namespace g m ≡ true → w.reason m 1)
    pub statement_from : (w : World g v) (m i : ℕ) → AllGiven g v w.fact (statement_fact m i) → StatementAsks g m i w
    pub statement_to : (w : World g v) (m i : ℕ) → StatementAsks g m i w → AllGiven g v w.fact (statement_fact m i)
    pub symbol_from : (w : World g v) (s x : ℕ) → is_bypassed_inlined_constant g (canonical_ref_for g s) x ≡ false → AllGiven g v w.fact (use_fact s x)
        → RowsOf w s x → Symbol g v s x w
    pub symbol_to : (w : World g v) (s x : ℕ) → (is_bypassed_inlined_constant g (canonical_ref_for g s) x ≡ false → Symbol g v s x w)
        → AllGiven g v w.fact (use_fact s x) × RowsOf w s x

  -- from a context to another one: nothing is lost if what was on the queue is kept and forwards stay
  module _ (taken : List ℕ) (uses ws : List Pair) (c d : Context)
      (mods : (m : ℕ) → In m c.modules → In m d.modules) (stmts : (m i : ℕ) → In (pair m i) c.statements → In (pair m i) d.statements)
      (us : (s x : ℕ) → In (pair s x) uses → In (pair s x) ws) (bails : (m : ℕ) → In m c.bailouts → In m d.bailouts)
      (queue : (j : WorkItem) → In j c.pending → Kept g v taken ws d (fact_of_item j)) (fwd : (s : ℕ) → Forwarded g v taken c s → Forwarded g v taken d s) where
    over₀ : (f : Fact) → Kept₀ g v taken uses c f → Kept₀ g v taken ws d f
    over₀ (Module m) (inl h) = inl (mods m.0 h)
    over₀ (Module m) (inr h) = queue (module_item m.0) h
    over₀ (Statement m i) (inl h) = inl (stmts m.0 i.0 h)
    over₀ (Statement m i) (inr h) = queue (statement_item m.0 i.0) h
    over₀ (Use s x) (inl h) = inl (us s.0 x.bits h)
    over₀ (Use s x) (inr h) = queue (symbol_item s.0 x.bits) h
    over₀ (CheckedUse s x) h = absurd h
    over₀ (Forward s) h = fwd s.0 h
    over₀ (Bailout m) (inl h) = inl (bails m.0 h)
    over₀ (Bailout m) (inr h) = inr h

    pub over : Grows g v taken uses c ws d
    over (Module m) h = over₀ (Module m) h
    over (Statement m i) h = over₀ (Statement m i) h
    over (Use s x) h = over₀ (Use s x) h
    over (CheckedUse s x) h = λ k u. over₀ (get_or (gives g v (CheckedUse s x)) k nothing_given).fact (h k u)
    over (Forward s) h = over₀ (Forward s) h
    over (Bailout m) h = over₀ (Bailout m) h

  pub queued_kept : (taken : List ℕ) (uses : List Pair) (d : Context) (i : WorkItem) → In i d.pending → Kept g v taken uses d (fact_of_item i)
  queued_kept taken uses d (module_item m) h = inr h
  queued_kept taken uses d (symbol_item s x) h = inr h
  queued_kept taken uses d (statement_item m k) h = inr h

  -- within a body
  pub grown_grows : (taken : List ℕ) (uses : List Pair) (c d : Context) → Grown g v c d → Grows g v taken uses c uses d
  grown_grows taken uses c d h =
      over taken uses uses c d (λ m x. subst (λ xs. In m xs) (sym h.modules_same) x) (λ m i x. subst (λ xs. In (pair m i) xs) (sym h.statements-same) x)
      (λ s x q. q) h.bailouts-sub
      (λ j x. queued_kept taken uses d j (h.pending-sub j x))
      (λ s f. record {
        joins =
            λ i k u. kept_statement g v c d h (owner_of g s) (only (get_or (declaring_statements (symbol_of g s)) k []))
            (f.joins (subst (λ xs. In (owner_of g s) xs) h.modules_same i) k u);
        waits = λ n. h.deferred-sub s (f.waits (λ i. n (subst (λ xs. In (owner_of g s) xs) (sym h.modules_same) i)));
      })

  -- settled afterwards
  module _ (taken : List ℕ) (base : Context) (uses ws : List Pair) (c d : Context) (h : Settled g v taken base uses c) (more : Grows g v taken uses c ws d) where
    abbrev Given : Fact → Type 0
    Given f = AllGiven g v (Kept g v taken ws d) f

    still : (f : Fact) → AllGiven g v (Kept g v taken uses c) f → Given f
    still f a k u = more (get_or (gives g v f) k nothing_given).fact (a k u)

    abbrev Module-done : ℕ → Type 0
    Module-done m = Given (module_fact m) × (dev_namespace g m ≡ true → In (pair m 1) d.reasons)

    abbrev Use-done : ℕ → ℕ → Type 0
    Use-done s x = Given (use_fact s x) × UseShown g v taken d s x

    pub settle-by : ((m : ℕ) → In m d.modules → In m c.modules ⊎ Module-done m)
        → ((m i : ℕ) → In (pair m i) d.statements → In (pair m i) c.statements ⊎ Given (statement_fact m i))
        → ((s x : ℕ) → In (pair s x) ws → In (pair s x) uses ⊎ Use-done s x)
        → HasRows c d → ((p : Pair) → In p c.json → In p d.json) → SweptAll g v d → Settled g v taken base ws d
    settle-by mods stmts us rows js sw =
        record {
          modules-done = λ m i n. (of_module m n (mods m i)).0;
          modules_shown = λ m i n. (of_module m n (mods m i)).1;
          statements-done = λ m i q n. ofStatement m i n (stmts m i q);
          uses-done = λ s x q. (ofUse s x (us s x q)).0;
          uses-shown = λ s x q. (ofUse s x (us s x q)).1;
          swept-done = sw;
        }
      where
        of_module : (m : ℕ) → (In m base.modules → ⊥) → In m c.modules ⊎ Module-done m → Module-done m
        of_module m n (inl i) = (still (module_fact m) (h.modules-done m i n), λ e. rows.has_reasons (pair m 1) (h.modules_shown m i n e))
        of_module m n (inr a) = a

        ofStatement : (m i : ℕ) → (In (pair m i) base.statements → ⊥) → In (pair m i) c.statements ⊎ Given (statement_fact m i) → Given (statement_fact m i)
        ofStatement m i n (inl q) = still (statement_fact m i) (h.statements-done m i q n)
        ofStatement m i n (inr a) = a

        ofUse : (s x : ℕ) → In (pair s x) uses ⊎ Use-done s x → Use-done s x
        ofUse s x (inl q) =
            let u = h.uses-shown s x q in (
              still (use_fact s x) (h.uses-done s x q),
              record {
                in-used = λ j e. rows.has_used j (u.in-used j e);
                in-external = λ j e. rows.has_external j (u.in-external j e);
                in-json = λ j e. js (pair (owner (symbol_of g j)) j) (u.in-json j e);
                in-reason = λ m b e. rows.has_reasons (pair m b) (u.in-reason m b e);
              },
            )
        ofUse s x (inr a) = a

  pub settled_grown : (taken : List ℕ) (base : Context) (uses : List Pair) (c d : Context) → Settled g v taken base uses c → Grown g v c d → SweptAll g v d
      → Settled g v taken base uses d
  settled_grown taken base uses c d h k sw =
      settle-by taken base uses uses c d h (grown_grows taken uses c d k) (λ m i. inl (subst (λ xs. In m xs) k.modules_same i))
      (λ m i q. inl (subst (λ xs. In (pair m i) xs) k.statements-same q)) (λ s x q. inl q) (grown_rows g v c d k) k.json-sub sw

  -- between two items a context is fit
  pub fit : (taken : List ℕ) (base : Context) (uses : List Pair) (c : Context) → Within g (good_over g base) c → Settled g v taken base uses c → Fit g v c
  fit taken base uses c w h = record { swept-done = h.swept-done; normals = λ m i. (w.of_modules m i).1 }
