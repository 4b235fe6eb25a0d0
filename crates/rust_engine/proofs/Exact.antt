-- T11 for the engine: between the public entry points the sets of the Rust are what the smallest choice that is closed but for the base and holds the
-- starts so far shows.
use Rattle.std.proofs.Common.{◌≡◌, ℕ, ◌+◌, ◌-◌, ◌*◌, Bool, true, false, ◌||◌, eqb, ◌⊎◌, List, [], sym, refl, subst, inl, inr, arith, eqb-true}
use mathlib.Core.Bool.{false≢true}
use Rattle.determine_side_effects.specs.graph_crate.Check.{Graph}
use Rattle.determine_side_effects.specs.graph_access_crate.Names.{owner}
use Rattle.determine_side_effects.specs.graph_access_crate.Words.{symbol_of}
use Rattle.determine_side_effects.specs.facts_crate.declared.Fact.{Fact}
use Rattle.determine_side_effects.specs.facts_crate.declared.Fact.TheVariants.{Module, Statement, Use, CheckedUse, Forward, Bailout}
use Rattle.determine_side_effects.specs.facts_crate.Facts.{module_fact, statement_fact, use_fact, bailout_fact, Good}
use Rattle.determine_side_effects.specs.Effects.{last_verdicts}
use Rattle.keep_rules.specs.Rules.{dev_namespace}
use Rattle.keep_record.specs.Lines.{elem}
use Rattle.answer_rows.specs.declared.Row.TheVariants.{Used, External, Json, NamespaceReason}
use Rattle.answer_rows.specs.Shown.{shows, only_if}
use Rattle.closed_choices.specs.Choice.{Choice, Closed, HoldsStarts}
use Rattle.closed_choices.proofs.Every.{every_at, every_by}
use Rattle.rust_values.specs.Values.{Pair, pair, In}
use Rattle.rust_engine.specs.Context.{Context, module_item, symbol_item, statement_item}
use Rattle.rust_engine.specs.EntryPoints.{InRows, SmallestOver, ShownBy, ReasonBy, Exactly, Reached}
use Rattle.rust_engine.proofs.Kept.{Kept, UseShown, kept-closed, settle}
use Rattle.rust_engine.proofs.Theorem.{Over, HasRows, beyond, Within, Handlers}
use Rattle.rust_engine.proofs.Inside.{Inside, reached_rows, reached-inside}
use Rattle.rust_engine.proofs.Between.{Done, reached-done}

module _ (g : Graph) (good_closed : Closed g (Good g)) (hs : Handlers g) (base : Context) (good-base : (f : Fact) → InRows base f → Good g f) where
  abbrev v : List ℕ
  v = last_verdicts g

  pub engine_exact : (ss : List Fact) (taken : List ℕ) (c : Context) → Reached g v base ss taken c → HoldsStarts ss (Good g) → (C : Choice)
      → SmallestOver g (InRows base) ss C
      → Exactly g base C taken c
  unfolding shows elem only_if
  engine_exact ss taken c r good C least =
      record {
        modules_are = λ m. (w.of_modules m, λ q. settle g v taken uses c ended (module_item m) (kept (module_fact m) q));
        statements_are = λ m i. (w.of_statements m i, λ q. settle g v taken uses c ended (statement_item m i) (kept (statement_fact m i) q));
        used_are =
            λ s. (w.of_used s, both (In s base.used) (ShownBy g new Used s) (In s c.used) (rows.has_used s) (λ q. all-used s q.0 q.1.0 q.2));
        external_are =
            λ s. (
              w.of_external s,
              both (In s base.external) (ShownBy g new External s) (In s c.external) (rows.has_external s)
                  (λ q. all-external s q.0 q.1.0 q.2),
            );
        json_are = λ m s. (w.of_json m s, λ q. subst (λ n. In (pair n s) c.json) (sym q.0) (all-json s q.1.0 q.1.1.0 q.1.2));
        reasons_are =
            λ m b. (
              w.of_reasons m b,
              both (In (pair m b) base.reasons) (ReasonBy g new m b) (In (pair m b) c.reasons) (rows.has_reasons (pair m b))
                  (all-reasons m b),
            );
        bailouts_are = λ m. (bails m, λ q. kept (bailout_fact m) q);
      }
    where
      S : Over
      S = record { base = base; choice = C }

      new : Choice
      new = beyond S

      both : (A B D : Type 0) → (A → D) → (B → D) → A ⊎ B → D
      both A B D a b (inl q) = a q
      both A B D a b (inr q) = b q

      p : Done g good_closed hs base ss taken c
      p = reached-done g good_closed hs base good-base ss taken c r (every_by (Good g) ss (module_fact 0) good)

      rows : HasRows base c
      rows = reached_rows g good_closed hs base ss taken c r

      uses : List Pair
      uses = p.uses

      ended : c.pending ≡ []
      ended = p.ended

      i : Inside g good_closed hs S taken c
      i = reached-inside g good_closed hs S least.closed least.holds_base ss taken c r (every_by C ss (module_fact 0) least.holds_starts)

      w : Within g S c
      w = i.within

      base_kept : (f : Fact) → InRows base f → Kept g v taken uses c f
      base_kept (Module m) q = inl (rows.has_modules m.0 q)
      base_kept (Statement m k) q = inl (rows.has_statements (pair m.0 k.0) q)
      base_kept (Use s x) q = absurd q
      base_kept (CheckedUse s x) q = absurd q
      base_kept (Forward s) q = absurd q
      base_kept (Bailout m) q = absurd q

      kept : (f : Fact) → C f → Kept g v taken uses c f
      kept f q =
          least.inside_each (Kept g v taken uses c) base_kept (every_at (Kept g v taken uses c) ss (module_fact 0) p.holds)
          (kept-closed g v taken uses c ended base refl p.settled) f q

      bails : (m : ℕ) → In m c.bailouts ⊎ In m taken → C (bailout_fact m)
      bails m (inl q) = w.of_bailouts m q
      bails m (inr q) = i.of-taken m q

      handled : (s x : ℕ) → C (use_fact s x) → UseShown g v taken c s x
      handled s x q = p.settled.uses-shown s x (settle g v taken uses c ended (symbol_item s x) (kept (use_fact s x) q))

      all-used : (j : ℕ) (f : Fact) → C f → elem j (shows g Used f) ≡ true → In j c.used
      all-used j (Module m) q e = absurd (false≢true e)
      all-used j (Statement m k) q e = absurd (false≢true e)
      all-used j (Use s x) q e = (handled s.0 x.bits q).in-used j e
      all-used j (CheckedUse s x) q e = absurd (false≢true e)
      all-used j (Forward s) q e = absurd (false≢true e)
      all-used j (Bailout m) q e = absurd (false≢true e)

      all-external : (j : ℕ) (f : Fact) → C f → elem j (shows g External f) ≡ true → In j c.external
      all-external j (Module m) q e = absurd (false≢true e)
      all-external j (Statement m k) q e = absurd (false≢true e)
      all-external j (Use s x) q e = (handled s.0 x.bits q).in-external j e
      all-external j (CheckedUse s x) q e = absurd (false≢true e)
      all-external j (Forward s) q e = absurd (false≢true e)
      all-external j (Bailout m) q e = absurd (false≢true e)

      all-json : (j : ℕ) (f : Fact) → C f → elem j (shows g Json f) ≡ true → In (pair (owner (symbol_of g j)) j) c.json
      all-json j (Module m) q e = absurd (false≢true e)
      all-json j (Statement m k) q e = absurd (false≢true e)
      all-json j (Use s x) q e = (handled s.0 x.bits q).in-json j e
      all-json j (CheckedUse s x) q e = absurd (false≢true e)
      all-json j (Forward s) q e = absurd (false≢true e)
      all-json j (Bailout m) q e = absurd (false≢true e)

      -- a module in dev mode, and uses
      dev : (m n j : ℕ) (b : Bool) → dev_namespace g n ≡ b → elem j (only_if b (8 * n)) ≡ true → (dev_namespace g n ≡ true) × (j ≡ 8 * n)
      dev m n j true e q = (e, right (eqb j (8 * n)) refl q)
        where
          right : (b : Bool) → eqb j (8 * n) ≡ b → (b || false) ≡ true → j ≡ 8 * n
          right true e q = eqb-true j (8 * n) e
          right false e q = absurd (false≢true q)
      dev m n j false e q = absurd (false≢true q)

      of_module : (m n : ℕ) → new (module_fact n) → (dev_namespace g n ≡ true) × (8 * m ≡ 8 * n) → In (pair m 1) c.reasons
      of_module m n q r =
          let same : n ≡ m = omega (arith, r.1) in
          subst (λ k. In (pair k 1) c.reasons) same
          (p.settled.modules_shown n (settle g v taken uses c ended (module_item n) (kept (module_fact n) q.0)) q.1 r.0)

      odd : (m n : ℕ) → 8 * m + 1 ≡ 8 * n → ⊥
      odd m n e = omega (arith, e)

      first : (m : ℕ) (f : Fact) → new f → elem (8 * m) (shows g NamespaceReason f) ≡ true → In (pair m 1) c.reasons
      first m (Module n) q e = of_module m n.0 q (dev m n.0 (8 * m) (dev_namespace g n.0) refl e)
      first m (Statement n k) q e = absurd (false≢true e)
      first m (Use s x) q e = (handled s.0 x.bits q.0).in-reason m 1 (inl (refl, e))
      first m (CheckedUse s x) q e = absurd (false≢true e)
      first m (Forward s) q e = absurd (false≢true e)
      first m (Bailout n) q e = absurd (false≢true e)

      second : (m : ℕ) (f : Fact) → new f → elem (8 * m + 1) (shows g NamespaceReason f) ≡ true → In (pair m 2) c.reasons
      second m (Module n) q e = absurd (odd m n.0 (dev m n.0 (8 * m + 1) (dev_namespace g n.0) refl e).1)
      second m (Statement n k) q e = absurd (false≢true e)
      second m (Use s x) q e = (handled s.0 x.bits q.0).in-reason m 2 (inr (refl, e))
      second m (CheckedUse s x) q e = absurd (false≢true e)
      second m (Forward s) q e = absurd (false≢true e)
      second m (Bailout n) q e = absurd (false≢true e)

      all-reasons : (m b : ℕ) → ReasonBy g new m b → In (pair m b) c.reasons
      all-reasons m b (inl q) = subst (λ k. In (pair m k) c.reasons) (sym q.0) (first m q.1.0 q.1.1 q.1.2)
      all-reasons m b (inr q) = subst (λ k. In (pair m k) c.reasons) (sym q.0) (second m q.1.0 q.1.1 q.1.2)
