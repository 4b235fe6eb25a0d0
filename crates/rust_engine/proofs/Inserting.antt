-- A push and the insertions, as what they ask for.
use Rattle.std.proofs.Common.{◌≡◌, ℕ, ◌⊎◌, List, sym, refl, ap, ◌∙◌, subst, inl, inr}
use Rattle.determine_side_effects.specs.graph_crate.Check.{Graph}
use Rattle.determine_side_effects.specs.graph_access_crate.Names.{owner}
use Rattle.determine_side_effects.specs.graph_access_crate.Words.{symbol_of}
use Rattle.determine_side_effects.specs.facts_crate.Facts.{bailout_fact}
use Rattle.rust_values.specs.Values.{Pair, pair, In}
use Rattle.rust_engine.specs.Context.{Context, WorkItem, module_item, symbol_item, statement_item, push, insert_bailout, insert_used, insert_external, insert_json, insert_reason}
use Rattle.rust_engine.proofs.Kept.{fact_of_item, Kept}
use Rattle.rust_engine.proofs.Theorem.{Over, UsedIn, ExternalIn, JsonIn, ReasonOf, Within}
use Rattle.rust_engine.proofs.Asking.{World, QueuedUse, Asks}

module _ (g : Graph) (v : List ℕ) where
  -- a push
  abbrev pub Item : WorkItem → World g v → Type 0
  Item i w = w.fact (fact_of_item i)

  pub asks_push : (i : WorkItem) (c : Context) → Asks g v (Item i) c (push i c)
  unfolding push
  asks_push i c =
      record {
        grown =
            record {
              modules_same = refl;
              changed-same = refl;
              statements-same = refl;
              pending-sub = λ j h. inr h;
              deferred-sub = λ s h. h;
              bailouts-sub = λ m h. h;
              used-sub = λ s h. h;
              external-sub = λ s h. h;
              json-sub = λ p h. h;
              reasons-sub = λ p h. h;
              swept-back = λ b h. inl h;
            };
        within = λ S k p w.
            record {
              queued = λ j h. queue S p w j h;
              of_modules = w.of_modules;
              of_statements = w.of_statements;
              of_deferred = w.of_deferred;
              of_bailouts = w.of_bailouts;
              of_used = w.of_used;
              of_external = w.of_external;
              of_json = w.of_json;
              of_reasons = w.of_reasons;
            };
        keeps = λ taken uses e s h. there taken uses e i (h.pending-sub i (inl refl));
        pushes = λ e h. here e i (h.pending-sub i (inl refl));
      }
    where
      queue : (S : Over) → S.choice (fact_of_item i) → Within g S c → (j : WorkItem) → (j ≡ i) ⊎ In j c.pending → S.choice (fact_of_item j)
      queue S p w j (inl e) = subst (λ x. S.choice (fact_of_item x)) (sym e) p
      queue S p w j (inr h) = w.queued j h

      there : (taken : List ℕ) (uses : List Pair) (e : Context) (i : WorkItem) → In i e.pending → Kept g v taken uses e (fact_of_item i)
      there taken uses e (module_item m) h = inr h
      there taken uses e (symbol_item s x) h = inr h
      there taken uses e (statement_item m k) h = inr h

      here : (e : Context) (i : WorkItem) → In i e.pending → QueuedUse g v e (fact_of_item i)
      here e (module_item m) h = tt
      here e (symbol_item s x) h = h
      here e (statement_item m k) h = tt

  pub asks_bailout : (m : ℕ) (c : Context) → Asks g v (λ w. w.fact (bailout_fact m)) c (insert_bailout m c)
  unfolding insert_bailout
  asks_bailout m c =
      record {
        grown =
            record {
              modules_same = refl;
              changed-same = refl;
              statements-same = refl;
              pending-sub = λ j h. h;
              deferred-sub = λ s h. h;
              bailouts-sub = λ n h. inr h;
              used-sub = λ s h. h;
              external-sub = λ s h. h;
              json-sub = λ p h. h;
              reasons-sub = λ p h. h;
              swept-back = λ b h. inl h;
            };
        within = λ S k p w.
            record {
              queued = w.queued;
              of_modules = w.of_modules;
              of_statements = w.of_statements;
              of_deferred = w.of_deferred;
              of_bailouts = λ n h. there S p w n h;
              of_used = w.of_used;
              of_external = w.of_external;
              of_json = w.of_json;
              of_reasons = w.of_reasons;
            };
        keeps = λ taken uses e s h. inl (h.bailouts-sub m (inl refl));
        pushes = λ e h. tt;
      }
    where
      there : (S : Over) → S.choice (bailout_fact m) → Within g S c → (n : ℕ) → (n ≡ m) ⊎ In n c.bailouts → S.choice (bailout_fact n)
      there S p w n (inl e) = subst (λ x. S.choice (bailout_fact x)) (sym e) p
      there S p w n (inr h) = w.of_bailouts n h

  pub asks_used : (s : ℕ) (c : Context) → Asks g v (λ w. w.used s) c (insert_used s c)
  unfolding insert_used
  asks_used s c =
      record {
        grown =
            record {
              modules_same = refl;
              changed-same = refl;
              statements-same = refl;
              pending-sub = λ j h. h;
              deferred-sub = λ s h. h;
              bailouts-sub = λ n h. h;
              used-sub = λ s h. inr h;
              external-sub = λ s h. h;
              json-sub = λ p h. h;
              reasons-sub = λ p h. h;
              swept-back = λ b h. inl h;
            };
        within = λ S k p w.
            record {
              queued = w.queued;
              of_modules = w.of_modules;
              of_statements = w.of_statements;
              of_deferred = w.of_deferred;
              of_bailouts = w.of_bailouts;
              of_used = λ n h. there S p w n h;
              of_external = w.of_external;
              of_json = w.of_json;
              of_reasons = w.of_reasons;
            };
        keeps = λ taken uses e a h. h.used-sub s (inl refl);
        pushes = λ e h. tt;
      }
    where
      there : (S : Over) → UsedIn g S s → Within g S c → (n : ℕ) → (n ≡ s) ⊎ In n c.used → UsedIn g S n
      there S p w n (inl e) = subst (λ x. UsedIn g S x) (sym e) p
      there S p w n (inr h) = w.of_used n h

  pub asks_external : (s : ℕ) (c : Context) → Asks g v (λ w. w.external s) c (insert_external s c)
  unfolding insert_external
  asks_external s c =
      record {
        grown =
            record {
              modules_same = refl;
              changed-same = refl;
              statements-same = refl;
              pending-sub = λ j h. h;
              deferred-sub = λ s h. h;
              bailouts-sub = λ n h. h;
              used-sub = λ s h. h;
              external-sub = λ s h. inr h;
              json-sub = λ p h. h;
              reasons-sub = λ p h. h;
              swept-back = λ b h. inl h;
            };
        within = λ S k p w.
            record {
              queued = w.queued;
              of_modules = w.of_modules;
              of_statements = w.of_statements;
              of_deferred = w.of_deferred;
              of_bailouts = w.of_bailouts;
              of_used = w.of_used;
              of_external = λ n h. there S p w n h;
              of_json = w.of_json;
              of_reasons = w.of_reasons;
            };
        keeps = λ taken uses e a h. h.external-sub s (inl refl);
        pushes = λ e h. tt;
      }
    where
      there : (S : Over) → ExternalIn g S s → Within g S c → (n : ℕ) → (n ≡ s) ⊎ In n c.external → ExternalIn g S n
      there S p w n (inl e) = subst (λ x. ExternalIn g S x) (sym e) p
      there S p w n (inr h) = w.of_external n h

  pub asks_json : (s : ℕ) (c : Context) → Asks g v (λ w. w.json s) c (insert_json (owner (symbol_of g s)) s c)
  unfolding insert_json
  asks_json s c =
      record {
        grown =
            record {
              modules_same = refl;
              changed-same = refl;
              statements-same = refl;
              pending-sub = λ j h. h;
              deferred-sub = λ s h. h;
              bailouts-sub = λ n h. h;
              used-sub = λ s h. h;
              external-sub = λ s h. h;
              json-sub = λ p h. inr h;
              reasons-sub = λ p h. h;
              swept-back = λ b h. inl h;
            };
        within = λ S k p w.
            record {
              queued = w.queued;
              of_modules = w.of_modules;
              of_statements = w.of_statements;
              of_deferred = w.of_deferred;
              of_bailouts = w.of_bailouts;
              of_used = w.of_used;
              of_external = w.of_external;
              of_json = λ m n h. there S p w m n h;
              of_reasons = w.of_reasons;
            };
        keeps = λ taken uses e a h. h.json-sub (pair (owner (symbol_of g s)) s) (inl refl);
        pushes = λ e h. tt;
      }
    where
      there : (S : Over) → JsonIn g S s → Within g S c → (m n : ℕ) → (pair m n ≡ pair (owner (symbol_of g s)) s) ⊎ In (pair m n) c.json
          → (m ≡ owner (symbol_of g n)) × JsonIn g S n
      there S p w m n (inl e) =
          let a : m ≡ owner (symbol_of g s) = ap (λ q. q.first) e in
          let b : n ≡ s = ap (λ q. q.second) e in
          (a ∙ ap (λ x. owner (symbol_of g x)) (sym b), subst (λ x. JsonIn g S x) (sym b) p)
      there S p w m n (inr h) = w.of_json m n h

  pub asks_reason : (m b : ℕ) (c : Context) → Asks g v (λ w. w.reason m b) c (insert_reason m b c)
  unfolding insert_reason
  asks_reason m b c =
      record {
        grown =
            record {
              modules_same = refl;
              changed-same = refl;
              statements-same = refl;
              pending-sub = λ j h. h;
              deferred-sub = λ s h. h;
              bailouts-sub = λ n h. h;
              used-sub = λ s h. h;
              external-sub = λ s h. h;
              json-sub = λ p h. h;
              reasons-sub = λ p h. inr h;
              swept-back = λ b h. inl h;
            };
        within = λ S k p w.
            record {
              queued = w.queued;
              of_modules = w.of_modules;
              of_statements = w.of_statements;
              of_deferred = w.of_deferred;
              of_bailouts = w.of_bailouts;
              of_used = w.of_used;
              of_external = w.of_external;
              of_json = w.of_json;
              of_reasons = λ n a h. there S p w n a h;
            };
        keeps = λ taken uses e a h. h.reasons-sub (pair m b) (inl refl);
        pushes = λ e h. tt;
      }
    where
      there : (S : Over) → ReasonOf g S m b → Within g S c → (n a : ℕ) → (pair n a ≡ pair m b) ⊎ In (pair n a) c.reasons → ReasonOf g S n a
      there S p w n a (inl e) = subst (λ q. ReasonOf g S q.first q.second) (sym e) p
      there S p w n a (inr h) = w.of_reasons n a h
