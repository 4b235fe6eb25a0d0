-- Declarations and forwards: `enqueue_declaring_statements`, `retain_forwarding_declaration(s)`.
use Rattle.std.proofs.Common.{◌≡◌, ℕ, ◌+◌, ◌-◌, Bool, true, false, ◌⊎◌, List, [], ◌∷◌, ◌++◌, get_or, sym, refl, ◌∙◌, subst, inl, inr}
use mathlib.Core.Bool.{false≢true}
use Rattle.determine_side_effects.specs.graph_crate.Check.{Graph}
use Rattle.determine_side_effects.specs.graph_access_crate.Names.{declaring_statements, only, export_chain}
use Rattle.determine_side_effects.specs.graph_access_crate.Words.{symbol_of, normal}
use Rattle.determine_side_effects.specs.facts_crate.Facts.{module_fact, statement_fact, forward_fact}
use Rattle.keep_record.specs.Lines.{elem}
use Rattle.rust_values.specs.Values.{In}
use Rattle.rust_engine.specs.Context.{Context, statement_item, push, set_deferred, for_each}
use Rattle.rust_engine.specs.Tables.{owner_of}
use Rattle.rust_engine.specs.Engine.{enqueue_declaring_statements, defer, retain_forwarding_declaration, retain_forwarding_declarations}
use Rattle.rust_engine.proofs.Theorem.{Over, ClosedHere, Within}
use Rattle.rust_values.proofs.Members.{elem_in, in_elem, in_append_left, in_append_right, in_append, in_at, at_in}
use Rattle.rust_engine.proofs.Asking.{World, Grown, grown_refl, Asks, asks_then, asks_when, asks_each}
use Rattle.rust_engine.proofs.Inserting.{Item, asks_push}

module _ (g : Graph) (v : List ℕ) where
  abbrev pub W : Type 1
  W = World g v

  -- the declaring statements of a symbol, by their rows
  abbrev pub Declares : ℕ → W → Type 0
  Declares s w = (row : List ℕ) → In row (declaring_statements (symbol_of g s)) → w.fact (statement_fact (owner_of g s) (only row))

  pub asks_declaring : (s : ℕ) (c : Context) → Asks g v (λ w. normal g (owner_of g s) ≡ true → Declares s w) c (enqueue_declaring_statements g s c)
  unfolding enqueue_declaring_statements
  asks_declaring s c =
      asks_when g v (normal g (owner_of g s)) (Declares s) (for_each (λ row. push (statement_item (owner_of g s) (only row))) (declaring_statements (symbol_of g s))) c
      (λ e. asks_each g v (λ row. Item g v (statement_item (owner_of g s) (only row))) (λ row. push (statement_item (owner_of g s) (only row)))
      (declaring_statements (symbol_of g s)) c
      (λ row q d. asks_push g v (statement_item (owner_of g s) (only row)) d))

  -- a test that fails
  not_in : (s : ℕ) (xs : List ℕ) → elem s xs ≡ false → In s xs → ⊥
  not_in s xs e h = false≢true (sym e ∙ in_elem s xs h)

  -- a symbol that waits
  defer_grown : (s : ℕ) (c : Context) → Grown g v c (defer s c)
  unfolding defer set_deferred
  defer_grown s c = go (elem s c.deferred)
    where
      go : (b : Bool) → Grown g v c (elim b [ true ↦ c | false ↦ set_deferred (c.deferred ++ (s ∷ [])) c ])
      go true = grown_refl g v c
      go false =
          record {
            modules_same = refl;
            changed-same = refl;
            statements-same = refl;
            pending-sub = λ j h. h;
            deferred-sub = λ n h. in_append_left n c.deferred (s ∷ []) h;
            bailouts-sub = λ n h. h;
            used-sub = λ s h. h;
            external-sub = λ s h. h;
            json-sub = λ p h. h;
            reasons-sub = λ p h. h;
            swept-back = λ b h. inl h;
          }

  defer_in : (s : ℕ) (c : Context) → In s (defer s c).deferred
  unfolding defer set_deferred
  defer_in s c = go (elem s c.deferred) refl
    where
      out : Bool → Context
      out b = elim b [ true ↦ c | false ↦ set_deferred (c.deferred ++ (s ∷ [])) c ]

      go : (b : Bool) → elem s c.deferred ≡ b → In s (out b).deferred
      go true e = elem_in s c.deferred e
      go false e = in_append_right s c.deferred (s ∷ []) (inl refl)

  defer_modules : (s : ℕ) (c : Context) → (defer s c).modules ≡ c.modules
  defer_modules s c = (defer_grown s c).modules_same

  defer_within : (S : Over) (s : ℕ) (c : Context) → S.choice (forward_fact s) → Within g S c → Within g S (defer s c)
  unfolding defer set_deferred
  defer_within S s c p w = go (elem s c.deferred)
    where
      there : (n : ℕ) → In n c.deferred ⊎ In n (s ∷ []) → S.choice (forward_fact n)
      there n (inl h) = w.of_deferred n h
      there n (inr (inl e)) = subst (λ x. S.choice (forward_fact x)) (sym e) p
      there n (inr (inr h)) = absurd h

      go : (b : Bool) → Within g S (elim b [ true ↦ c | false ↦ set_deferred (c.deferred ++ (s ∷ [])) c ])
      go true = w
      go false =
          record {
            queued = w.queued;
            of_modules = w.of_modules;
            of_statements = w.of_statements;
            of_deferred = λ n h. there n (in_append n c.deferred (s ∷ []) h);
            of_bailouts = w.of_bailouts;
            of_used = w.of_used;
            of_external = w.of_external;
            of_json = w.of_json;
            of_reasons = w.of_reasons;
          }

  -- K1: a module and a forward of its own
  k1_all : (S : Over) → ClosedHere g S → (s : ℕ) → S.choice (module_fact (owner_of g s)) → S.choice (forward_fact s) → (row : List ℕ)
      → In row (declaring_statements (symbol_of g s)) → S.choice (statement_fact (owner_of g s) (only row))
  k1_all S k s hm hf row q =
      let r = at_in row (declaring_statements (symbol_of g s)) [] q in
      subst (λ x. S.choice (statement_fact (owner_of g s) (only x))) r.is (k.by_K1 (owner_of g s) s r.place hm hf refl r.inside)

  pub asks_forward : (s : ℕ) (c : Context) → Asks g v (λ w. w.fact (forward_fact s)) c (retain_forwarding_declaration g s c)
  unfolding retain_forwarding_declaration
  asks_forward s c = go (elem (owner_of g s) c.modules) refl
    where
      a : Asks g v (λ w. normal g (owner_of g s) ≡ true → Declares s w) c (enqueue_declaring_statements g s c)
      a = asks_declaring s c

      included : elem (owner_of g s) c.modules ≡ true → Asks g v (λ w. w.fact (forward_fact s)) c (enqueue_declaring_statements g s c)
      included q =
          record {
            grown = a.grown;
            within = λ S k p w. a.within S k (λ n. k1_all S k s (w.of_modules (owner_of g s) (elem_in (owner_of g s) c.modules q)) p) w;
            pushes = λ e h. tt;
            keeps = λ taken uses e sw h.
                record {
                  joins =
                      λ i j u. a.keeps taken uses e sw h (sw.normals (owner_of g s) (elem_in (owner_of g s) c.modules q))
                      (get_or (declaring_statements (symbol_of g s)) j []) (in_at (declaring_statements (symbol_of g s)) [] j u);
                  waits =
                      λ n. absurd (n (subst (λ xs. In (owner_of g s) xs) (sym (h.modules_same ∙ a.grown.modules_same))
                      (elem_in (owner_of g s) c.modules q)));
                };
          }

      waiting : elem (owner_of g s) c.modules ≡ false → Asks g v (λ w. w.fact (forward_fact s)) c (defer s c)
      waiting q =
          record {
            grown = defer_grown s c;
            within = λ S k p w. defer_within S s c p w;
            pushes = λ e h. tt;
            keeps = λ taken uses e sw h.
                record {
                  joins = λ i j u. absurd (not_in (owner_of g s) c.modules q (subst (λ xs. In (owner_of g s) xs) (h.modules_same ∙ defer_modules s c) i));
                  waits = λ n. h.deferred-sub s (defer_in s c);
                };
          }

      go : (b : Bool) → elem (owner_of g s) c.modules ≡ b
          → Asks g v (λ w. w.fact (forward_fact s)) c (elim b [ true ↦ enqueue_declaring_statements g s c | false ↦ defer s c ])
      go true q = included q
      go false q = waiting q

  -- a symbol's own declaration and those of its chain
  abbrev pub Forwards : ℕ → W → Type 0
  Forwards s w = w.fact (forward_fact s) × ((row : List ℕ) → In row (export_chain (symbol_of g s)) → w.fact (forward_fact (only row)))

  pub asks_forwards : (s : ℕ) (c : Context) → Asks g v (Forwards s) c (retain_forwarding_declarations g s c)
  unfolding retain_forwarding_declarations
  asks_forwards s c =
      asks_then g v (λ w. w.fact (forward_fact s)) (λ w. (row : List ℕ) → In row (export_chain (symbol_of g s)) → w.fact (forward_fact (only row))) c
      (retain_forwarding_declaration g s c)
      (for_each (λ row. retain_forwarding_declaration g (only row)) (export_chain (symbol_of g s)) (retain_forwarding_declaration g s c)) (asks_forward s c)
      (asks_each g v (λ row w. w.fact (forward_fact (only row))) (λ row. retain_forwarding_declaration g (only row)) (export_chain (symbol_of g s))
      (retain_forwarding_declaration g s c)
      (λ row q d. asks_forward (only row) d))
