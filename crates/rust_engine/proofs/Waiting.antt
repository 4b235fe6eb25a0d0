-- A module's bit, and the forwards that waited for it (K1): `deferred_forwarding_refs.remove`.
use Rattle.std.proofs.Common.{◌≡◌, ℕ, ◌-◌, Bool, true, false, eqb, ◌⊎◌, List, [], ◌∷◌, sym, refl, ap, ◌∙◌, subst, inl, inr, eqb-true}
use borrow.Author.Tests.{eqb-false}
use Rattle.determine_side_effects.specs.graph_crate.Check.{Graph}
use Rattle.determine_side_effects.specs.graph_access_crate.Names.{declaring_statements, only}
use Rattle.determine_side_effects.specs.graph_access_crate.Words.{symbol_of, normal}
use Rattle.determine_side_effects.specs.facts_crate.Facts.{module_fact, statement_fact}
use Rattle.determine_side_effects.specs.Effects.{last_verdicts}
use Rattle.rust_values.specs.Values.{In}
use Rattle.rust_engine.specs.Context.{Context, set_module, set_changed, set_deferred}
use Rattle.rust_engine.specs.Tables.{owner_of}
use Rattle.rust_engine.specs.Engine.{enqueue_declaring_statements, waiting_for, waiting_for_others, drain_deferred}
use Rattle.rust_engine.proofs.Theorem.{Over, ClosedHere, Within}
use Rattle.rust_values.proofs.Members.{at_in}
use Rattle.rust_engine.proofs.Asking.{World, of_choice, Asks, asks_each}
use Rattle.rust_engine.proofs.Forwarding.{Declares, asks_declaring}

module _ (g : Graph) where
  abbrev v : List ℕ
  v = last_verdicts g

  pub waiting_in : (m s : ℕ) (ss : List ℕ) → In s (waiting_for g m ss) → In s ss × (owner_of g s ≡ m)
  unfolding waiting_for
  waiting_in m s [] q = absurd q
  waiting_in m s (a ∷ ss) q = go (eqb (owner_of g a) m) refl q (λ r. waiting_in m s ss r)
    where
      go : (b : Bool) → eqb (owner_of g a) m ≡ b → In s (elim b [ true ↦ a ∷ waiting_for g m ss | false ↦ waiting_for g m ss ])
          → (In s (waiting_for g m ss) → In s ss × (owner_of g s ≡ m)) → In s (a ∷ ss) × (owner_of g s ≡ m)
      go true e (inl r) more = (inl r, ap (λ x. owner_of g x) r ∙ eqb-true (owner_of g a) m e)
      go true e (inr r) more = let z = more r in (inr z.0, z.1)
      go false e r more = let z = more r in (inr z.0, z.1)

  pub in_waiting : (m s : ℕ) (ss : List ℕ) → In s ss → owner_of g s ≡ m → In s (waiting_for g m ss)
  unfolding waiting_for
  in_waiting m s [] q o = absurd q
  in_waiting m s (a ∷ ss) q o = go (eqb (owner_of g a) m) refl q (λ r. in_waiting m s ss r o)
    where
      go : (b : Bool) → eqb (owner_of g a) m ≡ b → (s ≡ a) ⊎ In s ss → (In s ss → In s (waiting_for g m ss))
          → In s (elim b [ true ↦ a ∷ waiting_for g m ss | false ↦ waiting_for g m ss ])
      go true e (inl r) more = inl r
      go true e (inr r) more = inr (more r)
      go false e (inl r) more = absurd (eqb-false (owner_of g a) m e (ap (λ x. owner_of g x) (sym r) ∙ o))
      go false e (inr r) more = more r

  pub others_in : (m s : ℕ) (ss : List ℕ) → In s (waiting_for_others g m ss) → In s ss
  unfolding waiting_for_others
  others_in m s [] q = absurd q
  others_in m s (a ∷ ss) q = go (eqb (owner_of g a) m) q (λ r. others_in m s ss r)
    where
      go : (b : Bool) → In s (elim b [ true ↦ waiting_for_others g m ss | false ↦ a ∷ waiting_for_others g m ss ]) → (In s (waiting_for_others g m ss) → In s ss)
          → In s (a ∷ ss)
      go true r more = inr (more r)
      go false (inl r) more = inl r
      go false (inr r) more = inr (more r)

  pub in_others : (m s : ℕ) (ss : List ℕ) → In s ss → (owner_of g s ≡ m → ⊥) → In s (waiting_for_others g m ss)
  unfolding waiting_for_others
  in_others m s [] q o = absurd q
  in_others m s (a ∷ ss) q o = go (eqb (owner_of g a) m) refl q (λ r. in_others m s ss r o)
    where
      go : (b : Bool) → eqb (owner_of g a) m ≡ b → (s ≡ a) ⊎ In s ss → (In s ss → In s (waiting_for_others g m ss))
          → In s (elim b [ true ↦ waiting_for_others g m ss | false ↦ a ∷ waiting_for_others g m ss ])
      go true e (inl r) more = absurd (o (ap (λ x. owner_of g x) r ∙ eqb-true (owner_of g a) m e))
      go true e (inr r) more = more r
      go false e (inl r) more = inl r
      go false e (inr r) more = inr (more r)

  module _ (m : ℕ) (c : Context) where
    -- the module's bit is set, and those that wait for it are gone from the map
    abbrev pub marked : Context
    marked = set_deferred (waiting_for_others g m c.deferred) (set_changed true (set_module m c))

    abbrev pub Joined : World g v → Type 0
    Joined w = (s : ℕ) → In s (waiting_for g m c.deferred) → normal g (owner_of g s) ≡ true → Declares g v s w

    pub asks-joined : Asks g v Joined marked (drain_deferred g m (set_changed true (set_module m c)))
    unfolding drain_deferred set_changed set_module
    asks-joined =
        asks_each g v (λ s w. normal g (owner_of g s) ≡ true → Declares g v s w) (enqueue_declaring_statements g) (waiting_for g m c.deferred) marked
        (λ s q d. asks_declaring g v s d)

    pub joined-within : (S : Over) → ClosedHere g S → S.choice (module_fact m) → Within g S c → Within g S (drain_deferred g m (set_changed true (set_module m c)))
    unfolding set_deferred set_changed set_module
    joined-within S k h w =
        asks-joined.within S k declared
        (record {
          queued = w.queued;
          of_modules = there;
          of_statements = w.of_statements;
          of_deferred = λ s q. w.of_deferred s (others_in m s c.deferred q);
          of_bailouts = w.of_bailouts;
          of_used = w.of_used;
          of_external = w.of_external;
          of_json = w.of_json;
          of_reasons = w.of_reasons;
        })
      where
        there : (n : ℕ) → (n ≡ m) ⊎ In n c.modules → S.choice (module_fact n)
        there n (inl q) = subst (λ x. S.choice (module_fact x)) (sym q) h
        there n (inr q) = w.of_modules n q

        declared : Joined (of_choice g v S)
        declared s q n row r =
            let z = waiting_in m s c.deferred q in
            let t = at_in row (declaring_statements (symbol_of g s)) [] r in
            subst (λ x. S.choice (statement_fact (owner_of g s) (only x))) t.is
            (k.by_K1 (owner_of g s) s t.place (subst (λ x. S.choice (module_fact x)) (sym z.1) h) (w.of_deferred s z.0) refl t.inside)
