-- What a context keeps: a fact that is included, or is on the queue, or waits. `uses` are the uses that were handled so far: the Rust has no memory
-- of them, so they stand beside the context; `taken` are the bailouts that rounds have taken; `base` are the rows that the context was made over.
use Rattle.std.proofs.Common.{◌≡◌, ℕ, ◌+◌, ◌*◌, ◌<◌, true, ◌⊎◌, List, [], length, get_or, sym, subst, inl, inr, arith}
use Rattle.determine_side_effects.specs.graph_crate.Check.{Graph}
use Rattle.determine_side_effects.specs.graph_access_crate.Names.{owner, declaring_statements, only}
use Rattle.determine_side_effects.specs.graph_access_crate.Words.{symbol_of, normal, statement_list}
use Rattle.determine_side_effects.specs.facts_crate.declared.Fact.{Fact}
use Rattle.determine_side_effects.specs.facts_crate.declared.Fact.TheVariants.{Module, Statement, Use, CheckedUse, Forward, Bailout}
use Rattle.determine_side_effects.specs.facts_crate.Facts.{module_fact, statement_fact, use_fact, forward_fact}
use Rattle.determine_side_effects.specs.Effects.{last_verdicts}
use Rattle.keep_rules.specs.Rules.{gives, segments_of, given_by, dev_namespace}
use Rattle.on_demand.specs.Demand.{gated}
use Rattle.keep_record.specs.Lines.{elem}
use Rattle.answer_rows.specs.Shown.{used_by, external_by, json_by, reason_by}
use Rattle.closed_choices.specs.Choice.{nothing_given}
use Rattle.rust_values.specs.Values.{Pair, pair, In}
use Rattle.rust_engine.specs.Context.{Context, WorkItem, module_item, symbol_item, statement_item}
use Rattle.rust_engine.specs.Tables.{owner_of}
use Rattle.rust_engine.specs.EntryPoints.{InRows, ClosedOver}

-- the fact that an item asks for
abbrev pub fact_of_item : WorkItem → Fact
fact_of_item (module_item m) = module_fact m
fact_of_item (symbol_item s x) = use_fact s x
fact_of_item (statement_item m i) = statement_fact m i

-- all that follows from a fact by K2 to K14
abbrev pub AllGiven : Graph → List ℕ → (Fact → Type 0) → Fact → Type 0
AllGiven g v P f = (k : ℕ) → k < length (gives g v f) → P (get_or (gives g v f) k nothing_given).fact

-- reason b of module m is among the bits of a list
abbrev pub ReasonIn : List ℕ → ℕ → ℕ → Type 0
ReasonIn bits m b = ((b ≡ 1) × (elem (8 * m) bits ≡ true)) ⊎ ((b ≡ 2) × (elem (8 * m + 1) bits ≡ true))

module _ (g : Graph) (v : List ℕ) (taken : List ℕ) where
  abbrev pub KeptStatement : Context → ℕ → ℕ → Type 0
  KeptStatement c m i = In (pair m i) c.statements ⊎ In (statement_item m i) c.pending

  -- a forward: its declarations are kept if its owner is included, else it waits
  pub record Forwarded (c : Context) (s : ℕ) : Type 0 where
    pub joins : In (owner_of g s) c.modules → (k : ℕ) → k < length (declaring_statements (symbol_of g s))
        → KeptStatement c (owner_of g s) (only (get_or (declaring_statements (symbol_of g s)) k []))
    pub waits : (In (owner_of g s) c.modules → ⊥) → In s c.deferred

  abbrev pub Kept₀ : List Pair → Context → Fact → Type 0
  Kept₀ uses c (Module m) = In m.0 c.modules ⊎ In (module_item m.0) c.pending
  Kept₀ uses c (Statement m i) = KeptStatement c m.0 i.0
  Kept₀ uses c (Use s x) = In (pair s.0 x.bits) uses ⊎ In (symbol_item s.0 x.bits) c.pending
  Kept₀ uses c (CheckedUse s x) = ⊥
  Kept₀ uses c (Forward s) = Forwarded c s.0
  Kept₀ uses c (Bailout m) = In m.0 c.bailouts ⊎ In m.0 taken

  -- a checked use is kept where what it gives is
  abbrev pub Kept : List Pair → Context → Fact → Type 0
  Kept uses c (Module m) = Kept₀ uses c (Module m)
  Kept uses c (Statement m i) = Kept₀ uses c (Statement m i)
  Kept uses c (Use s x) = Kept₀ uses c (Use s x)
  Kept uses c (CheckedUse s x) = AllGiven g v (Kept₀ uses c) (CheckedUse s x)
  Kept uses c (Forward s) = Kept₀ uses c (Forward s)
  Kept uses c (Bailout m) = Kept₀ uses c (Bailout m)

  pub lower : (uses : List Pair) (c : Context) (f : Fact) → Kept₀ uses c f → Kept uses c f
  lower uses c (Module m) h = h
  lower uses c (Statement m i) h = h
  lower uses c (Use s x) h = h
  lower uses c (CheckedUse s x) h = absurd h
  lower uses c (Forward s) h = h
  lower uses c (Bailout m) h = h

  -- the rows that a handled use shows
  pub record UseShown (c : Context) (s x : ℕ) : Type 0 where
    pub in-used : (j : ℕ) → elem j (used_by g s x) ≡ true → In j c.used
    pub in-external : (j : ℕ) → elem j (external_by g s x) ≡ true → In j c.external
    pub in-json : (j : ℕ) → elem j (json_by g s x) ≡ true → In (pair (owner (symbol_of g j)) j) c.json
    pub in-reason : (m b : ℕ) → ReasonIn (reason_by g s x) m b → In (pair m b) c.reasons

  -- what is included beyond the base was followed, but for what is on the queue
  pub record Settled (base : Context) (uses : List Pair) (c : Context) : Type 0 where
    pub modules-done : (m : ℕ) → In m c.modules → (In m base.modules → ⊥) → AllGiven g v (Kept uses c) (module_fact m)
    pub modules_shown : (m : ℕ) → In m c.modules → (In m base.modules → ⊥) → dev_namespace g m ≡ true → In (pair m 1) c.reasons
    pub statements-done : (m i : ℕ) → In (pair m i) c.statements → (In (pair m i) base.statements → ⊥) → AllGiven g v (Kept uses c) (statement_fact m i)
    pub uses-done : (s x : ℕ) → In (pair s x) uses → AllGiven g v (Kept uses c) (use_fact s x)
    pub uses-shown : (s x : ℕ) → In (pair s x) uses → UseShown c s x
    pub swept-done : (b : ℕ) → In b c.swept → normal g b ≡ true → (i : ℕ) → i < length (statement_list g b) → gated g b i ≡ true → KeptStatement c b i

  -- nothing that was kept is lost
  abbrev pub Grows : List Pair → Context → List Pair → Context → Type 0
  Grows us c ws d = (f : Fact) → Kept us c f → Kept ws d f

  -- when the queue is empty
  module _ (uses : List Pair) (c : Context) (empty-queue : c.pending ≡ []) where
    not-queued : (i : WorkItem) → In i c.pending → ⊥
    not-queued i h = subst (λ xs. In i xs) empty-queue h

    pub settle : {A : Type 0} (i : WorkItem) → A ⊎ In i c.pending → A
    settle i (inl a) = a
    settle i (inr h) = absurd (not-queued i h)

    abbrev GivenKept : Context → List ℕ → Type 0
    GivenKept base w =
        (f : Fact) (k : ℕ) → Kept uses c f → (InRows base f → ⊥) → k < length (gives g w f) → Kept uses c (get_or (gives g w f) k nothing_given).fact

    -- what is kept is closed but for the base
    pub kept-closed : (base : Context) → v ≡ last_verdicts g → Settled base uses c → ClosedOver g (InRows base) (Kept uses c)
    unfolding gives segments_of given_by
    kept-closed base e h = record { by_K1 = k1; by_K2_to_K14 = λ f k hf n u. subst (λ w. GivenKept base w) e rest_of f k hf n u }
      where
        k1 : (m s i : ℕ) → Kept uses c (module_fact m) → Kept uses c (forward_fact s) → owner (symbol_of g s) ≡ m → i < length (declaring_statements (symbol_of g s))
            → Kept uses c (statement_fact m (only (get_or (declaring_statements (symbol_of g s)) i [])))
        k1 m s i hm hs o u =
            subst (λ n. KeptStatement c n (only (get_or (declaring_statements (symbol_of g s)) i []))) o
            (hs.joins (subst (λ n. In n c.modules) (sym o) (settle (module_item m) hm)) i u)

        rest_of : GivenKept base v
        rest_of (Module m) k hf n u = h.modules-done m.0 (settle (module_item m.0) hf) n k u
        rest_of (Statement m i) k hf n u = h.statements-done m.0 i.0 (settle (statement_item m.0 i.0) hf) n k u
        rest_of (Use s x) k hf n u = h.uses-done s.0 x.bits (settle (symbol_item s.0 x.bits) hf) k u
        rest_of (CheckedUse s x) k hf n u = lower uses c (get_or (gives g v (CheckedUse s x)) k nothing_given).fact (hf k u)
        rest_of (Forward s) k hf n u = absurd (omega (arith, u))
        rest_of (Bailout m) k hf n u = absurd (omega (arith, u))
