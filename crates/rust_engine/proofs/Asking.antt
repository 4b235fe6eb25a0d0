-- What a function of the engine asks for, said of any world: of a closed choice (then the function stays within it), and of a context (then all that
-- was asked for is kept). One lemma for each form of the Rust: one statement after another, `if`, `for_each`; a push and insertions are in `Inserting`.
use Rattle.std.proofs.Common.{◌≡◌, ℕ, ◌<◌, Bool, true, false, ◌⊎◌, List, [], ◌∷◌, length, sym, refl, ◌∙◌, subst, inl, inr}
use mathlib.Core.Bool.{false≢true}
use Rattle.determine_side_effects.specs.graph_crate.Check.{Graph}
use Rattle.determine_side_effects.specs.graph_access_crate.Names.{owner}
use Rattle.determine_side_effects.specs.graph_access_crate.Words.{symbol_of, normal, statement_list}
use Rattle.determine_side_effects.specs.facts_crate.declared.Fact.{Fact}
use Rattle.determine_side_effects.specs.facts_crate.declared.Fact.TheVariants.{Module, Statement, Use, CheckedUse, Forward, Bailout}
use Rattle.on_demand.specs.Demand.{gated}
use Rattle.rust_values.specs.Values.{Pair, pair, In}
use Rattle.rust_engine.specs.Context.{Context, WorkItem, symbol_item, statement_item, for_each}
use Rattle.rust_engine.proofs.Kept.{Kept}
use Rattle.rust_engine.proofs.Theorem.{Over, ClosedHere, UsedIn, ExternalIn, JsonIn, ReasonOf, Within, HasRows}

module _ (g : Graph) (v : List ℕ) where
  -- a world: which facts, and which rows
  pub record World : Type 1 where
    pub fact : Fact → Type 0
    pub used : ℕ → Type 0
    pub external : ℕ → Type 0
    pub json : ℕ → Type 0
    pub reason : ℕ → ℕ → Type 0

  abbrev pub of_choice : Over → World
  of_choice S = record { fact = S.choice; used = UsedIn g S; external = ExternalIn g S; json = JsonIn g S; reason = ReasonOf g S }

  abbrev pub of_context : List ℕ → List Pair → Context → World
  of_context taken uses c =
      record {
        fact = Kept g v taken uses c;
        used = λ s. In s c.used;
        external = λ s. In s c.external;
        json = λ s. In (pair (owner (symbol_of g s)) s) c.json;
        reason = λ m b. In (pair m b) c.reasons;
      }

  -- the uses that are on the queue, checked or not, and no more: what is asked of a context that may be any
  abbrev pub QueuedUse : Context → Fact → Type 0
  QueuedUse c (Module m) = Unit {0}
  QueuedUse c (Statement m i) = Unit {0}
  QueuedUse c (Use s x) = In (symbol_item s.0 x.bits) c.pending
  QueuedUse c (CheckedUse s x) = In (symbol_item s.0 x.bits) c.pending
  QueuedUse c (Forward s) = Unit {0}
  QueuedUse c (Bailout m) = Unit {0}

  abbrev pub of_queue : Context → World
  of_queue c = record { fact = QueuedUse c; used = λ s. Unit {0}; external = λ s. Unit {0}; json = λ s. Unit {0}; reason = λ m b. Unit {0} }

  abbrev pub SweptDone : Context → ℕ → Type 0
  SweptDone c b =
      normal g b ≡ true → (i : ℕ) → i < length (statement_list g b) → gated g b i ≡ true → In (pair b i) c.statements ⊎ In (statement_item b i) c.pending

  pub record Grown (c d : Context) : Type 0 where
    pub modules_same : d.modules ≡ c.modules
    pub changed-same : d.changed ≡ c.changed
    pub statements-same : d.statements ≡ c.statements
    pub pending-sub : (i : WorkItem) → In i c.pending → In i d.pending
    pub deferred-sub : (s : ℕ) → In s c.deferred → In s d.deferred
    pub bailouts-sub : (m : ℕ) → In m c.bailouts → In m d.bailouts
    pub used-sub : (s : ℕ) → In s c.used → In s d.used
    pub external-sub : (s : ℕ) → In s c.external → In s d.external
    pub json-sub : (p : Pair) → In p c.json → In p d.json
    pub reasons-sub : (p : Pair) → In p c.reasons → In p d.reasons
    pub swept-back : (b : ℕ) → In b d.swept → In b c.swept ⊎ SweptDone d b

  pub grown_refl : (c : Context) → Grown c c
  grown_refl c =
      record {
        modules_same = refl;
        changed-same = refl;
        statements-same = refl;
        pending-sub = λ i h. h;
        deferred-sub = λ s h. h;
        bailouts-sub = λ m h. h;
        used-sub = λ s h. h;
        external-sub = λ s h. h;
        json-sub = λ p h. h;
        reasons-sub = λ p h. h;
        swept-back = λ b h. inl h;
      }

  pub kept_statement : (c d : Context) → Grown c d → (m i : ℕ) → In (pair m i) c.statements ⊎ In (statement_item m i) c.pending
      → In (pair m i) d.statements ⊎ In (statement_item m i) d.pending
  kept_statement c d h m i (inl x) = inl (subst (λ xs. In (pair m i) xs) (sym h.statements-same) x)
  kept_statement c d h m i (inr x) = inr (h.pending-sub (statement_item m i) x)

  pub grown_trans : (c d e : Context) → Grown c d → Grown d e → Grown c e
  grown_trans c d e h k =
      record {
        modules_same = k.modules_same ∙ h.modules_same;
        changed-same = k.changed-same ∙ h.changed-same;
        statements-same = k.statements-same ∙ h.statements-same;
        pending-sub = λ i x. k.pending-sub i (h.pending-sub i x);
        deferred-sub = λ s x. k.deferred-sub s (h.deferred-sub s x);
        bailouts-sub = λ m x. k.bailouts-sub m (h.bailouts-sub m x);
        used-sub = λ s x. k.used-sub s (h.used-sub s x);
        external-sub = λ s x. k.external-sub s (h.external-sub s x);
        json-sub = λ p x. k.json-sub p (h.json-sub p x);
        reasons-sub = λ p x. k.reasons-sub p (h.reasons-sub p x);
        swept-back = λ b x. back b (k.swept-back b x);
      }
    where
      first : (b : ℕ) → In b c.swept ⊎ SweptDone d b → In b c.swept ⊎ SweptDone e b
      first b (inl y) = inl y
      first b (inr y) = inr (λ n i u q. kept_statement d e k b i (y n i u q))

      back : (b : ℕ) → In b d.swept ⊎ SweptDone e b → In b c.swept ⊎ SweptDone e b
      back b (inl x) = first b (h.swept-back b x)
      back b (inr x) = inr x

  -- the rows of what has grown
  pub grown_rows : (c d : Context) → Grown c d → HasRows c d
  grown_rows c d h =
      record {
        has_modules = λ m x. subst (λ xs. In m xs) (sym h.modules_same) x;
        has_statements = λ p x. subst (λ xs. In p xs) (sym h.statements-same) x;
        has_used = h.used-sub;
        has_external = h.external-sub;
        has_reasons = h.reasons-sub;
      }

  abbrev pub SweptAll : Context → Type 0
  SweptAll c = (b : ℕ) → In b c.swept → SweptDone c b

  pub swept_all : (c d : Context) → Grown c d → SweptAll c → SweptAll d
  swept_all c d h a b x = go (h.swept-back b x)
    where
      go : In b c.swept ⊎ SweptDone d b → SweptDone d b
      go (inl y) = λ n i u q. kept_statement c d h b i (a b y n i u q)
      go (inr y) = y

  -- what holds of a context between any two statements
  pub record Fit (c : Context) : Type 0 where
    pub swept-done : SweptAll c
    pub normals : (m : ℕ) → In m c.modules → normal g m ≡ true

  pub fit_grown : (c d : Context) → Grown c d → Fit c → Fit d
  fit_grown c d h f = record { swept-done = swept_all c d h f.swept-done; normals = λ m x. f.normals m (subst (λ xs. In m xs) h.modules_same x) }

  -- from c to d the function asks for P
  pub record Asks (P : World → Type 0) (c d : Context) : Type 1 where
    pub grown : Grown c d
    pub within : (S : Over) → ClosedHere g S → P (of_choice S) → Within g S c → Within g S d
    pub keeps : (taken : List ℕ) (uses : List Pair) (e : Context) → Fit c → Grown d e → P (of_context taken uses e)
    pub pushes : (e : Context) → Grown d e → P (of_queue e)

  -- nothing
  pub asks_nothing : (c : Context) → Asks (λ w. Unit {0}) c c
  asks_nothing c = record { grown = grown_refl c; within = λ S k p w. w; keeps = λ taken uses e a h. tt; pushes = λ e h. tt }

  -- one after another
  pub asks_then : (P Q : World → Type 0) (c d e : Context) → Asks P c d → Asks Q d e → Asks (λ w. P w × Q w) c e
  asks_then P Q c d e a b =
      record {
        grown = grown_trans c d e a.grown b.grown;
        within = λ S k p w. b.within S k p.1 (a.within S k p.0 w);
        keeps = λ taken uses x s h. (a.keeps taken uses x s (grown_trans d e x b.grown h), b.keeps taken uses x (fit_grown c d a.grown s) h);
        pushes = λ x h. (a.pushes x (grown_trans d e x b.grown h), b.pushes x h);
      }

  -- if
  pub asks_when : (b : Bool) (P : World → Type 0) (f : Context → Context) (c : Context) → (b ≡ true → Asks P c (f c))
      → Asks (λ w. b ≡ true → P w) c (elim b [ true ↦ f c | false ↦ c ])
  asks_when true P f c a =
      let r = a refl in
      record {
        grown = r.grown;
        within = λ S k p w. r.within S k (p refl) w;
        keeps = λ taken uses e s h q. r.keeps taken uses e s h;
        pushes = λ e h q. r.pushes e h;
      }
  asks_when false P f c a =
      record {
        grown = grown_refl c;
        within = λ S k p w. w;
        keeps = λ taken uses e s h q. absurd (false≢true q);
        pushes = λ e h q. absurd (false≢true q);
      }

  -- for_each
  pub asks_each : {A : Type 0} (P : A → World → Type 0) (f : A → Context → Context) (xs : List A) (c : Context)
      → ((x : A) → In x xs → (d : Context) → Asks (P x) d (f x d))
      → Asks (λ w. (x : A) → In x xs → P x w) c (for_each f xs c)
  unfolding for_each
  asks_each P f [] c a = record { grown = grown_refl c; within = λ S k p w. w; keeps = λ taken uses e s h x q. absurd q; pushes = λ e h x q. absurd q }
  asks_each {A} P f (y ∷ ys) c a =
      let r = a y (inl refl) c in
      let t = asks_each P f ys (f y c) (λ x q d. a x (inr q) d) in
      record {
        grown = grown_trans c (f y c) (for_each f ys (f y c)) r.grown t.grown;
        within = λ S k p w. t.within S k (λ x q. p x (inr q)) (r.within S k (p y (inl refl)) w);
        keeps = λ taken uses e s h.
            both (of_context taken uses e) (r.keeps taken uses e s (grown_trans (f y c) (for_each f ys (f y c)) e t.grown h))
            (t.keeps taken uses e (fit_grown c (f y c) r.grown s) h);
        pushes = λ e h. both (of_queue e) (r.pushes e (grown_trans (f y c) (for_each f ys (f y c)) e t.grown h)) (t.pushes e h);
      }
    where
      both : (w : World) → P y w → ((x : A) → In x ys → P x w) → (x : A) → In x (y ∷ ys) → P x w
      both w p q x (inl h) = subst (λ z. P z w) (sym h) p
      both w p q x (inr h) = q x h

  -- the same asked for in other words
  pub asks_as : (P Q : World → Type 0) (c d : Context) → ((w : World) → Q w → P w) → ((w : World) → P w → Q w) → Asks P c d → Asks Q c d
  asks_as P Q c d f b a =
      record {
        grown = a.grown;
        within = λ S k q w. a.within S k (f (of_choice S) q) w;
        keeps = λ taken uses e s h. b (of_context taken uses e) (a.keeps taken uses e s h);
        pushes = λ e h. b (of_queue e) (a.pushes e h);
      }
