-- T11 for the engine, from what each handler does (`Handlers`): (a) a context stays within every choice that is closed but for the base and holds
-- the starts; (b) what it keeps is closed but for the base when its queue is empty.
use Rattle.std.proofs.Common.{◌≡◌, ℕ, ◌⊎◌, List, [], ◌∷◌, sym, refl, ◌∙◌, subst, inl, inr}
use Rattle.determine_side_effects.specs.graph_crate.Check.{Graph}
use Rattle.determine_side_effects.specs.graph_access_crate.Names.{owner}
use Rattle.determine_side_effects.specs.graph_access_crate.Words.{symbol_of}
use Rattle.determine_side_effects.specs.facts_crate.declared.Fact.{Fact}
use Rattle.determine_side_effects.specs.facts_crate.Facts.{module_fact, statement_fact, forward_fact, bailout_fact, Good}
use Rattle.determine_side_effects.specs.Effects.{last_verdicts}
use Rattle.answer_rows.specs.declared.Row.TheVariants.{Used, External, Json}
use Rattle.closed_choices.specs.Choice.{Choice, Closed}
use Rattle.rust_values.specs.Values.{Pair, pair, In}
use Rattle.rust_engine.specs.Context.{Context, WorkItem, rest}
use Rattle.rust_engine.specs.Engine.{Drains, returns, pops, Orders, Reorders, handle}
use Rattle.rust_engine.specs.EntryPoints.{InRows, ClosedOver, ShownBy, ReasonBy, Beyond}
use Rattle.rust_engine.proofs.Kept.{fact_of_item, Settled, Grows}

-- a base and a choice over it
pub record Over : Type 1 where
  pub base : Context
  pub choice : Choice

abbrev pub ClosedHere : Graph → Over → Type 0
ClosedHere g S = ClosedOver g (InRows S.base) S.choice

abbrev pub beyond : Over → Choice
beyond S = Beyond (InRows S.base) S.choice

-- its rows: those of the base, and what the facts beyond the base show
abbrev pub UsedIn : Graph → Over → ℕ → Type 0
UsedIn g S s = In s S.base.used ⊎ ShownBy g (beyond S) Used s

abbrev pub ExternalIn : Graph → Over → ℕ → Type 0
ExternalIn g S s = In s S.base.external ⊎ ShownBy g (beyond S) External s

abbrev pub JsonIn : Graph → Over → ℕ → Type 0
JsonIn g S s = ShownBy g (beyond S) Json s

abbrev pub ReasonOf : Graph → Over → ℕ → ℕ → Type 0
ReasonOf g S m r = In (pair m r) S.base.reasons ⊎ ReasonBy g (beyond S) m r

-- everything of a context is in the choice, or in the base
pub record Within (g : Graph) (S : Over) (c : Context) : Type 0 where
  pub queued : (i : WorkItem) → In i c.pending → S.choice (fact_of_item i)
  pub of_modules : (m : ℕ) → In m c.modules → S.choice (module_fact m)
  pub of_statements : (m i : ℕ) → In (pair m i) c.statements → S.choice (statement_fact m i)
  pub of_deferred : (s : ℕ) → In s c.deferred → S.choice (forward_fact s)
  pub of_bailouts : (m : ℕ) → In m c.bailouts → S.choice (bailout_fact m)
  pub of_used : (s : ℕ) → In s c.used → UsedIn g S s
  pub of_external : (s : ℕ) → In s c.external → ExternalIn g S s
  pub of_json : (m s : ℕ) → In (pair m s) c.json → (m ≡ owner (symbol_of g s)) × JsonIn g S s
  pub of_reasons : (m b : ℕ) → In (pair m b) c.reasons → ReasonOf g S m b

-- d has all that the rows of c have
pub record HasRows (c d : Context) : Type 0 where
  pub has_modules : (m : ℕ) → In m c.modules → In m d.modules
  pub has_statements : (p : Pair) → In p c.statements → In p d.statements
  pub has_used : (s : ℕ) → In s c.used → In s d.used
  pub has_external : (s : ℕ) → In s c.external → In s d.external
  pub has_reasons : (p : Pair) → In p c.reasons → In p d.reasons

pub rows_refl : (c : Context) → HasRows c c
rows_refl c = record { has_modules = λ m h. h; has_statements = λ p h. h; has_used = λ s h. h; has_external = λ s h. h; has_reasons = λ p h. h }

pub rows_trans : (c d e : Context) → HasRows c d → HasRows d e → HasRows c e
rows_trans c d e h k =
    record {
      has_modules = λ m x. k.has_modules m (h.has_modules m x);
      has_statements = λ p x. k.has_statements p (h.has_statements p x);
      has_used = λ s x. k.has_used s (h.has_used s x);
      has_external = λ s x. k.has_external s (h.has_external s x);
      has_reasons = λ p x. k.has_reasons p (h.has_reasons p x);
    }

-- the good facts over a base
abbrev pub good_over : Graph → Context → Over
good_over g base = record { base = base; choice = Good g }

-- what is closed is so but for any base
pub closed_over : (g : Graph) (B C : Choice) → Closed g C → ClosedOver g B C
closed_over g B C k = record { by_K1 = k.by_K1; by_K2_to_K14 = λ f i h n u. k.by_K2_to_K14 f i h u }

-- after a step: the uses handled so far, what is settled, and that nothing was lost
pub record Onward (g : Graph) (v : List ℕ) (taken : List ℕ) (base : Context) (uses : List Pair) (c d : Context) : Type 0 where
  pub now_handled : List Pair
  pub settled : Settled g v taken base now_handled d
  pub grows : Grows g v taken uses c now_handled d

-- what is to be shown of the handlers
pub record Handlers (g : Graph) : Type 1 where
  pub handle_rows : (order : Orders) → Reorders order → (i : WorkItem) (c : Context) → HasRows c (handle g (last_verdicts g) order i c)
  pub handle_within : (S : Over) → ClosedHere g S → (order : Orders) → Reorders order → (i : WorkItem) (c : Context)
      → HasRows S.base c → S.choice (fact_of_item i) → Within g S c → Within g S (handle g (last_verdicts g) order i c)
  pub handle_settles : (taken : List ℕ) (base : Context) (order : Orders) → Reorders order → (i : WorkItem) (is : List WorkItem) (c : Context)
      (uses : List Pair) → c.pending ≡ i ∷ is → Within g (good_over g base) c → Settled g (last_verdicts g) taken base uses c
      → Onward g (last_verdicts g) taken base uses c (handle g (last_verdicts g) order i (rest is c))

module _ (g : Graph) (good_closed : Closed g (Good g)) (hs : Handlers g) where
  abbrev v : List ℕ
  v = last_verdicts g

  rest_within : (S : Over) (c : Context) (i : WorkItem) (is : List WorkItem) → c.pending ≡ i ∷ is → Within g S c
      → S.choice (fact_of_item i) × Within g S (rest is c)
  unfolding rest
  rest_within S c i is e w = (
    w.queued i (subst (λ xs. In i xs) (sym e) (inl refl)),
    record {
      queued = λ j h. w.queued j (subst (λ xs. In j xs) (sym e) (inr h));
      of_modules = w.of_modules;
      of_statements = w.of_statements;
      of_deferred = w.of_deferred;
      of_bailouts = w.of_bailouts;
      of_used = w.of_used;
      of_external = w.of_external;
      of_json = w.of_json;
      of_reasons = w.of_reasons;
    },
  )

  rest_rows : (b c : Context) (is : List WorkItem) → HasRows b c → HasRows b (rest is c)
  unfolding rest
  rest_rows b c is h =
      record {
        has_modules = h.has_modules;
        has_statements = h.has_statements;
        has_used = h.has_used;
        has_external = h.has_external;
        has_reasons = h.has_reasons;
      }

  pub drains_rows : (b c d : Context) → Drains g v c d → HasRows b c → HasRows b d
  drains_rows b c d (returns _ e) r = r
  drains_rows b c d (pops _ _ i is order o e more) r =
      drains_rows b (handle g v order i (rest is c)) d more
      (rows_trans b (rest is c) (handle g v order i (rest is c)) (rest_rows b c is r) (hs.handle_rows order o i (rest is c)))

  -- (a)
  pub drains_within : (S : Over) → ClosedHere g S → (c d : Context) → Drains g v c d → HasRows S.base c → Within g S c → Within g S d
  drains_within S k c d (returns _ e) r w = w
  drains_within S k c d (pops _ _ i is order o e more) r w =
      let p = rest_within S c i is e w in
      let q = rest_rows S.base c is r in
      drains_within S k (handle g v order i (rest is c)) d more
      (rows_trans S.base (rest is c) (handle g v order i (rest is c)) q (hs.handle_rows order o i (rest is c)))
      (hs.handle_within S k order o i (rest is c) q p.0 p.1)

  -- (b)
  pub drains_settle : (taken : List ℕ) (base c d : Context) → Drains g v c d → (uses : List Pair) → HasRows base c → Within g (good_over g base) c
      → Settled g v taken base uses c → Onward g v taken base uses c d
  drains_settle taken base c d (returns _ e) uses r w h = record { now_handled = uses; settled = h; grows = λ f x. x }
  drains_settle taken base c d (pops _ _ i is order o e more) uses r w h =
      let n = handle g v order i (rest is c) in
      let p = rest_within (good_over g base) c i is e w in
      let q = rest_rows base c is r in
      let s = hs.handle_settles taken base order o i is c uses e w h in
      let t = drains_settle taken base n d more s.now_handled (rows_trans base (rest is c) n q (hs.handle_rows order o i (rest is c)))
      (hs.handle_within (good_over g base) (closed_over g (InRows base) (Good g) good_closed) order o i (rest is c) q p.0 p.1) s.settled in
      record { now_handled = t.now_handled; settled = t.settled; grows = λ f x. t.grows f (s.grows f x) }

  pub drains_end : (c d : Context) → Drains g v c d → d.pending ≡ []
  drains_end c d (returns _ e) = e
  drains_end c d (pops _ _ i is order o e more) = drains_end (handle g v order i (rest is c)) d more
