-- A drain returns from every context that stays within a finite closed choice of whose uses each ends. An item returns if the rest of the queue
-- does from every context that has no more left to include: by induction on what is left, and for uses on the uses that they give.
use Prim.Native.Nat.{ℕ, zero, suc, ◌<◌}
use mathlib.Core.Path.{◌≡◌, refl, ap, ◌∙◌, sym, subst}
use mathlib.Core.Logic.{◌⊎◌, inl, inr}
use mathlib.Core.Bool.{Bool, true, false, not}
use mathlib.Core.List.{List, [], ◌∷◌, ◌++◌}
use native.Mathlib.Omega.{arith}
use Rattle.determine_side_effects.specs.graph_crate.Check.{Graph}
use Rattle.determine_side_effects.specs.graph_access_crate.Words.{normal}
use Rattle.determine_side_effects.specs.facts_crate.declared.Fact.{Fact}
use Rattle.determine_side_effects.specs.facts_crate.Facts.{module_fact, statement_fact, use_fact}
use Rattle.determine_side_effects.specs.Effects.{last_verdicts}
use Rattle.keep_record.specs.Lines.{elem}
use Rattle.rust_values.specs.Values.{pair, has_pair, In}
use Rattle.rust_values.proofs.Members.{in_elem, in_append_left}
use Rattle.rust_engine.specs.Context.{WorkItem, module_item, symbol_item, statement_item, Context, rest, set_module, set_statement, set_changed, set_deferred}
use Rattle.rust_engine.specs.Engine.{Orders, Reorders, listed, Drains, returns, pops, drain_deferred, module_body, handle_include_module, handle_include_symbol, handle_include_statement, handle}
use Rattle.rust_engine.proofs.Kept.{fact_of_item}
use Rattle.rust_engine.proofs.Theorem.{Over, ClosedHere, Within, HasRows, rows_trans, Handlers}
use Rattle.rust_engine.proofs.Statements.{statement_body, asks_statement}
use Rattle.rust_engine.proofs.Modules.{asks-module}
use Rattle.rust_engine.proofs.Handling.{quiet}
use Rattle.rust_engine.proofs.HandlingStatements.{in_pair}
use Rattle.rust_engine.proofs.Waiting.{asks-joined}
use Rattle.rust_returns.specs.Following.{Choosing, DrainsBy}
use Rattle.rust_returns.specs.Circle.{GivesUse}
use Rattle.rust_returns.proofs.Ending.{Ends, ends, Stops, stops}
use Rattle.rust_returns.proofs.Adding.{Adds, adds_none, adds_then, adds-deferred, adds-module, adds-statement}
use Rattle.rust_returns.proofs.Symbols.{Given, adds_symbol}
use Rattle.rust_returns.proofs.Left.{is_set, left, left_le, left_lt}

abbrev Any : WorkItem → Type 0
Any i = Unit {0}

listed_order : Reorders listed
listed_order = record { from_imports = λ xs x h. h; back_imports = λ xs x h. h; from_exports = λ xs x h. h; back_exports = λ xs x h. h }

-- the first item of a queue, and the others
unfoldable first_or : WorkItem → List WorkItem → WorkItem
first_or i [] = i
first_or i (j ∷ js) = j

unfoldable others : List WorkItem → List WorkItem
others [] = []
others (j ∷ js) = js

append-nothing : (xs : List WorkItem) → xs ≡ xs ++ []
append-nothing [] = refl
append-nothing (x ∷ xs) = ap (λ l. x ∷ l) (append-nothing xs)

-- it returns, to some context, by the chosen orders
pub record Halts (g : Graph) (ch : Choosing g) (c : Context) : Type 0 where
  pub end : Context
  pub drains : Drains g (last_verdicts g) c end
  pub follows : DrainsBy g (last_verdicts g) ch c end drains

-- what stops returns
pub stops_halts : (g : Graph) (ch : Choosing g) (c : Context) → Stops g c → Halts g ch c
stops_halts g ch c (stops _ more) =
    go c.pending refl (λ i is e. stops_halts g ch (handle g (last_verdicts g) (ch.at_pop c i) i (rest is c)) (more i is (ch.at_pop c i) (ch.at_pop_any c i) e))
  where
    go : (is : List WorkItem) → c.pending ≡ is
        → ((i : WorkItem) (is : List WorkItem) → c.pending ≡ i ∷ is → Halts g ch (handle g (last_verdicts g) (ch.at_pop c i) i (rest is c))) → Halts g ch c
    go [] e next = record { end = c; drains = returns c e; follows = tt }
    go (i ∷ is) e next =
        let h = next i is e in
        record { end = h.end; drains = pops c h.end i is (ch.at_pop c i) (ch.at_pop_any c i) e h.drains; follows = (refl, h.follows) }

-- nothing was done, or less is left and items were put on top
abbrev Step : List Fact → Context → Context → Type 0
Step L c d = (d ≡ c) ⊎ ((left L d < left L c) × Adds Any c d)

module _ (g : Graph) (hs : Handlers g) (L : List Fact) where
  abbrev v : List ℕ
  v = last_verdicts g

  module_step : (order : Orders) → Reorders order → (m : ℕ) (c : Context) → In (module_fact m) L → Step L c (handle_include_module g v order m c)
  unfolding handle handle_include_module set_deferred set_changed set_module is_set
  module_step order o m c q = go (normal g m) (elem m c.modules) refl (not (quiet g m)) (hs.handle_rows order o (module_item m) c)
    where
      y : Context
      y = drain_deferred g m (set_changed true (set_module m c))

      put : Adds Any c y
      put = adds_then Any c (set_changed true (set_module m c)) y (adds_none Any c (set_changed true (set_module m c)) refl) (adds-deferred Any g (λ m i. tt) m (set_changed true (set_module m c)))

      now : (d : Context) → d.modules ≡ y.modules → elem m d.modules ≡ true
      now d e = in_elem m d.modules (subst (λ ms. In m ms) (sym (e ∙ (asks-joined g m c).grown.modules_same)) (inl refl))

      go : (a b : Bool) → elem m c.modules ≡ b → (r : Bool)
          → HasRows c (elim a [ true ↦ elim b [ true ↦ c | false ↦ elim r [ true ↦ module_body g v order m y | false ↦ y ] ] | false ↦ c ])
          → Step L c (elim a [ true ↦ elim b [ true ↦ c | false ↦ elim r [ true ↦ module_body g v order m y | false ↦ y ] ] | false ↦ c ])
      go true true e r h = inl refl
      go true false e true h =
          let d = module_body g v order m y in
          inr (left_lt L c d h (module_fact m) q e (now d (asks-module g order o m y).grown.modules_same), adds_then Any c y d put (adds-module Any g (λ i. tt) v order m y))
      go true false e false h = inr (left_lt L c y h (module_fact m) q e (now y refl), put)
      go false b e r h = inl refl

  statement_step : (m i : ℕ) (c : Context) → In (statement_fact m i) L → Step L c (handle_include_statement g v m i c)
  unfolding handle handle_include_statement set_statement is_set
  statement_step m i c q = go (normal g m) (has_pair m i c.statements) refl (hs.handle_rows listed listed_order (statement_item m i) c)
    where
      y : Context
      y = set_statement m i c

      d : Context
      d = statement_body g m i y

      now : has_pair m i d.statements ≡ true
      now = in_pair m i d.statements (subst (λ ps. In (pair m i) ps) (sym (asks_statement g m i y).grown.statements-same) (inl refl))

      go : (a b : Bool) → has_pair m i c.statements ≡ b → HasRows c (elim a [ true ↦ elim b [ true ↦ c | false ↦ d ] | false ↦ c ])
          → Step L c (elim a [ true ↦ elim b [ true ↦ c | false ↦ d ] | false ↦ c ])
      go true true e h = inl refl
      go true false e h = inr (left_lt L c d h (statement_fact m i) q e now, adds_then Any c y d (adds_none Any c y refl) (adds-statement Any g (λ i. tt) v m i y))
      go false b e h = inl refl

  module _ (S : Over) (k : ClosedHere g S) (finite : (f : Fact) → S.choice f → In f L) (all_End : (s x : ℕ) → S.choice (use_fact s x) → Ends g s x) where
    pub record Ready (c : Context) : Type 0 where
      pub rows : HasRows S.base c
      pub within : Within g S c

    abbrev after : Orders → WorkItem → List WorkItem → Context → Context
    after order i is c = handle g v order i (rest is c)

    rest_rows : (is : List WorkItem) (c : Context) → HasRows c (rest is c)
    unfolding rest
    rest_rows is c = record { has_modules = λ m h. h; has_statements = λ p h. h; has_used = λ s h. h; has_external = λ s h. h; has_reasons = λ p h. h }

    chosen : (c : Context) (i : WorkItem) → Ready c → In i c.pending → S.choice (fact_of_item i)
    chosen c i r h = r.within.queued i h

    first : (c : Context) (i : WorkItem) (is : List WorkItem) → c.pending ≡ i ∷ is → In i c.pending
    first c i is e = subst (λ xs. In i xs) (sym e) (inl refl)

    rest_within : (c : Context) (i : WorkItem) (is : List WorkItem) → c.pending ≡ i ∷ is → Within g S c → Within g S (rest is c)
    unfolding rest
    rest_within c i is e w =
        record {
          queued = λ j h. w.queued j (subst (λ xs. In j xs) (sym e) (inr h));
          of_modules = w.of_modules;
          of_statements = w.of_statements;
          of_deferred = w.of_deferred;
          of_bailouts = w.of_bailouts;
          of_used = w.of_used;
          of_external = w.of_external;
          of_json = w.of_json;
          of_reasons = w.of_reasons;
        }

    ready-after : (order : Orders) → Reorders order → (c : Context) (i : WorkItem) (is : List WorkItem) → c.pending ≡ i ∷ is → Ready c → Ready (after order i is c)
    ready-after order o c i is e r =
        let q = rows_trans S.base c (rest is c) r.rows (rest_rows is c) in
        record {
          rows = rows_trans S.base (rest is c) (after order i is c) q (hs.handle_rows order o i (rest is c));
          within = hs.handle_within S k order o i (rest is c) q (chosen c i r (first c i is e)) (rest_within c i is e r.within);
        }

    left_after : (order : Orders) → Reorders order → (c : Context) (i : WorkItem) (is : List WorkItem) (n : ℕ) → left L c < n → left L (after order i is c) < n
    left_after order o c i is n l = omega (arith, l, left_le L c (rest is c) (rest_rows is c), left_le L (rest is c) (after order i is c) (hs.handle_rows order o i (rest is c)))

    popped : (c : Context) (i : WorkItem) (is : List WorkItem) → c.pending ≡ i ∷ is → ((order : Orders) → Reorders order → Stops g (after order i is c)) → Stops g c
    unfolding first_or others
    popped c i is e h = stops c (λ j js order o q. go j js order (sym e ∙ q) (h order o))
      where
        go : (j : WorkItem) (js : List WorkItem) (order : Orders) → i ∷ is ≡ j ∷ js → Stops g (after order i is c) → Stops g (after order j js c)
        go j js order q s =
            subst (λ ks. Stops g (after order j ks c)) (ap (λ xs. others xs) q) (subst (λ k. Stops g (after order k is c)) (ap (λ xs. first_or i xs) q) s)

    nothing_left : (c : Context) → c.pending ≡ [] → Stops g c
    nothing_left c e = stops c (λ j js order o q. absurd (none j js (sym e ∙ q)))
      where
        none : (j : WorkItem) (js : List WorkItem) → [] ≡ j ∷ js → ⊥
        none j js q = let z : ◌≡◌ {A = ℕ} 0 1 = cc in omega arith

    -- the rest of the queue stops, whatever was included meanwhile
    abbrev Goes : ℕ → List WorkItem → Type 0
    Goes n is = (e : Context) → e.pending ≡ is → Ready e → left L e < n → Stops g e

    abbrev Good : ℕ → WorkItem → Type 0
    Good n i = (is : List WorkItem) → Goes n is → Goes n (i ∷ is)

    good-list : (n : ℕ) (js : List WorkItem) → ((j : WorkItem) → In j js → Good n j) → (is : List WorkItem) → Goes n is → Goes n (js ++ is)
    good-list n [] h is more = more
    good-list n (j ∷ js) h is more = h j (inl refl) (js ++ is) (good-list n js (λ i q. h i (inr q)) is more)

    -- a module or a statement
    stepped : (n : ℕ) → ((j : WorkItem) → S.choice (fact_of_item j) → Good n j) → (i : WorkItem)
        → ((order : Orders) → Reorders order → (c : Context) → Step L c (handle g v order i c)) → Good (suc n) i
    unfolding rest
    stepped n ih i step is more c e r l = popped c i is e (λ order o. go order o (step order o (rest is c)))
      where
        go : (order : Orders) → Reorders order → Step L (rest is c) (after order i is c) → Stops g (after order i is c)
        go order o (inl q) = more (after order i is c) (ap (λ (x : Context). x.pending) q) (ready-after order o c i is e r) (left_after order o c i is (suc n) l)
        go order o (inr q) =
            let a = q.1 in
            let d = after order i is c in
            let rd = ready-after order o c i is e r in
            good-list n a.items (λ j h. ih j (chosen d j rd (subst (λ xs. In j xs) (sym a.pending_is) (in_append_left j a.items is h)))) is
            (λ x p s u. more x p s (omega (arith, u))) d a.pending_is rd (omega (arith, l, q.0, left_le L c (rest is c) (rest_rows is c)))

    -- a use
    good_use : (n : ℕ) → ((m : ℕ) → S.choice (module_fact m) → Good n (module_item m)) → ((m i : ℕ) → S.choice (statement_fact m i) → Good n (statement_item m i))
        → (s x : ℕ) → Ends g s x → Good n (symbol_item s x)
    unfolding rest handle
    good_use n gm gs s x (ends _ _ on) is more c e r l =
        popped c (symbol_item s x) is e (λ order o. go order o (λ t y q. good_use n gm gs t y (on t y q)))
      where
        put : Adds (Given g s x) (rest is c) (handle_include_symbol g v s x (rest is c))
        put = adds_symbol g s x (rest is c)

        each : ((t y : ℕ) → GivesUse g s x t y → Good n (symbol_item t y)) → (j : WorkItem) → Given g s x j → S.choice (fact_of_item j) → Good n j
        each u (module_item m) q h = gm m h
        each u (symbol_item t y) q h = u t y q
        each u (statement_item m i) q h = gs m i h

        go : (order : Orders) → Reorders order → ((t y : ℕ) → GivesUse g s x t y → Good n (symbol_item t y)) → Stops g (after order (symbol_item s x) is c)
        go order o u =
            let d = after order (symbol_item s x) is c in
            let rd = ready-after order o c (symbol_item s x) is e r in
            good-list n put.items
            (λ j h. each u j (put.each j h) (chosen d j rd (subst (λ xs. In j xs) (sym put.pending_is) (in_append_left j put.items is h)))) is
            more d put.pending_is rd (left_after order o c (symbol_item s x) is n l)

    module_good : (n : ℕ) → ((j : WorkItem) → S.choice (fact_of_item j) → Good n j) → (m : ℕ) → S.choice (module_fact m) → Good (suc n) (module_item m)
    unfolding handle
    module_good n ih m q = stepped n ih (module_item m) (λ order o c. module_step order o m c (finite (module_fact m) q))

    statement_good : (n : ℕ) → ((j : WorkItem) → S.choice (fact_of_item j) → Good n j) → (m i : ℕ) → S.choice (statement_fact m i) → Good (suc n) (statement_item m i)
    unfolding handle
    statement_good n ih m i q = stepped n ih (statement_item m i) (λ order o c. statement_step m i c (finite (statement_fact m i) q))

    all_good : (n : ℕ) (i : WorkItem) → S.choice (fact_of_item i) → Good n i
    all_good zero i h = λ is more c e r l. absurd (omega (arith, l))
    all_good (suc n) (module_item m) h = module_good n (λ j p. all_good n j p) m h
    all_good (suc n) (symbol_item s x) h =
        good_use (suc n) (λ m q. module_good n (λ j p. all_good n j p) m q) (λ m i q. statement_good n (λ j p. all_good n j p) m i q) s x (all_End s x h)
    all_good (suc n) (statement_item m i) h = statement_good n (λ j p. all_good n j p) m i h

    -- every such context stops, so a drain from it returns
    pub drains-stop : (c : Context) → Ready c → Stops g c
    drains-stop c r =
        let n = suc (left L c) in
        good-list n c.pending (λ j h. all_good n j (chosen c j r h)) [] (λ e p s l. nothing_left e p) c (append-nothing c.pending) r (omega arith)

    pub drains-exist : (ch : Choosing g) (c : Context) → Ready c → Halts g ch c
    drains-exist ch c r = stops_halts g ch c (drains-stop c r)
