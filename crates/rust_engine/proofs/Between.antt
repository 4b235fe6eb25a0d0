-- (b) between entry points: what was included beyond the base is settled, what was started from is kept, and the queue is empty.
use Rattle.std.proofs.Common.{◌≡◌, ℕ, ◌+◌, ◌-◌, true, false, List, [], ◌∷◌, ◌++◌, get_or, refl, inl, inr}
use Rattle.determine_side_effects.specs.graph_crate.Check.{Graph}
use Rattle.determine_side_effects.specs.graph_access_crate.Words.{normal}
use Rattle.determine_side_effects.specs.facts_crate.declared.Fact.{Fact}
use Rattle.determine_side_effects.specs.facts_crate.declared.Fact.TheVariants.{Module, Statement, Use, CheckedUse, Forward, Bailout}
use Rattle.determine_side_effects.specs.facts_crate.Facts.{module_fact, statement_fact, use_fact, checked_fact, Good}
use Rattle.determine_side_effects.specs.Effects.{last_verdicts}
use Rattle.keep_rules.specs.Rules.{gives}
use Rattle.closed_choices.specs.Choice.{Closed, nothing_given}
use Rattle.closed_choices.proofs.Every.{Every, every_append, every_left, every_right}
use Rattle.rust_values.specs.Values.{Pair}
use Rattle.rust_engine.specs.Context.{Context, new_context, module_item, symbol_item, statement_item, push, insert_bailout, take_bailouts, set_changed}
use Rattle.rust_engine.specs.Tables.{owner_of}
use Rattle.rust_engine.specs.Engine.{Drains, enqueue_declaring_statements, push_symbol_and_check_cjs_bailout}
use Rattle.rust_engine.specs.EntryPoints.{InRows, Reached, at_first, bails_out, include_declaring, include_checked, include_symbol, include_module, include_statement, takes, begins_round, declared_facts}
use Rattle.rust_engine.proofs.Kept.{Kept, Kept₀, Settled}
use Rattle.rust_engine.proofs.Theorem.{ClosedHere, rows_trans, good_over, closed_over, Within, Handlers, drains_settle, drains_end}
use Rattle.rust_values.proofs.Members.{in_append_left, in_append_right}
use Rattle.rust_engine.proofs.Asking.{grown_rows, World, of_choice, of_context, fit_grown, grown_refl, Asks}
use Rattle.rust_engine.proofs.Inserting.{asks_push, asks_bailout, Item}
use Rattle.rust_engine.proofs.Forwarding.{Declares, asks_declaring}
use Rattle.rust_engine.proofs.Bailing.{asks_checked}
use Rattle.rust_engine.proofs.Handling.{grown_grows, settled_grown, fit}
use Rattle.rust_engine.proofs.Declared.{from_declared, to_declared}
use Rattle.rust_engine.proofs.Inside.{reached_rows, reached-inside}

module _ (g : Graph) (good_closed : Closed g (Good g)) (hs : Handlers g) where
  abbrev v : List ℕ
  v = last_verdicts g

  pub record Done (base : Context) (ss : List Fact) (taken : List ℕ) (c : Context) : Type 0 where
    pub uses : List Pair
    pub settled : Settled g v taken base uses c
    pub holds : Every (Kept g v taken uses c) ss
    pub ended : c.pending ≡ []

  every_onto : (P Q : Fact → Type 0) → ((f : Fact) → P f → Q f) → (ss : List Fact) → Every P ss → Every Q ss
  every_onto P Q h [] a = tt
  every_onto P Q h (f ∷ ss) a = (h f a.0, every_onto P Q h ss a.1)

  -- bailouts that are taken count as kept
  module _ (taken : List ℕ) (base : Context) (uses : List Pair) (c : Context) where
    over-taken₀ : (f : Fact) → Kept₀ g v taken uses c f → Kept₀ g v (c.bailouts ++ taken) uses (take_bailouts c) f
    unfolding take_bailouts
    over-taken₀ (Module m) q = q
    over-taken₀ (Statement m i) q = q
    over-taken₀ (Use s x) q = q
    over-taken₀ (CheckedUse s x) q = absurd q
    over-taken₀ (Forward s) q = record { joins = q.joins; waits = q.waits }
    over-taken₀ (Bailout m) (inl q) = inr (in_append_left m.0 c.bailouts taken q)
    over-taken₀ (Bailout m) (inr q) = inr (in_append_right m.0 c.bailouts taken q)

    over-taken : (f : Fact) → Kept g v taken uses c f → Kept g v (c.bailouts ++ taken) uses (take_bailouts c) f
    over-taken (Module m) q = over-taken₀ (Module m) q
    over-taken (Statement m i) q = over-taken₀ (Statement m i) q
    over-taken (Use s x) q = over-taken₀ (Use s x) q
    over-taken (CheckedUse s x) q = λ k u. over-taken₀ (get_or (gives g v (CheckedUse s x)) k nothing_given).fact (q k u)
    over-taken (Forward s) q = over-taken₀ (Forward s) q
    over-taken (Bailout m) q = over-taken₀ (Bailout m) q

    settled-taken : Settled g v taken base uses c → Settled g v (c.bailouts ++ taken) base uses (take_bailouts c)
    unfolding take_bailouts
    settled-taken h =
        record {
          modules-done = λ m q n k u. over-taken (get_or (gives g v (module_fact m)) k nothing_given).fact (h.modules-done m q n k u);
          modules_shown = h.modules_shown;
          statements-done = λ m i q n k u. over-taken (get_or (gives g v (statement_fact m i)) k nothing_given).fact (h.statements-done m i q n k u);
          uses-done = λ s x q k u. over-taken (get_or (gives g v (use_fact s x)) k nothing_given).fact (h.uses-done s x q k u);
          uses-shown =
              λ s x q. record {
                in-used = (h.uses-shown s x q).in-used;
                in-external = (h.uses-shown s x q).in-external;
                in-json = (h.uses-shown s x q).in-json;
                in-reason = (h.uses-shown s x q).in-reason;
              };
          swept-done = h.swept-done;
        }

  -- a round begins
  module _ (taken : List ℕ) (base : Context) (uses : List Pair) (c : Context) where
    over-round₀ : (f : Fact) → Kept₀ g v taken uses c f → Kept₀ g v taken uses (set_changed false c) f
    unfolding set_changed
    over-round₀ (Module m) q = q
    over-round₀ (Statement m i) q = q
    over-round₀ (Use s x) q = q
    over-round₀ (CheckedUse s x) q = absurd q
    over-round₀ (Forward s) q = record { joins = q.joins; waits = q.waits }
    over-round₀ (Bailout m) q = q

    over-round : (f : Fact) → Kept g v taken uses c f → Kept g v taken uses (set_changed false c) f
    over-round (Module m) q = over-round₀ (Module m) q
    over-round (Statement m i) q = over-round₀ (Statement m i) q
    over-round (Use s x) q = over-round₀ (Use s x) q
    over-round (CheckedUse s x) q = λ k u. over-round₀ (get_or (gives g v (CheckedUse s x)) k nothing_given).fact (q k u)
    over-round (Forward s) q = over-round₀ (Forward s) q
    over-round (Bailout m) q = over-round₀ (Bailout m) q

    settled-round : Settled g v taken base uses c → Settled g v taken base uses (set_changed false c)
    unfolding set_changed
    settled-round h =
        record {
          modules-done = λ m q n k u. over-round (get_or (gives g v (module_fact m)) k nothing_given).fact (h.modules-done m q n k u);
          modules_shown = h.modules_shown;
          statements-done = λ m i q n k u. over-round (get_or (gives g v (statement_fact m i)) k nothing_given).fact (h.statements-done m i q n k u);
          uses-done = λ s x q k u. over-round (get_or (gives g v (use_fact s x)) k nothing_given).fact (h.uses-done s x q k u);
          uses-shown =
              λ s x q. record {
                in-used = (h.uses-shown s x q).in-used;
                in-external = (h.uses-shown s x q).in-external;
                in-json = (h.uses-shown s x q).in-json;
                in-reason = (h.uses-shown s x q).in-reason;
              };
          swept-done = h.swept-done;
        }

  -- over a base of good facts
  module _ (base : Context) (good-base : (f : Fact) → InRows base f → Good g f) where
    abbrev closed-good : ClosedHere g (good_over g base)
    closed-good = closed_over g (InRows base) (Good g) good_closed

    its-within : (ss : List Fact) (taken : List ℕ) (c : Context) → Reached g v base ss taken c → Every (Good g) ss → Within g (good_over g base) c
    its-within ss taken c r h = (reached-inside g good_closed hs (good_over g base) closed-good good-base ss taken c r h).within

    -- an entry point: what it asks for, and then the drain
    enters : (P : World g v → Type 0) (ss fs : List Fact) (taken : List ℕ) (c b d : Context) → Asks g v P c b → Drains g v b d
        → ((w : World g v) → P w → Every w.fact fs) → P (of_choice g v (good_over g base)) → Reached g v base ss taken c → Every (Good g) ss → Done base ss taken c
        → Done base (fs ++ ss) taken d
    enters P ss fs taken c b d a e to p r q h =
        let w = its-within ss taken c r q in
        let f = fit g taken base h.uses c w h.settled in
        let sb = settled_grown g taken base h.uses c b h.settled a.grown (fit_grown g v c b a.grown f).swept-done in
        let rb = rows_trans base c b (reached_rows g good_closed hs base ss taken c r) (grown_rows g v c b a.grown) in
        let o = drains_settle g good_closed hs taken base b d e h.uses rb (a.within (good_over g base) closed-good p w) sb in
        record {
          uses = o.now_handled;
          settled = o.settled;
          holds =
              every_append (Kept g v taken o.now_handled d) fs ss
              (every_onto (Kept g v taken h.uses b) (Kept g v taken o.now_handled d) o.grows fs
              (to (of_context g v taken h.uses b) (a.keeps taken h.uses b f (grown_refl g v b))))
              (every_onto (Kept g v taken h.uses c) (Kept g v taken o.now_handled d)
              (λ x q. o.grows x (grown_grows g taken h.uses c b a.grown x q)) ss h.holds);
          ended = drains_end g good_closed hs b d e;
        }

    new-done : Done base [] [] (new_context base)
    unfolding new_context
    new-done =
        record {
          uses = [];
          settled =
              record {
                modules-done = λ m q n. absurd (n q);
                modules_shown = λ m q n. absurd (n q);
                statements-done = λ m i q n. absurd (n q);
                uses-done = λ s x q. absurd q;
                uses-shown = λ s x q. absurd q;
                swept-done = λ b q. absurd q;
              };
          holds = tt;
          ended = refl;
        }

    pub reached-done : (ss : List Fact) (taken : List ℕ) (c : Context) → Reached g v base ss taken c → Every (Good g) ss → Done base ss taken c
    unfolding take_bailouts set_changed insert_bailout
    reached-done ss₀ taken₀ c₀ at_first h = new-done
    reached-done ss₀ taken₀ c₀ (bails_out ss taken c m r) h =
        let p = reached-done ss taken c r h.1 in
        let a = asks_bailout g v m c in
        let f = fit g taken base p.uses c (its-within ss taken c r h.1) p.settled in
        record {
          uses = p.uses;
          settled =
              settled_grown g taken base p.uses c (insert_bailout m c) p.settled a.grown (fit_grown g v c (insert_bailout m c) a.grown f).swept-done;
          holds = (
            a.keeps taken p.uses (insert_bailout m c) f (grown_refl g v (insert_bailout m c)),
            every_onto (Kept g v taken p.uses c) (Kept g v taken p.uses (insert_bailout m c))
                (grown_grows g taken p.uses c (insert_bailout m c) a.grown) ss p.holds,
          );
          ended = p.ended;
        }
    reached-done ss₀ taken₀ c₀ (include_declaring ss taken c d s r e) h =
        let q = every_right (Good g) (declared_facts g s) ss h in
        enters (λ w. normal g (owner_of g s) ≡ true → Declares g v s w) ss (declared_facts g s) taken c (enqueue_declaring_statements g s c) d (asks_declaring g v s c) e
        (λ w p. to_declared g w.fact s p) (from_declared g (Good g) s (every_left (Good g) (declared_facts g s) ss h)) r q (reached-done ss taken c r q)
    reached-done ss₀ taken₀ c₀ (include_checked ss taken c d s x r e) h =
        enters (λ w. w.fact (checked_fact s x)) ss (checked_fact s x ∷ []) taken c (push_symbol_and_check_cjs_bailout g s x c) d (asks_checked g s x c) e
        (λ w p. (p, tt)) h.0 r h.1
        (reached-done ss taken c r h.1)
    reached-done ss₀ taken₀ c₀ (include_symbol ss taken c d s x r e) h =
        enters (Item g v (symbol_item s x)) ss (use_fact s x ∷ []) taken c (push (symbol_item s x) c) d (asks_push g v (symbol_item s x) c) e (λ w p. (p, tt))
        h.0 r h.1
        (reached-done ss taken c r h.1)
    reached-done ss₀ taken₀ c₀ (include_module ss taken c d m r e) h =
        enters (Item g v (module_item m)) ss (module_fact m ∷ []) taken c (push (module_item m) c) d (asks_push g v (module_item m) c) e (λ w p. (p, tt)) h.0 r h.1
        (reached-done ss taken c r h.1)
    reached-done ss₀ taken₀ c₀ (include_statement ss taken c d m i r e) h =
        enters (Item g v (statement_item m i)) ss (statement_fact m i ∷ []) taken c (push (statement_item m i) c) d (asks_push g v (statement_item m i) c) e
        (λ w p. (p, tt)) h.0 r h.1
        (reached-done ss taken c r h.1)
    reached-done ss₀ taken₀ c₀ (takes ss taken c r) h =
        let p = reached-done ss taken c r h in
        record {
          uses = p.uses;
          settled = settled-taken taken base p.uses c p.settled;
          holds =
              every_onto (Kept g v taken p.uses c) (Kept g v (c.bailouts ++ taken) p.uses (take_bailouts c)) (over-taken taken base p.uses c) ss
              p.holds;
          ended = p.ended;
        }
    reached-done ss₀ taken₀ c₀ (begins_round ss taken c r) h =
        let p = reached-done ss taken c r h in
        record {
          uses = p.uses;
          settled = settled-round taken base p.uses c p.settled;
          holds = every_onto (Kept g v taken p.uses c) (Kept g v taken p.uses (set_changed false c)) (over-round taken base p.uses c) ss p.holds;
          ended = p.ended;
        }
