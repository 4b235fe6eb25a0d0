-- (a) between entry points: the rows that were lent stay, and everything lies within each choice that is closed but for the base and has base and starts.
use Rattle.std.proofs.Common.{◌≡◌, ℕ, ◌+◌, ◌-◌, true, ◌⊎◌, List, ◌++◌, inl, inr}
use Rattle.determine_side_effects.specs.graph_crate.Check.{Graph}
use Rattle.determine_side_effects.specs.graph_access_crate.Words.{normal}
use Rattle.determine_side_effects.specs.facts_crate.declared.Fact.{Fact}
use Rattle.determine_side_effects.specs.facts_crate.Facts.{module_fact, statement_fact, checked_fact, bailout_fact, Good}
use Rattle.determine_side_effects.specs.Effects.{last_verdicts}
use Rattle.closed_choices.specs.Choice.{Closed}
use Rattle.closed_choices.proofs.Every.{Every, every_left, every_right}
use Rattle.rust_values.specs.Values.{In}
use Rattle.rust_engine.specs.Context.{Context, new_context, module_item, symbol_item, statement_item, push, insert_bailout, take_bailouts, set_changed}
use Rattle.rust_engine.specs.Tables.{owner_of}
use Rattle.rust_engine.specs.Engine.{Drains, enqueue_declaring_statements, push_symbol_and_check_cjs_bailout}
use Rattle.rust_engine.specs.EntryPoints.{InRows, Reached, at_first, bails_out, include_declaring, include_checked, include_symbol, include_module, include_statement, takes, begins_round, declared_facts}
use Rattle.rust_engine.proofs.Theorem.{Over, ClosedHere, HasRows, rows_trans, drains_rows, Within, Handlers, drains_within}
use Rattle.rust_values.proofs.Members.{in_append}
use Rattle.rust_engine.proofs.Asking.{grown_rows, World, of_choice, Asks}
use Rattle.rust_engine.proofs.Inserting.{asks_push, asks_bailout, Item}
use Rattle.rust_engine.proofs.Forwarding.{Declares, asks_declaring}
use Rattle.rust_engine.proofs.Bailing.{asks_checked}
use Rattle.rust_engine.proofs.Declared.{from_declared}

module _ (g : Graph) (good_closed : Closed g (Good g)) (hs : Handlers g) where
  abbrev v : List ℕ
  v = last_verdicts g

  -- an entry point: what it asks for, and then the drain
  pub enters_rows : (P : World g v → Type 0) (base c b d : Context) → Asks g v P c b → Drains g v b d → HasRows base c → HasRows base d
  enters_rows P base c b d a e h = drains_rows g good_closed hs base b d e (rows_trans base c b h (grown_rows g v c b a.grown))

  pub reached_rows : (base : Context) (ss : List Fact) (taken : List ℕ) (c : Context) → Reached g v base ss taken c → HasRows base c
  unfolding new_context take_bailouts set_changed
  reached_rows base ss₀ taken₀ c₀ at_first =
      record {
        has_modules = λ m q. q;
        has_statements = λ p q. q;
        has_used = λ s q. q;
        has_external = λ s q. q;
        has_reasons = λ p q. q;
      }
  reached_rows base ss₀ taken₀ c₀ (bails_out ss taken c m r) =
      rows_trans base c (insert_bailout m c) (reached_rows base ss taken c r) (grown_rows g v c (insert_bailout m c) (asks_bailout g v m c).grown)
  reached_rows base ss₀ taken₀ c₀ (include_declaring ss taken c d s r e) =
      enters_rows (λ w. normal g (owner_of g s) ≡ true → Declares g v s w) base c (enqueue_declaring_statements g s c) d (asks_declaring g v s c) e
      (reached_rows base ss taken c r)
  reached_rows base ss₀ taken₀ c₀ (include_checked ss taken c d s x r e) =
      enters_rows (λ w. w.fact (checked_fact s x)) base c (push_symbol_and_check_cjs_bailout g s x c) d (asks_checked g s x c) e (reached_rows base ss taken c r)
  reached_rows base ss₀ taken₀ c₀ (include_symbol ss taken c d s x r e) =
      enters_rows (Item g v (symbol_item s x)) base c (push (symbol_item s x) c) d (asks_push g v (symbol_item s x) c) e (reached_rows base ss taken c r)
  reached_rows base ss₀ taken₀ c₀ (include_module ss taken c d m r e) =
      enters_rows (Item g v (module_item m)) base c (push (module_item m) c) d (asks_push g v (module_item m) c) e (reached_rows base ss taken c r)
  reached_rows base ss₀ taken₀ c₀ (include_statement ss taken c d m i r e) =
      enters_rows (Item g v (statement_item m i)) base c (push (statement_item m i) c) d (asks_push g v (statement_item m i) c) e (reached_rows base ss taken c r)
  reached_rows base ss₀ taken₀ c₀ (takes ss taken c r) =
      let h = reached_rows base ss taken c r in
      record {
        has_modules = h.has_modules;
        has_statements = h.has_statements;
        has_used = h.has_used;
        has_external = h.has_external;
        has_reasons = h.has_reasons;
      }
  reached_rows base ss₀ taken₀ c₀ (begins_round ss taken c r) =
      let h = reached_rows base ss taken c r in
      record {
        has_modules = h.has_modules;
        has_statements = h.has_statements;
        has_used = h.has_used;
        has_external = h.has_external;
        has_reasons = h.has_reasons;
      }

  pub record Inside (S : Over) (taken : List ℕ) (c : Context) : Type 0 where
    pub within : Within g S c
    pub of-taken : (m : ℕ) → In m taken → S.choice (bailout_fact m)

  module _ (S : Over) (k : ClosedHere g S) (holds_base : (f : Fact) → InRows S.base f → S.choice f) where
    enters-inside : (P : World g v → Type 0) (taken : List ℕ) (c b d : Context) → Asks g v P c b → Drains g v b d → P (of_choice g v S) → HasRows S.base c
        → Inside S taken c → Inside S taken d
    enters-inside P taken c b d a e p r h =
        record {
          within = drains_within g good_closed hs S k b d e (rows_trans S.base c b r (grown_rows g v c b a.grown)) (a.within S k p h.within);
          of-taken = h.of-taken;
        }

    new-within : Within g S (new_context S.base)
    unfolding new_context
    new-within =
        record {
          queued = λ i q. absurd q;
          of_modules = λ m q. holds_base (module_fact m) q;
          of_statements = λ m i q. holds_base (statement_fact m i) q;
          of_deferred = λ s q. absurd q;
          of_bailouts = λ m q. absurd q;
          of_used = λ s q. inl q;
          of_external = λ s q. inl q;
          of_json = λ m s q. absurd q;
          of_reasons = λ m b q. inl q;
        }

    pub reached-inside : (ss : List Fact) (taken : List ℕ) (c : Context) → Reached g v S.base ss taken c → Every S.choice ss → Inside S taken c
    unfolding take_bailouts set_changed
    reached-inside ss₀ taken₀ c₀ at_first h = record { within = new-within; of-taken = λ m q. absurd q }
    reached-inside ss₀ taken₀ c₀ (bails_out ss taken c m r) h =
        let p = reached-inside ss taken c r h.1 in
        record { within = (asks_bailout g v m c).within S k h.0 p.within; of-taken = p.of-taken }
    reached-inside ss₀ taken₀ c₀ (include_declaring ss taken c d s r e) h =
        enters-inside (λ w. normal g (owner_of g s) ≡ true → Declares g v s w) taken c (enqueue_declaring_statements g s c) d (asks_declaring g v s c) e
        (from_declared g S.choice s (every_left S.choice (declared_facts g s) ss h)) (reached_rows S.base ss taken c r)
        (reached-inside ss taken c r (every_right S.choice (declared_facts g s) ss h))
    reached-inside ss₀ taken₀ c₀ (include_checked ss taken c d s x r e) h =
        enters-inside (λ w. w.fact (checked_fact s x)) taken c (push_symbol_and_check_cjs_bailout g s x c) d (asks_checked g s x c) e h.0
        (reached_rows S.base ss taken c r) (reached-inside ss taken c r h.1)
    reached-inside ss₀ taken₀ c₀ (include_symbol ss taken c d s x r e) h =
        enters-inside (Item g v (symbol_item s x)) taken c (push (symbol_item s x) c) d (asks_push g v (symbol_item s x) c) e h.0
        (reached_rows S.base ss taken c r) (reached-inside ss taken c r h.1)
    reached-inside ss₀ taken₀ c₀ (include_module ss taken c d m r e) h =
        enters-inside (Item g v (module_item m)) taken c (push (module_item m) c) d (asks_push g v (module_item m) c) e h.0
        (reached_rows S.base ss taken c r) (reached-inside ss taken c r h.1)
    reached-inside ss₀ taken₀ c₀ (include_statement ss taken c d m i r e) h =
        enters-inside (Item g v (statement_item m i)) taken c (push (statement_item m i) c) d (asks_push g v (statement_item m i) c) e h.0
        (reached_rows S.base ss taken c r) (reached-inside ss taken c r h.1)
    reached-inside ss₀ taken₀ c₀ (takes ss taken c r) h = taking (reached-inside ss taken c r h)
      where
        bring : Inside S taken c → (m : ℕ) → In m c.bailouts ⊎ In m taken → S.choice (bailout_fact m)
        bring p m (inl q) = p.within.of_bailouts m q
        bring p m (inr q) = p.of-taken m q

        taking : Inside S taken c → Inside S (c.bailouts ++ taken) (take_bailouts c)
        taking p =
            let w = p.within in
            record {
              within = record {
                queued = w.queued;
                of_modules = w.of_modules;
                of_statements = w.of_statements;
                of_deferred = w.of_deferred;
                of_bailouts = λ m q. absurd q;
                of_used = w.of_used;
                of_external = w.of_external;
                of_json = w.of_json;
                of_reasons = w.of_reasons;
              };
              of-taken = λ m q. bring p m (in_append m c.bailouts taken q);
            }
    reached-inside ss₀ taken₀ c₀ (begins_round ss taken c r) h =
        let p = reached-inside ss taken c r h in
        let w = p.within in
        record {
          within = record {
            queued = w.queued;
            of_modules = w.of_modules;
            of_statements = w.of_statements;
            of_deferred = w.of_deferred;
            of_bailouts = w.of_bailouts;
            of_used = w.of_used;
            of_external = w.of_external;
            of_json = w.of_json;
            of_reasons = w.of_reasons;
          };
          of-taken = p.of-taken;
        }
