-- What a drain that returns has passed: a use that was on its queue has been handled, so each use that it gives was on it too, and it ends.
use Prim.Native.Nat.{ℕ, ◌<◌}
use mathlib.Core.Path.{◌≡◌, refl, ◌∙◌, sym, subst}
use mathlib.Core.Logic.{◌⊎◌, inl, inr}
use mathlib.Core.Bool.{Bool, true, false, not, false≢true}
use mathlib.Core.List.{List}
use native.Mathlib.Omega.{arith}
use lib.ListN.{length, get_or}
use Rattle.determine_side_effects.specs.graph_crate.Check.{Graph}
use Rattle.determine_side_effects.specs.graph_access_crate.Words.{normal}
use Rattle.determine_side_effects.specs.facts_crate.declared.Fact.{Fact}
use Rattle.determine_side_effects.specs.facts_crate.declared.Fact.TheVariants.{Module, Statement, Use, CheckedUse, Forward, Bailout}
use Rattle.determine_side_effects.specs.facts_crate.Facts.{module_fact, statement_fact, use_fact, checked_fact}
use Rattle.determine_side_effects.specs.Effects.{last_verdicts}
use Rattle.keep_rules.specs.Rules.{gives, segments_of, given_by}
use Rattle.keep_record.specs.Lines.{elem}
use Rattle.closed_choices.specs.Choice.{Choice, nothing_given}
use Rattle.closed_choices.proofs.Every.{Every, every_append}
use Rattle.rust_values.specs.Values.{Pair, pair, has_pair, In}
use Rattle.rust_engine.specs.Context.{WorkItem, module_item, symbol_item, statement_item, Context, new_context, push, rest, insert_bailout, set_module, set_statement, set_changed, set_deferred, take_bailouts}
use Rattle.rust_engine.specs.Engine.{Orders, Reorders, Drains, returns, pops, drain_deferred, module_body, handle_include_module, handle_include_symbol, handle_include_statement, handle, enqueue_declaring_statements, push_symbol_and_check_cjs_bailout}
use Rattle.rust_engine.specs.EntryPoints.{InRows, ClosedOver, Reached, at_first, bails_out, include_declaring, include_checked, include_symbol, include_module, include_statement, takes, begins_round, declared_facts}
use Rattle.rust_engine.proofs.Kept.{AllGiven}
use Rattle.rust_engine.proofs.Views.{segments_given}
use Rattle.rust_engine.proofs.Asking.{QueuedUse, of_queue, Grown, grown_refl}
use Rattle.rust_engine.proofs.Inserting.{asks_push}
use Rattle.rust_engine.proofs.Forwarding.{asks_declaring}
use Rattle.rust_engine.proofs.Bailing.{asks_checked, to_checked}
use Rattle.rust_engine.proofs.Declared.{to_declared}
use Rattle.rust_engine.proofs.Statements.{statement_body, asks_statement}
use Rattle.rust_engine.proofs.Modules.{asks-module}
use Rattle.rust_engine.proofs.Handling.{quiet}
use Rattle.rust_engine.proofs.HandlingUses.{symbol_grown}
use Rattle.rust_engine.proofs.Links.{links}
use Rattle.rust_engine.proofs.Waiting.{marked, asks-joined}
use Rattle.rust_engine.proofs.Queue.{handle_queue, use_queued}
use Rattle.rust_returns.proofs.Ending.{Ends, ends}
use Rattle.rust_returns.proofs.Uses.{placed}

module _ (g : Graph) where
  abbrev v : List ℕ
  v = last_verdicts g

  -- a use that was on the queue of a drain that returned
  pub record Passed (s x : ℕ) : Type 0 where
    pub from : Context
    pub to : Context
    pub drains : Drains g (last_verdicts g) from to
    pub queued : In (symbol_item s x) from.pending

  -- where it is popped
  record Popped (s x : ℕ) (d : Context) : Type 0 where
    before : Context
    drains : Drains g v (handle_include_symbol g v s x before) d

  popped : (c d : Context) → Drains g v c d → (s x : ℕ) → In (symbol_item s x) c.pending → Popped s x d
  unfolding rest handle
  popped c d (returns _ e) s x h = absurd (subst (λ xs. In (symbol_item s x) xs) e h)
  popped c d (pops _ _ i is order o e more) s x h =
      go (subst (λ xs. In (symbol_item s x) xs) e h) (λ q. popped (handle g v order i (rest is c)) d more s x q)
    where
      go : (symbol_item s x ≡ i) ⊎ In (symbol_item s x) is → (In (symbol_item s x) (handle g v order i (rest is c)).pending → Popped s x d) → Popped s x d
      go (inl q) next = record { before = rest is c; drains = subst (λ j. Drains g v (handle g v order j (rest is c)) d) (sym q) more }
      go (inr q) next = next (handle_queue g order o i (rest is c) (symbol_item s x) q)

  -- of uses, checked or not; of other facts nothing is said
  abbrev pub Safe : Fact → Type 0
  Safe (Module m) = Unit {0}
  Safe (Statement m i) = Unit {0}
  Safe (Use s x) = Passed s.0 x.bits
  Safe (CheckedUse s x) = Passed s.0 x.bits
  Safe (Forward s) = Unit {0}
  Safe (Bailout m) = Unit {0}

  safe_by : (c d : Context) → Drains g v c d → (f : Fact) → QueuedUse g v c f → Safe f
  safe_by c d e (Module m) h = tt
  safe_by c d e (Statement m i) h = tt
  safe_by c d e (Use s x) h = record { from = c; to = d; drains = e; queued = h }
  safe_by c d e (CheckedUse s x) h = record { from = c; to = d; drains = e; queued = h }
  safe_by c d e (Forward s) h = tt
  safe_by c d e (Bailout m) h = tt

  all_safe : (c d : Context) → Drains g v c d → (f : Fact) → AllGiven g v (QueuedUse g v c) f → AllGiven g v Safe f
  all_safe c d e f h k u = safe_by c d e (get_or (gives g v f) k nothing_given).fact (h k u)

  passed_on : (s x : ℕ) → Passed s x → AllGiven g v Safe (use_fact s x)
  passed_on s x p =
      let q = popped p.from p.to p.drains s x p.queued in
      all_safe (handle_include_symbol g v s x q.before) p.to q.drains (use_fact s x) (λ k u. use_queued g s x q.before k u)

  -- so it ends
  ends_by : (c d : Context) → Drains g v c d → (s x : ℕ) → In (symbol_item s x) c.pending → Ends g s x
  unfolding rest handle
  ends_by c d (returns _ e) s x h = absurd (subst (λ xs. In (symbol_item s x) xs) e h)
  ends_by c d (pops _ _ i is order o e more) s x h =
      go (subst (λ xs. In (symbol_item s x) xs) e h) (λ t y q. ends_by (handle g v order i (rest is c)) d more t y q)
    where
      go : (symbol_item s x ≡ i) ⊎ In (symbol_item s x) is → ((t y : ℕ) → In (symbol_item t y) (handle g v order i (rest is c)).pending → Ends g t y) → Ends g s x
      go (inl q) next =
          ends s x (λ t y given. let k = placed g s x t y given in next t y (subst (λ j. In (symbol_item t y) (handle g v order j (rest is c)).pending) q
          (subst (λ f. QueuedUse g v (handle_include_symbol g v s x (rest is c)) f) k.is (use_queued g s x (rest is c) k.place k.inside))))
      go (inr q) next = next s x (handle_queue g order o i (rest is c) (symbol_item s x) q)

  pub passed_ends : (s x : ℕ) → Passed s x → Ends g s x
  passed_ends s x p = ends_by p.from p.to p.drains s x p.queued

  -- what was included beyond the base was followed
  pub record Followed (base c : Context) : Type 0 where
    pub of_modules : (m : ℕ) → In m c.modules → (In m base.modules → ⊥) → AllGiven g (last_verdicts g) Safe (module_fact m)
    pub of_statements : (m i : ℕ) → In (pair m i) c.statements → (In (pair m i) base.statements → ⊥) → AllGiven g (last_verdicts g) Safe (statement_fact m i)

  followed_as : (base c d : Context) → d.modules ≡ c.modules → d.statements ≡ c.statements → Followed base c → Followed base d
  followed_as base c d m s f =
      record {
        of_modules = λ n h. f.of_modules n (subst (λ ms. In n ms) m h);
        of_statements = λ n i h. f.of_statements n i (subst (λ ps. In (pair n i) ps) s h);
      }

  followed_grown : (base c d : Context) → Grown g v c d → Followed base c → Followed base d
  followed_grown base c d h f = followed_as base c d h.modules_same h.statements-same f

  module_followed : (order : Orders) → Reorders order → (base : Context) (m : ℕ) (c d : Context) → Drains g v (handle_include_module g v order m c) d → Followed base c
      → Followed base (handle_include_module g v order m c)
  unfolding handle_include_module set_deferred set_changed set_module
  module_followed order o base m c d e f = go (normal g m) (elem m c.modules) (not (quiet g m)) refl e
    where
      y : Context
      y = drain_deferred g m (set_changed true (set_module m c))

      joined : Grown g v (marked g m c) y
      joined = (asks-joined g m c).grown

      new : (n : Context) → Drains g v n d → n.modules ≡ y.modules → n.statements ≡ y.statements → (not (quiet g m) ≡ true → Grown g v n n × (n ≡ module_body g v order m y)) → Followed base n
      new n e ms ss body =
          record {
            of_modules = λ k h. its k (subst (λ xs. In k xs) (ms ∙ joined.modules_same) h);
            of_statements = λ k i h. f.of_statements k i (subst (λ ps. In (pair k i) ps) (ss ∙ joined.statements-same) h);
          }
        where
          given : AllGiven g v (QueuedUse g v n) (module_fact m)
          given =
              ((links g).module_to (of_queue g v n) m
              (λ q. let b = body q in (asks-module g order o m y).pushes n (subst (λ (z : Context). Grown g v z n) b.1 b.0))).0

          its : (k : ℕ) → (k ≡ m) ⊎ In k c.modules → (In k base.modules → ⊥) → AllGiven g v Safe (module_fact k)
          its k (inl q) b = subst (λ j. AllGiven g v Safe (module_fact j)) (sym q) (all_safe n d e (module_fact m) given)
          its k (inr q) b = f.of_modules k q b

      go : (a b r : Bool) → not (quiet g m) ≡ r
          → Drains g v (elim a [ true ↦ elim b [ true ↦ c | false ↦ elim r [ true ↦ module_body g v order m y | false ↦ y ] ] | false ↦ c ]) d
          → Followed base (elim a [ true ↦ elim b [ true ↦ c | false ↦ elim r [ true ↦ module_body g v order m y | false ↦ y ] ] | false ↦ c ])
      go true true r q e = f
      go true false true q e =
          let n = module_body g v order m y in
          let a = asks-module g order o m y in
          new n e a.grown.modules_same a.grown.statements-same (λ z. (grown_refl g v n, refl))
      go true false false q e = new y e refl refl (λ z. absurd (false≢true (sym q ∙ z)))
      go false b r q e = f

  statement_followed : (base : Context) (m i : ℕ) (c d : Context) → Drains g v (handle_include_statement g v m i c) d → Followed base c → Followed base (handle_include_statement g v m i c)
  unfolding handle_include_statement set_statement
  statement_followed base m i c d e f = go (normal g m) (has_pair m i c.statements) e
    where
      y : Context
      y = set_statement m i c

      n : Context
      n = statement_body g m i y

      new : Drains g v n d → Followed base n
      new e =
          let a = asks_statement g m i y in
          record {
            of_modules = λ k h. f.of_modules k (subst (λ xs. In k xs) a.grown.modules_same h);
            of_statements = λ k j h. its k j (subst (λ ps. In (pair k j) ps) a.grown.statements-same h);
          }
        where
          given : AllGiven g v (QueuedUse g v n) (statement_fact m i)
          given = (links g).statement_to (of_queue g v n) m i ((asks_statement g m i y).pushes n (grown_refl g v n))

          its : (k j : ℕ) → (pair k j ≡ pair m i) ⊎ In (pair k j) c.statements → (In (pair k j) base.statements → ⊥) → AllGiven g v Safe (statement_fact k j)
          its k j (inl q) b = subst (λ (p : Pair). AllGiven g v Safe (statement_fact p.first p.second)) (sym q) (all_safe n d e (statement_fact m i) given)
          its k j (inr q) b = f.of_statements k j q b

      go : (a b : Bool) → Drains g v (elim a [ true ↦ elim b [ true ↦ c | false ↦ n ] | false ↦ c ]) d → Followed base (elim a [ true ↦ elim b [ true ↦ c | false ↦ n ] | false ↦ c ])
      go true true e = f
      go true false e = new e
      go false b e = f

  handle_followed : (order : Orders) → Reorders order → (base : Context) (i : WorkItem) (c d : Context) → Drains g v (handle g v order i c) d → Followed base c → Followed base (handle g v order i c)
  unfolding handle
  handle_followed order o base (module_item m) c d e f = module_followed order o base m c d e f
  handle_followed order o base (symbol_item s x) c d e f = followed_grown base c (handle_include_symbol g v s x c) (symbol_grown g s x c) f
  handle_followed order o base (statement_item m i) c d e f = statement_followed base m i c d e f

  rest_followed : (base : Context) (is : List WorkItem) (c : Context) → Followed base c → Followed base (rest is c)
  unfolding rest
  rest_followed base is c f = followed_as base c (rest is c) refl refl f

  drains_followed : (base c d : Context) → Drains g v c d → Followed base c → Followed base d
  drains_followed base c d (returns _ e) f = f
  drains_followed base c d (pops _ _ i is order o e more) f =
      drains_followed base (handle g v order i (rest is c)) d more (handle_followed order o base i (rest is c) d more (rest_followed base is c f))

  -- between entry points: also what was started from is safe
  pub record Fine (base : Context) (ss : List Fact) (c : Context) : Type 0 where
    pub followed : Followed base c
    pub starts-safe : Every Safe ss

  pub reached_fine : (base : Context) (ss : List Fact) (taken : List ℕ) (c : Context) → Reached g (last_verdicts g) base ss taken c → Fine base ss c
  unfolding new_context insert_bailout take_bailouts set_changed
  reached_fine base ss₀ taken₀ c₀ at_first = record { followed = record { of_modules = λ m h n. absurd (n h); of_statements = λ m i h n. absurd (n h) }; starts-safe = tt }
  reached_fine base ss₀ taken₀ c₀ (bails_out ss taken c m r) =
      let p = reached_fine base ss taken c r in
      record { followed = followed_as base c (insert_bailout m c) refl refl p.followed; starts-safe = (tt, p.starts-safe) }
  reached_fine base ss₀ taken₀ c₀ (include_declaring ss taken c d s r e) =
      let p = reached_fine base ss taken c r in
      let b = enqueue_declaring_statements g s c in
      record {
        followed = drains_followed base b d e (followed_grown base c b (asks_declaring g v s c).grown p.followed);
        starts-safe = every_append Safe (declared_facts g s) ss (to_declared g Safe s (λ n row q. tt)) p.starts-safe;
      }
  reached_fine base ss₀ taken₀ c₀ (include_checked ss taken c d s x r e) =
      let p = reached_fine base ss taken c r in
      let b = push_symbol_and_check_cjs_bailout g s x c in
      let a = asks_checked g s x c in
      record {
        followed = drains_followed base b d e (followed_grown base c b a.grown p.followed);
        starts-safe = (safe_by b d e (checked_fact s x) (a.pushes b (grown_refl g v b)), p.starts-safe);
      }
  reached_fine base ss₀ taken₀ c₀ (include_symbol ss taken c d s x r e) =
      let p = reached_fine base ss taken c r in
      let b = push (symbol_item s x) c in
      let a = asks_push g v (symbol_item s x) c in
      record {
        followed = drains_followed base b d e (followed_grown base c b a.grown p.followed);
        starts-safe = (safe_by b d e (use_fact s x) (a.pushes b (grown_refl g v b)), p.starts-safe);
      }
  reached_fine base ss₀ taken₀ c₀ (include_module ss taken c d m r e) =
      let p = reached_fine base ss taken c r in
      let b = push (module_item m) c in
      record { followed = drains_followed base b d e (followed_grown base c b (asks_push g v (module_item m) c).grown p.followed); starts-safe = (tt, p.starts-safe) }
  reached_fine base ss₀ taken₀ c₀ (include_statement ss taken c d m i r e) =
      let p = reached_fine base ss taken c r in
      let b = push (statement_item m i) c in
      record { followed = drains_followed base b d e (followed_grown base c b (asks_push g v (statement_item m i) c).grown p.followed); starts-safe = (tt, p.starts-safe) }
  reached_fine base ss₀ taken₀ c₀ (takes ss taken c r) =
      let p = reached_fine base ss taken c r in
      record { followed = followed_as base c (take_bailouts c) refl refl p.followed; starts-safe = p.starts-safe }
  reached_fine base ss₀ taken₀ c₀ (begins_round ss taken c r) =
      let p = reached_fine base ss taken c r in
      record { followed = followed_as base c (set_changed false c) refl refl p.followed; starts-safe = p.starts-safe }

  -- the facts of a closed choice that are safe are a closed choice, where its modules and statements were included
  checked_safe : (s x : ℕ) → Passed s x → AllGiven g v Safe (checked_fact s x)
  checked_safe s x p = segments_given Safe g v (checked_fact s x) (to_checked g Safe s x p ((λ m e. tt, λ e. tt), λ n e m q r. tt))

  pub safe_closed : (base c : Context) (C : Choice) → ClosedOver g (InRows base) C → ((m : ℕ) → C (module_fact m) → In m c.modules)
      → ((m i : ℕ) → C (statement_fact m i) → In (pair m i) c.statements) → Followed base c → ClosedOver g (InRows base) (λ f. C f × Safe f)
  unfolding gives segments_of given_by
  safe_closed base c C k ms ss f =
      record {
        by_K1 = λ m s i a b e u. (k.by_K1 m s i a.0 b.0 e u, tt);
        by_K2_to_K14 = λ x i h n u. (k.by_K2_to_K14 x i h.0 n u, next x i h n u);
      }
    where
      next : (x : Fact) (i : ℕ) → C x × Safe x → (InRows base x → ⊥) → i < length (gives g v x) → Safe (get_or (gives g v x) i nothing_given).fact
      next (Module m) i h n u = f.of_modules m.0 (ms m.0 h.0) n i u
      next (Statement m j) i h n u = f.of_statements m.0 j.0 (ss m.0 j.0 h.0) n i u
      next (Use s x) i h n u = passed_on s.0 x.bits h.1 i u
      next (CheckedUse s x) i h n u = checked_safe s.0 x.bits h.1 i u
      next (Forward s) i h n u = absurd (omega (arith, u))
      next (Bailout m) i h n u = absurd (omega (arith, u))
