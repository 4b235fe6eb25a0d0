-- The loops over entry points return, each from a context within a finite closed choice that has what the loop starts, of whose uses each ends.
use Prim.Native.Nat.{ℕ}
use mathlib.Core.Path.{◌≡◌, refl, ap, ◌∙◌, sym, subst}
use mathlib.Core.Logic.{inl, inr}
use mathlib.Core.Bool.{Bool, true, false}
use mathlib.Core.List.{List, [], ◌∷◌}
use lib.Dec.{eqb}
use lib.ListN.{get_or}
use Rattle.determine_side_effects.specs.graph_crate.Check.{Graph, graph_in}
use Rattle.determine_side_effects.specs.graph_crate.Loaded.{Loaded}
use Rattle.determine_side_effects.specs.graph_access_crate.Names.{entry_references, export_symbol, export_from_common_js, resolved_exports, only}
use Rattle.determine_side_effects.specs.graph_access_crate.Words.{flag, tabulate, module_of, normal}
use Rattle.determine_side_effects.specs.facts_crate.declared.Fact.{Fact}
use Rattle.determine_side_effects.specs.facts_crate.Facts.{module_fact, use_fact, checked_fact, bailout_fact}
use Rattle.determine_side_effects.specs.Effects.{last_verdicts}
use Rattle.entry_order.specs.Order.{those, module_of_entry}
use Rattle.entry_starts.specs.Starts.{reference_starts, references_starts, module_starts, user_starts}
use Rattle.passes.specs.Bailouts.{export_starts}
use Rattle.passes.specs.Helpers.{runtime_starts}
use Rattle.tree_shaking.specs.Rounds.{users_starts}
use Rattle.closed_choices.proofs.Every.{Every, every_left, every_right}
use Rattle.rust_values.specs.Values.{In, filter}
use Rattle.rust_engine.specs.Context.{Context, empty, module_item, symbol_item, push, insert_bailout, set_changed, take_bailouts}
use Rattle.rust_engine.specs.Tables.{owner_of, has_side_effects}
use Rattle.rust_engine.specs.Engine.{Drains, enqueue_declaring_statements, push_symbol_and_check_cjs_bailout}
use Rattle.rust_engine.specs.EntryPoints.{declared_facts}
use Rattle.rust_engine.proofs.Theorem.{Over, ClosedHere, Handlers, rows_trans, drains_rows, drains_within}
use Rattle.rust_engine.proofs.Asking.{World, of_choice, Asks, grown_rows}
use Rattle.rust_engine.proofs.Inserting.{Item, asks_push, asks_bailout}
use Rattle.rust_engine.proofs.Forwarding.{Declares, asks_declaring}
use Rattle.rust_engine.proofs.Bailing.{asks_checked}
use Rattle.rust_engine.proofs.Declared.{from_declared}
use Rattle.rust_engine.proofs.Links.{links}
use Rattle.rust_engine.proofs.Handlers.{handlers}
use Rattle.rust_engine.proofs.OfAccepted.{good_closed, own_normal}
use Rattle.rust_order.specs.DynamicEntries.{entry_idx}
use Rattle.rust_run.specs.DynamicEntries as tries
use Rattle.rust_run.specs.Passes as passes
use Rattle.rust_run.specs.IncludeStatements as whole
use Rattle.rust_run.proofs.Grouping.{filter_those}
use Rattle.rust_run.proofs.Starting.{reference_is, module_normal, user_normal, export_none, export_one, same_exports}
use Rattle.rust_run.proofs.Runtime.{helper_uses, uses_moved, effects_same, starts_runtime, starts_helpers}
use Rattle.rust_returns.specs.Following.{Choosing, DrainsBy, ReferencesBy, EntryBy, UsersBy, ExportsBy, BailoutsBy, HelpersBy, RuntimeBy}
use Rattle.rust_returns.proofs.Ending.{Ends}
use Rattle.rust_returns.proofs.Drains as engine

-- a choice that is closed but for its base, finite, and all of whose uses end
pub record Tame (g : Graph) (S : Over) : Type 0 where
  pub closed : ClosedHere g S
  pub facts : List Fact
  pub finite : (f : Fact) → S.choice f → In f facts
  pub all_end : (s x : ℕ) → S.choice (use_fact s x) → Ends g s x

module _ {numbers tables : List ℕ} (t : Loaded numbers tables) (S : Over) (T : Tame (graph_in numbers) S) (ch : Choosing (graph_in numbers)) where
  abbrev g : Graph
  g = graph_in numbers

  abbrev v : List ℕ
  v = last_verdicts (graph_in numbers)

  pub hs : Handlers (graph_in numbers)
  hs = handlers (graph_in numbers) (links (graph_in numbers)) (own_normal t)

  abbrev C : Fact → Type 0
  C = S.choice

  abbrev pub Ready : Context → Type 0
  Ready c = engine.Ready (graph_in numbers) hs T.facts S T.closed T.finite T.all_end c

  -- what is asked for before a drain
  pub asked : (P : World (graph_in numbers) (last_verdicts (graph_in numbers)) → Type 0) (c b : Context) → Asks (graph_in numbers) (last_verdicts (graph_in numbers)) P c b
      → P (of_choice (graph_in numbers) (last_verdicts (graph_in numbers)) S) → Ready c → Ready b
  asked P c b a p r = record { rows = rows_trans S.base c b r.rows (grown_rows g v c b a.grown); within = a.within S T.closed p r.within }

  -- a drain
  pub record Drained (c : Context) : Type 0 where
    pub end : Context
    pub drains : Drains (graph_in numbers) (last_verdicts (graph_in numbers)) c end
    pub follows : DrainsBy (graph_in numbers) (last_verdicts (graph_in numbers)) ch c end drains
    pub ready : Ready end

  drained : (c : Context) → Ready c → Drained c
  drained c r =
      let h = engine.drains-exist g hs T.facts S T.closed T.finite T.all_end ch c r in
      record {
        end = h.end;
        drains = h.drains;
        follows = h.follows;
        ready =
            record {
              rows = drains_rows g (good_closed t) hs S.base c h.end h.drains r.rows;
              within = drains_within g (good_closed t) hs S T.closed c h.end h.drains r.rows r.within;
            };
      }

  entered : (P : World g v → Type 0) (c b : Context) → Asks g v P c b → P (of_choice g v S) → Ready c → Drained b
  entered P c b a p r = drained b (asked P c b a p r)

  checked : (s x : ℕ) (c : Context) → C (checked_fact s x) → Ready c → Drained (push_symbol_and_check_cjs_bailout g s x c)
  checked s x c h r = entered (λ w. w.fact (checked_fact s x)) c (push_symbol_and_check_cjs_bailout g s x c) (asks_checked g s x c) h r

  used : (s x : ℕ) (c : Context) → C (use_fact s x) → Ready c → Drained (push (symbol_item s x) c)
  used s x c h r = entered (Item g v (symbol_item s x)) c (push (symbol_item s x) c) (asks_push g v (symbol_item s x) c) h r

  included : (m : ℕ) (c : Context) → C (module_fact m) → Ready c → Drained (push (module_item m) c)
  included m c h r = entered (Item g v (module_item m)) c (push (module_item m) c) (asks_push g v (module_item m) c) h r

  -- entry references ----------------------------------------------------------------------------------------------------------------------
  record References (rows : List (List ℕ)) (c : Context) : Type 0 where
    end : Context
    done : tries.References g v rows c end
    follows : ReferencesBy g v ch rows c end done
    ready : Ready end

  references : (rows : List (List ℕ)) (c : Context) → Ready c → Every C (references_starts g rows) → References rows c
  unfolding references_starts
  references [] c r a = record { end = c; done = tries.References.no_more c; follows = tt; ready = r }
  references (row ∷ rows) c r a = go (normal g (owner_of g (only row))) refl (λ d q. references rows d q (every_right C (reference_starts g (only row)) (references_starts g rows) a))
    where
      s : ℕ
      s = only row

      go : (b : Bool) → normal g (owner_of g s) ≡ b → ((d : Context) → Ready d → References rows d) → References (row ∷ rows) c
      go true n more =
          let h = subst (λ (l : List Fact). Every C l) (reference_is g v empty s n) (every_left C (reference_starts g s) (references_starts g rows) a) in
          let x = entered (λ w. normal g (owner_of g s) ≡ true → Declares g v s w) c (enqueue_declaring_statements g s c) (asks_declaring g v s c)
          (from_declared g C s (every_left C (declared_facts g s) (checked_fact s 2 ∷ []) h)) r in
          let y = checked s 2 x.end (every_right C (declared_facts g s) (checked_fact s 2 ∷ []) h).0 x.ready in
          let z = more y.end y.ready in
          record { end = z.end; done = tries.References.of_normal row rows c x.end y.end z.end n x.drains y.drains z.done; follows = (x.follows, (y.follows, z.follows)); ready = z.ready }
      go false n more = let z = more c r in record { end = z.end; done = tries.References.of_external row rows c z.end n z.done; follows = z.follows; ready = z.ready }

  -- an entry's module
  pub record Entry (m : ℕ) (c : Context) : Type 0 where
    pub end : Context
    pub done : tries.IncludesEntry (graph_in numbers) (last_verdicts (graph_in numbers)) m c end
    pub follows : EntryBy (graph_in numbers) (last_verdicts (graph_in numbers)) ch m c end done
    pub ready : Ready end

  pub entry : (m : ℕ) (c : Context) → normal (graph_in numbers) m ≡ true → Ready c → Every S.choice (module_starts (graph_in numbers) m) → Entry m c
  entry m c n r a =
      let rows = entry_references (module_of g m) in
      let h = subst (λ (l : List Fact). Every C l) (module_normal g v empty m n) a in
      let x = references rows c r (every_left C (references_starts g rows) (module_fact m ∷ []) h) in
      let y = included m x.end (every_right C (references_starts g rows) (module_fact m ∷ []) h).0 x.ready in
      record { end = y.end; done = record { between = x.end; of_references = x.done; of_module = y.drains }; follows = (x.follows, y.follows); ready = y.ready }

  -- the user-defined entries
  pub record Users (es : List ℕ) (c : Context) : Type 0 where
    pub end : Context
    pub done : whole.IncludesUserDefined (graph_in numbers) (last_verdicts (graph_in numbers)) es c end
    pub follows : UsersBy (graph_in numbers) (last_verdicts (graph_in numbers)) ch es c end done
    pub ready : Ready end

  pub users : (es : List ℕ) (c : Context) → Ready c → Every S.choice (users_starts (graph_in numbers) es) → Users es c
  unfolding users_starts entry_idx module_of_entry
  users [] c r a = record { end = c; done = whole.IncludesUserDefined.no_more c; follows = tt; ready = r }
  users (e ∷ es) c r a = go (normal g (entry_idx g e)) refl (λ d q. users es d q (every_right C (user_starts g (entry_idx g e)) (users_starts g es) a))
    where
      m : ℕ
      m = entry_idx g e

      go : (b : Bool) → normal g m ≡ b → ((d : Context) → Ready d → Users es d) → Users (e ∷ es) c
      go true n more =
          let h = subst (λ (l : List Fact). Every C l) (user_normal g v empty m n) (every_left C (user_starts g m) (users_starts g es) a) in
          let x = entry m (insert_bailout m c) n (asked (λ w. w.fact (bailout_fact m)) c (insert_bailout m c) (asks_bailout g v m c) h.0 r) h.1 in
          let z = more x.end x.ready in
          record { end = z.end; done = whole.IncludesUserDefined.of_normal e es c x.end z.end n x.done z.done; follows = (x.follows, z.follows); ready = z.ready }
      go false n more = let z = more c r in record { end = z.end; done = whole.IncludesUserDefined.of_external e es c z.end n z.done; follows = z.follows; ready = z.ready }

  -- the exports of bailouts ---------------------------------------------------------------------------------------------------------------
  record Exports (rows : List (List ℕ)) (c : Context) : Type 0 where
    end : Context
    done : passes.IncludesExports g v rows c end
    follows : ExportsBy g v ch rows c end done
    ready : Ready end

  exports : (rows : List (List ℕ)) (c : Context) → Ready c → Every C (export_starts rows) → Exports rows c
  exports [] c r a = record { end = c; done = passes.IncludesExports.no_more c; follows = tt; ready = r }
  exports (row ∷ rows) c r a = go (eqb (export_from_common_js row) 1) refl (λ d q h. exports rows d q h)
    where
      go : (b : Bool) → eqb (export_from_common_js row) 1 ≡ b → ((d : Context) → Ready d → Every C (export_starts rows) → Exports rows d) → Exports (row ∷ rows) c
      go true n more =
          let h = subst (λ (l : List Fact). Every C l) (export_one g v empty row rows n) a in
          let x = checked (export_symbol row) 1 c h.0 r in
          let z = more x.end x.ready h.1 in
          record { end = z.end; done = passes.IncludesExports.from_commonjs row rows c x.end z.end n x.drains z.done; follows = (x.follows, z.follows); ready = z.ready }
      go false n more =
          let z = more c r (subst (λ (l : List Fact). Every C l) (export_none g v empty row rows n) a) in
          record { end = z.end; done = passes.IncludesExports.not_from_commonjs row rows c z.end n z.done; follows = z.follows; ready = z.ready }

  pub record Bailouts (ms : List ℕ) (c : Context) : Type 0 where
    pub end : Context
    pub done : passes.IncludesBailouts (graph_in numbers) (last_verdicts (graph_in numbers)) ms c end
    pub follows : BailoutsBy (graph_in numbers) (last_verdicts (graph_in numbers)) ch ms c end done
    pub ready : Ready end

  pub bailouts : (ms : List ℕ) (c : Context) → Ready c → ((m : ℕ) → In m ms → Every S.choice (export_starts (resolved_exports (module_of (graph_in numbers) m)))) → Bailouts ms c
  bailouts [] c r a = record { end = c; done = passes.IncludesBailouts.no_more c; follows = tt; ready = r }
  bailouts (m ∷ ms) c r a =
      let rows = ch.exports c m in
      let x = exports rows c r (same_exports g v empty C (resolved_exports (module_of g m)) rows (ch.exports_any c m).from (a m (inl refl))) in
      let z = bailouts ms x.end x.ready (λ n q. a n (inr q)) in
      record {
        end = z.end;
        done = passes.IncludesBailouts.one m ms rows c x.end z.end (ch.exports_any c m) x.done z.done;
        follows = (refl, (x.follows, z.follows));
        ready = z.ready;
      }

  -- a round begins: no fact is touched
  pub begun : (c : Context) → Ready c → Ready (take_bailouts (set_changed false c))
  unfolding take_bailouts set_changed
  begun c r =
      record {
        rows =
            record {
              has_modules = r.rows.has_modules;
              has_statements = r.rows.has_statements;
              has_used = r.rows.has_used;
              has_external = r.rows.has_external;
              has_reasons = r.rows.has_reasons;
            };
        within =
            record {
              queued = r.within.queued;
              of_modules = r.within.of_modules;
              of_statements = r.within.of_statements;
              of_deferred = r.within.of_deferred;
              of_bailouts = λ m q. absurd q;
              of_used = r.within.of_used;
              of_external = r.within.of_external;
              of_json = r.within.of_json;
              of_reasons = r.within.of_reasons;
            };
      }

  -- the runtime stage ---------------------------------------------------------------------------------------------------------------------
  record Helpers (ks : List ℕ) (c : Context) : Type 0 where
    end : Context
    done : passes.IncludesHelpers g v ks c end
    follows : HelpersBy g v ch ks c end done

  helpers : (ks : List ℕ) (c : Context) → Ready c → Every C (helper_uses g v empty ks) → Helpers ks c
  helpers [] c r a = record { end = c; done = passes.IncludesHelpers.no_more c; follows = tt }
  helpers (h ∷ ks) c r a =
      let x = used (only (get_or g.helpers h [])) 1 c a.0 r in
      let z = helpers ks x.end x.ready a.1 in
      record { end = z.end; done = passes.IncludesHelpers.one h ks c x.end z.end x.drains z.done; follows = (x.follows, z.follows) }

  pub record Runtime (word : ℕ) (c : Context) : Type 0 where
    pub end : Context
    pub done : passes.IncludeRuntimeSymbol (graph_in numbers) (last_verdicts (graph_in numbers)) word c end
    pub follows : RuntimeBy (graph_in numbers) (last_verdicts (graph_in numbers)) ch word c end done

  pub runtime : (word : ℕ) (c : Context) → Ready c → Every S.choice (runtime_starts (graph_in numbers) (last_verdicts (graph_in numbers)) word) → Runtime word c
  runtime word c r a = go (eqb word 0) refl (has_side_effects v g.header.runtime) refl
    where
      go : (b : Bool) → eqb word 0 ≡ b → (e : Bool) → has_side_effects v g.header.runtime ≡ e → Runtime word c
      go true n true h =
          let x = included g.header.runtime c (subst (λ (l : List Fact). Every C l) (starts_runtime g v empty word n (sym (effects_same g v empty g.header.runtime) ∙ h)) a).0 r in
          record { end = x.end; done = passes.IncludeRuntimeSymbol.runtime_with_effects x.end n h x.drains; follows = x.follows }
      go true n false h = record { end = c; done = passes.IncludeRuntimeSymbol.no_helper n h; follows = tt }
      go false n e h =
          let all = tabulate (λ h. h) 0 g.header.helpers in
          let ks = filter (λ h. flag h word) all in
          let same : ks ≡ those (λ h. flag h word) all = filter_those (λ h. flag h word) (λ h. flag h word) all (λ h q. refl) in
          let js = ch.helpers word in
          let x = helpers js c r (uses_moved g v empty C ks js (ch.helpers_any word).from (subst (λ (l : List Fact). Every C l) (starts_helpers g v empty word n ∙ ap (helper_uses g v empty) (sym same)) a)) in
          record { end = x.end; done = passes.IncludeRuntimeSymbol.some_helper x.end js n (ch.helpers_any word) x.done; follows = (refl, x.follows) }
