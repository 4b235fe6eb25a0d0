-- What the executed functions give, the relations have, up to the whole: `include_statements` after 002, for accepted numbers.
use Rattle.std.proofs.Common.{◌≡◌, ℕ, zero, suc, Bool, true, false, ◌||◌, eqb, List, [], ◌∷◌, ◌++◌, get_or, sym, refl, ap, subst}
use Rattle.determine_side_effects.specs.graph_crate.Check.{Graph, graph_in, check_of, answer_of}
use Rattle.determine_side_effects.specs.graph_access_crate.Names.{entry_references, resolved_exports, export_symbol, export_from_common_js, only}
use Rattle.determine_side_effects.specs.graph_access_crate.Words.{flag, tabulate, module_of, normal}
use Rattle.keep_record.specs.Lines.{elem}
use Rattle.entry_order.specs.Order.{dynamic_entries as entries_of}
use Rattle.dynamic_entries.specs.Sorted.{on_cycle, sorted_entries}
use Rattle.rust_values.specs.Values.{Pair, filter}
use Rattle.rust_effects.specs.DetermineSideEffects.{SideEffects}
use Rattle.rust_engine.specs.Context.{Context, empty, new_context, module_item, symbol_item, push, insert_bailout, take_bailouts, set_changed}
use Rattle.rust_engine.specs.Tables.{owner_of, has_side_effects}
use Rattle.rust_engine.specs.Engine.{enqueue_declaring_statements, push_symbol_and_check_cjs_bailout}
use Rattle.rust_order.specs.DynamicEntries.{entry_idx, SortDynamicEntriesByTopologicalOrder}
use Rattle.rust_order.proofs.SameOrder.{rust_order}
use Rattle.rust_order.proofs.Exists.{rust_order_exists}
use Rattle.rust_run.specs.DynamicEntries.{References, IncludesEntry, Unused, alive, unused, is_dynamic_entry_alive, is_alive, passes, ProcessAndRetainDynamicEntry}
use Rattle.rust_run.specs.DynamicEntries.References.{no_more as no_reference, of_external as of-external-symbol, of_normal as of-normal-symbol}
use Rattle.rust_run.specs.DynamicEntries.ProcessAndRetainDynamicEntry.{is_dead, is_external, includes as includes-it}
use Rattle.rust_run.specs.Passes.{IncludesExports, IncludesBailouts, collect_depended_runtime_helpers, IncludesHelpers, IncludeRuntimeSymbol, runtime_with_effects, no_helper, some_helper}
use Rattle.rust_run.specs.Passes.IncludesExports.{no_more as no-export, not_from_commonjs, from_commonjs}
use Rattle.rust_run.specs.Passes.IncludesBailouts.{no_more as no_bailout, one as one_bailout}
use Rattle.rust_run.specs.Passes.IncludesHelpers.{no_more as no-more-helpers, one as one-helper}
use Rattle.rust_run.specs.IncludeStatements.{user_defined_entries, dynamic_entries, IncludesUserDefined, Rounding, rounding, insert_if, ProcessesDynamic, Round, Rounds, breaks, goes_on, live_entries, depended_runtime_helper, Outcome, IncludeStatements, Returns}
use Rattle.rust_run.specs.IncludeStatements.IncludesUserDefined.{no_more as no-user, of_external as of-external-entry, of_normal as of-normal-entry}
use Rattle.rust_run.specs.IncludeStatements.ProcessesDynamic.{no_more as no_dynamic, was_included, processes}
use Rattle.rust_run.proofs.Executed.{Ended, not_yet, ended, then, settled, drained, references_included, entry_included, users_included, exports_included, bailouts_included, Processed, processed, retained_one, processed_one, processed_all, round_made, Counted, counted, rounds_made, helpers_included, runtime_included, finished, included, executed}
use Rattle.rust_run.proofs.Ending.{never_ends, same_end, through, drained_returns}
use Rattle.rust_run.proofs.Settled.{settled_returns}
use Rattle.rust_run.proofs.Grouping.{dynamics_same}
use Rattle.std.specs.Prelude.{Ok}

-- Entries --------------------------------------------------------------------------------------------------------------------------------

references_returns : (g : Graph) (v : List ℕ) (fuel : ℕ) (rows : List (List ℕ)) (c d : Context) → references_included g v fuel rows c ≡ ended d
    → References g v rows c d
unfolding references_included
references_returns g v fuel [] c d e = subst (λ z. References g v [] c z) (same_end c d e) (no_reference c)
references_returns g v fuel (row ∷ rows) c d e = whether (normal g (owner_of g (only row))) refl e (λ c r. references_returns g v fuel rows c d r)
  where
    second : Context → Ended Context
    second c₁ = then (drained g v fuel (push_symbol_and_check_cjs_bailout g (only row) 2 c₁)) (λ c₂. references_included g v fuel rows c₂)

    whether : (b : Bool) → normal g (owner_of g (only row)) ≡ b
        → (elim b [ true ↦ then (drained g v fuel (enqueue_declaring_statements g (only row) c)) second | false ↦ references_included g v fuel rows c ]) ≡ ended d
        → ((c : Context) → references_included g v fuel rows c ≡ ended d → References g v rows c d) → References g v (row ∷ rows) c d
    whether true n r more =
        let s = through (drained g v fuel (enqueue_declaring_statements g (only row) c)) second d r in
        let t = through (drained g v fuel (push_symbol_and_check_cjs_bailout g (only row) 2 s.middle)) (λ c₂. references_included g v fuel rows c₂) d
        s.second in
        of-normal-symbol row rows c s.middle t.middle d n (drained_returns g v fuel (enqueue_declaring_statements g (only row) c) s.middle s.first)
        (drained_returns g v fuel (push_symbol_and_check_cjs_bailout g (only row) 2 s.middle) t.middle t.first) (more t.middle t.second)
    whether false n r more = of-external-symbol row rows c d n (more c r)

entry_returns : (g : Graph) (v : List ℕ) (fuel m : ℕ) (c d : Context) → entry_included g v fuel m c ≡ ended d → IncludesEntry g v m c d
unfolding entry_included
entry_returns g v fuel m c d e =
    let t = through (references_included g v fuel (entry_references (module_of g m)) c) (λ y. drained g v fuel (push (module_item m) y)) d e in
    record {
      between = t.middle;
      of_references = references_returns g v fuel (entry_references (module_of g m)) c t.middle t.first;
      of_module = drained_returns g v fuel (push (module_item m) t.middle) d t.second;
    }

users_return : (g : Graph) (v : List ℕ) (fuel : ℕ) (es : List ℕ) (c d : Context) → users_included g v fuel es c ≡ ended d → IncludesUserDefined g v es c d
unfolding users_included
users_return g v fuel [] c d e = subst (λ z. IncludesUserDefined g v [] c z) (same_end c d e) (no-user c)
users_return g v fuel (x ∷ es) c d e = whether (normal g (entry_idx g x)) refl e (λ c r. users_return g v fuel es c d r)
  where
    whether : (b : Bool) → normal g (entry_idx g x) ≡ b
        → (elim b [
          | true ↦ then (entry_included g v fuel (entry_idx g x) (insert_bailout (entry_idx g x) c)) (λ c₁. users_included g v fuel es c₁)
          | false ↦ users_included g v fuel es c
        ]) ≡ ended d → ((c : Context) → users_included g v fuel es c ≡ ended d → IncludesUserDefined g v es c d) → IncludesUserDefined g v (x ∷ es) c d
    whether true n r more =
        let t = through (entry_included g v fuel (entry_idx g x) (insert_bailout (entry_idx g x) c)) (λ c₁. users_included g v fuel es c₁) d r in
        of-normal-entry x es c t.middle d n (entry_returns g v fuel (entry_idx g x) (insert_bailout (entry_idx g x) c) t.middle t.first)
        (more t.middle t.second)
    whether false n r more = of-external-entry x es c d n (more c r)

-- Bailouts -------------------------------------------------------------------------------------------------------------------------------

exports_return : (g : Graph) (v : List ℕ) (fuel : ℕ) (rows : List (List ℕ)) (c d : Context) → exports_included g v fuel rows c ≡ ended d
    → IncludesExports g v rows c d
unfolding exports_included
exports_return g v fuel [] c d e = subst (λ z. IncludesExports g v [] c z) (same_end c d e) (no-export c)
exports_return g v fuel (row ∷ rows) c d e = whether (eqb (export_from_common_js row) 1) refl e (λ c r. exports_return g v fuel rows c d r)
  where
    whether : (b : Bool) → eqb (export_from_common_js row) 1 ≡ b
        → (elim b [
          | true ↦ then (drained g v fuel (push_symbol_and_check_cjs_bailout g (export_symbol row) 1 c)) (λ c₁. exports_included g v fuel rows c₁)
          | false ↦ exports_included g v fuel rows c
        ]) ≡ ended d → ((c : Context) → exports_included g v fuel rows c ≡ ended d → IncludesExports g v rows c d) → IncludesExports g v (row ∷ rows) c d
    whether true n r more =
        let t = through (drained g v fuel (push_symbol_and_check_cjs_bailout g (export_symbol row) 1 c)) (λ c₁. exports_included g v fuel rows c₁) d r in
        from_commonjs row rows c t.middle d n (drained_returns g v fuel (push_symbol_and_check_cjs_bailout g (export_symbol row) 1 c) t.middle t.first)
        (more t.middle t.second)
    whether false n r more = not_from_commonjs row rows c d n (more c r)

bailouts_return : (g : Graph) (v : List ℕ) (fuel : ℕ) (ms : List ℕ) (c d : Context) → bailouts_included g v fuel ms c ≡ ended d → IncludesBailouts g v ms c d
unfolding bailouts_included
bailouts_return g v fuel [] c d e = subst (λ z. IncludesBailouts g v [] c z) (same_end c d e) (no_bailout c)
bailouts_return g v fuel (m ∷ ms) c d e =
    let t = through (exports_included g v fuel (resolved_exports (module_of g m)) c) (λ c₁. bailouts_included g v fuel ms c₁) d e in
    one_bailout m ms (resolved_exports (module_of g m)) c t.middle d (record { from = λ x h. h; back = λ x h. h })
    (exports_return g v fuel (resolved_exports (module_of g m)) c t.middle t.first) (bailouts_return g v fuel ms t.middle d t.second)

-- Dynamic entries ------------------------------------------------------------------------------------------------------------------------

abbrev Processes : Graph → List ℕ → List ℕ → ℕ → Context → List Pair → Processed → Type 0
Processes g v cycled x c dead p = ProcessAndRetainDynamicEntry g v cycled x c dead p.context p.dead p.retained

retained_returns : (g : Graph) (v : List ℕ) (fuel : ℕ) (cycled : List ℕ) (x : ℕ) (c : Context) (dead : List Pair) (p : Processed) → passes g v cycled c x ≡ true
    → retained_one g v fuel x c dead ≡ ended p → Processes g v cycled x c dead p
unfolding retained_one
retained_returns g v fuel cycled x c dead p passed e = whether (normal g (entry_idx g x)) refl e
  where
    whether : (b : Bool) → normal g (entry_idx g x) ≡ b
        → (elim b [
          | true ↦ then (entry_included g v fuel (entry_idx g x) c) (λ d. ended (processed d dead true))
          | false ↦ ended (processed c dead true)
        ]) ≡ ended p
        → Processes g v cycled x c dead p
    whether true n r =
        let t = through (entry_included g v fuel (entry_idx g x) c) (λ d. ended (processed d dead true)) p r in
        subst (λ z. Processes g v cycled x c dead z) (same_end (processed t.middle dead true) p t.second)
        (includes-it t.middle passed n (entry_returns g v fuel (entry_idx g x) c t.middle t.first))
    whether false n r = subst (λ z. Processes g v cycled x c dead z) (same_end (processed c dead true) p r) (is_external passed n)

-- where the modules on cycles are those of the run
abbrev Cycled : Graph → List ℕ → Type 0
Cycled g cycled = (m : ℕ) → elem m cycled ≡ on_cycle g m

processed_returns : (g : Graph) (v : List ℕ) (fuel : ℕ) (cycled : List ℕ) → Cycled g cycled → (x : ℕ) (c : Context) (dead : List Pair) (p : Processed)
    → processed_one g v fuel x c dead ≡ ended p → Processes g v cycled x c dead p
unfolding processed_one passes is_alive
processed_returns g v fuel cycled same x c dead p e = whether (on_cycle g (entry_idx g x)) (same (entry_idx g x)) e
  where
    tried : elem (entry_idx g x) cycled ≡ false → (u : Unused) → is_dynamic_entry_alive g v c x ≡ u
        → (elim u [ alive ↦ retained_one g v fuel x c dead | unused ret ↦ ended (processed c (dead ++ ret) false) ]) ≡ ended p → Processes g v cycled x c dead p
    tried o alive a r = retained_returns g v fuel cycled x c dead p (rw (o, a) refl) r
    tried o (unused ret) a r = subst (λ z. Processes g v cycled x c dead z) (same_end (processed c (dead ++ ret) false) p r) (is_dead ret o a)

    whether : (b : Bool) → elem (entry_idx g x) cycled ≡ b
        → (elim b [
          | true ↦ retained_one g v fuel x c dead
          | false ↦ elim (is_dynamic_entry_alive g v c x) [ alive ↦ retained_one g v fuel x c dead | unused ret ↦ ended (processed c (dead ++ ret) false) ]
        ]) ≡ ended p → Processes g v cycled x c dead p
    whether true o r = retained_returns g v fuel cycled x c dead p (rw (o) refl) r
    whether false o r = tried o (is_dynamic_entry_alive g v c x) refl r

all_return : (g : Graph) (v : List ℕ) (fuel : ℕ) (cycled : List ℕ) → Cycled g cycled → (es : List ℕ) (r z : Rounding) → processed_all g v fuel es r ≡ ended z
    → ProcessesDynamic g v cycled es r z
unfolding processed_all
all_return g v fuel cycled same [] r z e = subst (λ y. ProcessesDynamic g v cycled [] r y) (same_end r z e) (no_dynamic r)
all_return g v fuel cycled same (x ∷ es) r z e = whether (elem (entry_idx g x) r.included) refl e (λ y q. all_return g v fuel cycled same es y z q)
  where
    after : Processed → Rounding
    after p = rounding p.context (insert_if p.retained (entry_idx g x) r.included) p.dead

    whether : (b : Bool) → elem (entry_idx g x) r.included ≡ b
        → (elim b [
          | true ↦ processed_all g v fuel es r
          | false ↦ then (processed_one g v fuel x r.context r.dead) (λ p. processed_all g v fuel es (after p))
        ]) ≡ ended z → ((y : Rounding) → processed_all g v fuel es y ≡ ended z → ProcessesDynamic g v cycled es y z)
        → ProcessesDynamic g v cycled (x ∷ es) r z
    whether true h q more = was_included x es r z h (more r q)
    whether false h q more =
        let t = through (processed_one g v fuel x r.context r.dead) (λ p. processed_all g v fuel es (after p)) z q in
        processes x es r z t.middle.context t.middle.dead t.middle.retained h
        (processed_returns g v fuel cycled same x r.context r.dead t.middle t.first) (more (after t.middle) t.second)

-- Rounds ---------------------------------------------------------------------------------------------------------------------------------

round_returns : (g : Graph) (v : List ℕ) (fuel : ℕ) (cycled : List ℕ) → Cycled g cycled → (r z : Rounding) → round_made g v fuel r ≡ ended z
    → Round g v cycled (sorted_entries g) r z
unfolding round_made
round_returns g v fuel cycled same r z e =
    let begun : Context = take_bailouts (set_changed false r.context) in
    let t = through (bailouts_included g v fuel r.context.bailouts begun)
    (λ c. processed_all g v fuel (sorted_entries g) (rounding c r.included r.dead)) z e in
    record {
      context = t.middle;
      includes =
          record {
            order = r.context.bailouts;
            same = record { from = λ x h. h; back = λ x h. h };
            includes = bailouts_return g v fuel r.context.bailouts begun t.middle t.first;
          };
      processes = all_return g v fuel cycled same (sorted_entries g) (rounding t.middle r.included r.dead) z t.second;
    }

rounds_return : (g : Graph) (v : List ℕ) (fuel : ℕ) (cycled : List ℕ) → Cycled g cycled → (n : ℕ) (r : Rounding) (k : Counted)
    → rounds_made g v fuel n r ≡ ended k → Rounds g v cycled (sorted_entries g) k.rounds r k.last
unfolding rounds_made
rounds_return g v fuel cycled same zero r k e = absurd (never_ends k e)
rounds_return g v fuel cycled same (suc n) r k e =
    let t = through (round_made g v fuel r) judged k e in
    whether t.middle (round_returns g v fuel cycled same r t.middle t.first) t.middle.context.changed refl t.second
    (λ y j q. rounds_return g v fuel cycled same n y j q)
  where
    judged : Rounding → Ended Counted
    judged y =
        elim y.context.changed [
          | true ↦ then (rounds_made g v fuel n y) (λ j. ended (counted (suc j.rounds) j.last))
          | false ↦ ended (counted 1 y)
        ]

    whether : (y : Rounding) → Round g v cycled (sorted_entries g) r y → (b : Bool) → y.context.changed ≡ b
        → (elim b [
          | true ↦ then (rounds_made g v fuel n y) (λ j. ended (counted (suc j.rounds) j.last))
          | false ↦ ended (counted 1 y)
        ]) ≡ ended k
        → ((y : Rounding) (j : Counted) → rounds_made g v fuel n y ≡ ended j → Rounds g v cycled (sorted_entries g) j.rounds y j.last)
        → Rounds g v cycled (sorted_entries g) k.rounds r k.last
    whether y made true h q more =
        let t = through (rounds_made g v fuel n y) (λ j. ended (counted (suc j.rounds) j.last)) k q in
        subst (λ j. Rounds g v cycled (sorted_entries g) j.rounds r j.last) (same_end (counted (suc t.middle.rounds) t.middle.last) k t.second)
        (goes_on t.middle.rounds r y t.middle.last made h (more y t.middle t.first))
    whether y made false h q more = subst (λ j. Rounds g v cycled (sorted_entries g) j.rounds r j.last) (same_end (counted 1 y) k q) (breaks r y made h)

-- The runtime ----------------------------------------------------------------------------------------------------------------------------

helpers_return : (g : Graph) (v : List ℕ) (fuel : ℕ) (hs : List ℕ) (c d : Context) → helpers_included g v fuel hs c ≡ ended d → IncludesHelpers g v hs c d
unfolding helpers_included
helpers_return g v fuel [] c d e = subst (λ z. IncludesHelpers g v [] c z) (same_end c d e) (no-more-helpers c)
helpers_return g v fuel (h ∷ hs) c d e =
    let begun : Context = push (symbol_item (only (get_or g.helpers h [])) 1) c in
    let t = through (drained g v fuel begun) (λ c₁. helpers_included g v fuel hs c₁) d e in
    one-helper h hs c t.middle d (drained_returns g v fuel begun t.middle t.first) (helpers_return g v fuel hs t.middle d t.second)

runtime_returns : (g : Graph) (v : List ℕ) (fuel helpers : ℕ) (c d : Context) → runtime_included g v fuel helpers c ≡ ended d
    → IncludeRuntimeSymbol g v helpers c d
unfolding runtime_included
runtime_returns g v fuel helpers c d e = whether (eqb helpers 0) refl e
  where
    effect : eqb helpers 0 ≡ true → (b : Bool) → has_side_effects v g.header.runtime ≡ b
        → (elim b [ true ↦ drained g v fuel (push (module_item g.header.runtime) c) | false ↦ ended c ]) ≡ ended d → IncludeRuntimeSymbol g v helpers c d
    effect h true n r = runtime_with_effects d h n (drained_returns g v fuel (push (module_item g.header.runtime) c) d r)
    effect h false n r = subst (λ z. IncludeRuntimeSymbol g v helpers c z) (same_end c d r) (no_helper h n)

    whether : (b : Bool) → eqb helpers 0 ≡ b
        → (elim b [
          | true ↦ elim (has_side_effects v g.header.runtime) [ true ↦ drained g v fuel (push (module_item g.header.runtime) c) | false ↦ ended c ]
          | false ↦ helpers_included g v fuel (filter (λ h. flag h helpers) (tabulate (λ h. h) 0 g.header.helpers)) c
        ]) ≡ ended d → IncludeRuntimeSymbol g v helpers c d
    whether true h r = effect h (has_side_effects v g.header.runtime) refl r
    whether false h r =
        let hs = filter (λ h. flag h helpers) (tabulate (λ h. h) 0 g.header.helpers) in
        some_helper d hs h (record { from = λ x q. q; back = λ x q. q }) (helpers_return g v fuel hs c d r)

-- The whole ------------------------------------------------------------------------------------------------------------------------------

-- the modules on cycles, the entries as the run sorts them, and the context with the user-defined entries
record Begun (g : Graph) (v : List ℕ) : Type 0 where
  cycled : List ℕ
  same : Cycled g cycled
  sorts : SortDynamicEntriesByTopologicalOrder g (dynamic_entries g) (sorted_entries g) cycled
  users : Context
  includes_users : IncludesUserDefined g v (user_defined_entries g) empty users

finished_returns : (g : Graph) (v : List ℕ) (fuel : ℕ) (b : Begun g v) (k : Counted) (o : Outcome)
    → Rounds g v b.cycled (sorted_entries g) k.rounds (rounding b.users [] []) k.last → finished g v fuel k ≡ ended o
    → (o.verdicts ≡ v) × IncludeStatements g v o
unfolding finished
finished_returns g v fuel b k o made e =
    let main : Context = k.last.context in
    let outcome : Context → Outcome =
    λ c. record {
      verdicts = v;
      rounds = k.rounds;
      main = main;
      included = k.last.included;
      dead = k.last.dead;
      entries = live_entries g (sorted_entries g) k.last.included;
      helpers = depended_runtime_helper g main;
      context = c;
    } in
    let t = through (runtime_included g v fuel (collect_depended_runtime_helpers g main (depended_runtime_helper g main)) (new_context main))
    (λ c. ended (outcome c)) o e in
    subst (λ z. (z.verdicts ≡ v) × IncludeStatements g v z) (same_end (outcome t.middle) o t.second) (
      refl,
      record {
        users = b.users;
        cycled = b.cycled;
        sorted = sorted_entries g;
        includes_users = b.includes_users;
        sorts = b.sorts;
        makes_rounds = made;
        entries_are = refl;
        helpers_are = refl;
        includes_runtime =
            runtime_returns g v fuel (collect_depended_runtime_helpers g main (depended_runtime_helper g main)) (new_context main) t.middle t.first;
      },
    )

-- of accepted numbers: components that are right are there, and by all of them the entries are sorted so
pub executed_returns : (numbers : List ℕ) → answer_of (check_of numbers) ≡ Ok tt → (fuel : ℕ) (o : Outcome) → executed (graph_in numbers) fuel ≡ ended o
    → Returns (graph_in numbers) o
unfolding executed included
executed_returns numbers ok fuel o e =
    let s = through (settled g fuel) (λ v. included g v fuel) o e in
    let v = s.middle in
    let t = through (users_included g v fuel (user_defined_entries g) empty) (λ c. then (rounds_made g v fuel fuel (rounding c [] [])) (finished g v fuel)) o s.second in
    let u = through (rounds_made g v fuel fuel (rounding t.middle [] [])) (finished g v fuel) o t.second in
    let b : Begun g v = record {
      cycled = order.0;
      same = (rust_order numbers ok (sorted_entries g) order.0 order.1).1;
      sorts = subst (λ (l : List ℕ). SortDynamicEntriesByTopologicalOrder g l (sorted_entries g) order.0) (sym (dynamics_same numbers ok)) order.1;
      users = t.middle;
      includes_users = users_return g v fuel (user_defined_entries g) empty t.middle t.first;
    } in
    let r = finished_returns g v fuel b u.middle o (rounds_return g v fuel b.cycled b.same fuel (rounding t.middle [] []) u.middle u.first) u.second in
    record {
      side_effects = subst (λ w. SideEffects g w) (sym r.0) (settled_returns g fuel v s.first);
      include_statements = subst (λ w. IncludeStatements g w o) (sym r.0) r.1;
    }
  where
    g : Graph
    g = graph_in numbers

    order : (cycled : List ℕ) × SortDynamicEntriesByTopologicalOrder (graph_in numbers) (entries_of (graph_in numbers)) (sorted_entries (graph_in numbers)) cycled
    order = rust_order_exists numbers ok
