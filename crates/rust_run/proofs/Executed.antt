-- The Rust's functions that are relations, as functions with a bound: `fuel` on the items that a drain pops, the calls of a walk and the rounds, hash
-- orders as the lists stand. `not_yet` where it has not returned by then. The order of dynamic entries and the modules on cycles are the run's
-- (`sorted_entries`, `on_cycle`), which are the Rust's for all components that are right (`rust_order`, `rust_order_exists` of `rust_order`); what 003
-- does with components is executed beside that. tools/run_definitions.py runs these functions on recorded answers of the Rust.
use Rattle.std.proofs.Common.{ℕ, zero, suc, Bool, true, false, ◌&&◌, eqb, List, [], ◌∷◌, ◌++◌, get_or}
use Rattle.determine_side_effects.specs.graph_crate.Check.{Graph}
use Rattle.determine_side_effects.specs.graph_access_crate.Names.{effects, entry_references, import_records, import_record_target, import_record_kind, resolved_exports, export_symbol, export_from_common_js, only}
use Rattle.determine_side_effects.specs.graph_access_crate.Words.{flag, tabulate, module_of, normal}
use Rattle.keep_record.specs.Lines.{elem}
use Rattle.dynamic_entries.specs.Sorted.{on_cycle, sorted_entries}
use Rattle.rust_values.specs.Values.{Pair, none, found, optional, filter}
use Rattle.rust_effects.specs.DetermineSideEffects.{Spreading, gathered, pending_below, spread_to_all, dependents_of, recomputed, none_relaxed}
use Rattle.rust_engine.specs.Context.{Context, empty, new_context, module_item, symbol_item, push, insert_bailout, take_bailouts, set_changed}
use Rattle.rust_engine.specs.Tables.{owner_of, has_side_effects}
use Rattle.rust_engine.specs.Engine.{not_yet as not_drained, returned, drain_work_items, enqueue_declaring_statements, push_symbol_and_check_cjs_bailout}
use Rattle.rust_order.specs.DynamicEntries.{entry_idx, DiGraphMap, no_graph, Walking, insert_visited, with_edge, Call, construct, records, Entered, enter, complete, order_from, sort_by_key}
use Rattle.rust_run.specs.DynamicEntries.{alive, unused, is_dynamic_entry_alive}
use Rattle.rust_run.specs.Passes.{collect_depended_runtime_helpers}
use Rattle.rust_run.specs.IncludeStatements.{user_defined_entries, dynamic_entries, Rounding, rounding, insert_if, live_entries, depended_runtime_helper, Outcome}

pub data Ended (A : Type 0) : Type 0 where
  not_yet : Ended A
  ended : A → Ended A

unfoldable pub then : {A B : Type 0} → Ended A → (A → Ended B) → Ended B
then x k = elim x [ not_yet ↦ not_yet | ended a ↦ k a ]

-- 002: Propagates, DetermineSideEffects, RecomputeAnalyzedSideEffects, SideEffects -------------------------------------------------------
unfoldable pub propagated : List Pair → ℕ → Spreading → Ended Spreading
propagated dependents zero s = elim s.pending [ [] ↦ ended s | m ∷ ms ↦ not_yet ]
propagated dependents (suc fuel) s =
    elim s.pending [
      | [] ↦ ended s
      | m ∷ ms ↦ propagated dependents fuel (spread_to_all (dependents_of dependents m) (record { effectful = s.effectful; pending = ms }))
    ]

unfoldable pub spread_from : Graph → List ℕ → Spreading
spread_from g v = record { effectful = (gathered g v).effectful; pending = pending_below (gathered g v).effectful g.header.modules }

unfoldable pub verdicts_from : Graph → List ℕ → Spreading → List ℕ
verdicts_from g v end =
    tabulate (λ m. elim (normal g m && eqb (get_or v m 0) 0) [ true ↦ elim (elem m end.effectful) [ true ↦ 1 | false ↦ 0 ] | false ↦ get_or v m 0 ]) 0
    g.header.modules

unfoldable pub determined : Graph → ℕ → List ℕ → Ended (List ℕ)
determined g fuel v = then (propagated (gathered g v).dependents fuel (spread_from g v)) (λ end. ended (verdicts_from g v end))

unfoldable pub recomputes : Graph → ℕ → List ℕ → Ended (List ℕ)
recomputes g fuel v = elim (none_relaxed g) [ true ↦ ended v | false ↦ determined g fuel (tabulate (recomputed g v) 0 g.header.modules) ]

unfoldable pub settled : Graph → ℕ → Ended (List ℕ)
settled g fuel = then (determined g fuel (tabulate (λ m. effects (module_of g m)) 0 g.header.modules)) (recomputes g fuel)

-- 003: Constructs, FromEntries, DepthFirst -----------------------------------------------------------------------------------------------
unfoldable pub constructed : Graph → ℕ → Call → Walking → Ended Walking
constructed g zero call w = not_yet
constructed g (suc fuel) (construct root cur) w =
    elim (elem cur w.visited) [
      | true ↦ ended w
      | false ↦ elim (normal g cur) [
        | true ↦ constructed g fuel (records root (import_records (module_of g cur))) (insert_visited cur w)
        | false ↦ ended (insert_visited cur w)
      ]
    ]
constructed g (suc fuel) (records root []) w = ended w
constructed g (suc fuel) (records root (row ∷ rows)) w =
    elim (optional (import_record_target row)) [
      | none ↦ constructed g fuel (records root rows) w
      | found t ↦ elim (eqb (import_record_kind row) 2) [
        | true ↦ elim (eqb root t) [
          | true ↦ then (constructed g fuel (construct t t) w) (λ y. constructed g fuel (records root rows) y)
          | false ↦ elim (elem t w.graph.nodes) [
            | true ↦ constructed g fuel (records root rows) (with_edge root t w)
            | false ↦ then (constructed g fuel (construct t t) (with_edge root t w)) (λ y. constructed g fuel (records root rows) y)
          ]
        ]
        | false ↦ then (constructed g fuel (construct root t) w) (λ y. constructed g fuel (records root rows) y)
      ]
    ]

unfoldable pub from_entries : Graph → ℕ → List ℕ → DiGraphMap → Ended DiGraphMap
from_entries g fuel [] d = ended d
from_entries g fuel (e ∷ es) d =
    then (constructed g fuel (construct (entry_idx g e) (entry_idx g e)) (record { graph = d; visited = [] })) (λ w. from_entries g fuel es w.graph)

unfoldable pub depth_first : (ℕ → List ℕ) → ℕ → List ℕ → Entered → Ended Entered
depth_first succs zero ms s = not_yet
depth_first succs (suc fuel) [] s = ended s
depth_first succs (suc fuel) (m ∷ ms) s =
    elim (elem m s.entered) [
      | true ↦ depth_first succs fuel ms s
      | false ↦ then (depth_first succs fuel (succs m) (enter m s)) (λ y. depth_first succs fuel ms (complete m y))
    ]

-- the graph of the dynamic entries, and their order by components of it
unfoldable pub entry_graph_made : Graph → ℕ → Ended DiGraphMap
entry_graph_made g fuel = from_entries g fuel (dynamic_entries g) no_graph

unfoldable pub sorted_by : Graph → List (List ℕ) → List ℕ
sorted_by g sccs = sort_by_key (λ e. order_from 0 sccs (entry_idx g e)) (dynamic_entries g)

-- Drains, References, IncludesEntry ------------------------------------------------------------------------------------------------------
unfoldable pub drained : Graph → List ℕ → ℕ → Context → Ended Context
drained g v fuel c = elim (drain_work_items g v fuel c) [ not_drained ↦ not_yet | returned d ↦ ended d ]

unfoldable pub references_included : Graph → List ℕ → ℕ → List (List ℕ) → Context → Ended Context
references_included g v fuel [] c = ended c
references_included g v fuel (row ∷ rows) c =
    elim (normal g (owner_of g (only row))) [
      | true ↦ then (drained g v fuel (enqueue_declaring_statements g (only row) c))
          (λ c₁. then (drained g v fuel (push_symbol_and_check_cjs_bailout g (only row) 2 c₁)) (λ c₂. references_included g v fuel rows c₂))
      | false ↦ references_included g v fuel rows c
    ]

unfoldable pub entry_included : Graph → List ℕ → ℕ → ℕ → Context → Ended Context
entry_included g v fuel m c = then (references_included g v fuel (entry_references (module_of g m)) c) (λ d. drained g v fuel (push (module_item m) d))

-- IncludesUserDefined --------------------------------------------------------------------------------------------------------------------
unfoldable pub users_included : Graph → List ℕ → ℕ → List ℕ → Context → Ended Context
users_included g v fuel [] c = ended c
users_included g v fuel (e ∷ es) c =
    elim (normal g (entry_idx g e)) [
      | true ↦ then (entry_included g v fuel (entry_idx g e) (insert_bailout (entry_idx g e) c)) (λ c₁. users_included g v fuel es c₁)
      | false ↦ users_included g v fuel es c
    ]

-- IncludesExports, IncludesBailouts ------------------------------------------------------------------------------------------------------
unfoldable pub exports_included : Graph → List ℕ → ℕ → List (List ℕ) → Context → Ended Context
exports_included g v fuel [] c = ended c
exports_included g v fuel (row ∷ rows) c =
    elim (eqb (export_from_common_js row) 1) [
      | true ↦ then (drained g v fuel (push_symbol_and_check_cjs_bailout g (export_symbol row) 1 c)) (λ c₁. exports_included g v fuel rows c₁)
      | false ↦ exports_included g v fuel rows c
    ]

unfoldable pub bailouts_included : Graph → List ℕ → ℕ → List ℕ → Context → Ended Context
bailouts_included g v fuel [] c = ended c
bailouts_included g v fuel (m ∷ ms) c = then (exports_included g v fuel (resolved_exports (module_of g m)) c) (λ c₁. bailouts_included g v fuel ms c₁)

-- ProcessAndRetainDynamicEntry, ProcessesDynamic -----------------------------------------------------------------------------------------
pub record Processed : Type 0 where
  pub context : Context
  pub dead : List Pair
  pub retained : Bool

abbrev pub processed : Context → List Pair → Bool → Processed
processed c dead b = record { context = c; dead = dead; retained = b }

-- behind the first `if`
unfoldable pub retained_one : Graph → List ℕ → ℕ → ℕ → Context → List Pair → Ended Processed
retained_one g v fuel e c dead =
    elim (normal g (entry_idx g e)) [
      | true ↦ then (entry_included g v fuel (entry_idx g e) c) (λ d. ended (processed d dead true))
      | false ↦ ended (processed c dead true)
    ]

unfoldable pub processed_one : Graph → List ℕ → ℕ → ℕ → Context → List Pair → Ended Processed
processed_one g v fuel e c dead =
    elim (on_cycle g (entry_idx g e)) [
      | true ↦ retained_one g v fuel e c dead
      | false ↦ elim (is_dynamic_entry_alive g v c e) [ alive ↦ retained_one g v fuel e c dead | unused ret ↦ ended (processed c (dead ++ ret) false) ]
    ]

unfoldable pub processed_all : Graph → List ℕ → ℕ → List ℕ → Rounding → Ended Rounding
processed_all g v fuel [] r = ended r
processed_all g v fuel (e ∷ es) r =
    elim (elem (entry_idx g e) r.included) [
      | true ↦ processed_all g v fuel es r
      | false ↦ then (processed_one g v fuel e r.context r.dead)
          (λ p. processed_all g v fuel es (rounding p.context (insert_if p.retained (entry_idx g e) r.included) p.dead))
    ]

-- Round, Rounds --------------------------------------------------------------------------------------------------------------------------
unfoldable pub round_made : Graph → List ℕ → ℕ → Rounding → Ended Rounding
round_made g v fuel r =
    then (bailouts_included g v fuel r.context.bailouts (take_bailouts (set_changed false r.context)))
    (λ c. processed_all g v fuel (sorted_entries g) (rounding c r.included r.dead))

pub record Counted : Type 0 where
  pub rounds : ℕ
  pub last : Rounding

abbrev pub counted : ℕ → Rounding → Counted
counted n r = record { rounds = n; last = r }

unfoldable pub rounds_made : Graph → List ℕ → ℕ → ℕ → Rounding → Ended Counted
rounds_made g v fuel zero r = not_yet
rounds_made g v fuel (suc n) r =
    then (round_made g v fuel r)
    (λ y. elim y.context.changed [
      | true ↦ then (rounds_made g v fuel n y) (λ k. ended (counted (suc k.rounds) k.last))
      | false ↦ ended (counted 1 y)
    ])

-- IncludesHelpers, IncludeRuntimeSymbol --------------------------------------------------------------------------------------------------
unfoldable pub helpers_included : Graph → List ℕ → ℕ → List ℕ → Context → Ended Context
helpers_included g v fuel [] c = ended c
helpers_included g v fuel (h ∷ hs) c =
    then (drained g v fuel (push (symbol_item (only (get_or g.helpers h [])) 1) c)) (λ c₁. helpers_included g v fuel hs c₁)

unfoldable pub runtime_included : Graph → List ℕ → ℕ → ℕ → Context → Ended Context
runtime_included g v fuel helpers c =
    elim (eqb helpers 0) [
      | true ↦ elim (has_side_effects v g.header.runtime) [ true ↦ drained g v fuel (push (module_item g.header.runtime) c) | false ↦ ended c ]
      | false ↦ helpers_included g v fuel (filter (λ h. flag h helpers) (tabulate (λ h. h) 0 g.header.helpers)) c
    ]

-- IncludeStatements, Returns -------------------------------------------------------------------------------------------------------------

-- what follows the loop
unfoldable pub finished : Graph → List ℕ → ℕ → Counted → Ended Outcome
finished g v fuel k =
    then
    (runtime_included g v fuel
    (collect_depended_runtime_helpers g k.last.context (depended_runtime_helper g k.last.context))
    (new_context k.last.context))
    (λ c. ended (record {
      verdicts = v;
      rounds = k.rounds;
      main = k.last.context;
      included = k.last.included;
      dead = k.last.dead;
      entries = live_entries g (sorted_entries g) k.last.included;
      helpers = depended_runtime_helper g k.last.context;
      context = c;
    }))

unfoldable pub included : Graph → List ℕ → ℕ → Ended Outcome
included g v fuel =
    then (users_included g v fuel (user_defined_entries g) empty) (λ c. then (rounds_made g v fuel fuel (rounding c [] [])) (finished g v fuel))

unfoldable pub executed : Graph → ℕ → Ended Outcome
executed g fuel = then (settled g fuel) (λ v. included g v fuel)
