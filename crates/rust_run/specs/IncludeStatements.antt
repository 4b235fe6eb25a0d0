-- `include_statements()` of include_statements.rs (000:261-490), under the Rust's names: a relation, since hash sets and maps are gone through in any
-- order, and since it holds only where the Rust returns. An entry is its number in the graph.
use Rattle.std.specs.Prelude.{◌≡◌, ℕ, zero, suc, Bool, true, false, not, ◌&&◌, ◌||◌, List, [], ◌∷◌, ◌++◌, map, ◌==◌, nat_eq, nat_lt}
use Rattle.determine_side_effects.specs.graph_crate.Check.{Graph}
use Rattle.determine_side_effects.specs.graph_access_crate.Names.{entry_kind, module_helpers, helper_number, helper_statement}
use Rattle.determine_side_effects.specs.graph_access_crate.Words.{some, tabulate, module_of, normal, entry_of, option}
use Rattle.keep_record.specs.Lines.{elem}
use Rattle.rust_values.specs.Values.{Pair, has_pair, is_empty, filter}
use Rattle.rust_effects.specs.DetermineSideEffects.{SideEffects}
use Rattle.rust_engine.specs.Context.{Context, empty, new_context, insert_bailout, take_bailouts, set_changed}
use Rattle.rust_order.specs.DynamicEntries.{entry_idx, SortDynamicEntriesByTopologicalOrder}
use Rattle.rust_run.specs.DynamicEntries.{IncludesEntry, ProcessAndRetainDynamicEntry}
use Rattle.rust_run.specs.Passes.{IncludeCjsBailoutExports, helper_bits, collect_depended_runtime_helpers, IncludeRuntimeSymbol}

-- entries: FxIndexMap<ModuleIdx, Vec<EntryPoint>> ----------------------------------------------------------------------------------------

-- a key with its values; the map's keys stand in the order of their first insertion
pub record Slot : Type 0 where
  pub key : ℕ
  pub values : List ℕ

-- entries.entry(entry.idx).or_insert_with(Vec::new).push(entry) (000:391)
unfoldable pub push_entry : ℕ → ℕ → List Slot → List Slot
push_entry k e [] = record { key = k; values = e ∷ [] } ∷ []
push_entry k e (s ∷ ss) =
    elim (s.key == k) [ true ↦ record { key = s.key; values = s.values ++ (e ∷ []) } ∷ ss | false ↦ s ∷ push_entry k e ss ]

unfoldable pub push_entries : Graph → List ℕ → List Slot → List Slot
push_entries g [] ss = ss
push_entries g (e ∷ es) ss = push_entries g es (push_entry (entry_idx g e) e ss)

-- .into_values().flatten()
unfoldable pub flattened : List Slot → List ℕ
flattened [] = []
flattened (s ∷ ss) = s.values ++ flattened ss

unfoldable pub through_map : Graph → List ℕ → List ℕ
through_map g es = flattened (push_entries g es [])

-- std::mem::take(&mut self.entries), partitioned by kind.is_user_defined() (000:311-315)
unfoldable pub is_user_defined : Graph → ℕ → Bool
is_user_defined g e = nat_lt (entry_kind (entry_of g e)) 2

unfoldable pub user_defined_entries : Graph → List ℕ
user_defined_entries g = filter (is_user_defined g) (through_map g (tabulate (λ e. e) 0 g.header.entries))

unfoldable pub dynamic_entries : Graph → List ℕ
dynamic_entries g = filter (λ e. not (is_user_defined g e)) (through_map g (tabulate (λ e. e) 0 g.header.entries))

-- user_defined_entries.iter().for_each(..) (000:316-339)
pub data IncludesUserDefined (g : Graph) (v : List ℕ) : List ℕ → Context → Context → Type 0 where
  no_more : (c : Context) → IncludesUserDefined g v [] c c
  of_external : (e : ℕ) (es : List ℕ) (c d : Context) → normal g (entry_idx g e) ≡ false → IncludesUserDefined g v es c d → IncludesUserDefined g v (e ∷ es) c d
  of_normal : (e : ℕ) (es : List ℕ) (c c₁ d : Context) → normal g (entry_idx g e) ≡ true → IncludesEntry g v (entry_idx g e) (insert_bailout (entry_idx g e) c) c₁
      → IncludesUserDefined g v es c₁ d → IncludesUserDefined g v (e ∷ es) c d

-- The loop (000:344-373) -----------------------------------------------------------------------------------------------------------------

-- the context, `included_dynamic_entry` and `unused_record_idxs`
pub record Rounding : Type 0 where
  pub context : Context
  pub included : List ℕ
  pub dead : List Pair

abbrev pub rounding : Context → List ℕ → List Pair → Rounding
rounding c included dead = record { context = c; included = included; dead = dead }

-- `if included { insert }` (000:365-367)
unfoldable pub insert_if : Bool → ℕ → List ℕ → List ℕ
insert_if b m ms = elim b [ true ↦ m ∷ ms | false ↦ ms ]

-- dynamic_entries.iter().for_each(..) (000:354-368)
pub data ProcessesDynamic (g : Graph) (v cycled : List ℕ) : List ℕ → Rounding → Rounding → Type 0 where
  no_more : (r : Rounding) → ProcessesDynamic g v cycled [] r r
  was_included : (e : ℕ) (es : List ℕ) (r z : Rounding) → elem (entry_idx g e) r.included ≡ true → ProcessesDynamic g v cycled es r z → ProcessesDynamic g v cycled (e ∷ es) r z
  processes : (e : ℕ) (es : List ℕ) (r z : Rounding) (c : Context) (dead : List Pair) (b : Bool) → elem (entry_idx g e) r.included ≡ false
      → ProcessAndRetainDynamicEntry g v cycled e r.context r.dead c dead b → ProcessesDynamic g v cycled es (rounding c (insert_if b (entry_idx g e) r.included) dead) z
      → ProcessesDynamic g v cycled (e ∷ es) r z

-- one round: the flag is cleared, the bailouts are taken and their exports included, then the dynamic entries in their order
pub record Round (g : Graph) (v cycled sorted : List ℕ) (r z : Rounding) : Type 0 where
  pub context : Context
  pub includes : IncludeCjsBailoutExports g v r.context.bailouts (take_bailouts (set_changed false r.context)) context
  pub processes : ProcessesDynamic g v cycled sorted (rounding context r.included r.dead) z

-- loop { .. if !context.module_inclusion_changed { break; } }, and how many rounds it makes
pub data Rounds (g : Graph) (v cycled sorted : List ℕ) : ℕ → Rounding → Rounding → Type 0 where
  breaks : (r z : Rounding) → Round g v cycled sorted r z → z.context.changed ≡ false → Rounds g v cycled sorted 1 r z
  goes_on : (n : ℕ) (r y z : Rounding) → Round g v cycled sorted r y → y.context.changed ≡ true → Rounds g v cycled sorted n y z → Rounds g v cycled sorted (suc n) r z

-- What follows the loop ------------------------------------------------------------------------------------------------------------------

-- the entries that stay, through the map (000:379-394); option 5: code_splitting.is_disabled()
unfoldable pub live_entries : Graph → List ℕ → List ℕ → List ℕ
live_entries g sorted included =
    through_map g
    (user_defined_entries g ++ elim (option g 5) [ true ↦ [] | false ↦ filter (λ e. elem (entry_idx g e) included) sorted ])

-- depended_helper of module m (000:422): the statements that need helper h
unfoldable pub statements_needing : Graph → ℕ → ℕ → List (List ℕ)
statements_needing g m h = filter (λ row. nat_eq (helper_number row) h) (module_helpers (module_of g m))

-- normalized_runtime_helper.set(helper, ..) (000:422-436)
unfoldable pub needs_helper : Graph → Context → ℕ → ℕ → Bool
needs_helper g c m h =
    not (is_empty (statements_needing g m h))
    && (some (λ row. has_pair m (helper_statement row) c.statements) (statements_needing g m h) || (not (m == g.header.runtime) && not (elem m c.modules)))

-- meta.depended_runtime_helper (000:419-437) of a normal module; an external one keeps the empty set
unfoldable pub depended_runtime_helper : Graph → Context → ℕ → ℕ
depended_runtime_helper g c m = elim (normal g m) [ true ↦ helper_bits (needs_helper g c m) g.header.helpers | false ↦ 0 ]

-- The whole function. `verdicts` are the modules' side effects that it finds; `main` is the context when the loop is left: its json sets and namespace reasons are those that the metas get (000:397-400,
-- 438); `dead` are the records that get DeadDynamicImport (000:404-408); `context` is the second one when include_runtime_symbol has returned.
pub record Outcome : Type 0 where
  pub verdicts : List ℕ
  pub rounds : ℕ
  pub main : Context
  pub included : List ℕ
  pub dead : List Pair
  pub entries : List ℕ
  pub helpers : ℕ → ℕ
  pub context : Context

pub record IncludeStatements (g : Graph) (v : List ℕ) (o : Outcome) : Type 0 where
  pub users : Context
  pub cycled : List ℕ
  pub sorted : List ℕ
  pub includes_users : IncludesUserDefined g v (user_defined_entries g) empty users
  pub sorts : SortDynamicEntriesByTopologicalOrder g (dynamic_entries g) sorted cycled
  pub makes_rounds : Rounds g v cycled sorted o.rounds (rounding users [] []) (rounding o.main o.included o.dead)
  pub entries_are : o.entries ≡ live_entries g sorted o.included
  pub helpers_are : o.helpers ≡ depended_runtime_helper g o.main
  pub includes_runtime : IncludeRuntimeSymbol g v (collect_depended_runtime_helpers g o.main o.helpers) (new_context o.main) o.context

-- The Rust returns on this graph, with this outcome: `include_statements` after `determine_side_effects` and `recompute_analyzed_side_effects`
pub record Returns (g : Graph) (o : Outcome) : Type 0 where
  pub side_effects : SideEffects g o.verdicts
  pub include_statements : IncludeStatements g o.verdicts o
