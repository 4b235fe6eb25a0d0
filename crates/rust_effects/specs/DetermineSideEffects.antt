-- determine_side_effects.rs (002), function by function under the Rust's names. A module's verdict is its number in the graph: 0 Analyzed(false),
-- 1 Analyzed(true), 2 UserDefined(false), 3 UserDefined(true), 4 NoTreeshake. A `Vec<bool>` by module is the list of modules whose bit is set.
-- Nothing here is taken from the definitions of the port: only the words of the decoded graph.
use Rattle.std.specs.Prelude.{ℕ, zero, suc, ◌+◌, ◌≡◌, Bool, true, false, ◌&&◌, ◌||◌, List, [], ◌∷◌, ◌++◌, map, eqb, get_or, take}
use Rattle.determine_side_effects.specs.graph_crate.Check.{Graph}
use Rattle.determine_side_effects.specs.graph_access_crate.Names.{effects, flags, wrap, scan_effects, scan_statement_count, import_records, import_record_target, import_record_kind, import_record_bits, statement_bits}
use Rattle.determine_side_effects.specs.graph_access_crate.Words.{flag, some, tabulate, module_of, statement_list, normal}
use Rattle.keep_record.specs.Lines.{elem}
use Rattle.rust_values.specs.Values.{Pair, pair, Found, none, found, optional, filter}

-- DeterminedSideEffects::has_side_effects
unfoldable pub has_side_effects : ℕ → Bool
has_side_effects x = eqb x 1 || (eqb x 3 || eqb x 4)

-- `has_side_effects` and `dependents` (002:21-28): the modules whose bit is set; each push of an importer onto `dependents[importee]`, by its turn,
-- as (importee, importer)
pub record Gathered : Type 0 where
  pub effectful : List ℕ
  pub dependents : List Pair

-- match linking_info.wrap_kind() (002:47-50)
unfoldable pub must_initialize : Graph → ℕ → Bool
must_initialize g importee = elim (eqb (wrap (module_of g importee)) 0) [ true ↦ flag 3 (flags (module_of g importee)) | false ↦ true ]

-- one import record of a module (002:36-52)
unfoldable pub gather_record : Graph → ℕ → List ℕ → Found → Gathered → Gathered
gather_record g m row none s = s
gather_record g m row (found importee) s =
    record {
      effectful = elim (eqb (import_record_kind row) 0 && (flag 0 (import_record_bits row) && (normal g importee && must_initialize g importee))) [ true ↦ m ∷ s.effectful | false ↦ s.effectful ];
      dependents = s.dependents ++ (pair importee m ∷ []);
    }

unfoldable pub gather_records : Graph → ℕ → List (List ℕ) → Gathered → Gathered
gather_records g m [] s = s
gather_records g m (row ∷ rows) s = gather_records g m rows (gather_record g m row (optional (import_record_target row)) s)

-- the loop over the modules (002:30-53), from module m on, n of them
unfoldable pub gather_module : Graph → List ℕ → ℕ → Gathered → Gathered
gather_module g v m s =
    elim (normal g m) [
      | true ↦ elim (eqb (get_or v m 0) 0) [ true ↦ gather_records g m (import_records (module_of g m)) s | false ↦ s ]
      | false ↦ s
    ]

unfoldable pub gather_from : Graph → List ℕ → ℕ → ℕ → Gathered → Gathered
gather_from g v m zero s = s
gather_from g v m (suc n) s = gather_from g v (m + 1) n (gather_module g v m s)

unfoldable pub gathered : Graph → List ℕ → Gathered
gathered g v =
    gather_from g v 0 g.header.modules
    (record { effectful = filter (λ m. has_side_effects (get_or v m 0)) (tabulate (λ m. m) 0 g.header.modules); dependents = [] })

-- `pending` (002:59-62): the modules below k whose bit is set; they are collected ascending, so the highest is on top
unfoldable pub pending_below : List ℕ → ℕ → List ℕ
pending_below effectful zero = []
pending_below effectful (suc k) = elim (elem k effectful) [ true ↦ k ∷ pending_below effectful k | false ↦ pending_below effectful k ]

-- the worklist (002:63-70): bits and stack, the top first
pub record Spreading : Type 0 where
  pub effectful : List ℕ
  pub pending : List ℕ

unfoldable pub spread_to : ℕ → Spreading → Spreading
spread_to importer s =
    elim (elem importer s.effectful) [ true ↦ s | false ↦ record { effectful = importer ∷ s.effectful; pending = importer ∷ s.pending } ]

unfoldable pub spread_to_all : List ℕ → Spreading → Spreading
spread_to_all [] s = s
spread_to_all (importer ∷ importers) s = spread_to_all importers (spread_to importer s)

-- &dependents[module_idx]
unfoldable pub dependents_of : List Pair → ℕ → List ℕ
dependents_of dependents m = map (λ p. p.second) (filter (λ p. eqb p.first m) dependents)

-- while let Some(module_idx) = pending.pop()
pub data Propagates (dependents : List Pair) : Spreading → Spreading → Type 0 where
  returns : (s : Spreading) → s.pending ≡ [] → Propagates dependents s s
  pops : (s z : Spreading) (m : ℕ) (ms : List ℕ) → s.pending ≡ m ∷ ms
      → Propagates dependents (spread_to_all (dependents_of dependents m) (record { effectful = s.effectful; pending = ms })) z → Propagates dependents s z

-- determine_side_effects (002:20-77), from verdicts v to verdicts w
pub record DetermineSideEffects (g : Graph) (v w : List ℕ) : Type 0 where
  pub end : Spreading
  pub propagates : Propagates (gathered g v).dependents (record { effectful = (gathered g v).effectful; pending = pending_below (gathered g v).effectful g.header.modules }) end
  pub verdicts_are :
      w ≡ tabulate (λ m. elim (normal g m && eqb (get_or v m 0) 0) [ true ↦ elim (elem m end.effectful) [ true ↦ 1 | false ↦ 0 ] | false ↦ get_or v m 0 ]) 0 g.header.modules

-- recompute_analyzed_side_effects (002:89-109): one module
unfoldable pub recomputed : Graph → List ℕ → ℕ → ℕ
recomputed g v m =
    elim (normal g m) [
      | true ↦ elim (eqb (scan_effects (module_of g m)) 1 && flag 5 (flags (module_of g m))) [
        | true ↦ elim (some (λ x. flag 1 (statement_bits x)) (take (scan_statement_count (module_of g m)) (statement_list g m))) [ true ↦ 1 | false ↦ 0 ]
        | false ↦ scan_effects (module_of g m)
      ]
      | false ↦ get_or v m 0
    ]

-- `relaxed_side_effect_modules.is_empty()`
unfoldable pub none_relaxed : Graph → Bool
none_relaxed g = elim (some (λ x. flag 5 (flags x)) g.modules) [ true ↦ false | false ↦ true ]

pub data RecomputeAnalyzedSideEffects (g : Graph) : List ℕ → List ℕ → Type 0 where
  none_relaxed_case : (v : List ℕ) → none_relaxed g ≡ true → RecomputeAnalyzedSideEffects g v v
  recomputes : (v w : List ℕ) → none_relaxed g ≡ false → DetermineSideEffects g (tabulate (recomputed g v) 0 g.header.modules) w → RecomputeAnalyzedSideEffects g v w

-- the verdicts that `include_statements` finds: determine_side_effects, then recompute_analyzed_side_effects, from those that the graph gives
pub record SideEffects (g : Graph) (w : List ℕ) : Type 0 where
  pub first : List ℕ
  pub determines : DetermineSideEffects g (tabulate (λ m. effects (module_of g m)) 0 g.header.modules) first
  pub recomputes : RecomputeAnalyzedSideEffects g first w
