-- passes.rs (004), under the Rust's names. A set of runtime helpers is the number of its bits.
use Rattle.std.specs.Prelude.{◌≡◌, ℕ, zero, suc, ◌+◌, ◌^◌, Bool, true, false, ◌&&◌, List, [], ◌∷◌, ◌==◌, nat_eq, slice_index_or}
use Rattle.determine_side_effects.specs.graph_crate.Check.{Graph}
use Rattle.determine_side_effects.specs.graph_access_crate.Names.{resolved_exports, export_symbol, export_from_common_js, only}
use Rattle.determine_side_effects.specs.graph_access_crate.Words.{flag, some, tabulate, module_of, normal}
use Rattle.keep_record.specs.Lines.{elem}
use Rattle.rust_values.specs.Values.{In, SameMembers, filter}
use Rattle.rust_engine.specs.Context.{Context, module_item, symbol_item, push}
use Rattle.rust_engine.specs.Tables.{has_side_effects}
use Rattle.rust_engine.specs.Engine.{Drains, push_symbol_and_check_cjs_bailout}

-- include_cjs_bailout_exports (004:26-42) ------------------------------------------------------------------------------------------------

-- .filter(|local| local.came_from_commonjs).for_each(..) over the exports in this order
pub data IncludesExports (g : Graph) (v : List ℕ) : List (List ℕ) → Context → Context → Type 0 where
  no_more : (c : Context) → IncludesExports g v [] c c
  not_from_commonjs : (row : List ℕ) (rows : List (List ℕ)) (c d : Context) → (export_from_common_js row == 1) ≡ false → IncludesExports g v rows c d → IncludesExports g v (row ∷ rows) c d
  from_commonjs : (row : List ℕ) (rows : List (List ℕ)) (c c₁ d : Context) → (export_from_common_js row == 1) ≡ true
      → Drains g v (push_symbol_and_check_cjs_bailout g (export_symbol row) 1 c) c₁ → IncludesExports g v rows c₁ d → IncludesExports g v (row ∷ rows) c d

-- for idx in bailout_modules: `resolved_exports` is a hash map, so its values in any order
pub data IncludesBailouts (g : Graph) (v : List ℕ) : List ℕ → Context → Context → Type 0 where
  no_more : (c : Context) → IncludesBailouts g v [] c c
  one : (m : ℕ) (ms : List ℕ) (order : List (List ℕ)) (c c₁ d : Context) → SameMembers order (resolved_exports (module_of g m)) → IncludesExports g v order c c₁
      → IncludesBailouts g v ms c₁ d → IncludesBailouts g v (m ∷ ms) c d

-- the bailouts are a hash set, so they come in any order
pub record IncludeCjsBailoutExports (g : Graph) (v bailouts : List ℕ) (c d : Context) : Type 0 where
  pub order : List ℕ
  pub same : SameMembers order bailouts
  pub includes : IncludesBailouts g v order c d

-- collect_depended_runtime_helpers (004:47-65) -------------------------------------------------------------------------------------------

-- the number of these bits: each helper below k set or not
unfoldable pub helper_bits : (ℕ → Bool) → ℕ → ℕ
helper_bits set zero = 0
helper_bits set (suc h) = helper_bits set h + elim (set h) [ true ↦ 2 ^ h | false ↦ 0 ]

-- the union over the included normal modules; `depended` is each module's `depended_runtime_helper`
unfoldable pub collect_depended_runtime_helpers : Graph → Context → (ℕ → ℕ) → ℕ
collect_depended_runtime_helpers g c depended =
    helper_bits (λ h. some (λ m. normal g m && (elem m c.modules && flag h (depended m))) (tabulate (λ m. m) 0 g.header.modules)) g.header.helpers

-- include_runtime_symbol (004:67-88) -----------------------------------------------------------------------------------------------------

-- for helper in depended_runtime_helper: its set bits, in any order; include_symbol with Normal
pub data IncludesHelpers (g : Graph) (v : List ℕ) : List ℕ → Context → Context → Type 0 where
  no_more : (c : Context) → IncludesHelpers g v [] c c
  one : (h : ℕ) (hs : List ℕ) (c c₁ d : Context) → Drains g v (push (symbol_item (only (slice_index_or g.helpers h [])) 1) c) c₁ → IncludesHelpers g v hs c₁ d → IncludesHelpers g v (h ∷ hs) c d

pub data IncludeRuntimeSymbol (g : Graph) (v : List ℕ) (helpers : ℕ) (c : Context) : Context → Type 0 where
  runtime_with_effects : (d : Context) → (helpers == 0) ≡ true → has_side_effects v g.header.runtime ≡ true → Drains g v (push (module_item g.header.runtime) c) d
      → IncludeRuntimeSymbol g v helpers c d
  no_helper : nat_eq helpers 0 ≡ true → has_side_effects v g.header.runtime ≡ false → IncludeRuntimeSymbol g v helpers c c
  some_helper : (d : Context) (order : List ℕ) → (helpers == 0) ≡ false → SameMembers order (filter (λ h. flag h helpers) (tabulate (λ h. h) 0 g.header.helpers))
      → IncludesHelpers g v order c d
      → IncludeRuntimeSymbol g v helpers c d
