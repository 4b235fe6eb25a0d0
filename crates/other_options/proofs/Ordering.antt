-- The order of the dynamic entries and their cycles read no options.
use Prim.Native.Nat.{ℕ, zero, suc}
use mathlib.Core.Path.{◌≡◌, refl, ap, ◌∙◌}
use mathlib.Core.Bool.{Bool, true, false, not, ◌||◌}
use mathlib.Core.List.{List, [], ◌∷◌, ◌++◌}
use lib.Dec.{eqb}
use Rattle.determine_side_effects.specs.graph_crate.Check.{Graph}
use Rattle.determine_side_effects.specs.graph_access_crate.Names.{import_records}
use Rattle.determine_side_effects.specs.graph_access_crate.Words.{module_of, normal, entry_of}
use Rattle.keep_record.specs.Lines.{elem}
use Rattle.entry_order.specs.Order.{those, module_of_entry, is_dynamic, is_user_defined, grouped_entries, user_entries, dynamic_entries}
use Rattle.entry_graph.specs.Ordering.{Ordering, no_ordering, nothing, visit, all_records, construct, from_entry, from_entries, entry_graph}
use Rattle.cycles.specs.Search.{finished}
use Rattle.cycles.specs.Cycles.{cycled}
use Rattle.dynamic_entries.specs.Sorted.{completion, on_cycle, goes_first, by_completion, sorted_entries}
use Rattle.other_options.specs.Options.{with_options}

module _ (g : Graph) (o : ℕ) where
  abbrev h : Graph
  h = with_options g o

  pub users_same : user_entries h ≡ user_entries g
  unfolding user_entries is_user_defined is_dynamic grouped_entries module_of_entry entry_of
  users_same = refl

  dynamics_same : dynamic_entries h ≡ dynamic_entries g
  unfolding dynamic_entries is_dynamic grouped_entries module_of_entry entry_of
  dynamics_same = refl

  construct_same : (fuel root m : ℕ) (s : Ordering) → construct h fuel root m s ≡ construct g fuel root m s
  unfolding construct normal module_of
  construct_same zero root m s = refl
  construct_same (suc fuel) root m s =
      let there : ℕ → ℕ → Ordering → Ordering = λ r t q. construct h fuel r t q in
      let here : ℕ → ℕ → Ordering → Ordering = λ r t q. construct g fuel r t q in
      let e : there ≡ here = λ i r t q. construct_same fuel r t q i in
      let rows = import_records (module_of g m) in
      ap (λ (go : ℕ → ℕ → Ordering → Ordering).
      elim (s.visited m) as (λ x. Ordering) [
        | true ↦ s
        | false ↦ elim (normal g m) as (λ x. Ordering) [ true ↦ all_records go root rows (visit m s) | false ↦ visit m s ]
      ]) e

  entries_same : (es : List ℕ) (s : Ordering) → from_entries h es s ≡ from_entries g es s
  unfolding from_entries from_entry module_of_entry entry_of
  entries_same [] s = refl
  entries_same (e ∷ es) s =
      let m = module_of_entry g e in
      ap (λ (x : Ordering). from_entries h es x) (construct_same g.header.modules m m (record { visited = nothing; nodes = s.nodes; succs = s.succs }))
      ∙ entries_same es (from_entry g m s)

  entry_graph_same : entry_graph h ≡ entry_graph g
  unfolding entry_graph
  entry_graph_same = ap (λ (es : List ℕ). from_entries h es no_ordering) dynamics_same ∙ entries_same (dynamic_entries g) no_ordering

  completion_same : completion h ≡ completion g
  unfolding completion
  completion_same = ap (λ (s : Ordering). finished s.succs g.header.modules s.nodes) entry_graph_same

  pub cycle_same : (m : ℕ) → on_cycle h m ≡ on_cycle g m
  unfolding on_cycle
  cycle_same m = ap (λ (s : Ordering). elem m (cycled s.succs g.header.modules s.nodes)) entry_graph_same

  first_same : (m : ℕ) → goes_first h m ≡ goes_first g m
  unfolding goes_first
  first_same m =
      ap (λ (b : Bool). b || not (elem m (entry_graph h).nodes)) (cycle_same m)
      ∙ ap (λ (s : Ordering). on_cycle g m || not (elem m s.nodes)) entry_graph_same

  by_completion_same : (es ms : List ℕ) → by_completion h es ms ≡ by_completion g es ms
  unfolding by_completion module_of_entry entry_of
  by_completion_same es [] = refl
  by_completion_same es (m ∷ ms) =
      let now = those (λ e. eqb (module_of_entry g e) m) es in
      ap (λ (b : Bool). elim b as (λ x. List ℕ) [ true ↦ by_completion h es ms | false ↦ now ++ by_completion h es ms ]) (cycle_same m)
      ∙ ap (λ (xs : List ℕ). elim (on_cycle g m) as (λ x. List ℕ) [ true ↦ xs | false ↦ now ++ xs ]) (by_completion_same es ms)

  pub sorted_entries_same : sorted_entries h ≡ sorted_entries g
  unfolding sorted_entries module_of_entry entry_of
  sorted_entries_same =
      let firsts : (ℕ → Bool) → List ℕ = λ test. those (λ e. test (module_of_entry g e)) (dynamic_entries g) in
      let e : goes_first h ≡ goes_first g = λ j m. first_same m j in
      ap (λ (es : List ℕ). those (λ x. goes_first h (module_of_entry g x)) es ++ by_completion h es (completion h)) dynamics_same
      ∙ ap (λ (test : ℕ → Bool). firsts test ++ by_completion h (dynamic_entries g) (completion h)) e
      ∙ ap (λ (ms : List ℕ). firsts (goes_first g) ++ by_completion h (dynamic_entries g) ms) completion_same
      ∙ ap (λ (xs : List ℕ). firsts (goes_first g) ++ xs) (by_completion_same (dynamic_entries g) (completion g))
