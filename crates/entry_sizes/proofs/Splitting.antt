-- The plan with its entries parted, and the plan where no entry is dynamic.
use Prim.Native.Nat.{ℕ, ◌+◌, ◌<◌, ◌≤◌}
use mathlib.Core.Path.{◌≡◌, refl, ap, ◌∙◌, sym}
use mathlib.Core.Bool.{false}
use mathlib.Core.List.{List, [], ◌∷◌, ◌++◌}
use native.Mathlib.Omega.{arith}
use borrow.Author.Tests.{ne_eqb}
use lib.ListN.{length, get_or, take, replicate, length-replicate}
use Rattle.determine_side_effects.specs.graph_format_crate.declared.Header.{Header}
use Rattle.determine_side_effects.specs.graph_tables_crate.Tables.{header_in}
use Rattle.determine_side_effects.specs.graph_crate.Check.{Graph, graph_in}
use Rattle.keep_record.specs.Lines.{elem}
use Rattle.entry_order.specs.Order.{those, user_entries, dynamic_entries}
use Rattle.entry_order.specs.Chains.{Entries}
use Rattle.entry_order.specs.Plan.{cycled_at, plan_size, Untouched}
use Rattle.entry_graph.specs.Ordering.{no_ordering, from_entries, entry_graph}
use Rattle.cycles.specs.Search.{each, finished}
use Rattle.cycles.specs.Cycles.{groups, cycled}
use Rattle.dynamic_entries.specs.Sorted.{on_cycle, by_completion, completion, sorted_entries}
use Rattle.dynamic_entries.specs.Tries.{Planned, Unlived}
use Rattle.dynamic_entries.specs.Parts.{Cleared, Parted}
use Rattle.dynamic_entries.proofs.Parting.{dynamic_count}

-- ---- the entries are parted

module _ (numbers plan₀ : List ℕ) (c : Cleared (graph_in numbers) plan₀) where
  -- what the parting asks of its rows
  pub split_ready : (limit a b : ℕ) → (header_in numbers).modules ≤ limit → (header_in numbers).entries ≤ limit → limit + limit ≤ a → limit ≤ b
      → ((header_in numbers).modules + (header_in numbers).entries ≤ length (replicate {A = ℕ} a 0)) × ((header_in numbers).entries ≤ length (replicate {A = ℕ} b 0)) × ((header_in numbers).entries ≤ length plan₀)
  unfolding graph_in
  split_ready limit a b h k la lb =
      let ea = length-replicate {A = ℕ} a 0 in
      let eb = length-replicate {A = ℕ} b 0 in
      let l = c.long in
      (omega (arith, ea, la, h, k), omega (arith, eb, lb, k), omega (arith, l))

  -- and what it leaves
  pub split_done : (plan : List ℕ) (r : ℕ)
      → ((r ≡ length (user_entries (graph_in numbers))) × (r ≤ (header_in numbers).entries) × (take (header_in numbers).entries plan ≡ user_entries (graph_in numbers) ++ dynamic_entries (graph_in numbers)))
      × (Untouched 0 (header_in numbers).entries plan₀ plan × Entries (graph_in numbers) plan (header_in numbers).entries)
      → Parted (graph_in numbers) plan r × Cleared (graph_in numbers) plan
  unfolding graph_in
  split_done plan r e =
      let l = e.1.0.same_length in
      let long = c.long in
      let few = c.few in (
        record { users_are = e.0.0; inside = e.0.1; order = e.0.2; are_entries = e.1.1 },
        record { long = omega (arith, l, long); few = omega (arith, l, few); clear = λ i h. e.1.0.same i (λ a b. omega (arith, h, b)) ∙ c.clear i h },
      )

-- a plan of zeros
pub all_cleared : (numbers plan : List ℕ) → (plan_size (header_in numbers) ≤ length plan) × (length plan < 4294967296) × ((i : ℕ) → get_or plan i 0 ≡ 0) → Cleared (graph_in numbers) plan
unfolding graph_in
all_cleared numbers plan p = record { long = p.0; few = p.1; clear = λ i h. p.2 i }

-- ---- no entry is dynamic

module _ (g : Graph) (none : dynamic_entries g ≡ []) where
  no_graph : entry_graph g ≡ no_ordering
  unfolding entry_graph from_entries
  no_graph = rw (none, from_entries)

  no_completion : completion g ≡ []
  unfolding completion finished each
  no_completion = rw (no_graph, each)

  no_cycle : (m : ℕ) → on_cycle g m ≡ false
  unfolding on_cycle cycled finished each groups elem
  no_cycle m = rw (no_graph, each, groups, elem)

  none_sorted : sorted_entries g ≡ []
  unfolding sorted_entries those by_completion
  none_sorted = rw (none, no_completion, those, by_completion)

  pub none_planned : (plan : List ℕ) (users : ℕ) → Parted g plan users → Cleared g plan → Planned g plan users × Unlived g plan
  none_planned plan users p c =
      let d = dynamic_count g plan users p in
      let s = ap length none_sorted in
      let n = ap length none in
      let u = p.users_are in (
        record {
          long = c.long;
          few = c.few;
          users_are = p.users_are;
          all = omega (arith, d, s, n, u);
          order = p.order ∙ ap (λ l. user_entries g ++ l) (none ∙ sym none_sorted);
          are_entries = p.are_entries;
          cycles = λ m h. let z = c.clear (cycled_at g.header + m) (omega arith) in ne_eqb (get_or plan (cycled_at g.header + m) 0) 1 (λ q. omega (arith, z, q)) ∙ sym (no_cycle m);
        },
        record { unlived = λ i h k. c.clear i h },
      )

no_length : (xs : List ℕ) → length xs ≡ 0 → xs ≡ []
no_length [] e = refl
no_length (x ∷ xs) e = absurd (omega (arith, e))

pub all_users : (numbers plan : List ℕ) (users : ℕ) → Parted (graph_in numbers) plan users × Cleared (graph_in numbers) plan → (h : Header) → h ≡ header_in numbers → users ≡ h.entries
    → Planned (graph_in numbers) plan users × Unlived (graph_in numbers) plan
unfolding graph_in
all_users numbers plan users p h is e =
    let d = dynamic_count (graph_in numbers) plan users p.0 in
    let q : users ≡ (header_in numbers).entries = e ∙ ap (λ (x : Header). x.entries) is in
    none_planned (graph_in numbers) (no_length (dynamic_entries (graph_in numbers)) (omega (arith, d, q))) plan users p.0 p.1
