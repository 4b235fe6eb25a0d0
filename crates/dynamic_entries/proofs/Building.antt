-- The ordering graph is built in lent rows, or they are too small.
use Prim.Native.Nat.{ℕ, ◌-◌, ◌<◌}
use mathlib.Core.Path.{◌≡◌, refl, ap, subst}
use mathlib.Core.List.{List}
use native.Mathlib.Omega.{arith}
use lib.ListN.{take, drop}
use Rattle.determine_side_effects.specs.graph_format_crate.declared.Header.{Header}
use Rattle.determine_side_effects.specs.graph_tables_crate.Tables.{header_in}
use Rattle.determine_side_effects.specs.graph_crate.Check.{Graph, graph_in}
use Rattle.entry_graph.specs.Ordering.{Ordering, no_ordering, from_entries, entry_graph}
use Rattle.entry_graph.specs.Memory.{Builds}
use Rattle.entry_graph.specs.declared.Built.{Built}
use Rattle.entry_graph.specs.declared.Built.TheVariants.{Nodes, Full as TooMany}
use Rattle.dynamic_entries.specs.declared.Ordered.TheVariants.{Done, Full}
use Rattle.dynamic_entries.specs.Tries.{Planned, Unlived}
use Rattle.dynamic_entries.specs.Parts.{Parted, Holds, Orders}
use Rattle.dynamic_entries.proofs.Parting.{part_is}

pub orders_done : (g : Graph) (cap users : ℕ) (plan₀ plan : List ℕ) → Planned g plan users × Unlived g plan → Orders g cap users plan₀ plan Done
orders_done g cap users plan₀ plan p = record { done = λ _. p; full = λ q. let z : ◌≡◌ {A = ℕ} 0 1 = cc in absurd (omega arith) }

orders_full : (g : Graph) (cap users : ℕ) (plan : List ℕ) → cap < g.header.modules → Orders g cap users plan plan Full
orders_full g cap users plan h = record { done = λ q. let z : ◌≡◌ {A = ℕ} 0 1 = cc in absurd (omega arith); full = λ _. (h, refl) }

module _ (numbers plan : List ℕ) (users : ℕ) (p : Parted (graph_in numbers) plan users) (h : Header) (is : h ≡ header_in numbers) (cap : ℕ) (nodes outs succs edges : List ℕ) (r : Built)
    (b : Builds (header_in numbers).modules cap (from_entries (graph_in numbers) (take (h.entries - users) (drop users plan)) no_ordering) nodes outs succs edges r) where
  graph_is : from_entries (graph_in numbers) (take (h.entries - users) (drop users plan)) no_ordering ≡ entry_graph (graph_in numbers)
  unfolding graph_in entry_graph
  graph_is = rw is (ap (λ es. from_entries (graph_in numbers) es no_ordering) (part_is (graph_in numbers) plan users p))

  built : Builds (graph_in numbers).header.modules cap (entry_graph (graph_in numbers)) nodes outs succs edges r
  unfolding graph_in
  built = subst (λ (s : Ordering). Builds (header_in numbers).modules cap s nodes outs succs edges r) graph_is b

  pub built_holds : (n : ℕ) → r ≡ Nodes n → Holds (graph_in numbers) cap nodes n outs succs edges
  built_holds n e = let w = built in record { stored = w.stored n e; nodes_are = w.nodes_are n e; succs_are = w.succs_are n e }

  pub built_full : r ≡ TooMany → Orders (graph_in numbers) cap users plan plan Full
  built_full e = orders_full (graph_in numbers) cap users plan (built.too_many e)
