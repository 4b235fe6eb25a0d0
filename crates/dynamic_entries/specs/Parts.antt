-- What the parts of the ordering need and leave.
use Rattle.std.specs.Prelude.{ℕ, ◌+◌, ◌<◌, ◌≤◌, ◌≡◌, not, List, ◌++◌, eqb, length, get_or, take}
use Rattle.determine_side_effects.specs.graph_crate.Check.{Graph}
use Rattle.keep_record.specs.Lines.{elem}
use Rattle.entry_order.specs.Order.{user_entries, dynamic_entries}
use Rattle.entry_order.specs.Chains.{Entries}
use Rattle.entry_order.specs.Plan.{cycled_at, plan_size}
use Rattle.entry_graph.specs.Ordering.{entry_graph}
use Rattle.entry_graph.specs.Memory.{succs_in, Stored}
use Rattle.cycles.specs.Memory.{last_first}
use Rattle.dynamic_entries.specs.declared.Ordered.{Ordered}
use Rattle.dynamic_entries.specs.declared.Ordered.TheVariants.{Done, Full}
use Rattle.dynamic_entries.specs.Sorted.{on_cycle, completion}
use Rattle.dynamic_entries.specs.Tries.{Planned, Unlived}

-- a plan in which at most the entries' words are set
pub record Cleared (g : Graph) (plan : List ℕ) : Type 0 where
  pub long : plan_size g.header ≤ length plan
  pub few : length plan < 4294967296
  pub clear : (i : ℕ) → g.header.entries ≤ i → get_or plan i 0 ≡ 0

-- the user-defined entries, and behind them the dynamic ones, which are not sorted yet
pub record Parted (g : Graph) (plan : List ℕ) (users : ℕ) : Type 0 where
  pub users_are : users ≡ length (user_entries g)
  pub inside : users ≤ g.header.entries
  pub order : take g.header.entries plan ≡ user_entries g ++ dynamic_entries g
  pub are_entries : Entries g plan g.header.entries

-- the plan says which modules are on a cycle
pub record Cycled (g : Graph) (plan : List ℕ) : Type 0 where
  pub long : plan_size g.header ≤ length plan
  pub few : length plan < 4294967296
  pub cycles : (m : ℕ) → m < g.header.modules → eqb (get_or plan (cycled_at g.header + m) 0) 1 ≡ on_cycle g m

-- a word of `outs` is 0 where its module is no node
pub record Outside (g : Graph) (outs : List ℕ) : Type 0 where
  pub long : g.header.modules ≤ length outs
  pub outside : (m : ℕ) → m < g.header.modules → eqb (get_or outs m 0) 0 ≡ not (elem m (entry_graph g).nodes)

-- the first `found` of `order` are the nodes as they were completed
pub record Completed (g : Graph) (order : List ℕ) (found : ℕ) : Type 0 where
  pub long : found ≤ length order
  pub below : (k : ℕ) → k < found → get_or order k 0 < g.header.modules
  pub nodes : last_first found order ≡ completion g

-- the rows hold the ordering graph of the dynamic entries
pub record Holds (g : Graph) (cap : ℕ) (nodes : List ℕ) (n : ℕ) (outs succs edges : List ℕ) : Type 0 where
  pub stored : Stored g.header.modules cap nodes n outs succs edges
  pub nodes_are : take n nodes ≡ (entry_graph g).nodes
  pub succs_are : (u : ℕ) → succs_in g.header.modules cap outs succs u ≡ (entry_graph g).succs u

-- The dynamic entries are sorted; or a module has more than `cap` successors, and nothing was written.
pub record Orders (g : Graph) (cap users : ℕ) (plan₀ plan : List ℕ) (r : Ordered) : Type 0 where
  pub done : r ≡ Done → Planned g plan users × Unlived g plan
  pub full : r ≡ Full → (cap < g.header.modules) × (plan ≡ plan₀)
