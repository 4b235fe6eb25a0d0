-- How lent rows hold the ordering graph. With M modules and room for `cap` successors of each: word m of `outs` is 0 where module m is no node,
-- else 1 more than how many successors it has; they stand in `succs` from m * cap on, by first adding; bit to * M + from of `edges` is the edge.
use Rattle.std.specs.Prelude.{ℕ, ◌+◌, ◌*◌, ◌-◌, ◌<◌, ◌≤◌, ◌≡◌, true, false, List, [], ltb, length, get_or, take}
use Rattle.bit_row.specs.Row.{bit_at}
use Rattle.graph_access.specs.Words.{tabulate}
use Rattle.keep_record.specs.Lines.{elem}
use Rattle.keep_record.specs.Held.{Distinct}
use Rattle.entry_graph.specs.declared.Built.{Built}
use Rattle.entry_graph.specs.declared.Built.TheVariants.{Nodes, Full}
use Rattle.entry_graph.specs.Ordering.{Ordering}

unfoldable pub row_of : ℕ → List ℕ → List ℕ → ℕ → List ℕ
row_of cap outs succs u = tabulate (λ k. get_or succs (u * cap + k) 0) 0 (get_or outs u 0 - 1)

unfoldable pub succs_in : ℕ → ℕ → List ℕ → List ℕ → ℕ → List ℕ
succs_in modules cap outs succs u = elim (ltb u modules) [ true ↦ row_of cap outs succs u | false ↦ [] ]

unfoldable pub ordering_in : ℕ → ℕ → List ℕ → List ℕ → ℕ → List ℕ → List ℕ → Ordering
ordering_in modules cap visited nodes n outs succs = record { visited = bit_at visited; nodes = take n nodes; succs = succs_in modules cap outs succs }

pub record Stored (modules cap : ℕ) (nodes : List ℕ) (n : ℕ) (outs succs edges : List ℕ) : Type 0 where
  pub few : modules ≤ 1024
  pub cap_few : cap ≤ 1024
  pub nodes_long : modules ≤ length nodes
  pub outs_long : modules ≤ length outs
  pub succs_long : modules * cap ≤ length succs
  pub edges_long : modules * modules ≤ 8 * length edges
  pub nodes_few : n ≤ modules
  pub node_below : (i : ℕ) → i < n → get_or nodes i 0 < modules
  pub nodes_apart : Distinct (take n nodes)
  pub is_node : (u : ℕ) → u < modules → elem u (take n nodes) ≡ ltb 0 (get_or outs u 0)
  pub rows_fit : (u : ℕ) → u < modules → get_or outs u 0 ≤ cap + 1
  pub succ_below : (u k : ℕ) → u < modules → k < get_or outs u 0 - 1 → get_or succs (u * cap + k) 0 < modules
  pub rows_apart : (u : ℕ) → u < modules → Distinct (row_of cap outs succs u)
  pub edge_bits : (u v : ℕ) → u < modules → v < modules → bit_at edges (v * modules + u) ≡ elem v (row_of cap outs succs u)
  pub succ_nodes : (u v : ℕ) → u < modules → elem v (row_of cap outs succs u) ≡ true → elem v (take n nodes) ≡ true

-- What the building leaves: the rows hold this graph; or a module has more than `cap` successors, which cannot be with room for one of each
-- module.
pub record Builds (modules cap : ℕ) (s : Ordering) (nodes outs succs edges : List ℕ) (r : Built) : Type 0 where
  pub stored : (n : ℕ) → r ≡ Nodes n → Stored modules cap nodes n outs succs edges
  pub nodes_are : (n : ℕ) → r ≡ Nodes n → take n nodes ≡ s.nodes
  pub succs_are : (n : ℕ) → r ≡ Nodes n → (u : ℕ) → succs_in modules cap outs succs u ≡ s.succs u
  pub too_many : r ≡ Full → cap < modules
