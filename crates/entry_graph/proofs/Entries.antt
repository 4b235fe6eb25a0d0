-- The graph of a list of entries, each walked in turn with nothing visited.
use Prim.Native.Nat.{ℕ, suc, ◌+◌, ◌*◌, ◌<◌, ◌≤◌}
use mathlib.Core.Path.{◌≡◌, refl, ap, ◌∙◌, sym}
use mathlib.Core.Bool.{Bool, true, false}
use mathlib.Core.List.{List, [], ◌∷◌}
use native.Mathlib.Numerals.{add-one}
use native.Mathlib.Omega.{arith}
use borrow.Author.Tests.{ltb-true, ltb-false}
use lib.Dec.{ltb}
use lib.ListN.{length, get_or, take, drop, drop_of_length-le}
use lib.Seq.{drop-cons}
use Rattle.bit_row.specs.Row.{bit_at, cleared}
use Rattle.bit_row.proofs.Cleared.{zeros_unset}
use Rattle.graph_access.specs.graph_crate.Check.{Graph}
use Rattle.keep_record.specs.Lines.{elem}
use Rattle.keep_record.proofs.Rows.{cleared_whole}
use Rattle.entry_order.specs.Order.{module_of_entry}
use Rattle.entry_graph.specs.declared.Built.{Built}
use Rattle.entry_graph.specs.declared.Built.TheVariants.{Nodes, Full}
use Rattle.entry_graph.specs.Ordering.{Ordering, nothing, no_edges, no_ordering, construct, from_entry, from_entries}
use Rattle.entry_graph.specs.Memory.{row_of, succs_in, ordering_in, Stored, Builds}
use Rattle.entry_graph.specs.Steps.{Holds}
use Rattle.entry_graph.proofs.Successors.{both, cell_below, row_none}

-- what was visited before is never asked
entry_blind : (g : Graph) (m : ℕ) (s q : Ordering) → s.nodes ≡ q.nodes → s.succs ≡ q.succs → from_entry g m s ≡ from_entry g m q
unfolding from_entry
entry_blind g m s q a b = λ i. construct g g.header.modules m m (record { visited = nothing; nodes = a i; succs = b i })

entries_blind : (g : Graph) (es : List ℕ) (s q : Ordering) → s.nodes ≡ q.nodes → s.succs ≡ q.succs
    → ((from_entries g es s).nodes ≡ (from_entries g es q).nodes) × ((from_entries g es s).succs ≡ (from_entries g es q).succs)
unfolding from_entries
entries_blind g [] s q a b = (a, b)
entries_blind g (e ∷ es) s q a b =
    let p = entry_blind g (module_of_entry g e) s q a b in
    (ap (λ (x : Ordering). (from_entries g es x).nodes) p, ap (λ (x : Ordering). (from_entries g es x).succs) p)

-- rows that hold no graph
succs_none : (M cap : ℕ) (nodes outs succs edges : List ℕ) → Stored M cap nodes 0 outs succs edges → (u : ℕ) → succs_in M cap outs succs u ≡ []
unfolding succs_in elem
succs_none M cap nodes outs succs edges s u = go (ltb u M) refl
  where
    go : (b : Bool) → ltb u M ≡ b → succs_in M cap outs succs u ≡ []
    go true e =
        let z = ltb-false 0 (get_or outs u 0) (sym (s.is_node u (ltb-true u M e))) in
        rw (e, succs_in) (row_none cap outs succs u (omega (arith, z)))
    go false e = rw (e, succs_in)

-- rows of zeros hold none
pub stored_none : (M cap : ℕ) (nodes outs succs edges : List ℕ) → M ≤ 1024 → cap ≤ 1024 → M ≤ length nodes → M ≤ length outs → M * cap ≤ length succs → M * M ≤ 8 * length edges
    → ((u : ℕ) → u < M → get_or outs u 0 ≡ 0) → ((j : ℕ) → j < M * M → bit_at edges j ≡ false) → Stored M cap nodes 0 outs succs edges
unfolding elem
stored_none M cap nodes outs succs edges few cap_few a b c d zeros unset =
    record {
      few = few;
      cap_few = cap_few;
      nodes_long = a;
      outs_long = b;
      succs_long = c;
      edges_long = d;
      nodes_few = omega arith;
      node_below = λ i h. absurd (omega arith);
      nodes_apart = _;
      is_node = λ u h. rw (zeros u h);
      rows_fit = λ u h. rw (zeros u h) (omega arith);
      succ_below = λ u k h l. let z = zeros u h in absurd (omega (arith, z));
      rows_apart = λ u h. rw (none u h) _;
      edge_bits = λ u v h l. unset (v * M + u) (cell_below M M v u l h) ∙ sym (ap (elem v) (none u h));
      succ_nodes = λ u v h e. absurd (both (rw (none u h) at e) refl);
    }
  where
    none : (u : ℕ) → u < M → row_of cap outs succs u ≡ []
    none u h = let z = zeros u h in row_none cap outs succs u (omega (arith, z))

-- an ordering with nothing visited
ordering_cleared : (M cap : ℕ) (v v' nodes : List ℕ) (n : ℕ) (outs succs : List ℕ) → ((j : ℕ) → bit_at v' j ≡ false)
    → ordering_in M cap v' nodes n outs succs ≡ record { visited = nothing; nodes = (ordering_in M cap v nodes n outs succs).nodes; succs = (ordering_in M cap v nodes n outs succs).succs }
unfolding ordering_in nothing
ordering_cleared M cap v v' nodes n outs succs f = λ i. record { visited = λ x. f x i; nodes = take n nodes; succs = succs_in M cap outs succs }

pub all_clear : (count : ℕ) (row : List ℕ) → length row ≤ count → (j : ℕ) → bit_at (cleared count row) j ≡ false
all_clear count row h j = rw (cleared_whole count row h) (zeros_unset count j)

-- what is left of the entries, from here, is the whole graph
pub record Building (g : Graph) (cap : ℕ) (all visited nodes outs succs edges : List ℕ) (n i : ℕ) : Type 0 where
  pub stored : Stored g.header.modules cap nodes n outs succs edges
  pub nodes_on : (from_entries g (drop i all) (ordering_in g.header.modules cap visited nodes n outs succs)).nodes ≡ (from_entries g all no_ordering).nodes
  pub succs_on : (from_entries g (drop i all) (ordering_in g.header.modules cap visited nodes n outs succs)).succs ≡ (from_entries g all no_ordering).succs

module _ (g : Graph) (cap : ℕ) (all : List ℕ) where
  pub building_start : (visited nodes outs succs edges : List ℕ) → Stored g.header.modules cap nodes 0 outs succs edges → Building g cap all visited nodes outs succs edges 0 0
  unfolding ordering_in no_edges
  building_start visited nodes outs succs edges s =
      let M = g.header.modules in
      let none = succs_none M cap nodes outs succs edges s in
      let b = entries_blind g all (ordering_in M cap visited nodes 0 outs succs) no_ordering refl (λ i u. none u i) in
      record { stored = s; nodes_on = b.0; succs_on = b.1 }

  module _ {visited nodes outs succs edges : List ℕ} {n i : ℕ} (b : Building g cap all visited nodes outs succs edges n i) where
    pub building-step : (v : List ℕ) (m : ℕ) {visited' nodes' outs' succs' edges' : List ℕ} {r : Built} → i < length all → m ≡ module_of_entry g (get_or all i 0) → ((j : ℕ) → bit_at v j ≡ false)
        → Holds g.header.modules cap (construct g g.header.modules m m (ordering_in g.header.modules cap v nodes n outs succs)) visited' nodes' outs' succs' edges' r
        → (d : ℕ) → r ≡ Nodes d → Building g cap all visited' nodes' outs' succs' edges' d (i + 1)
    unfolding from_entries from_entry
    building-step v m {visited'} {nodes'} {outs'} {succs'} {edges'} {r} h e f x d q =
        let M = g.header.modules in
        let s = ordering_in M cap visited nodes n outs succs in
        let s' = ordering_in M cap visited' nodes' d outs' succs' in
        let one : from_entry g (module_of_entry g (get_or all i 0)) s ≡ s' =
        ap (λ (k : ℕ). from_entry g k s) (sym e) ∙ ap (construct g M m m) (sym (ordering_cleared M cap visited v nodes n outs succs f)) ∙ sym (x.is d q) in
        let on : from_entries g (drop i all) s ≡ from_entries g (drop (i + 1) all) s' =
        rw (drop-cons all i 0 h, add-one i) (ap (from_entries g (drop (suc i) all)) one) in
        record { stored = x.stored d q; nodes_on = ap (λ (y : Ordering). y.nodes) (sym on) ∙ b.nodes_on; succs_on = ap (λ (y : Ordering). y.succs) (sym on) ∙ b.succs_on }

    pub building-done : length all ≤ i → Builds g.header.modules cap (from_entries g all no_ordering) nodes outs succs edges (Nodes n)
    unfolding from_entries ordering_in
    building-done h =
        let M = g.header.modules in
        let z : from_entries g (drop i all) (ordering_in M cap visited nodes n outs succs) ≡ ordering_in M cap visited nodes n outs succs = rw (drop_of_length-le all h) in
        record {
          stored = λ k q. let y : n ≡ k = cc in rw (sym y) b.stored;
          nodes_are = λ k q. let y : n ≡ k = cc in rw (sym y) (ap (λ (o : Ordering). o.nodes) (sym z) ∙ b.nodes_on);
          succs_are = λ k q u. let y : n ≡ k = cc in ap (λ (o : Ordering). o.succs u) (sym z) ∙ ap (λ (f : ℕ → List ℕ). f u) b.succs_on;
          too_many = λ q. let y : ◌≡◌ {A = ℕ} 0 1 = cc in absurd (omega arith);
        }

pub builds_full : {M cap : ℕ} {s : Ordering} {nodes outs succs edges : List ℕ} → cap < M → Builds M cap s nodes outs succs edges Full
builds_full h =
    record {
      stored = λ k q. let y : ◌≡◌ {A = ℕ} 0 1 = cc in absurd (omega arith);
      nodes_are = λ k q. let y : ◌≡◌ {A = ℕ} 0 1 = cc in absurd (omega arith);
      succs_are = λ k q. let y : ◌≡◌ {A = ℕ} 0 1 = cc in absurd (omega arith);
      too_many = λ q. h;
    }
