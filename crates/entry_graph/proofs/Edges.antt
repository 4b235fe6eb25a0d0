-- Nodes and edges added to the rows.
use Prim.Native.Nat.{ℕ, ◌+◌, ◌*◌, ◌-◌, ◌<◌, ◌≤◌}
use mathlib.Core.Path.{◌≡◌, refl, ap, ◌∙◌, sym}
use mathlib.Core.Logic.{⊎_elim}
use mathlib.Core.Bool.{Bool, true, false, ◌||◌}
use mathlib.Core.List.{List, [], ◌∷◌, ◌++◌}
use native.Mathlib.Numerals.{add-one}
use native.Mathlib.Omega.{arith}
use borrow.Author.Tests.{ltb-true, ltb-false, lt-ltb, eqb-true, eqb-false}
use lib.Dec.{eqb, ltb}
use lib.ListN.{length, get_or, take, set, length-set, length-append}
use lib.Seq.{get_or-set_same, get_or-set_other, length-take-le, take-suc-set}
use Rattle.bit_row.specs.Row.{bit_at}
use Rattle.keep_record.specs.Lines.{elem}
use Rattle.keep_record.specs.Held.{Distinct}
use Rattle.keep_record.proofs.Adding.{elem_more, distinct_more}
use Rattle.entry_graph.specs.declared.Built.TheVariants.{Nodes, Full}
use Rattle.entry_graph.specs.Ordering.{Ordering, put, put_succ, add_edge}
use Rattle.entry_graph.specs.Memory.{row_of, succs_in, ordering_in, Stored}
use Rattle.entry_graph.specs.Steps.{Put, Holds}
use Rattle.entry_graph.proofs.Successors.{more_cases, more_kept, distinct_few, front_place, cell_below, cell_other_row, cell_eqb, cell_column, row-length, row_below, row_same, row_more}

-- one more in a list
pub put_there : (x : ℕ) (xs : List ℕ) → elem x xs ≡ true → put x xs ≡ xs
unfolding put
put_there x xs e = rw (e, put)

pub put_new : (x : ℕ) (xs : List ℕ) → elem x xs ≡ false → put x xs ≡ xs ++ x ∷ []
unfolding put
put_new x xs e = rw (e, put)

module _ {M cap : ℕ} {nodes : List ℕ} {n : ℕ} {outs succs edges : List ℕ} (s : Stored M cap nodes n outs succs edges) where
  pub node_below : (u : ℕ) → elem u (take n nodes) ≡ true → u < M
  node_below u e = let p = front_place n u nodes (omega (arith, s.nodes_long, s.nodes_few)) e in rw p.2 (s.node_below p.0 p.1)

  pub node_if : (u : ℕ) → u < M → 0 < get_or outs u 0 → elem u (take n nodes) ≡ true
  node_if u h o = s.is_node u h ∙ lt-ltb 0 (get_or outs u 0) o

  pub succ_small : (u : ℕ) → u < M → (v : ℕ) → elem v (row_of cap outs succs u) ≡ true → v < M
  succ_small u h = row_below cap outs succs u M (λ k l. s.succ_below u k h l)

  -- a further node has room
  module _ (m : ℕ) (h : m < M) (z : get_or outs m 0 ≡ 0) where
    pub no_node : elem m (take n nodes) ≡ false
    no_node = s.is_node m h ∙ ap (λ (x : ℕ). ltb 0 x) z

    pub node-room : n < M
    node-room =
        let l : length (take n nodes) ≡ n = length-take-le n nodes (omega (arith, s.nodes_long, s.nodes_few)) in
        let f = distinct_few M (take n nodes ++ m ∷ []) (distinct_more (take n nodes) m s.nodes_apart no_node) (λ x e. ⊎_elim (λ q. rw q h) (λ i. node_below x i) (more_cases x m (take n nodes) e)) in
        omega (arith, f, l, length-append (take n nodes) (m ∷ []))

    nodes-now : take (n + 1) (set nodes n m) ≡ take n nodes ++ m ∷ []
    nodes-now = rw (add-one n) (take-suc-set nodes n m (omega (arith, s.nodes_long, node-room)))

    pub rows-kept : (u : ℕ) → row_of cap (set outs m 1) succs u ≡ row_of cap outs succs u
    rows-kept u = go (eqb u m) refl
      where
        go : (b : Bool) → eqb u m ≡ b → row_of cap (set outs m 1) succs u ≡ row_of cap outs succs u
        go true e =
            let q = eqb-true u m e in
            let o : get_or (set outs m 1) u 0 ≡ 1 = rw q (get_or-set_same outs m 1 0 (omega (arith, s.outs_long))) in
            let y : get_or outs u 0 ≡ 0 = rw q z in
            row_same cap outs succs u (set outs m 1) succs (omega (arith, o, y)) (λ k l. refl)
        go false e =
            let o = get_or-set_other outs m u 1 0 (eqb-false u m e) in
            row_same cap outs succs u (set outs m 1) succs (omega (arith, o)) (λ k l. refl)

    pub stored-node : Stored M cap (set nodes n m) (n + 1) (set outs m 1) succs edges
    stored-node =
        record {
          few = s.few;
          cap_few = s.cap_few;
          nodes_long = rw (length-set nodes n m) s.nodes_long;
          outs_long = rw (length-set outs m 1) s.outs_long;
          succs_long = s.succs_long;
          edges_long = s.edges_long;
          nodes_few = omega (arith, node-room);
          node_below = λ i l. below i l (eqb i n) refl;
          nodes_apart = rw nodes-now (distinct_more (take n nodes) m s.nodes_apart no_node);
          is_node = λ u l. rw (nodes-now, elem_more u m (take n nodes)) (is u l (eqb u m) refl);
          rows_fit = λ u l. fit u l (eqb u m) refl;
          succ_below = λ u k l r. succ u k l r (eqb u m) refl;
          rows_apart = λ u l. rw (rows-kept u) (s.rows_apart u l);
          edge_bits = λ u v l r. s.edge_bits u v l r ∙ ap (λ (xs : List ℕ). elem v xs) (sym (rows-kept u));
          succ_nodes = λ u v l e. rw nodes-now (more_kept v m (take n nodes) (s.succ_nodes u v l (rw (rows-kept u) at e)));
        }
      where
        inside : m < length outs
        inside = omega (arith, s.outs_long)

        below : (i : ℕ) → i < n + 1 → (b : Bool) → eqb i n ≡ b → get_or (set nodes n m) i 0 < M
        below i l true e = rw (eqb-true i n e, get_or-set_same nodes n m 0 (omega (arith, s.nodes_long, node-room))) h
        below i l false e = let d = eqb-false i n e in rw (get_or-set_other nodes n i m 0 d) (s.node_below i (omega (arith, d)))

        is : (u : ℕ) → u < M → (b : Bool) → eqb u m ≡ b → (b || elem u (take n nodes)) ≡ ltb 0 (get_or (set outs m 1) u 0)
        is u l true e = rw (eqb-true u m e, get_or-set_same outs m 1 0 inside)
        is u l false e = s.is_node u l ∙ ap (λ (x : ℕ). ltb 0 x) (sym (get_or-set_other outs m u 1 0 (eqb-false u m e)))

        fit : (u : ℕ) → u < M → (b : Bool) → eqb u m ≡ b → get_or (set outs m 1) u 0 ≤ cap + 1
        fit u l true e = rw (eqb-true u m e, get_or-set_same outs m 1 0 inside) (omega arith)
        fit u l false e = rw (get_or-set_other outs m u 1 0 (eqb-false u m e)) (s.rows_fit u l)

        succ : (u k : ℕ) → u < M → k < get_or (set outs m 1) u 0 - 1 → (b : Bool) → eqb u m ≡ b → get_or succs (u * cap + k) 0 < M
        succ u k l r true e = let o : get_or (set outs m 1) u 0 ≡ 1 = rw (eqb-true u m e) (get_or-set_same outs m 1 0 inside) in absurd (omega (arith, o, r))
        succ u k l r false e = let o = get_or-set_other outs m u 1 0 (eqb-false u m e) in s.succ_below u k l (omega (arith, o, r))

-- A node is put: the rows hold it, and the successors are as before.
pub record Placed (M cap m : ℕ) (nodes₀ : List ℕ) (n₀ : ℕ) (outs₀ nodes : List ℕ) (n : ℕ) (outs succs edges : List ℕ) : Type 0 where
  pub stored : Stored M cap nodes n outs succs edges
  pub nodes_are : take n nodes ≡ put m (take n₀ nodes₀)
  pub rows_are : (u : ℕ) → row_of cap outs succs u ≡ row_of cap outs₀ succs u
  pub more : (u : ℕ) → get_or outs₀ u 0 ≤ get_or outs u 0
  pub is_put : 0 < get_or outs m 0

module _ {M cap : ℕ} {nodes₀ : List ℕ} {n₀ : ℕ} {outs₀ succs edges : List ℕ} (s : Stored M cap nodes₀ n₀ outs₀ succs edges) (m : ℕ) (h : m < M) where
  placed_old : 0 < get_or outs₀ m 0 → Placed M cap m nodes₀ n₀ outs₀ nodes₀ n₀ outs₀ succs edges
  placed_old o =
      record {
        stored = s;
        nodes_are = sym (put_there m (take n₀ nodes₀) (node_if s m h o));
        rows_are = λ u. refl;
        more = λ u. omega arith;
        is_put = o;
      }

  placed_new : get_or outs₀ m 0 ≡ 0 → Placed M cap m nodes₀ n₀ outs₀ (set nodes₀ n₀ m) (n₀ + 1) (set outs₀ m 1) succs edges
  placed_new z =
      record {
        stored = stored-node s m h z;
        nodes_are = nodes-now s m h z ∙ sym (put_new m (take n₀ nodes₀) (no_node s m h z));
        rows_are = λ u. rows-kept s m h z u;
        more = λ u. at u (eqb u m) refl;
        is_put = rw (get_or-set_same outs₀ m 1 0 inside) (omega arith);
      }
    where
      inside : m < length outs₀
      inside = omega (arith, s.outs_long)

      at : (u : ℕ) (b : Bool) → eqb u m ≡ b → get_or outs₀ u 0 ≤ get_or (set outs₀ m 1) u 0
      at u true e = let q : get_or outs₀ u 0 ≡ 0 = rw (eqb-true u m e) z in omega (arith, q)
      at u false e = omega (arith, get_or-set_other outs₀ m u 1 0 (eqb-false u m e))

  pub placed : {nodes outs : List ℕ} {n : ℕ} → Put m n₀ nodes₀ outs₀ nodes outs n → Placed M cap m nodes₀ n₀ outs₀ nodes n outs succs edges
  placed {nodes} {outs} {n} p = go (ltb 0 (get_or outs₀ m 0)) refl
    where
      go : (b : Bool) → ltb 0 (get_or outs₀ m 0) ≡ b → Placed M cap m nodes₀ n₀ outs₀ nodes n outs succs edges
      go true e = let o = ltb-true 0 (get_or outs₀ m 0) e in let r = p.old o in rw (r.0, r.1, r.2) (placed_old o)
      go false e = let l = ltb-false 0 (get_or outs₀ m 0) e in let z : get_or outs₀ m 0 ≡ 0 = omega (arith, l) in let r = p.new z in rw (r.0, r.1, r.2) (placed_new z)

-- Both ends of an edge are put.
pub record Ends (M cap from to : ℕ) (nodes₀ : List ℕ) (n₀ : ℕ) (outs₀ nodes : List ℕ) (n : ℕ) (outs succs edges : List ℕ) : Type 0 where
  pub stored : Stored M cap nodes n outs succs edges
  pub nodes_are : take n nodes ≡ put to (put from (take n₀ nodes₀))
  pub rows_are : (u : ℕ) → row_of cap outs succs u ≡ row_of cap outs₀ succs u
  pub from_put : 0 < get_or outs from 0
  pub to_put : 0 < get_or outs to 0

pub ends : {M cap from to : ℕ} {nodes₀ : List ℕ} {n₀ : ℕ} {outs₀ nodes₁ : List ℕ} {n₁ : ℕ} {outs₁ nodes : List ℕ} {n : ℕ} {outs succs edges : List ℕ}
    → Placed M cap from nodes₀ n₀ outs₀ nodes₁ n₁ outs₁ succs edges → Placed M cap to nodes₁ n₁ outs₁ nodes n outs succs edges → Ends M cap from to nodes₀ n₀ outs₀ nodes n outs succs edges
ends {from = from} {to = to} p q =
    record {
      stored = q.stored;
      nodes_are = q.nodes_are ∙ ap (put to) p.nodes_are;
      rows_are = λ u. q.rows_are u ∙ p.rows_are u;
      from_put = omega (arith, p.is_put, q.more from);
      to_put = q.is_put;
    }

-- one after the other
pub both_ends : {M cap from to : ℕ} {nodes₀ : List ℕ} {n₀ : ℕ} {outs₀ nodes₁ : List ℕ} {n₁ : ℕ} {outs₁ nodes : List ℕ} {n : ℕ} {outs succs edges : List ℕ}
    → Stored M cap nodes₀ n₀ outs₀ succs edges → (from < M) × (to < M) → Put from n₀ nodes₀ outs₀ nodes₁ outs₁ n₁ → Put to n₁ nodes₁ outs₁ nodes outs n
    → Ends M cap from to nodes₀ n₀ outs₀ nodes n outs succs edges
both_ends s h p q = let o = placed s _ h.0 p in ends o (placed o.stored _ h.1 q)

-- the ordering in memory with an edge more, by its parts
ordering_added : (M cap from to : ℕ) (v nodes₀ : List ℕ) (n₀ : ℕ) (outs₀ succs₀ nodes : List ℕ) (n : ℕ) (outs succs : List ℕ)
    → take n nodes ≡ put to (put from (take n₀ nodes₀)) → ((u : ℕ) → succs_in M cap outs succs u ≡ put_succ from to (succs_in M cap outs₀ succs₀) u)
    → ordering_in M cap v nodes n outs succs ≡ add_edge from to (ordering_in M cap v nodes₀ n₀ outs₀ succs₀)
unfolding ordering_in add_edge
ordering_added M cap from to v nodes₀ n₀ outs₀ succs₀ nodes n outs succs p q =
    λ i. record { visited = bit_at v; nodes = p i; succs = λ u. q u i }

-- successors with one of `from` more, where the rows are so
succs_added : (M cap from to : ℕ) (outs₀ succs₀ outs succs : List ℕ) → from < M → row_of cap outs succs from ≡ put to (row_of cap outs₀ succs₀ from)
    → ((u : ℕ) → u < M → (u ≡ from → ⊥) → row_of cap outs succs u ≡ row_of cap outs₀ succs₀ u) → (u : ℕ) → succs_in M cap outs succs u ≡ put_succ from to (succs_in M cap outs₀ succs₀) u
unfolding succs_in put_succ
succs_added M cap from to outs₀ succs₀ outs succs h here there u = go (eqb u from) refl (ltb u M) refl
  where
    go : (b : Bool) → eqb u from ≡ b → (c : Bool) → ltb u M ≡ c → succs_in M cap outs succs u ≡ put_succ from to (succs_in M cap outs₀ succs₀) u
    go true e true l = rw (e, l, put_succ, succs_in) (rw (eqb-true u from e) here)
    go true e false l = let q = eqb-true u from e in let r = ltb-false u M l in absurd (omega (arith, q, r))
    go false e true l = rw (e, l, put_succ, succs_in) (there u (ltb-true u M l) (eqb-false u from e))
    go false e false l = rw (e, l, put_succ, succs_in)

module _ {M cap from to : ℕ} {nodes₀ : List ℕ} {n₀ : ℕ} {outs₀ nodes : List ℕ} {n : ℕ} {outs succs edges : List ℕ}
    (t : Ends M cap from to nodes₀ n₀ outs₀ nodes n outs succs edges) (hf : from < M) (ht : to < M) where
  row₀ : (b : Bool) → bit_at edges (to * M + from) ≡ b → elem to (row_of cap outs₀ succs from) ≡ b
  row₀ b e = ap (λ (xs : List ℕ). elem to xs) (sym (t.rows_are from)) ∙ sym (t.stored.edge_bits from to hf ht) ∙ e

  -- the edge is there
  pub edge_there : bit_at edges (to * M + from) ≡ true → (v : List ℕ) → Holds M cap (add_edge from to (ordering_in M cap v nodes₀ n₀ outs₀ succs)) v nodes outs succs edges (Nodes n)
  edge_there e v =
      record {
        stored = λ k q. let z : n ≡ k = cc in rw (sym z) t.stored;
        is = λ k q. let z : n ≡ k = cc in rw (sym z)
            (ordering_added M cap from to v nodes₀ n₀ outs₀ succs nodes n outs succs t.nodes_are
            (succs_added M cap from to outs₀ succs outs succs hf (t.rows_are from ∙ sym (put_there to (row_of cap outs₀ succs from) (row₀ true e))) (λ u l d. t.rows_are u)));
        too_many = λ q. let z : ◌≡◌ {A = ℕ} 0 1 = cc in absurd (omega arith);
      }

  module _ (e : bit_at edges (to * M + from) ≡ false) where
    absent : elem to (row_of cap outs succs from) ≡ false
    absent = sym (t.stored.edge_bits from to hf ht) ∙ e

    row_apart : Distinct (row_of cap outs succs from ++ to ∷ [])
    row_apart = distinct_more (row_of cap outs succs from) to (t.stored.rows_apart from hf) absent

    -- there is no room for it
    pub edge-full : (count : ℕ) → count ≡ get_or outs from 0 - 1 → count ≡ cap → (v : List ℕ) (nodes' outs' succs' edges' : List ℕ) (s : Ordering) → Holds M cap s v nodes' outs' succs' edges' Full
    edge-full count o q v nodes' outs' succs' edges' s =
        let f = distinct_few M (row_of cap outs succs from ++ to ∷ []) row_apart (λ x i. ⊎_elim (λ z. rw z ht) (λ j. succ_small t.stored from hf x j) (more_cases x to (row_of cap outs succs from) i)) in
        let l = length-append (row_of cap outs succs from) (to ∷ []) in
        record {
          stored = λ k z. let y : ◌≡◌ {A = ℕ} 0 1 = cc in absurd (omega arith);
          is = λ k z. let y : ◌≡◌ {A = ℕ} 0 1 = cc in absurd (omega arith);
          too_many = λ z. omega (arith, f, l, row-length cap outs succs from);
        }

    -- it is added
    module _ (count x : ℕ) (o : count ≡ get_or outs from 0 - 1) (r : count ≡ cap → ⊥) (w : x ≡ to) (edges' : List ℕ)
        (bits : (j : ℕ) → bit_at edges' j ≡ (eqb j (to * M + from) || bit_at edges j)) (same : length edges' ≡ length edges) where
      outs' : List ℕ
      outs' = set outs from (count + 2)

      succs' : List ℕ
      succs' = set succs (from * cap + count) x

      out-is : get_or outs from 0 ≡ count + 1
      out-is = omega (arith, o, t.from_put)

      fits : count < cap
      fits = omega (arith, out-is, t.stored.rows_fit from hf, r)

      out-here : get_or outs' from 0 ≡ count + 2
      unfolding outs'
      out-here = get_or-set_same outs from (count + 2) 0 (omega (arith, t.stored.outs_long))

      out-there : (u : ℕ) → (u ≡ from → ⊥) → get_or outs' u 0 ≡ get_or outs u 0
      unfolding outs'
      out-there u d = get_or-set_other outs from u (count + 2) 0 d

      cell-here : get_or succs' (from * cap + count) 0 ≡ to
      unfolding succs'
      cell-here = get_or-set_same succs (from * cap + count) x 0 (omega (arith, t.stored.succs_long, cell_below M cap from count hf fits)) ∙ w

      cell-before : (k : ℕ) → k < count → get_or succs' (from * cap + k) 0 ≡ get_or succs (from * cap + k) 0
      unfolding succs'
      cell-before k l = get_or-set_other succs (from * cap + count) (from * cap + k) x 0 (λ q. omega (arith, q))

      cell-there : (u k : ℕ) → u < M → (u ≡ from → ⊥) → k < get_or outs u 0 - 1 → get_or succs' (u * cap + k) 0 ≡ get_or succs (u * cap + k) 0
      unfolding succs'
      cell-there u k h d l =
          let b : k < cap = omega (arith, t.stored.rows_fit u h) in
          get_or-set_other succs (from * cap + count) (u * cap + k) x 0 (eqb-false (u * cap + k) (from * cap + count) (cell_other_row cap u k from count b fits d))

      row_here : row_of cap outs' succs' from ≡ row_of cap outs succs from ++ to ∷ []
      row_here = row_more cap outs succs from outs' succs' count to out-is out-here cell-before cell-here

      row-there : (u : ℕ) → u < M → (u ≡ from → ⊥) → row_of cap outs' succs' u ≡ row_of cap outs succs u
      row-there u h d = row_same cap outs succs u outs' succs' (ap (λ (k : ℕ). k - 1) (out-there u d)) (λ k l. cell-there u k h d l)

      -- each module is the edge's first end or another one
      by_row : (P : ℕ → Type 0) → P from → ((u : ℕ) → u < M → (u ≡ from → ⊥) → P u) → (u : ℕ) → u < M → P u
      by_row P a b u h = go (eqb u from) refl
        where
          go : (c : Bool) → eqb u from ≡ c → P u
          go true q = rw (eqb-true u from q) a
          go false q = b u h (eqb-false u from q)

      stored-edge : Stored M cap nodes n outs' succs' edges'
      unfolding outs' succs'
      stored-edge =
          record {
            few = t.stored.few;
            cap_few = t.stored.cap_few;
            nodes_long = t.stored.nodes_long;
            outs_long = rw (length-set outs from (count + 2)) t.stored.outs_long;
            succs_long = rw (length-set succs (from * cap + count) x) t.stored.succs_long;
            edges_long = rw same t.stored.edges_long;
            nodes_few = t.stored.nodes_few;
            node_below = t.stored.node_below;
            nodes_apart = t.stored.nodes_apart;
            is_node = by_row (λ u. elem u (take n nodes) ≡ ltb 0 (get_or outs' u 0))
                (node_if t.stored from hf t.from_put ∙ sym (lt-ltb 0 (get_or outs' from 0) (omega (arith, out-here))))
                (λ u h d. t.stored.is_node u h ∙ ap (λ (k : ℕ). ltb 0 k) (sym (out-there u d)));
            rows_fit = by_row (λ u. get_or outs' u 0 ≤ cap + 1) (omega (arith, out-here, fits)) (λ u h d. rw (out-there u d) (t.stored.rows_fit u h));
            succ_below = λ u k h. by_row (λ u. k < get_or outs' u 0 - 1 → get_or succs' (u * cap + k) 0 < M) (λ l. here k (omega (arith, l, out-here)) (eqb k count) refl)
                (λ u h d l. let b : k < get_or outs u 0 - 1 = omega (arith, l, out-there u d) in rw (cell-there u k h d b) (t.stored.succ_below u k h b)) u h;
            rows_apart = by_row (λ u. Distinct (row_of cap outs' succs' u)) (rw row_here row_apart) (λ u h d. rw (row-there u h d) (t.stored.rows_apart u h));
            edge_bits = λ u v h l. by_row (λ u. bit_at edges' (v * M + u) ≡ elem v (row_of cap outs' succs' u))
                (bits (v * M + from) ∙ (rw (cell_eqb M v from to from hf hf refl, t.stored.edge_bits from v hf l, row_here, elem_more v to (row_of cap outs succs from))))
                (λ u h d. bits (v * M + u) ∙ (rw (cell_column M v u to from h hf d, t.stored.edge_bits u v h l, row-there u h d))) u h;
            succ_nodes = λ u v h. by_row (λ u. elem v (row_of cap outs' succs' u) ≡ true → elem v (take n nodes) ≡ true)
                (λ i. ⊎_elim (λ q. rw q (node_if t.stored to ht t.to_put)) (λ j. t.stored.succ_nodes from v hf j) (more_cases v to (row_of cap outs succs from) (rw row_here at i)))
                (λ u h d i. t.stored.succ_nodes u v h (rw (row-there u h d) at i)) u h;
          }
        where
          here : (k : ℕ) → k < count + 1 → (b : Bool) → eqb k count ≡ b → get_or succs' (from * cap + k) 0 < M
          here k l true q = rw (eqb-true k count q, cell-here) ht
          here k l false q = let d = eqb-false k count q in let b : k < count = omega (arith, d) in rw (cell-before k b) (t.stored.succ_below from k hf (omega (arith, out-is)))

      pub edge-added : (v : List ℕ) → Holds M cap (add_edge from to (ordering_in M cap v nodes₀ n₀ outs₀ succs)) v nodes (set outs from (count + 2)) (set succs (from * cap + count) x) edges' (Nodes n)
      unfolding outs' succs'
      edge-added v =
          record {
            stored = λ k q. let z : n ≡ k = cc in rw (sym z) stored-edge;
            is = λ k q. let z : n ≡ k = cc in rw (sym z)
                (ordering_added M cap from to v nodes₀ n₀ outs₀ succs nodes n outs' succs' t.nodes_are
                (succs_added M cap from to outs₀ succs outs' succs' hf
                (row_here ∙ (rw (t.rows_are from, put_new to (row_of cap outs₀ succs from) (row₀ false e))))
                (λ u l d. row-there u l d ∙ t.rows_are u)));
            too_many = λ q. let z : ◌≡◌ {A = ℕ} 0 1 = cc in absurd (omega arith);
          }
