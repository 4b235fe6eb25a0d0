-- An edge added to the Rust's graph is an edge added to ours: nodes and successors agree.
use Prim.Native.Nat.{ℕ}
use mathlib.Core.Path.{◌≡◌, refl, ap, ◌∙◌, sym}
use mathlib.Core.Logic.{◌⊎◌, inl, inr, ⊎_elim}
use mathlib.Core.Bool.{Bool, true, false, ◌&&◌, ◌||◌}
use mathlib.Core.List.{List, [], ◌∷◌, ◌++◌, map, append-nil}
use borrow.Author.Tests.{eqb-true, eq-eqb}
use lib.Dec.{eqb}
use Rattle.keep_record.specs.Lines.{elem}
use Rattle.keep_record.proofs.Adding.{eqb_turned}
use Rattle.entry_graph.specs.Ordering.{Ordering, put, put_succ}
use Rattle.entry_graph.specs.Ordering as ours
use Rattle.entry_graph.proofs.Edges.{put_there, put_new}
use Rattle.entry_graph.proofs.Successors.{more_cases, more_kept, more_last}
use Rattle.cycles.proofs.Members.{never_both}
use Rattle.rust_values.specs.Values.{Pair, pair, has_pair, filter}
use Rattle.rust_order.specs.DynamicEntries.{DiGraphMap, no_graph, insert_node, add_edge, neighbors, Walking, insert_visited, with_edge}

-- ---- tests

pub eqb_same : (a b : ℕ) → eqb a b ≡ eqb b a
eqb_same a b = go (eqb a b) refl
  where
    go : (t : Bool) → eqb a b ≡ t → t ≡ eqb b a
    go true e = sym (eq-eqb b a (sym (eqb-true a b e)))
    go false e = sym (eqb_turned a b e)

or_true : (a b : Bool) → (a || b) ≡ true → (a ≡ true) ⊎ (b ≡ true)
or_true true b e = inl refl
or_true false b e = inr e

and_both : (a b : Bool) → (a && b) ≡ true → (a ≡ true) × (b ≡ true)
and_both true b e = (refl, e)
and_both false b e = absurd (never_both e refl)

-- ---- pairs of a list

module _ (a : ℕ) where
  abbrev from : List Pair → List ℕ
  from ps = map (λ p. p.second) (filter (λ p. eqb p.first a) ps)

  from-append : (ps : List Pair) (p : Pair) → from (ps ++ (p ∷ [])) ≡ from ps ++ from (p ∷ [])
  unfolding filter
  from-append [] p = refl
  from-append (q ∷ ps) p = go (eqb q.first a) refl (from-append ps p)
    where
      go : (t : Bool) → eqb q.first a ≡ t → from (ps ++ (p ∷ [])) ≡ from ps ++ from (p ∷ []) → from (q ∷ (ps ++ (p ∷ []))) ≡ from (q ∷ ps) ++ from (p ∷ [])
      go true e r = rw (e, filter) (ap (λ (xs : List ℕ). q.second ∷ xs) r)
      go false e r = rw (e, filter) r

  from_has : (b : ℕ) (ps : List Pair) → has_pair a b ps ≡ elem b (from ps)
  unfolding has_pair filter elem
  from_has b [] = refl
  from_has b (p ∷ ps) = go (eqb a p.first) refl (from_has b ps)
    where
      go : (t : Bool) → eqb a p.first ≡ t → has_pair a b ps ≡ elem b (from ps) → has_pair a b (p ∷ ps) ≡ elem b (from (p ∷ ps))
      go true e r = let f : eqb p.first a ≡ true = eqb_same p.first a ∙ e in rw (e, f, filter, elem) (ap (λ (x : Bool). eqb b p.second || x) r)
      go false e r = let f : eqb p.first a ≡ false = eqb_same p.first a ∙ e in rw (e, f, filter) r

-- ---- one more node

module _ (x : ℕ) (xs : List ℕ) where
  put_has : elem x (put x xs) ≡ true
  put_has = go (elem x xs) refl
    where
      go : (b : Bool) → elem x xs ≡ b → elem x (put x xs) ≡ true
      go true e = rw (put_there x xs e) e
      go false e = rw (put_new x xs e) (more_last x xs)

  put_keeps : (y : ℕ) → elem y xs ≡ true → elem y (put x xs) ≡ true
  put_keeps y i = go (elem x xs) refl
    where
      go : (b : Bool) → elem x xs ≡ b → elem y (put x xs) ≡ true
      go true e = rw (put_there x xs e) i
      go false e = rw (put_new x xs e) (more_kept y x xs i)

  put_cases : (y : ℕ) → elem y (put x xs) ≡ true → (y ≡ x) ⊎ (elem y xs ≡ true)
  put_cases y i = go (elem x xs) refl
    where
      go : (b : Bool) → elem x xs ≡ b → (y ≡ x) ⊎ (elem y xs ≡ true)
      go true e = inr (rw (put_there x xs e) at i)
      go false e = more_cases y x xs (rw (put_new x xs e) at i)

-- ---- the Rust's state as ours

unfoldable pub ordering_of : Walking → Ordering
ordering_of w = record { visited = λ m. elem m w.visited; nodes = w.graph.nodes; succs = neighbors w.graph }

-- both ends of an edge are nodes
abbrev pub Ends : DiGraphMap → Type 0
Ends d = (a b : ℕ) → elem b (neighbors d a) ≡ true → (elem a d.nodes ≡ true) × (elem b d.nodes ≡ true)

pub visit_same : (m : ℕ) (w : Walking) → ordering_of (insert_visited m w) ≡ ours.visit m (ordering_of w)
unfolding ordering_of insert_visited ours.visit elem
visit_same m w = refl

module _ (a b : ℕ) (d : DiGraphMap) where
  has_edge : has_pair a b d.edges ≡ elem b (neighbors d a)
  unfolding neighbors
  has_edge = from_has a b d.edges

  edge_nodes : Ends d → (add_edge a b d).nodes ≡ put b (put a d.nodes)
  unfolding add_edge insert_node put
  edge_nodes h = go (has_pair a b d.edges) refl
    where
      go : (t : Bool) → has_pair a b d.edges ≡ t → (add_edge a b d).nodes ≡ put b (put a d.nodes)
      go true e = let p = h a b (sym has_edge ∙ e) in rw (e, add_edge, put_there a d.nodes p.0, put_there b d.nodes p.1)
      go false e = rw (e, add_edge)

  there_already : (u : ℕ) → has_pair a b d.edges ≡ true → neighbors (add_edge a b d) u ≡ neighbors d u
  unfolding add_edge
  there_already u e = rw (e, add_edge)

  behind : (u : ℕ) → has_pair a b d.edges ≡ false → neighbors (add_edge a b d) u ≡ neighbors d u ++ from u (pair a b ∷ [])
  unfolding add_edge neighbors
  behind u e = rw (e, add_edge) (from-append u d.edges (pair a b))

  edge_succs : (u : ℕ) → neighbors (add_edge a b d) u ≡ put_succ a b (neighbors d) u
  unfolding put_succ filter
  edge_succs u = go (has_pair a b d.edges) refl (eqb u a) refl
    where
      has : (t : Bool) → has_pair a b d.edges ≡ t → eqb u a ≡ true → elem b (neighbors d u) ≡ t
      has t e q = rw (eqb-true u a q) (sym has_edge ∙ e)

      go : (t : Bool) → has_pair a b d.edges ≡ t → (c : Bool) → eqb u a ≡ c → neighbors (add_edge a b d) u ≡ put_succ a b (neighbors d) u
      go true e true q = there_already u e ∙ sym (put_there b (neighbors d u) (has true e q)) ∙ (rw (q, put_succ))
      go true e false q = there_already u e ∙ (rw (q, put_succ))
      go false e true q =
          let r : eqb a u ≡ true = eqb_same a u ∙ q in
          let o : from u (pair a b ∷ []) ≡ b ∷ [] = rw (r, filter) in
          behind u e ∙ ap (λ (xs : List ℕ). neighbors d u ++ xs) o ∙ sym (put_new b (neighbors d u) (has false e q)) ∙ (rw (q, put_succ))
      go false e false q =
          let r : eqb a u ≡ false = eqb_same a u ∙ q in
          let o : from u (pair a b ∷ []) ≡ [] = rw (r, filter) in
          behind u e ∙ ap (λ (xs : List ℕ). neighbors d u ++ xs) o ∙ append-nil (neighbors d u) ∙ (rw (q, put_succ))

  pub edge_ends : Ends d → Ends (add_edge a b d)
  unfolding put_succ
  edge_ends h u v e = rw (edge_nodes h) (go (eqb u a) refl)
    where
      kept : (x : ℕ) → elem x d.nodes ≡ true → elem x (put b (put a d.nodes)) ≡ true
      kept x i = put_keeps b (put a d.nodes) x (put_keeps a d.nodes x i)

      old : elem v (neighbors d u) ≡ true → (elem u (put b (put a d.nodes)) ≡ true) × (elem v (put b (put a d.nodes)) ≡ true)
      old i = let p = h u v i in (kept u p.0, kept v p.1)

      go : (t : Bool) → eqb u a ≡ t → (elem u (put b (put a d.nodes)) ≡ true) × (elem v (put b (put a d.nodes)) ≡ true)
      go true q =
          let i : elem v (put b (neighbors d u)) ≡ true = rw (edge_succs u, q, put_succ) at e in
          ⊎_elim
          (λ z. (rw (eqb-true u a q) (put_keeps b (put a d.nodes) a (put_has a d.nodes)), rw z (put_has b (put a d.nodes))))
          old (put_cases b (neighbors d u) v i)
      go false q = old (rw (edge_succs u, q, put_succ) at e)

pub edge_same : (a b : ℕ) (w : Walking) → Ends w.graph → ordering_of (with_edge a b w) ≡ ours.add_edge a b (ordering_of w)
unfolding ordering_of with_edge ours.add_edge
edge_same a b w h = λ i. record { visited = λ m. elem m w.visited; nodes = edge_nodes a b w.graph h i; succs = λ u. edge_succs a b w.graph u i }

pub none_ends : Ends no_graph
unfolding neighbors elem filter
none_ends a b e = absurd (never_both e refl)
