-- The ordering graph of a loaded graph is well made: its nodes are modules, each once, and both ends of an edge are nodes.
use Prim.Native.Nat.{ℕ, ◌<◌}
use mathlib.Core.Path.{◌≡◌, refl, ◌∙◌, sym}
use mathlib.Core.Logic.{◌⊎◌, inr, ⊎_elim}
use mathlib.Core.Bool.{Bool, true, false}
use mathlib.Core.List.{List, [], ◌∷◌, ◌++◌}
use native.Mathlib.Omega.{arith}
use borrow.Author.Tests.{eqb-true, eq-eqb}
use lib.Dec.{eqb}
use Rattle.graph_access.specs.graph_crate.Check.{Graph, graph_in}
use Rattle.graph_access.specs.graph_crate.Loaded.{Loaded}
use Rattle.graph_access.specs.Words.{tabulate}
use Rattle.graph_access.proofs.Indexes.{entry_module_below}
use Rattle.keep_record.specs.Lines.{elem}
use Rattle.keep_record.specs.Held.{Distinct}
use Rattle.keep_record.proofs.Rows.{tabulate-length, tabulate-at}
use Rattle.keep_record.proofs.Adding.{elem-append, distinct_more}
use Rattle.keep_record.proofs.Counting.{elem_place}
use Rattle.entry_order.specs.Order.{those, grouped_from, grouped, module_of_entry, is_dynamic, grouped_entries, dynamic_entries}
use Rattle.entry_graph.specs.Ordering.{Ordering, nothing, no_edges, no_ordering, put, put_succ, add_edge, visit, construct, from_entry, from_entries, entry_graph}
use Rattle.entry_graph.proofs.Successors.{both, or_cases, or_right, more_cases, more_kept, more_last}
use Rattle.entry_graph.proofs.Edges.{put_there, put_new}
use Rattle.entry_graph.proofs.Keeping.{construct-keeps}
use Rattle.entry_graph.proofs.Deep.{loaded_targets}

pub record Made (M : ℕ) (s : Ordering) : Type 0 where
  pub below : (u : ℕ) → elem u s.nodes ≡ true → u < M
  pub apart : Distinct s.nodes
  pub ends : (u v : ℕ) → elem v (s.succs u) ≡ true → (elem u s.nodes ≡ true) × (elem v s.nodes ≡ true)
  pub rows_apart : (u : ℕ) → Distinct (s.succs u)

-- one more in a list
module _ (x : ℕ) (xs : List ℕ) where
  put_has : elem x (put x xs) ≡ true
  put_has = go (elem x xs) refl
    where
      go : (b : Bool) → elem x xs ≡ b → elem x (put x xs) ≡ true
      go true e = rw (put_there x xs e) e
      go false e = rw (put_new x xs e) (more_last x xs)

  put_keeps : (y : ℕ) → elem y xs ≡ true → elem y (put x xs) ≡ true
  put_keeps y i = go (elem x xs) refl
    where
      go : (b : Bool) → elem x xs ≡ b → elem y (put x xs) ≡ true
      go true e = rw (put_there x xs e) i
      go false e = rw (put_new x xs e) (more_kept y x xs i)

  put_cases : (y : ℕ) → elem y (put x xs) ≡ true → (y ≡ x) ⊎ (elem y xs ≡ true)
  put_cases y i = go (elem x xs) refl
    where
      go : (b : Bool) → elem x xs ≡ b → (y ≡ x) ⊎ (elem y xs ≡ true)
      go true e = inr (rw (put_there x xs e) at i)
      go false e = more_cases y x xs (rw (put_new x xs e) at i)

  put_apart : Distinct xs → Distinct (put x xs)
  put_apart d = go (elem x xs) refl
    where
      go : (b : Bool) → elem x xs ≡ b → Distinct (put x xs)
      go true e = rw (put_there x xs e) d
      go false e = rw (put_new x xs e) (distinct_more xs x d e)

-- successors with an edge more
put_row : (from to : ℕ) (succs : ℕ → List ℕ) (u : ℕ) → u ≡ from → put_succ from to succs u ≡ put to (succs u)
unfolding put_succ
put_row from to succs u e = rw (eq-eqb u from e, put_succ)

put_other : (from to : ℕ) (succs : ℕ → List ℕ) (u : ℕ) → eqb u from ≡ false → put_succ from to succs u ≡ succs u
unfolding put_succ
put_other from to succs u e = rw (e, put_succ)

-- what a walk does keeps it well made
module _ (M : ℕ) where
  none_made : Made M no_ordering
  unfolding no_edges elem
  none_made = record { below = λ u e. absurd (both e refl); apart = _; ends = λ u v e. absurd (both e refl); rows_apart = λ u. _ }

  -- what was visited does not matter
  seen_made : (f : ℕ → Bool) (s : Ordering) → Made M s → Made M (record { visited = f; nodes = s.nodes; succs = s.succs })
  seen_made f s m = record { below = m.below; apart = m.apart; ends = m.ends; rows_apart = m.rows_apart }

  visit_made : (x : ℕ) (s : Ordering) → Made M s → Made M (visit x s)
  unfolding visit
  visit_made x s m = record { below = m.below; apart = m.apart; ends = m.ends; rows_apart = m.rows_apart }

  edge_made : (a b : ℕ) (s : Ordering) → a < M → b < M → Made M s → Made M (add_edge a b s)
  unfolding add_edge
  edge_made a b s h l m =
      record {
        below = λ u e. ⊎_elim (λ q. rw q l) (λ i. ⊎_elim (λ q. rw q h) (λ j. m.below u j) (put_cases a s.nodes u i)) (put_cases b (put a s.nodes) u e);
        apart = put_apart b (put a s.nodes) (put_apart a s.nodes m.apart);
        ends = λ u v e. two u v (eqb u a) refl e;
        rows_apart = λ u. row u (eqb u a) refl;
      }
    where
      ns : List ℕ
      ns = put b (put a s.nodes)

      kept : (u : ℕ) → elem u s.nodes ≡ true → elem u ns ≡ true
      kept u i = put_keeps b (put a s.nodes) u (put_keeps a s.nodes u i)

      first : elem a ns ≡ true
      first = put_keeps b (put a s.nodes) a (put_has a s.nodes)

      second : elem b ns ≡ true
      second = put_has b (put a s.nodes)

      old : (u v : ℕ) → elem v (s.succs u) ≡ true → (elem u ns ≡ true) × (elem v ns ≡ true)
      old u v e = let p = m.ends u v e in (kept u p.0, kept v p.1)

      two : (u v : ℕ) (c : Bool) → eqb u a ≡ c → elem v (put_succ a b s.succs u) ≡ true → (elem u ns ≡ true) × (elem v ns ≡ true)
      two u v true q e =
          let z = eqb-true u a q in
          ⊎_elim (λ y. (rw z first, rw y second)) (λ i. old u v i) (put_cases b (s.succs u) v (rw (put_row a b s.succs u z) at e))
      two u v false q e = old u v (rw (put_other a b s.succs u q) at e)

      row : (u : ℕ) (c : Bool) → eqb u a ≡ c → Distinct (put_succ a b s.succs u)
      row u true q = rw (put_row a b s.succs u (eqb-true u a q)) (put_apart b (s.succs u) (m.rows_apart u))
      row u false q = rw (put_other a b s.succs u q) (m.rows_apart u)

-- entries in their order are entries
those_in : (test : ℕ → Bool) (xs : List ℕ) (x : ℕ) → elem x (those test xs) ≡ true → elem x xs ≡ true
unfolding those elem
those_in test [] x e = e
those_in test (y ∷ ys) x e = go (test y) refl (those_in test ys x)
  where
    go : (b : Bool) → test y ≡ b → (elem x (those test ys) ≡ true → elem x ys ≡ true) → elem x (y ∷ ys) ≡ true
    go true q f = ⊎_elim (λ a. rw a) (λ i. or_right (eqb x y) (elem x ys) (f i)) (or_cases (eqb x y) (elem x (those test ys)) (rw (q, those, elem) at e))
    go false q f = or_right (eqb x y) (elem x ys) (f (rw (q, those) at e))

grouped_in : (key : ℕ → ℕ) (xs before : List ℕ) (x : ℕ) → elem x (grouped_from key before xs) ≡ true → elem x xs ≡ true
unfolding grouped_from elem
grouped_in key [] before x e = e
grouped_in key (y ∷ ys) before x e = go (elem (key y) before) refl (grouped_in key ys)
  where
    go : (b : Bool) → elem (key y) before ≡ b → ((seen : List ℕ) (z : ℕ) → elem z (grouped_from key seen ys) ≡ true → elem z ys ≡ true) → elem x (y ∷ ys) ≡ true
    go true q f = or_right (eqb x y) (elem x ys) (f before x (rw (q, grouped_from) at e))
    go false q f =
        let i : elem x ((y ∷ those (λ z. eqb (key z) (key y)) ys) ++ grouped_from key (key y ∷ before) ys) ≡ true = rw (q, grouped_from) at e in
        ⊎_elim
        (λ a. ⊎_elim (λ b. rw b) (λ b. or_right (eqb x y) (elem x ys) (those_in (λ z. eqb (key z) (key y)) ys x b)) (or_cases (eqb x y) (elem x (those (λ z. eqb (key z) (key y)) ys)) a))
        (λ a. or_right (eqb x y) (elem x ys) (f (key y ∷ before) x a))
        (or_cases _ _ (sym (elem-append x (y ∷ those (λ z. eqb (key z) (key y)) ys) (grouped_from key (key y ∷ before) ys)) ∙ i))

counted_in : (n x : ℕ) → elem x (tabulate (λ e. e) 0 n) ≡ true → x < n
counted_in n x e =
    let p = elem_place x (tabulate (λ e. e) 0 n) e in
    let l : p.0 < n = omega (arith, p.1, tabulate-length (λ (e : ℕ). e) 0 n) in
    let q = tabulate-at (λ (e : ℕ). e) 0 n p.0 0 l in
    omega (arith, p.2, q, l)

pub dynamic_below : (g : Graph) (e : ℕ) → elem e (dynamic_entries g) ≡ true → e < g.header.entries
unfolding dynamic_entries grouped_entries grouped
dynamic_below g e i = counted_in g.header.entries e (grouped_in (module_of_entry g) (tabulate (λ e. e) 0 g.header.entries) [] e (those_in (is_dynamic g) (grouped_entries g) e i))

-- The graph of entries whose modules are the graph's, over a graph that is well made.
module _ {numbers tables : List ℕ} (t : Loaded numbers tables) where
  abbrev modules : ℕ
  modules = (graph_in numbers).header.modules

  pub construct_made : (fuel root m : ℕ) (s : Ordering) → root < (graph_in numbers).header.modules → m < (graph_in numbers).header.modules → Made (graph_in numbers).header.modules s
      → Made (graph_in numbers).header.modules (construct (graph_in numbers) fuel root m s)
  construct_made fuel root m s = construct-keeps (λ u. u < modules) (Made modules) (edge_made modules) (graph_in numbers) (visit_made modules) (loaded_targets t) fuel root m s

  entries_made : (es : List ℕ) (s : Ordering) → ((e : ℕ) → elem e es ≡ true → module_of_entry (graph_in numbers) e < modules) → Made modules s → Made modules (from_entries (graph_in numbers) es s)
  unfolding from_entries from_entry elem
  entries_made [] s b m = m
  entries_made (e ∷ es) s b m =
      let h = b e (rw (eq-eqb e e refl)) in
      entries_made es _ (λ x i. b x (or_right (eqb x e) (elem x es) i)) (construct_made modules (module_of_entry (graph_in numbers) e) (module_of_entry (graph_in numbers) e) _ h h (seen_made modules nothing s m))

  pub entry_graph_made : Made (graph_in numbers).header.modules (entry_graph (graph_in numbers))
  unfolding entry_graph graph_in module_of_entry
  entry_graph_made = entries_made (dynamic_entries (graph_in numbers)) no_ordering (λ e i. entry_module_below t e (dynamic_below (graph_in numbers) e i)) (none_made modules)
