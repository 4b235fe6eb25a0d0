-- The stored graph: its nodes and edges, and what the bits of its edges say.
use Prim.Native.Nat.{ℕ, zero, suc, ◌+◌, ◌-◌, ◌*◌, ◌<◌, ◌≤◌}
use mathlib.Core.Path.{◌≡◌, refl, ap, ◌∙◌, sym, subst}
use mathlib.Core.Bool.{Bool, true, false, ◌||◌}
use mathlib.Core.List.{List, [], ◌∷◌}
use native.Mathlib.Omega.{arith}
use borrow.Author.Tests.{lt-ltb, ltb-true, ltb-false}
use lib.Dec.{eqb, ltb}
use lib.ListN.{get_or, take}
use lib.Seq.{get_or-take, length-take-le}
use Rattle.bit_row.specs.Row.{bit_at}
use Rattle.graph_access.specs.Words.{tabulate}
use Rattle.keep_record.specs.Lines.{elem}
use Rattle.keep_record.proofs.Counting.{elem_place}
use Rattle.entry_order.specs.Order.{those}
use Rattle.entry_graph.specs.Memory.{row_of, succs_in, Stored}
use Rattle.cycles.specs.Search.{none, finished}
use Rattle.cycles.specs.Cycles.{Edge, preds, groups, cycled}
use Rattle.cycles.specs.Memory.{last_first, Found}
use Rattle.cycles.specs.Walked.{Forward, preds_in, Marked}
use Rattle.cycles.proofs.Members.{In, in_none, never_both, refuted}
use Rattle.cycles.proofs.Strong.{finished_roots}
use Rattle.cycles.proofs.Groups.{in_last}

-- ---- tests that agree

those_same : (f h : ℕ → Bool) (i n : ℕ) → ((u : ℕ) → i ≤ u → u < i + n → f u ≡ h u) → those f (tabulate (λ u. u) i n) ≡ those h (tabulate (λ u. u) i n)
unfolding those tabulate
those_same f h i zero e = refl
those_same f h i (suc n) e = go (h i) refl (those_same f h (i + 1) n (λ u a b. e u (omega arith) (omega arith)))
  where
    go : (b : Bool) → h i ≡ b → those f (tabulate (λ u. u) (i + 1) n) ≡ those h (tabulate (λ u. u) (i + 1) n) → those f (i ∷ tabulate (λ u. u) (i + 1) n) ≡ those h (i ∷ tabulate (λ u. u) (i + 1) n)
    go true q r = let t : f i ≡ true = e i (omega arith) (omega arith) ∙ q in rw (t, q, those, r)
    go false q r = let t : f i ≡ false = e i (omega arith) (omega arith) ∙ q in rw (t, q, those, r)

those_none : (f : ℕ → Bool) (i n : ℕ) → ((u : ℕ) → f u ≡ false) → those f (tabulate (λ u. u) i n) ≡ []
unfolding those tabulate
those_none f i zero e = refl
those_none f i (suc n) e = rw (e i, those) (those_none f (i + 1) n e)

row_empty : (cap : ℕ) (outs succs : List ℕ) (u v : ℕ) → elem v (row_of cap outs succs u) ≡ true → 0 < get_or outs u 0
unfolding row_of tabulate elem
row_empty cap outs succs u v i = go (ltb 0 (get_or outs u 0)) refl
  where
    go : (b : Bool) → ltb 0 (get_or outs u 0) ≡ b → 0 < get_or outs u 0
    go true e = ltb-true 0 (get_or outs u 0) e
    go false e =
        let l = ltb-false 0 (get_or outs u 0) e in
        let z : get_or outs u 0 - 1 ≡ 0 = omega (arith, l) in
        absurd (never_both (rw (z, tabulate, elem) at i) refl)

-- ---- the stored graph

module _ {modules cap : ℕ} {nodes : List ℕ} {n : ℕ} {outs succs edges : List ℕ} (s : Stored modules cap nodes n outs succs edges) where
  pub stored_forward : Forward modules cap outs succs
  stored_forward =
      record { few = s.few; cap_few = s.cap_few; outs_long = s.outs_long; succs_long = s.succs_long; rows_fit = s.rows_fit; succ_below = s.succ_below }

  pub stored_below : (x : ℕ) → elem x (take n nodes) ≡ true → x < modules
  stored_below x i =
      let r = elem_place x (take n nodes) i in
      let l = length-take-le n nodes (let a = s.nodes_long in let b = s.nodes_few in omega (arith, a, b)) in
      let h : r.0 < n = (let q = r.1 in omega (arith, l, q)) in
      let e : x ≡ get_or nodes r.0 0 = r.2 ∙ get_or-take n nodes r.0 0 h in
      rw e (s.node_below r.0 h)

  row_of_lem : (u : ℕ) → u < modules → succs_in modules cap outs succs u ≡ row_of cap outs succs u
  unfolding succs_in
  row_of_lem u h = rw (lt-ltb u modules h, succs_in)

  from_below : (u v : ℕ) → Edge (succs_in modules cap outs succs) u v → u < modules
  unfolding succs_in
  from_below u v i = go (ltb u modules) refl
    where
      go : (b : Bool) → ltb u modules ≡ b → u < modules
      go true e = ltb-true u modules e
      go false e = absurd (in_none v (rw (e, succs_in) at i))

  -- both ends of an edge are nodes
  pub stored_ends : (u v : ℕ) → Edge (succs_in modules cap outs succs) u v → (elem u (take n nodes) ≡ true) × (elem v (take n nodes) ≡ true)
  stored_ends u v i =
      let h = from_below u v i in
      let j : elem v (row_of cap outs succs u) ≡ true = rw (row_of_lem u h) at i in
      (s.is_node u h ∙ lt-ltb 0 (get_or outs u 0) (row_empty cap outs succs u v j), s.succ_nodes u v h j)

  -- the bits say the same as the rows of successors
  preds_at : (v : ℕ) → preds_in modules edges v ≡ preds (succs_in modules cap outs succs) modules v
  unfolding preds_in preds
  preds_at v = go (ltb v modules) refl
    where
      go : (b : Bool) → ltb v modules ≡ b → preds_in modules edges v ≡ those (λ u. elem v (succs_in modules cap outs succs u)) (tabulate (λ u. u) 0 modules)
      go true e =
          rw (e, preds_in) (those_same (λ u. bit_at edges (v * modules + u)) (λ u. elem v (succs_in modules cap outs succs u)) 0 modules
          (λ u a b. s.edge_bits u v (omega arith) (ltb-true v modules e) ∙ ap (λ (xs : List ℕ). elem v xs) (sym (row_of_lem u (omega arith)))))
      go false e =
          rw (e, preds_in) (sym (those_none (λ u. elem v (succs_in modules cap outs succs u)) 0 modules
          (λ u. refuted (elem v (succs_in modules cap outs succs u)) (λ i. let l = stored_below v (stored_ends u v i).1 in let k = ltb-false v modules e in omega (arith, l, k)))))

  pub preds_same : preds_in modules edges ≡ preds (succs_in modules cap outs succs) modules
  preds_same = λ i. λ v. preds_at v i

  module _ (order : List ℕ) (count : ℕ) (done : last_first count order ≡ finished (succs_in modules cap outs succs) modules (take n nodes)) where
    pub order_below : (i : ℕ) → i < count → get_or order i 0 < modules
    order_below i h =
        let j : In (finished (succs_in modules cap outs succs) modules (take n nodes)) (get_or order i 0) = subst (λ (xs : List ℕ). In xs (get_or order i 0)) done (in_last i count order h) in
        stored_below (get_or order i 0) (sym (finished_roots (succs_in modules cap outs succs) modules (take n nodes) stored_below stored_ends (get_or order i 0)) ∙ j)

    pub all_found : (at : ℕ) (plan₀ plan : List ℕ) → count ≤ modules → ((m : ℕ) → m < modules → get_or plan₀ (at + m) 0 ≡ 0)
        → Marked (groups (preds_in modules edges) modules (last_first count order) none) modules at plan₀ plan → Found (succs_in modules cap outs succs) modules (take n nodes) at plan₀ order plan count
    unfolding cycled
    all_found at plan₀ plan few zeros k =
        record {
          count_few = few;
          completed = done;
          cycles = λ m h.
              k.set m h ∙ ap (λ (x : ℕ). elem m (groups (preds_in modules edges) modules (last_first count order) none) || eqb x 1) (zeros m h)
              ∙ or_none (elem m (groups (preds_in modules edges) modules (last_first count order) none))
              ∙ ap (λ (xs : List ℕ). elem m (groups (preds_in modules edges) modules xs none)) done
              ∙ ap (λ (p : ℕ → List ℕ). elem m (groups p modules (finished (succs_in modules cap outs succs) modules (take n nodes)) none)) preds_same;
          others = k.others;
        }
      where
        or_none : (b : Bool) → (b || false) ≡ b
        or_none true = refl
        or_none false = refl
