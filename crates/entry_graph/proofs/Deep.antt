-- The fuel never decides: each level of the walk visits one more module.
use Prim.Native.Nat.{ℕ, zero, suc, ◌-◌, ◌<◌, ◌≤◌}
use mathlib.Core.Path.{◌≡◌, refl, ap, ◌∙◌, sym}
use mathlib.Core.Bool.{Bool, true, false, ◌||◌}
use mathlib.Core.List.{List, [], ◌∷◌}
use native.Mathlib.Omega.{arith}
use borrow.Author.Tests.{eqb-true, eqb-false}
use lib.Dec.{eqb}
use Rattle.graph_access.specs.graph_crate.Check.{Graph, graph_in}
use Rattle.graph_access.specs.graph_crate.Loaded.{Loaded}
use Rattle.graph_access.specs.Names.{import_records, import_record_target, import_record_kind}
use Rattle.graph_access.specs.Words.{module_of, normal}
use Rattle.graph_access.proofs.Indexes.{record_target_below}
use Rattle.keep_record.specs.Lines.{elem}
use Rattle.entry_graph.specs.Ordering.{Ordering, add_edge, visit, dynamic_import, import_record, all_records, construct}
use Rattle.entry_graph.proofs.Successors.{both, or_right}
use Rattle.entry_graph.proofs.Keeping.{Target, Targets, targets, record-keeps, construct-keeps}

-- a loaded graph's records are resolved to modules
pub loaded_targets : {numbers tables : List ℕ} → Loaded numbers tables → (m : ℕ) → m < (graph_in numbers).header.modules
    → Targets (λ u. u < (graph_in numbers).header.modules) (import_records (module_of (graph_in numbers) m))
unfolding graph_in
loaded_targets {numbers} t m h = targets (λ u. u < (graph_in numbers).header.modules) (import_records (module_of (graph_in numbers) m)) (λ k l n. let b = record_target_below t m k h l in omega arith)

-- how many numbers below k are not in a set
unfoldable pub fresh : ℕ → (ℕ → Bool) → ℕ
fresh zero f = 0
fresh (suc k) f = elim (f k) [ true ↦ fresh k f | false ↦ suc (fresh k f) ]

fresh_most : (k : ℕ) (f : ℕ → Bool) → fresh k f ≤ k
unfolding fresh
fresh_most zero f = omega arith
fresh_most (suc k) f = go (f k) refl (fresh_most k f)
  where
    go : (b : Bool) → f k ≡ b → fresh k f ≤ k → fresh (suc k) f ≤ suc k
    go true e h = rw (e, fresh) (omega (arith, h))
    go false e h = rw (e, fresh) (omega (arith, h))

fresh_less : (k : ℕ) (f h : ℕ → Bool) → ((x : ℕ) → f x ≡ true → h x ≡ true) → fresh k h ≤ fresh k f
unfolding fresh
fresh_less zero f h i = omega arith
fresh_less (suc k) f h i = go (f k) refl (h k) refl (fresh_less k f h i)
  where
    go : (a : Bool) → f k ≡ a → (b : Bool) → h k ≡ b → fresh k h ≤ fresh k f → fresh (suc k) h ≤ fresh (suc k) f
    go true d true e l = rw (d, e, fresh) l
    go false d true e l = rw (d, e, fresh) (omega (arith, l))
    go false d false e l = rw (d, e, fresh) (omega (arith, l))
    go true d false e l = absurd (both (i k d) e)

-- one more in the set
with : ℕ → (ℕ → Bool) → ℕ → Bool
with m f x = eqb x m || f x

with_more : (m x : ℕ) (f : ℕ → Bool) → f x ≡ true → with m f x ≡ true
unfolding with
with_more m x f e = or_right (eqb x m) (f x) e

fresh_new : (k m : ℕ) (f : ℕ → Bool) → m < k → f m ≡ false → fresh k (with m f) < fresh k f
unfolding fresh with
fresh_new zero m f h o = absurd (omega arith)
fresh_new (suc k) m f h o = go (eqb k m) refl (f k) refl (fresh_new k m f)
  where
    less : fresh k (with m f) ≤ fresh k f
    less = fresh_less k f (with m f) (λ x i. with_more m x f i)

    go : (a : Bool) → eqb k m ≡ a → (b : Bool) → f k ≡ b → (m < k → f m ≡ false → fresh k (with m f) < fresh k f) → fresh (suc k) (with m f) < fresh (suc k) f
    go true e true i r = let q : f k ≡ false = rw (eqb-true k m e) o in absurd (both i q)
    go true e false i r = let q : with m f k ≡ true = rw e in rw (q, i, fresh) (omega (arith, less))
    go false e true i r = let d = eqb-false k m e in let l : fresh k (with m f) < fresh k f = r (omega (arith, d)) o in let q : with m f k ≡ true = with_more m k f i in rw (q, i, fresh) l
    go false e false i r = let d = eqb-false k m e in let l : fresh k (with m f) < fresh k f = r (omega (arith, d)) o in let q : with m f k ≡ false = rw (e, i) in rw (q, i, fresh) (omega (arith, l))

-- a bit that is set takes one of them away
pub fresh_set : (k m : ℕ) (f h : ℕ → Bool) → ((x : ℕ) → h x ≡ (eqb x m || f x)) → m < k → f m ≡ false → fresh k h < fresh k f
unfolding with
fresh_set k m f h e l o = let q : h ≡ with m f = λ i x. e x i in rw q (fresh_new k m f l o)

-- what was visited stays so
abbrev Any : ℕ → Type 0
Any x = Unit {0}

any_targets : (rows : List (List ℕ)) → Targets Any rows
any_targets [] = _
any_targets (row ∷ rows) = (λ n. _, any_targets rows)

module _ (x : ℕ) where
  abbrev Seen : Ordering → Type 0
  Seen s = s.visited x ≡ true

  edge_seen : (a b : ℕ) (s : Ordering) → Any a → Any b → Seen s → Seen (add_edge a b s)
  unfolding add_edge
  edge_seen a b s i j p = p

  visit_seen : (m : ℕ) (s : Ordering) → Seen s → Seen (visit m s)
  unfolding visit
  visit_seen m s p = or_right (eqb x m) (s.visited x) p

  walk_seen : (g : Graph) (fuel r t : ℕ) (q : Ordering) → Seen q → Seen (construct g fuel r t q)
  walk_seen g fuel r t q p = construct-keeps Any Seen edge_seen g visit_seen (λ m a. any_targets (import_records (module_of g m))) fuel r t q _ _ p

module _ (M : ℕ) where
  -- two walks that agree from each module, at orderings with few modules left
  module _ (f h : ℕ → ℕ → Ordering → Ordering) (a b : ℕ) (agree : (r t : ℕ) (q : Ordering) → t < M → fresh M q.visited ≤ a → fresh M q.visited ≤ b → f r t q ≡ h r t q)
      (more : (x r t : ℕ) (q : Ordering) → q.visited x ≡ true → (f r t q).visited x ≡ true) (root : ℕ) where
    dynamic_same : (t : ℕ) (s : Ordering) → t < M → fresh M s.visited ≤ a → fresh M s.visited ≤ b → dynamic_import f root t s ≡ dynamic_import h root t s
    unfolding dynamic_import add_edge
    dynamic_same t s i l k = to (eqb root t) refl (elem t s.nodes) refl
      where
        to : (c : Bool) → eqb root t ≡ c → (d : Bool) → elem t s.nodes ≡ d → dynamic_import f root t s ≡ dynamic_import h root t s
        to true e d q = rw (e, dynamic_import) (agree t t s i l k)
        to false e true q = rw (e, q, dynamic_import)
        to false e false q = rw (e, q, dynamic_import) (agree t t (add_edge root t s) i l k)

    record_same : (row : List ℕ) (s : Ordering) → Target (λ u. u < M) row → fresh M s.visited ≤ a → fresh M s.visited ≤ b → import_record f root row s ≡ import_record h root row s
    unfolding import_record
    record_same row s i l k = to (eqb (import_record_target row) 0) refl (eqb (import_record_kind row) 2) refl
      where
        to : (c : Bool) → eqb (import_record_target row) 0 ≡ c → (d : Bool) → eqb (import_record_kind row) 2 ≡ d → import_record f root row s ≡ import_record h root row s
        to true e d q = rw (e, import_record)
        to false e true q = rw (e, q, import_record) (dynamic_same (import_record_target row - 1) s (i (eqb-false (import_record_target row) 0 e)) l k)
        to false e false q = rw (e, q, import_record) (agree root (import_record_target row - 1) s (i (eqb-false (import_record_target row) 0 e)) l k)

    records-same : (rows : List (List ℕ)) (s : Ordering) → Targets (λ u. u < M) rows → fresh M s.visited ≤ a → fresh M s.visited ≤ b → all_records f root rows s ≡ all_records h root rows s
    unfolding all_records
    records-same [] s i l k = refl
    records-same (row ∷ rows) s i l k =
        let s' = import_record f root row s in
        let e = fresh_less M s.visited s'.visited (λ x p. record-keeps Any (Seen x) (edge_seen x) f (λ r t q _ _ p. more x r t q p) root _ row s (λ n. _) p) in
        records-same rows s' i.1 (omega (arith, e, l)) (omega (arith, e, k)) ∙ ap (all_records h root rows) (record_same row s i.0 l k)

  module _ (g : Graph) (inside : (m : ℕ) → m < M → Targets (λ u. u < M) (import_records (module_of g m))) where
    -- nothing is left to visit, or the module was visited
    nothing_left : (root m : ℕ) (s : Ordering) → m < M → fresh M s.visited ≤ 0 → (fuel : ℕ) → construct g fuel root m s ≡ s
    unfolding construct
    nothing_left root m s h l zero = refl
    nothing_left root m s h l (suc fuel) = to (s.visited m) refl
      where
        to : (c : Bool) → s.visited m ≡ c → construct g (suc fuel) root m s ≡ s
        to true e = rw (e, construct)
        to false e = let k = fresh_new M m s.visited h e in absurd (omega (arith, k, l))

    visit-fresh : (m : ℕ) (s : Ordering) → m < M → s.visited m ≡ false → fresh M (visit m s).visited < fresh M s.visited
    unfolding visit with
    visit-fresh m s h e = fresh_new M m s.visited h e

    fuel_never : (a b root m : ℕ) (s : Ordering) → m < M → fresh M s.visited ≤ a → fresh M s.visited ≤ b → construct g a root m s ≡ construct g b root m s
    unfolding construct
    fuel_never zero b root m s h l k = sym (nothing_left root m s h l b)
    fuel_never (suc a) zero root m s h l k = nothing_left root m s h k (suc a)
    fuel_never (suc a) (suc b) root m s h l k = to (fuel_never a b) (s.visited m) refl (normal g m) refl
      where
        to : ((r t : ℕ) (q : Ordering) → t < M → fresh M q.visited ≤ a → fresh M q.visited ≤ b → construct g a r t q ≡ construct g b r t q)
            → (c : Bool) → s.visited m ≡ c → (d : Bool) → normal g m ≡ d → construct g (suc a) root m s ≡ construct g (suc b) root m s
        to i true e d q = rw (e, construct)
        to i false e true q =
            let f = visit-fresh m s h e in
            rw (e, q, construct)
            (records-same (λ r t y. construct g a r t y) (λ r t y. construct g b r t y) a b i (λ x r t y p. walk_seen x g a r t y p) root (import_records (module_of g m)) (visit m s) (inside m h) (omega (arith, f, l)) (omega (arith, f, k)))
        to i false e false q = rw (e, q, construct)

-- As many levels as there are modules suffice.
pub construct_deep : {numbers tables : List ℕ} → Loaded numbers tables → (fuel root m : ℕ) (s : Ordering) → m < (graph_in numbers).header.modules → (graph_in numbers).header.modules ≤ fuel
    → construct (graph_in numbers) fuel root m s ≡ construct (graph_in numbers) (graph_in numbers).header.modules root m s
construct_deep {numbers} t fuel root m s h l =
    let M = (graph_in numbers).header.modules in
    let k = fresh_most M s.visited in
    fuel_never M (graph_in numbers) (loaded_targets t) fuel M root m s h (omega (arith, k, l)) k
