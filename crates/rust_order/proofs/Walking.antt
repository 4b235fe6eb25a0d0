-- The Rust's walk, which has no bound, is ours with enough fuel.
use Prim.Native.Nat.{ℕ, zero, suc, ◌-◌, ◌<◌, ◌≤◌}
use mathlib.Core.Path.{◌≡◌, refl, ap, ◌∙◌, sym}
use mathlib.Core.Bool.{true, false}
use mathlib.Core.List.{List, ◌∷◌}
use native.Mathlib.Omega.{arith}
use borrow.Author.Tests.{eq-eqb, ne_eqb}
use lib.Dec.{eqb}
use Rattle.graph_access.specs.graph_crate.Check.{Graph}
use Rattle.graph_access.specs.Names.{import_records, import_record_target, import_record_kind}
use Rattle.graph_access.specs.Words.{module_of, normal}
use Rattle.keep_record.specs.Lines.{elem}
use Rattle.entry_graph.specs.Ordering.{Ordering, visit, dynamic_import, import_record, all_records}
use Rattle.entry_graph.specs.Ordering as ours
use Rattle.entry_graph.proofs.Keeping.{Target, Targets}
use Rattle.cycles.specs.Search.{with}
use Rattle.cycles.specs.Walked.{fresh}
use Rattle.cycles.proofs.Members.{in_tail}
use Rattle.cycles.proofs.Walks.{fresh_few, fresh_falls, fresh_with}
use Rattle.rust_values.specs.Values.{optional}
use Rattle.rust_values.specs.Values.Found.{none, found}
use Rattle.rust_order.specs.DynamicEntries.{Walking, insert_visited, with_edge, Call, Constructs}
use Rattle.rust_order.specs.DynamicEntries.Call.{construct, records}
use Rattle.rust_order.specs.DynamicEntries.Constructs.{was_visited, is_external, is_normal, no_more, unresolved, dynamic_seen, dynamic_unseen, dynamic_own, static}
use Rattle.rust_order.proofs.Edges.{ordering_of, Ends, visit_same, edge_same, edge_ends}

-- ---- an optional index

optional_none : (t : ℕ) → optional t ≡ none → t ≡ 0
unfolding optional
optional_none zero e = refl
optional_none (suc n) e = let z : ◌≡◌ {A = ℕ} 0 1 = cc in absurd (omega arith)

optional_found : (t n : ℕ) → optional t ≡ found n → t ≡ suc n
unfolding optional
optional_found zero n e = let z : ◌≡◌ {A = ℕ} 0 1 = cc in absurd (omega arith)
optional_found (suc t) n e = cc

-- ---- our walk, case by case

module _ (go : ℕ → ℕ → Ordering → Ordering) (root : ℕ) (row : List ℕ) (s : Ordering) where
  our_unresolved : optional (import_record_target row) ≡ none → import_record go root row s ≡ s
  unfolding import_record
  our_unresolved e = rw (eq-eqb (import_record_target row) 0 (optional_none (import_record_target row) e), import_record)

  module _ (t : ℕ) (e : optional (import_record_target row) ≡ found t) where
    resolved : eqb (import_record_target row) 0 ≡ false
    resolved = let q = optional_found (import_record_target row) t e in ne_eqb (import_record_target row) 0 (λ z. omega (arith, q, z))

    target : import_record_target row - 1 ≡ t
    target = let q = optional_found (import_record_target row) t e in omega (arith, q)

    our-static : eqb (import_record_kind row) 2 ≡ false → import_record go root row s ≡ go root t s
    unfolding import_record
    our-static k = rw (resolved, k, import_record) (ap (λ (x : ℕ). go root x s) target)

    our-dynamic : eqb (import_record_kind row) 2 ≡ true → import_record go root row s ≡ dynamic_import go root t s
    unfolding import_record
    our-dynamic k = rw (resolved, k, import_record) (ap (λ (x : ℕ). dynamic_import go root x s) target)

    our-own : eqb (import_record_kind row) 2 ≡ true → eqb root t ≡ true → import_record go root row s ≡ go t t s
    unfolding dynamic_import
    our-own k o = our-dynamic k ∙ (rw (o, dynamic_import))

    our-seen : eqb (import_record_kind row) 2 ≡ true → eqb root t ≡ false → elem t s.nodes ≡ true → import_record go root row s ≡ ours.add_edge root t s
    unfolding dynamic_import
    our-seen k o i = our-dynamic k ∙ (rw (o, i, dynamic_import))

    our-unseen : eqb (import_record_kind row) 2 ≡ true → eqb root t ≡ false → elem t s.nodes ≡ false → import_record go root row s ≡ go t t (ours.add_edge root t s)
    unfolding dynamic_import
    our-unseen k o i = our-dynamic k ∙ (rw (o, i, dynamic_import))

module _ (g : Graph) (root m : ℕ) (s : Ordering) where
  our_visited : (fuel : ℕ) → s.visited m ≡ true → ours.construct g fuel root m s ≡ s
  unfolding ours.construct
  our_visited zero e = refl
  our_visited (suc fuel) e = rw (e, ours.construct)

  our_external : (fuel : ℕ) → s.visited m ≡ false → normal g m ≡ false → ours.construct g (suc fuel) root m s ≡ visit m s
  unfolding ours.construct
  our_external fuel e n = rw (e, n, ours.construct)

  our_normal : (fuel : ℕ) → s.visited m ≡ false → normal g m ≡ true
      → ours.construct g (suc fuel) root m s ≡ all_records (λ r t q. ours.construct g fuel r t q) root (import_records (module_of g m)) (visit m s)
  unfolding ours.construct
  our_normal fuel e n = rw (e, n, ours.construct)

-- ---- what was visited stays so, and both ends of an edge are nodes

pub constructs_keep : {g : Graph} (x : ℕ) {c : Call} {w z : Walking} → Constructs g c w z → elem x w.visited ≡ true → elem x z.visited ≡ true
unfolding insert_visited with_edge
constructs_keep x (was_visited root cur w e) i = i
constructs_keep x (is_external root cur w e n) i = in_tail x cur w.visited i
constructs_keep x (is_normal root cur w z e n p) i = constructs_keep x p (in_tail x cur w.visited i)
constructs_keep x (no_more root w) i = i
constructs_keep x (unresolved root row rows w z e p) i = constructs_keep x p i
constructs_keep x (dynamic_seen root t row rows w z e k o s p) i = constructs_keep x p i
constructs_keep x (dynamic_unseen root t row rows w y z e k o s p q) i = constructs_keep x q (constructs_keep x p i)
constructs_keep x (dynamic_own root t row rows w y z e k o p q) i = constructs_keep x q (constructs_keep x p i)
constructs_keep x (static root t row rows w y z e k p q) i = constructs_keep x q (constructs_keep x p i)

pub constructs_ends : {g : Graph} {c : Call} {w z : Walking} → Constructs g c w z → Ends w.graph → Ends z.graph
unfolding insert_visited with_edge
constructs_ends (was_visited root cur w e) h = h
constructs_ends (is_external root cur w e n) h = h
constructs_ends (is_normal root cur w z e n p) h = constructs_ends p h
constructs_ends (no_more root w) h = h
constructs_ends (unresolved root row rows w z e p) h = constructs_ends p h
constructs_ends (dynamic_seen root t row rows w z e k o s p) h = constructs_ends p (edge_ends root t w.graph h)
constructs_ends (dynamic_unseen root t row rows w y z e k o s p q) h = constructs_ends q (constructs_ends p (edge_ends root t w.graph h))
constructs_ends (dynamic_own root t row rows w y z e k o p q) h = constructs_ends q (constructs_ends p h)
constructs_ends (static root t row rows w y z e k p q) h = constructs_ends q (constructs_ends p h)

-- ---- the walk

module _ (g : Graph) (M : ℕ) (inside : (m : ℕ) → m < M → Targets (λ u. u < M) (import_records (module_of g m))) where
  -- how many modules are left to visit
  unfoldable pub left : Walking → ℕ
  left w = fresh M (λ m. elem m w.visited)

  abbrev Does : Call → Walking → Walking → Type 0
  Does (construct root cur) w z = (fuel : ℕ) → cur < M → left w ≤ fuel → ours.construct g fuel root cur (ordering_of w) ≡ ordering_of z
  Does (records root rows) w z =
      (fuel : ℕ) → Targets (λ u. u < M) rows → left w ≤ fuel → all_records (λ r t q. ours.construct g fuel r t q) root rows (ordering_of w) ≡ ordering_of z

  pub fewer : {c : Call} {w z : Walking} → Constructs g c w z → left z ≤ left w
  unfolding left
  fewer {c} {w} {z} p = fresh_falls M (λ m. elem m w.visited) (λ m. elem m z.visited) (λ x i. constructs_keep x p i)

  pub left_few : (w : Walking) → left w ≤ M
  unfolding left
  left_few w = fresh_few M (λ m. elem m w.visited)

  pub visit_left : (m : ℕ) (w : Walking) → m < M → elem m w.visited ≡ false → left (insert_visited m w) < left w
  unfolding left insert_visited with elem
  visit_left m w h e = fresh_with M m (λ x. elem x w.visited) h e

  pub target_below : (row : List ℕ) (t : ℕ) → optional (import_record_target row) ≡ found t → Target (λ u. u < M) row → t < M
  target_below row t e b =
      let q = optional_found (import_record_target row) t e in
      let l = b (λ z. omega (arith, q, z)) in
      omega (arith, q, l)

  abbrev deep : ℕ → ℕ → ℕ → Ordering → Ordering
  deep fuel r t q = ours.construct g fuel r t q

  -- a record is taken, and then the others
  then : (fuel root : ℕ) (row : List ℕ) (rows : List (List ℕ)) (s q z : Ordering) → import_record (deep fuel) root row s ≡ q → all_records (deep fuel) root rows q ≡ z
      → all_records (deep fuel) root (row ∷ rows) s ≡ z
  unfolding all_records
  then fuel root row rows s q z e r = ap (λ (x : Ordering). all_records (deep fuel) root rows x) e ∙ r

  external_does : (root cur : ℕ) (w : Walking) → elem cur w.visited ≡ false → normal g cur ≡ false → Does (construct root cur) w (insert_visited cur w)
  unfolding ordering_of
  external_does root cur w e n zero l f = let k = visit_left cur w l e in absurd (omega (arith, k, f))
  external_does root cur w e n (suc fuel) l f = our_external g root cur (ordering_of w) fuel e n ∙ sym (visit_same cur w)

  normal_does : (root cur : ℕ) (w z : Walking) → elem cur w.visited ≡ false → normal g cur ≡ true
      → Does (records root (import_records (module_of g cur))) (insert_visited cur w) z
      → Does (construct root cur) w z
  unfolding ordering_of
  normal_does root cur w z e n r zero l f = let k = visit_left cur w l e in absurd (omega (arith, k, f))
  normal_does root cur w z e n r (suc fuel) l f =
      let k = visit_left cur w l e in
      our_normal g root cur (ordering_of w) fuel e n
      ∙ ap (λ (x : Ordering). all_records (deep fuel) root (import_records (module_of g cur)) x) (sym (visit_same cur w))
      ∙ r fuel (inside cur l) (omega (arith, k, f))

  pub does : {c : Call} {w z : Walking} → Constructs g c w z → Ends w.graph → Does c w z
  unfolding ordering_of with_edge insert_visited all_records left
  does (was_visited root cur w e) h = λ fuel l f. our_visited g root cur (ordering_of w) fuel e
  does (is_external root cur w e n) h = external_does root cur w e n
  does (is_normal root cur w z e n p) h = normal_does root cur w z e n (does p h)
  does (no_more root w) h = λ fuel l f. refl
  does (unresolved root row rows w z e p) h = λ fuel l f.
      then fuel root row rows (ordering_of w) (ordering_of w) (ordering_of z) (our_unresolved (deep fuel) root row (ordering_of w) e) (does p h fuel l.1 f)
  does (dynamic_seen root t row rows w z e k o s p) h = λ fuel l f.
      then fuel root row rows (ordering_of w) (ordering_of (with_edge root t w)) (ordering_of z)
      (our-seen (deep fuel) root row (ordering_of w) t e k o s ∙ sym (edge_same root t w h))
      (does p (edge_ends root t w.graph h) fuel l.1 f)
  does (dynamic_unseen root t row rows w y z e k o s p q) h = λ fuel l f.
      let i = edge_ends root t w.graph h in
      let d = fewer p in
      then fuel root row rows (ordering_of w) (ordering_of y) (ordering_of z)
      (our-unseen (deep fuel) root row (ordering_of w) t e k o s
      ∙ ap (λ (x : Ordering). ours.construct g fuel t t x) (sym (edge_same root t w h))
      ∙ does p i fuel (target_below row t e l.0) f)
      (does q (constructs_ends p i) fuel l.1 (omega (arith, d, f)))
  does (dynamic_own root t row rows w y z e k o p q) h = λ fuel l f.
      let d = fewer p in
      then fuel root row rows (ordering_of w) (ordering_of y) (ordering_of z)
      (our-own (deep fuel) root row (ordering_of w) t e k o ∙ does p h fuel (target_below row t e l.0) f)
      (does q (constructs_ends p h) fuel l.1 (omega (arith, d, f)))
  does (static root t row rows w y z e k p q) h = λ fuel l f.
      let d = fewer p in
      then fuel root row rows (ordering_of w) (ordering_of y) (ordering_of z)
      (our-static (deep fuel) root row (ordering_of w) t e k ∙ does p h fuel (target_below row t e l.0) f)
      (does q (constructs_ends p h) fuel l.1 (omega (arith, d, f)))
