-- What the executed walks of 003 give, its relations have: the graph of the dynamic entries, and a depth-first walk over it.
use Rattle.std.proofs.Common.{◌≡◌, ℕ, zero, suc, Bool, true, false, eqb, List, [], ◌∷◌, refl, subst}
use Rattle.determine_side_effects.specs.graph_crate.Check.{Graph}
use Rattle.determine_side_effects.specs.graph_access_crate.Names.{import_records, import_record_target, import_record_kind}
use Rattle.determine_side_effects.specs.graph_access_crate.Words.{module_of, normal}
use Rattle.keep_record.specs.Lines.{elem}
use Rattle.rust_values.specs.Values.{Found, none, found, optional}
use Rattle.rust_order.specs.DynamicEntries.{entry_idx, DiGraphMap, Walking, insert_visited, with_edge, Call, construct, records, Constructs, FromEntries, Entered, enter, complete, DepthFirst}
use Rattle.rust_order.specs.DynamicEntries.Constructs.{was_visited, is_external, is_normal, no_more as no_record, unresolved, dynamic_seen, dynamic_unseen, dynamic_own, static}
use Rattle.rust_order.specs.DynamicEntries.FromEntries.{no_more as no_entry, one}
use Rattle.rust_order.specs.DynamicEntries.DepthFirst.{no_more as no_node, was_entered, enters}
use Rattle.rust_run.proofs.Executed.{Ended, not_yet, ended, then, constructed, from_entries, depth_first}
use Rattle.rust_run.proofs.Ending.{never_ends, same_end, through}

-- so far: what ends within this fuel, the relation has
abbrev Within : Graph → ℕ → Type 0
Within g fuel = (call : Call) (w z : Walking) → constructed g fuel call w ≡ ended z → Constructs g call w z

-- a call
of_call : (g : Graph) (fuel : ℕ) → Within g fuel → (root cur : ℕ) (w z : Walking) → constructed g (suc fuel) (construct root cur) w ≡ ended z
    → Constructs g (construct root cur) w z
unfolding constructed
of_call g fuel within root cur w z e = whether (elem cur w.visited) refl e
  where
    fresh : elem cur w.visited ≡ false → (b : Bool) → normal g cur ≡ b
        → (elim b [
          | true ↦ constructed g fuel (records root (import_records (module_of g cur))) (insert_visited cur w)
          | false ↦ ended (insert_visited cur w)
        ]) ≡ ended z
        → Constructs g (construct root cur) w z
    fresh v true n r = is_normal root cur w z v n (within (records root (import_records (module_of g cur))) (insert_visited cur w) z r)
    fresh v false n r = subst (λ y. Constructs g (construct root cur) w y) (same_end (insert_visited cur w) z r) (is_external root cur w v n)

    whether : (b : Bool) → elem cur w.visited ≡ b
        → (elim b [
          | true ↦ ended w
          | false ↦ elim (normal g cur) [
            | true ↦ constructed g fuel (records root (import_records (module_of g cur))) (insert_visited cur w)
            | false ↦ ended (insert_visited cur w)
          ]
        ]) ≡ ended z → Constructs g (construct root cur) w z
    whether true v r = subst (λ y. Constructs g (construct root cur) w y) (same_end w z r) (was_visited root cur w v)
    whether false v r = fresh v (normal g cur) refl r

-- a dynamic import of t
of_dynamic : (g : Graph) (fuel : ℕ) → Within g fuel → (root t : ℕ) (row : List ℕ) (rows : List (List ℕ)) (w z : Walking)
    → optional (import_record_target row) ≡ found t
    → eqb (import_record_kind row) 2 ≡ true
    → (elim (eqb root t) [
      | true ↦ then (constructed g fuel (construct t t) w) (λ y. constructed g fuel (records root rows) y)
      | false ↦ elim (elem t w.graph.nodes) [
        | true ↦ constructed g fuel (records root rows) (with_edge root t w)
        | false ↦ then (constructed g fuel (construct t t) (with_edge root t w)) (λ y. constructed g fuel (records root rows) y)
      ]
    ]) ≡ ended z → Constructs g (records root (row ∷ rows)) w z
of_dynamic g fuel within root t row rows w z target kind e = whether (eqb root t) refl e
  where
    other : eqb root t ≡ false → (b : Bool) → elem t w.graph.nodes ≡ b
        → (elim b [
          | true ↦ constructed g fuel (records root rows) (with_edge root t w)
          | false ↦ then (constructed g fuel (construct t t) (with_edge root t w)) (λ y. constructed g fuel (records root rows) y)
        ]) ≡ ended z
        → Constructs g (records root (row ∷ rows)) w z
    other o true n r = dynamic_seen root t row rows w z target kind o n (within (records root rows) (with_edge root t w) z r)
    other o false n r =
        let h = through (constructed g fuel (construct t t) (with_edge root t w)) (λ y. constructed g fuel (records root rows) y) z r in
        dynamic_unseen root t row rows w h.middle z target kind o n (within (construct t t) (with_edge root t w) h.middle h.first)
        (within (records root rows) h.middle z h.second)

    whether : (b : Bool) → eqb root t ≡ b
        → (elim b [
          | true ↦ then (constructed g fuel (construct t t) w) (λ y. constructed g fuel (records root rows) y)
          | false ↦ elim (elem t w.graph.nodes) [
            | true ↦ constructed g fuel (records root rows) (with_edge root t w)
            | false ↦ then (constructed g fuel (construct t t) (with_edge root t w)) (λ y. constructed g fuel (records root rows) y)
          ]
        ]) ≡ ended z → Constructs g (records root (row ∷ rows)) w z
    whether true o r =
        let h = through (constructed g fuel (construct t t) w) (λ y. constructed g fuel (records root rows) y) z r in
        dynamic_own root t row rows w h.middle z target kind o (within (construct t t) w h.middle h.first)
        (within (records root rows) h.middle z h.second)
    whether false o r = other o (elem t w.graph.nodes) refl r

-- the loop over the import records
of_record : (g : Graph) (fuel : ℕ) → Within g fuel → (root : ℕ) (row : List ℕ) (rows : List (List ℕ)) (w z : Walking)
    → constructed g (suc fuel) (records root (row ∷ rows)) w ≡ ended z → Constructs g (records root (row ∷ rows)) w z
unfolding constructed
of_record g fuel within root row rows w z e = whether (optional (import_record_target row)) refl e
  where
    kind : (t : ℕ) → optional (import_record_target row) ≡ found t → (b : Bool) → eqb (import_record_kind row) 2 ≡ b
        → (elim b [
          | true ↦ elim (eqb root t) [
            | true ↦ then (constructed g fuel (construct t t) w) (λ y. constructed g fuel (records root rows) y)
            | false ↦ elim (elem t w.graph.nodes) [
              | true ↦ constructed g fuel (records root rows) (with_edge root t w)
              | false ↦ then (constructed g fuel (construct t t) (with_edge root t w)) (λ y. constructed g fuel (records root rows) y)
            ]
          ]
          | false ↦ then (constructed g fuel (construct root t) w) (λ y. constructed g fuel (records root rows) y)
        ]) ≡ ended z → Constructs g (records root (row ∷ rows)) w z
    kind t target true k r = of_dynamic g fuel within root t row rows w z target k r
    kind t target false k r =
        let h = through (constructed g fuel (construct root t) w) (λ y. constructed g fuel (records root rows) y) z r in
        static root t row rows w h.middle z target k (within (construct root t) w h.middle h.first)
        (within (records root rows) h.middle z h.second)

    whether : (f : Found) → optional (import_record_target row) ≡ f
        → (elim f [
          | none ↦ constructed g fuel (records root rows) w
          | found t ↦ elim (eqb (import_record_kind row) 2) [
            | true ↦ elim (eqb root t) [
              | true ↦ then (constructed g fuel (construct t t) w) (λ y. constructed g fuel (records root rows) y)
              | false ↦ elim (elem t w.graph.nodes) [
                | true ↦ constructed g fuel (records root rows) (with_edge root t w)
                | false ↦ then (constructed g fuel (construct t t) (with_edge root t w)) (λ y. constructed g fuel (records root rows) y)
              ]
            ]
            | false ↦ then (constructed g fuel (construct root t) w) (λ y. constructed g fuel (records root rows) y)
          ]
        ]) ≡ ended z → Constructs g (records root (row ∷ rows)) w z
    whether none target r = unresolved root row rows w z target (within (records root rows) w z r)
    whether (found t) target r = kind t target (eqb (import_record_kind row) 2) refl r

constructed_returns : (g : Graph) (fuel : ℕ) (call : Call) (w z : Walking) → constructed g fuel call w ≡ ended z → Constructs g call w z
unfolding constructed
constructed_returns g zero call w z e = absurd (never_ends z e)
constructed_returns g (suc fuel) (construct root cur) w z e = of_call g fuel (λ call w z r. constructed_returns g fuel call w z r) root cur w z e
constructed_returns g (suc fuel) (records root []) w z e = subst (λ y. Constructs g (records root []) w y) (same_end w z e) (no_record root w)
constructed_returns g (suc fuel) (records root (row ∷ rows)) w z e = of_record g fuel (λ call w z r. constructed_returns g fuel call w z r) root row rows w z e

-- the loop over the dynamic entries
pub from_entries_returns : (g : Graph) (fuel : ℕ) (es : List ℕ) (d z : DiGraphMap) → from_entries g fuel es d ≡ ended z → FromEntries g es d z
unfolding from_entries
from_entries_returns g fuel [] d z e = subst (λ y. FromEntries g [] d y) (same_end d z e) (no_entry d)
from_entries_returns g fuel (x ∷ es) d z e =
    let w : Walking = record { graph = d; visited = [] } in
    let h = through (constructed g fuel (construct (entry_idx g x) (entry_idx g x)) w) (λ y. from_entries g fuel es y.graph) z e in
    one x es d z h.middle (constructed_returns g fuel (construct (entry_idx g x) (entry_idx g x)) w h.middle h.first)
    (from_entries_returns g fuel es h.middle.graph z h.second)

-- a depth-first walk
pub depth_first_returns : (succs : ℕ → List ℕ) (fuel : ℕ) (ms : List ℕ) (s z : Entered) → depth_first succs fuel ms s ≡ ended z → DepthFirst succs ms s z
unfolding depth_first
depth_first_returns succs zero ms s z e = absurd (never_ends z e)
depth_first_returns succs (suc fuel) [] s z e = subst (λ y. DepthFirst succs [] s y) (same_end s z e) (no_node s)
depth_first_returns succs (suc fuel) (m ∷ ms) s z e = whether (elem m s.entered) refl e (λ ms s z r. depth_first_returns succs fuel ms s z r)
  where
    whether : (b : Bool) → elem m s.entered ≡ b
        → (elim b [
          | true ↦ depth_first succs fuel ms s
          | false ↦ then (depth_first succs fuel (succs m) (enter m s)) (λ y. depth_first succs fuel ms (complete m y))
        ]) ≡ ended z
        → ((ms : List ℕ) (s z : Entered) → depth_first succs fuel ms s ≡ ended z → DepthFirst succs ms s z) → DepthFirst succs (m ∷ ms) s z
    whether true h r within = was_entered m ms s z h (within ms s z r)
    whether false h r within =
        let t = through (depth_first succs fuel (succs m) (enter m s)) (λ y. depth_first succs fuel ms (complete m y)) z r in
        enters m ms s t.middle z h (within (succs m) (enter m s) t.middle t.first) (within ms (complete m t.middle) z t.second)
