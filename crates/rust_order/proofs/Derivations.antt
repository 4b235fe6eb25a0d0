-- The Rust's walk over imports and a depth-first walk come to an end: each has a derivation.
use Prim.Native.Nat.{ℕ, zero, suc, ◌-◌, ◌<◌, ◌≤◌}
use mathlib.Core.Path.{◌≡◌, refl}
use mathlib.Core.Bool.{Bool, true, false}
use mathlib.Core.List.{List, [], ◌∷◌}
use native.Mathlib.Omega.{arith}
use lib.Dec.{eqb}
use Rattle.graph_access.specs.graph_crate.Check.{Graph, graph_in}
use Rattle.graph_access.specs.graph_crate.Loaded.{Loaded}
use Rattle.graph_access.specs.Names.{import_records, import_record_target, import_record_kind}
use Rattle.graph_access.specs.Words.{module_of, normal}
use Rattle.keep_record.specs.Lines.{elem}
use Rattle.entry_order.specs.Order.{module_of_entry, dynamic_entries}
use Rattle.entry_graph.proofs.Keeping.{Targets}
use Rattle.entry_graph.proofs.Deep.{loaded_targets}
use Rattle.cycles.specs.Search.{with}
use Rattle.cycles.specs.Cycles.{Edge}
use Rattle.cycles.specs.Walked.{fresh}
use Rattle.cycles.proofs.Members.{in_head, in_tail}
use Rattle.cycles.proofs.Walks.{fresh_few, fresh_falls, fresh_with, walks_keep}
use Rattle.rust_values.specs.Values.{Found, optional}
use Rattle.rust_values.specs.Values.Found.{none, found}
use Rattle.rust_order.specs.DynamicEntries.{entry_idx, DiGraphMap, no_graph, Walking, insert_visited, with_edge, Call, Constructs, FromEntries, Entered, unentered, enter, complete, DepthFirst}
use Rattle.rust_order.specs.DynamicEntries.Call.{construct, records}
use Rattle.rust_order.specs.DynamicEntries.Constructs.{was_visited, is_external, is_normal, no_more, unresolved, dynamic_seen, dynamic_unseen, dynamic_own, static}
use Rattle.rust_order.specs.DynamicEntries.FromEntries.{no_more as no_entry, one}
use Rattle.rust_order.specs.DynamicEntries.DepthFirst.{no_more as no_node, was_entered, enters}
use Rattle.rust_order.proofs.Walking.{left, left_few, visit_left, fewer, target_below}
use Rattle.rust_order.proofs.Entries.{begin, entry_below}
use Rattle.rust_order.proofs.Completing.{search_of, walked_walks}

-- ---- over imports

pub record EndsIn (g : Graph) (c : Call) (w : Walking) : Type 0 where
  pub at_last : Walking
  pub by : Constructs g c w at_last

module _ (g : Graph) (M : ℕ) (inside : (m : ℕ) → m < M → Targets (λ u. u < M) (import_records (module_of g m))) where
  abbrev Step : ℕ → Type 0
  Step fuel = (root cur : ℕ) (w : Walking) → cur < M → left g M inside w ≤ fuel → EndsIn g (construct root cur) w

  module _ (fuel : ℕ) (step : Step fuel) (root : ℕ) where
    records-end : (rows : List (List ℕ)) (w : Walking) → Targets (λ u. u < M) rows → left g M inside w ≤ fuel → EndsIn g (records root rows) w
    unfolding with_edge left
    records-end [] w b l = record { at_last = w; by = no_more root w }
    records-end (row ∷ rows) w b l =
        to (optional (import_record_target row)) refl (eqb (import_record_kind row) 2) refl (λ q h. records-end rows q b.1 h)
      where
        to : (f : Found) → optional (import_record_target row) ≡ f → (k : Bool) → eqb (import_record_kind row) 2 ≡ k
            → ((q : Walking) → left g M inside q ≤ fuel → EndsIn g (records root rows) q)
            → EndsIn g (records root (row ∷ rows)) w
        to none e k q rest = let z = rest w l in record { at_last = z.at_last; by = unresolved root row rows w z.at_last e z.by }
        to (found t) e false k rest =
            let y = step root t w (target_below g M inside row t e b.0) l in
            let d = fewer g M inside y.by in
            let z = rest y.at_last (omega (arith, d, l)) in
            record { at_last = z.at_last; by = static root t row rows w y.at_last z.at_last e k y.by z.by }
        to (found t) e true k rest = over (eqb root t) refl (elem t w.graph.nodes) refl
          where
            over : (o : Bool) → eqb root t ≡ o → (s : Bool) → elem t w.graph.nodes ≡ s → EndsIn g (records root (row ∷ rows)) w
            over true o s i =
                let y = step t t w (target_below g M inside row t e b.0) l in
                let d = fewer g M inside y.by in
                let z = rest y.at_last (omega (arith, d, l)) in
                record { at_last = z.at_last; by = dynamic_own root t row rows w y.at_last z.at_last e k o y.by z.by }
            over false o true i = let z = rest (with_edge root t w) l in record { at_last = z.at_last; by = dynamic_seen root t row rows w z.at_last e k o i z.by }
            over false o false i =
                let y = step t t (with_edge root t w) (target_below g M inside row t e b.0) l in
                let d = fewer g M inside y.by in
                let z = rest y.at_last (omega (arith, d, l)) in
                record { at_last = z.at_last; by = dynamic_unseen root t row rows w y.at_last z.at_last e k o i y.by z.by }

  construct_ends : (fuel : ℕ) → Step fuel
  construct_ends zero root cur w h l = to (elem cur w.visited) refl
    where
      to : (b : Bool) → elem cur w.visited ≡ b → EndsIn g (construct root cur) w
      to true e = record { at_last = w; by = was_visited root cur w e }
      to false e = let k = visit_left g M inside cur w h e in absurd (omega (arith, k, l))
  construct_ends (suc fuel) root cur w h l = to (construct_ends fuel) (elem cur w.visited) refl (normal g cur) refl
    where
      to : Step fuel → (b : Bool) → elem cur w.visited ≡ b → (c : Bool) → normal g cur ≡ c → EndsIn g (construct root cur) w
      to f true e c n = record { at_last = w; by = was_visited root cur w e }
      to f false e true n =
          let k = visit_left g M inside cur w h e in
          let z = records-end fuel f root (import_records (module_of g cur)) (insert_visited cur w) (inside cur h) (omega (arith, k, l)) in
          record { at_last = z.at_last; by = is_normal root cur w z.at_last e n z.by }
      to f false e false n = record { at_last = insert_visited cur w; by = is_external root cur w e n }

  pub entries_end : (es : List ℕ) (d : DiGraphMap) → ((e : ℕ) → elem e es ≡ true → entry_idx g e < M) → (z : DiGraphMap) × FromEntries g es d z
  entries_end [] d b = (d, no_entry d)
  entries_end (e ∷ es) d b =
      let y = construct_ends M (entry_idx g e) (entry_idx g e) (begin d) (b e (in_head e es)) (left_few g M inside (begin d)) in
      let z = entries_end es y.at_last.graph (λ x i. b x (in_tail x e es i)) in
      (z.0, one e es d z.0 y.at_last y.by z.1)

pub graph_exists : {numbers tables : List ℕ} → Loaded numbers tables → (d : DiGraphMap) × FromEntries (graph_in numbers) (dynamic_entries (graph_in numbers)) no_graph d
unfolding entry_idx module_of_entry
graph_exists {numbers} t = entries_end (graph_in numbers) (graph_in numbers).header.modules (loaded_targets t) (dynamic_entries (graph_in numbers)) no_graph (entry_below t)

-- ---- depth first

module _ (succs : ℕ → List ℕ) (n : ℕ) (bounded : (u v : ℕ) → u < n → Edge succs u v → v < n) where
  missing : Entered → ℕ
  missing s = fresh n (λ m. elem m s.entered)

  enter_missing : (m : ℕ) (s : Entered) → m < n → elem m s.entered ≡ false → missing (enter m s) < missing s
  unfolding missing enter with elem
  enter_missing m s h e = fresh_with n m (λ x. elem x s.entered) h e

  walked_missing : {us : List ℕ} {s z : Entered} → DepthFirst succs us s z → missing z ≤ missing s
  unfolding missing search_of
  walked_missing {us} {s} {z} p = fresh_falls n (λ m. elem m s.entered) (λ m. elem m z.entered) (λ x i. walks_keep succs x (walked_walks p) i)

  complete_missing : (m : ℕ) (s : Entered) → missing (complete m s) ≡ missing s
  unfolding missing complete
  complete_missing m s = refl

  abbrev Walkable : ℕ → Type 0
  Walkable fuel = (us : List ℕ) (s : Entered) → ((x : ℕ) → elem x us ≡ true → x < n) → missing s ≤ fuel → (z : Entered) × DepthFirst succs us s z

  -- nodes that are new want less fuel
  all_walk : (fuel : ℕ)
      → ((u : ℕ) (s : Entered) → u < n → elem u s.entered ≡ false → missing s ≤ fuel → (y : Entered) × DepthFirst succs (succs u) (enter u s) y) → Walkable fuel
  all_walk fuel f [] s b l = (s, no_node s)
  all_walk fuel f (u ∷ us) s b l = to (all_walk fuel f us) (elem u s.entered) refl
    where
      to : ((q : Entered) → ((x : ℕ) → elem x us ≡ true → x < n) → missing q ≤ fuel → (z : Entered) × DepthFirst succs us q z)
          → (c : Bool) → elem u s.entered ≡ c → (z : Entered) × DepthFirst succs (u ∷ us) s z
      to rest true e = let z = rest s (λ x i. b x (in_tail x u us i)) l in (z.0, was_entered u us s z.0 e z.1)
      to rest false e =
          let h = b u (in_head u us) in
          let y = f u s h e l in
          let d = walked_missing y.1 in
          let k = enter_missing u s h e in
          let c = complete_missing u y.0 in
          let z = rest (complete u y.0) (λ x i. b x (in_tail x u us i)) (omega (arith, d, k, c, l)) in
          (z.0, enters u us s y.0 z.0 e y.1 z.1)

  walkable : (fuel : ℕ) → Walkable fuel
  walkable zero = all_walk zero (λ u s h e l. let k = enter_missing u s h e in absurd (omega (arith, k, l)))
  walkable (suc fuel) =
      all_walk (suc fuel) (λ u s h e l. let k = enter_missing u s h e in walkable fuel (succs u) (enter u s) (λ x i. bounded u x h i) (omega (arith, k, l)))

  pub depth_first_exists : (roots : List ℕ) → ((x : ℕ) → elem x roots ≡ true → x < n) → (end : Entered) × DepthFirst succs roots unentered end
  unfolding missing
  depth_first_exists roots b = walkable n roots unentered b (fresh_few n (λ m. elem m unentered.entered))
