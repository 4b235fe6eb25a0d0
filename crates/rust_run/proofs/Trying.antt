-- The Rust's test of a dynamic entry is the project's, and what a dead one leaves are the reachable related records that may go.
use Rattle.std.proofs.Common.{◌≡◌, ℕ, ◌<◌, Bool, true, false, not, ◌&&◌, ◌||◌, eqb, ltb, List, [], ◌∷◌, ◌++◌, length, get_or, sym, refl, ap, ◌∙◌, append_assoc, append-nil, arith, le-ltb, eq-eqb, ne_eqb, eqb-true}
use borrow.Author.Tests.{eqb-false}
use Rattle.determine_side_effects.specs.graph_tables_crate.Tables.{header_in}
use Rattle.determine_side_effects.specs.graph_crate.Check.{Graph, graph_in, check_of, answer_of}
use Rattle.determine_side_effects.specs.graph_crate.Loaded.{Loaded}
use Rattle.determine_side_effects.specs.graph_access_crate.Names.{entry_kind, related, related_module, related_statement, related_import_record, unreachable}
use Rattle.determine_side_effects.specs.graph_access_crate.Words.{some, statement_list, entry_of}
use Rattle.determine_side_effects.specs.graph_access_crate.Related.{RelatedHere}
use Rattle.determine_side_effects.proofs.graph_access_crate.Indexes.{related_here}
use Rattle.determine_side_effects.proofs.graph_access_crate.EntryRanges.{related_good}
use Rattle.determine_side_effects.specs.facts_crate.declared.Fact.{Fact}
use Rattle.determine_side_effects.specs.facts_crate.Facts.{statement_fact}
use Rattle.determine_side_effects.specs.Effects.{effectful, has_effects}
use Rattle.entry_order.specs.Order.{module_of_entry, is_dynamic}
use Rattle.dynamic_entries.specs.Alive.{record_of, is_pure, uses_no_export, lets_live, is_alive as lives}
use Rattle.closed_choices.proofs.Every.{Every, every_by}
use Rattle.closed_choices.proofs.Accepting.{accepted_tabled}
use Rattle.rust_values.specs.Values.{Pair, pair, has_pair}
use Rattle.rust_engine.specs.Context.{Context}
use Rattle.rust_engine.specs.Tables.{has_side_effects}
use Rattle.rust_order.specs.DynamicEntries.{entry_idx}
use Rattle.rust_run.specs.DynamicEntries.{alive, unused, related_record, all_dead_pure_dynamic_import, exports_unused, lived, any_lived, is_dynamic_entry_alive, is_alive}
use Rattle.std.specs.Prelude.{Ok}

-- What a dead entry leaves ---------------------------------------------------------------------------------------------------------------

-- the reachable related records that may go, as pairs, in order
unfoldable pub dead_pairs : Graph → List ℕ → List (List ℕ) → List Pair
dead_pairs g v [] = []
dead_pairs g v (r ∷ rs) =
    elim (eqb (unreachable r) 1) [
      | true ↦ dead_pairs g v rs
      | false ↦ elim (all_dead_pure_dynamic_import g v r) [ true ↦ pair (related_module r) (related_import_record r) ∷ dead_pairs g v rs | false ↦ dead_pairs g v rs ]
    ]

module _ (g : Graph) (v : List ℕ) (r : List ℕ) (rs : List (List ℕ)) where
  pub pairs_unreachable : eqb (unreachable r) 1 ≡ true → dead_pairs g v (r ∷ rs) ≡ dead_pairs g v rs
  unfolding dead_pairs
  pairs_unreachable e = rw (e, dead_pairs)

  pub pairs_here : eqb (unreachable r) 1 ≡ false → all_dead_pure_dynamic_import g v r ≡ true → dead_pairs g v (r ∷ rs) ≡ pair (related_module r) (related_import_record r) ∷ dead_pairs g v rs
  unfolding dead_pairs
  pairs_here e f = rw (e, dead_pairs, f) refl

  pub pairs_not : eqb (unreachable r) 1 ≡ false → all_dead_pure_dynamic_import g v r ≡ false → dead_pairs g v (r ∷ rs) ≡ dead_pairs g v rs
  unfolding dead_pairs
  pairs_not e f = rw (e, dead_pairs, f) refl

  -- the walk over related statements, step by step
  module _ (c : Context) (m : ℕ) (ret : List Pair) where
    walk-unreachable : eqb (unreachable r) 1 ≡ true → any_lived g v c m ret (r ∷ rs) ≡ any_lived g v c m ret rs
    unfolding any_lived
    walk-unreachable e = rw (e, any_lived)

    walk-lived : eqb (unreachable r) 1 ≡ false → lived g v c m r ≡ true → any_lived g v c m ret (r ∷ rs) ≡ alive
    unfolding any_lived
    walk-lived e l = rw (e, any_lived, l) refl

    walk-pure : eqb (unreachable r) 1 ≡ false → lived g v c m r ≡ false → all_dead_pure_dynamic_import g v r ≡ true
        → any_lived g v c m ret (r ∷ rs) ≡ any_lived g v c m (ret ++ (pair (related_module r) (related_import_record r) ∷ [])) rs
    unfolding any_lived
    walk-pure e l p = rw (e, any_lived, l, p) refl

    walk-other : eqb (unreachable r) 1 ≡ false → lived g v c m r ≡ false → all_dead_pure_dynamic_import g v r ≡ false → any_lived g v c m ret (r ∷ rs) ≡ any_lived g v c m ret rs
    unfolding any_lived
    walk-other e l p = rw (e, any_lived, l, p) refl

alive_not : (out : List Pair) → alive ≡ unused out → ⊥
alive_not out e = let z : ◌≡◌ {A = ℕ} 0 1 = cc in omega arith

module _ (g : Graph) (v : List ℕ) (c : Context) (m : ℕ) where
  pub unused_are : (ret : List Pair) (rs : List (List ℕ)) (out : List Pair) → any_lived g v c m ret rs ≡ unused out → out ≡ ret ++ dead_pairs g v rs
  unfolding any_lived dead_pairs
  unused_are ret [] out e = let z : out ≡ ret = cc in z ∙ sym (append-nil ret)
  unused_are ret (r ∷ rs) out e = go (eqb (unreachable r) 1) refl (lived g v c m r) refl (all_dead_pure_dynamic_import g v r) refl (λ more. unused_are more rs out)
    where
      here : List Pair
      here = pair (related_module r) (related_import_record r) ∷ []

      go : (a : Bool) → eqb (unreachable r) 1 ≡ a → (b : Bool) → lived g v c m r ≡ b → (d : Bool) → all_dead_pure_dynamic_import g v r ≡ d
          → ((more : List Pair) → any_lived g v c m more rs ≡ unused out → out ≡ more ++ dead_pairs g v rs) → out ≡ ret ++ dead_pairs g v (r ∷ rs)
      go true s b l d p next = next ret (sym (walk-unreachable g v r rs c m ret s) ∙ e) ∙ ap (λ x. ret ++ x) (sym (pairs_unreachable g v r rs s))
      go false s true l d p next = absurd (alive_not out (sym (walk-lived g v r rs c m ret s l) ∙ e))
      go false s false l true p next =
          next (ret ++ here) (sym (walk-pure g v r rs c m ret s l p) ∙ e) ∙ append_assoc ret here (dead_pairs g v rs) ∙ ap (λ x. ret ++ x) (sym (pairs_here g v r rs s p))
      go false s false l false p next = next ret (sym (walk-other g v r rs c m ret s l p) ∙ e) ∙ ap (λ x. ret ++ x) (sym (pairs_not g v r rs s p))

-- Related statements of an accepted graph ------------------------------------------------------------------------------------------------

-- in range, its fourth number 0 or 1
pub record RowGood (g : Graph) (row : List ℕ) : Type 0 where
  pub here : RelatedHere g row
  pub reachable : unreachable row < 2

reached : {numbers tables : List ℕ} → Loaded numbers tables → (e k : ℕ) → e < (header_in numbers).entries → k < length (related (entry_of (graph_in numbers) e))
    → unreachable (get_or (related (entry_of (graph_in numbers) e)) k []) < 2
unfolding unreachable related entry_of graph_in
reached {numbers} t e k l u = (related_good numbers _ t.of_entries e l k u).flag

pub rows_good : (numbers : List ℕ) → answer_of (check_of numbers) ≡ Ok tt → (e : ℕ) → e < (graph_in numbers).header.entries → Every (RowGood (graph_in numbers)) (related (entry_of (graph_in numbers) e))
unfolding graph_in
rows_good numbers ok e l =
    let t = (accepted_tabled numbers ok).holds in
    every_by (RowGood (graph_in numbers)) (related (entry_of (graph_in numbers) e)) [] (λ k u. record { here = related_here t e k l u; reachable = reached t e k l u })

-- the two tests of the fourth number
pub reach_same : (x : ℕ) → x < 2 → eqb x 1 ≡ not (eqb x 0)
reach_same x l = go (eqb x 0) refl
  where
    go : (b : Bool) → eqb x 0 ≡ b → eqb x 1 ≡ not (eqb x 0)
    go true e = ne_eqb x 1 (λ q. omega (arith, q, eqb-true x 0 e)) ∙ sym (ap not e)
    go false e = eq-eqb x 1 (omega (arith, l, eqb-false x 0 e)) ∙ sym (ap not e)

-- Liveness ------------------------------------------------------------------------------------------------------------------------------

pub pure_same : (g : Graph) (v row : List ℕ) → all_dead_pure_dynamic_import g v row ≡ is_pure g v row
unfolding all_dead_pure_dynamic_import is_pure related_record record_of has_side_effects has_effects effectful
pure_same g v row = refl

module _ (g : Graph) (v : List ℕ) (c : Context) (kept : Fact → Bool)
    (stmts : (m i : ℕ) → m < g.header.modules → i < length (statement_list g m) → has_pair m i c.statements ≡ kept (statement_fact m i)) where
  lived_same : (m : ℕ) (row : List ℕ) → RowGood g row
      → lived g v c m row ≡ (kept (statement_fact (related_module row) (related_statement row)) && (not (uses_no_export g m) || not (is_pure g v row)))
  unfolding lived exports_unused uses_no_export
  lived_same m row h =
      ap (λ b. b && (not (exports_unused g m) || not (all_dead_pure_dynamic_import g v row))) (stmts (related_module row) (related_statement row) h.here.inside h.here.statement_inside)
      ∙ ap (λ b. kept (statement_fact (related_module row) (related_statement row)) && (not (exports_unused g m) || not b)) (pure_same g v row)

  module _ (m : ℕ) (row : List ℕ) (h : RowGood g row) where
    lets-not : eqb (unreachable row) 1 ≡ true → lets_live g v kept m row ≡ false
    unfolding lets_live
    lets-not e = let z : eqb (unreachable row) 0 ≡ false = ne_eqb (unreachable row) 0 (λ q. omega (arith, q, eqb-true (unreachable row) 1 e)) in rw (z, lets_live) refl

    lets-lived : eqb (unreachable row) 1 ≡ false → lets_live g v kept m row ≡ lived g v c m row
    unfolding lets_live
    lets-lived e =
        let z : eqb (unreachable row) 0 ≡ true = eq-eqb (unreachable row) 0 (omega (arith, h.reachable, eqb-false (unreachable row) 1 e)) in
        rw (z, lets_live) (sym (lived_same m row h))

  walk_same : (m : ℕ) (ret : List Pair) (rs : List (List ℕ)) → Every (RowGood g) rs → is_alive (any_lived g v c m ret rs) ≡ some (lets_live g v kept m) rs
  unfolding any_lived is_alive some
  walk_same m ret [] a = refl
  walk_same m ret (r ∷ rs) a = go (eqb (unreachable r) 1) refl (lived g v c m r) refl (all_dead_pure_dynamic_import g v r) refl (λ more. walk_same m more rs a.1)
    where
      go : (s : Bool) → eqb (unreachable r) 1 ≡ s → (b : Bool) → lived g v c m r ≡ b → (d : Bool) → all_dead_pure_dynamic_import g v r ≡ d
          → ((more : List Pair) → is_alive (any_lived g v c m more rs) ≡ some (lets_live g v kept m) rs) → is_alive (any_lived g v c m ret (r ∷ rs)) ≡ some (lets_live g v kept m) (r ∷ rs)
      go true s b l d p next =
          let z = lets-not m r a.0 s in
          ap is_alive (walk-unreachable g v r rs c m ret s) ∙ next ret ∙ rw (z, some) refl
      go false s true l d p next =
          let z = lets-lived m r a.0 s ∙ l in
          ap is_alive (walk-lived g v r rs c m ret s l) ∙ rw (z, some) refl
      go false s false l true p next =
          let z = lets-lived m r a.0 s ∙ l in
          ap is_alive (walk-pure g v r rs c m ret s l p) ∙ next (ret ++ (pair (related_module r) (related_import_record r) ∷ [])) ∙ rw (z, some) refl
      go false s false l false p next =
          let z = lets-lived m r a.0 s ∙ l in
          ap is_alive (walk-other g v r rs c m ret s l p) ∙ next ret ∙ rw (z, some) refl

-- a dynamic entry's test goes over its related statements
pub dynamic_walk : (g : Graph) (v : List ℕ) (c : Context) (e : ℕ) → is_dynamic g e ≡ true → is_dynamic_entry_alive g v c e ≡ any_lived g v c (module_of_entry g e) [] (related (entry_of g e))
unfolding is_dynamic_entry_alive is_dynamic entry_idx module_of_entry
dynamic_walk g v c e d =
    let z : ltb (entry_kind (entry_of g e)) 2 ≡ false = le-ltb (entry_kind (entry_of g e)) 2 (omega (arith, eqb-true (entry_kind (entry_of g e)) 2 d)) in
    rw (z, is_dynamic_entry_alive) refl

-- what it leaves where it is dead
pub entry_unused : (g : Graph) (v : List ℕ) (c : Context) (e : ℕ) → is_dynamic g e ≡ true → (out : List Pair) → is_dynamic_entry_alive g v c e ≡ unused out → out ≡ dead_pairs g v (related (entry_of g e))
entry_unused g v c e d out h = unused_are g v c (module_of_entry g e) [] (related (entry_of g e)) out (sym (dynamic_walk g v c e d) ∙ h)

module _ (numbers : List ℕ) (ok : answer_of (check_of numbers) ≡ Ok tt) (v : List ℕ) (c : Context) where
  pub alive_same : (e : ℕ) → e < (graph_in numbers).header.entries → is_dynamic (graph_in numbers) e ≡ true → (kept : Fact → Bool)
      → ((m i : ℕ) → m < (graph_in numbers).header.modules → i < length (statement_list (graph_in numbers) m) → has_pair m i c.statements ≡ kept (statement_fact m i))
      → is_alive (is_dynamic_entry_alive (graph_in numbers) v c e) ≡ lives (graph_in numbers) v kept e
  unfolding lives
  alive_same e l d kept stmts =
      ap is_alive (dynamic_walk (graph_in numbers) v c e d)
      ∙ walk_same (graph_in numbers) v c kept stmts (module_of_entry (graph_in numbers) e) [] (related (entry_of (graph_in numbers) e)) (rows_good numbers ok e l)
