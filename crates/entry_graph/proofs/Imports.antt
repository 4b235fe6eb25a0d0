-- Import records: what one asks for, and what is left of it when its edge is added.
use Prim.Native.Nat.{ℕ, ◌-◌, ◌<◌, ◌≤◌}
use mathlib.Core.Path.{◌≡◌, refl, ap, ◌∙◌, sym}
use mathlib.Core.Bool.{Bool, true, false}
use mathlib.Core.List.{List, []}
use native.Mathlib.Omega.{arith}
use borrow.Author.Tests.{eq-eqb, ne_eqb}
use lib.Dec.{eqb, ltb}
use lib.ListN.{get_or}
use Rattle.graph_access.specs.index_crate.declared.ModuleIdx.{ModuleIdx}
use Rattle.graph_access.specs.graph_crate.Check.{Graph}
use Rattle.graph_access.specs.Names.{import_records, import_record_target, import_record_kind}
use Rattle.graph_access.specs.Words.{module_of, normal}
use Rattle.keep_record.specs.Lines.{elem}
use Rattle.entry_graph.specs.declared.Built.{Built}
use Rattle.entry_graph.specs.declared.Built.TheVariants.{Nodes, Full}
use Rattle.entry_graph.specs.declared.Import.{Import}
use Rattle.entry_graph.specs.declared.Import.TheVariants.{Unresolved, SameRoot, Edge}
use Rattle.entry_graph.specs.declared.Step.TheVariants.{Walk, Stay, Overfull}
use Rattle.entry_graph.specs.Ordering.{Ordering, add_edge, dynamic_import, import_record}
use Rattle.entry_graph.specs.Memory.{ordering_in, Stored}
use Rattle.entry_graph.specs.Steps.{Holds, records_of, import_as, Asks, behind_edge, Takes}

-- the records that are walked
pub records_normal : (g : Graph) (m : ℕ) → normal g m ≡ true → records_of g m ≡ import_records (module_of g m)
unfolding records_of
records_normal g m e = rw (e, records_of)

pub records_none : (g : Graph) (m : ℕ) → normal g m ≡ false → records_of g m ≡ []
unfolding records_of
records_none g m e = rw (e, records_of)

-- what a record asks for, by its target and its kind
module _ (M root : ℕ) (row : List ℕ) (x : ℕ) (is : x ≡ import_record_target row) where
  pub ask_unresolved : x ≡ 0 → Asks M root row Unresolved
  unfolding import_record import_as
  ask_unresolved z =
      record {
        is = λ go s. rw (eq-eqb (import_record_target row) 0 (sym is ∙ z), import_record);
        bounded = record {
          below = λ t q. let y : ◌≡◌ {A = ℕ} 0 1 = cc in absurd (omega arith);
          edge_below = λ t q. let y : ◌≡◌ {A = ℕ} 0 1 = cc in absurd (omega arith);
        };
      }

  module _ (some : x ≡ 0 → ⊥) (few : x ≤ M) where
    target : ModuleIdx
    target = record { 0 = x - 1 }

    resolved : eqb (import_record_target row) 0 ≡ false
    resolved = ne_eqb _ _ (λ q. some (is ∙ q))

    same-root : ((go : ℕ → ℕ → Ordering → Ordering) (s : Ordering) → import_record go root row s ≡ go root (x - 1) s) → Asks M root row (SameRoot target)
    unfolding import_as target
    same-root f =
        record {
          is = f;
          bounded = record {
            below = λ t q. let e : target ≡ t = cc in let l : target.0 < M = omega arith in rw (sym e) l;
            edge_below = λ t q. let y : ◌≡◌ {A = ℕ} 0 1 = cc in absurd (omega arith);
          };
        }

    pub ask-plain : (import_record_kind row ≡ 2 → ⊥) → Asks M root row (SameRoot (record { 0 = x - 1 }))
    unfolding import_record target
    ask-plain k = same-root (λ go s. rw (resolved, ne_eqb (import_record_kind row) 2 k, sym is, import_record))

    pub ask-root : import_record_kind row ≡ 2 → root ≡ x - 1 → Asks M root row (SameRoot (record { 0 = x - 1 }))
    unfolding import_record dynamic_import target
    ask-root k r = same-root (λ go s. rw (resolved, eq-eqb (import_record_kind row) 2 k, sym is, eq-eqb root (x - 1) r, import_record, dynamic_import, sym is) (ap (λ (u : ℕ). go u (x - 1) s) (sym r)))

    pub ask-edge : import_record_kind row ≡ 2 → (root ≡ x - 1 → ⊥) → Asks M root row (Edge (record { 0 = x - 1 }))
    unfolding import_record dynamic_import import_as target
    ask-edge k r =
        record {
          is = λ go s. rw is (rw (resolved, eq-eqb (import_record_kind row) 2 k, ne_eqb root (import_record_target row - 1) (λ q. r (rw is q)), import_record, dynamic_import));
          bounded = record {
            below = λ t q. let y : ◌≡◌ {A = ℕ} 0 1 = cc in absurd (omega arith);
            edge_below = λ t q. let e : target ≡ t = cc in let l : target.0 < M = omega arith in rw (sym e) l;
          };
        }

-- what is left of a record
module _ (M cap root : ℕ) (i : Import) (nodes₀ : List ℕ) (n₀ : ℕ) (outs₀ succs₀ nodes outs succs edges : List ℕ) where
  abbrev before : (ℕ → ℕ → Ordering → Ordering) → List ℕ → Ordering
  before go v = import_as go root i (ordering_in M cap v nodes₀ n₀ outs₀ succs₀)

  take_stay : (n : ℕ) → Stored M cap nodes n outs succs edges → ((go : ℕ → ℕ → Ordering → Ordering) (v : List ℕ) → before go v ≡ ordering_in M cap v nodes n outs succs)
      → Takes M cap root i nodes₀ n₀ outs₀ succs₀ nodes outs succs edges (Stay n)
  take_stay n s f =
      record {
        walk_stored = λ r t k q. let y : ◌≡◌ {A = ℕ} 0 1 = cc in absurd (omega arith);
        walk_below = λ r t k q. let y : ◌≡◌ {A = ℕ} 0 1 = cc in absurd (omega arith);
        walk_is = λ r t k q. let y : ◌≡◌ {A = ℕ} 0 1 = cc in absurd (omega arith);
        stay_stored = λ k q. let e : n ≡ k = cc in rw (sym e) s;
        stay_is = λ k q. let e : n ≡ k = cc in rw (sym e) f;
        too_many = λ q. let y : ◌≡◌ {A = ℕ} 0 1 = cc in absurd (omega arith);
      }

  take_walk : (from t : ModuleIdx) (n : ℕ) → Stored M cap nodes n outs succs edges → from.0 < M → t.0 < M
      → ((go : ℕ → ℕ → Ordering → Ordering) (v : List ℕ) → before go v ≡ go from.0 t.0 (ordering_in M cap v nodes n outs succs))
      → Takes M cap root i nodes₀ n₀ outs₀ succs₀ nodes outs succs edges (Walk from t n)
  take_walk from t n s a b f =
      record {
        walk_stored = λ r u k q. let e : n ≡ k = cc in rw (sym e) s;
        walk_below = λ r u k q. let d : from ≡ r = cc in let e : t ≡ u = cc in rw (sym d, sym e) (a, b);
        walk_is = λ r u k q. let d : from ≡ r = cc in let e : t ≡ u = cc in let i : n ≡ k = cc in rw (sym d, sym e, sym i) f;
        stay_stored = λ k q. let y : ◌≡◌ {A = ℕ} 0 1 = cc in absurd (omega arith);
        stay_is = λ k q. let y : ◌≡◌ {A = ℕ} 0 1 = cc in absurd (omega arith);
        too_many = λ q. let y : ◌≡◌ {A = ℕ} 0 1 = cc in absurd (omega arith);
      }

  take_full : cap < M → Takes M cap root i nodes₀ n₀ outs₀ succs₀ nodes outs succs edges Overfull
  take_full h =
      record {
        walk_stored = λ r t k q. let y : ◌≡◌ {A = ℕ} 0 1 = cc in absurd (omega arith);
        walk_below = λ r t k q. let y : ◌≡◌ {A = ℕ} 0 1 = cc in absurd (omega arith);
        walk_is = λ r t k q. let y : ◌≡◌ {A = ℕ} 0 1 = cc in absurd (omega arith);
        stay_stored = λ k q. let y : ◌≡◌ {A = ℕ} 0 1 = cc in absurd (omega arith);
        stay_is = λ k q. let y : ◌≡◌ {A = ℕ} 0 1 = cc in absurd (omega arith);
        too_many = λ q. h;
      }

module _ (M cap : ℕ) (nodes₀ : List ℕ) (n : ℕ) (outs₀ succs₀ edges₀ : List ℕ) (s : Stored M cap nodes₀ n outs₀ succs₀ edges₀) (root : ModuleIdx) (h : root.0 < M) where
  pub left_unresolved : Takes M cap root.0 Unresolved nodes₀ n outs₀ succs₀ nodes₀ outs₀ succs₀ edges₀ (Stay n)
  unfolding import_as
  left_unresolved = take_stay M cap root.0 Unresolved nodes₀ n outs₀ succs₀ nodes₀ outs₀ succs₀ edges₀ n s (λ go v. refl)

  pub left_same_root : (t : ModuleIdx) → t.0 < M → Takes M cap root.0 (SameRoot t) nodes₀ n outs₀ succs₀ nodes₀ outs₀ succs₀ edges₀ (Walk root t n)
  unfolding import_as
  left_same_root t b = take_walk M cap root.0 (SameRoot t) nodes₀ n outs₀ succs₀ nodes₀ outs₀ succs₀ edges₀ root t n s h b (λ go v. refl)

  module _ (t : ModuleIdx) (b : t.0 < M) (nodes outs succs edges : List ℕ) where
    node_seen : (v : List ℕ) → elem t.0 (ordering_in M cap v nodes₀ n outs₀ succs₀).nodes ≡ ltb 0 (get_or outs₀ t.0 0)
    unfolding ordering_in
    node_seen v = s.is_node t.0 b

    pub left-edge : (built : Built) (seen : Bool) → seen ≡ ltb 0 (get_or outs₀ t.0 0) → ((v : List ℕ) → Holds M cap (add_edge root.0 t.0 (ordering_in M cap v nodes₀ n outs₀ succs₀)) v nodes outs succs edges built)
        → Takes M cap root.0 (Edge t) nodes₀ n outs₀ succs₀ nodes outs succs edges (behind_edge built seen t)
    unfolding import_as behind_edge
    left-edge (Nodes d) true q f = take_stay M cap root.0 (Edge t) nodes₀ n outs₀ succs₀ nodes outs succs edges d ((f []).stored d refl) (λ go v. (rw (node_seen v ∙ sym q, import_as)) ∙ sym ((f v).is d refl))
    left-edge (Nodes d) false q f = take_walk M cap root.0 (Edge t) nodes₀ n outs₀ succs₀ nodes outs succs edges t t d ((f []).stored d refl) b b (λ go v. (rw (node_seen v ∙ sym q, import_as)) ∙ ap (go t.0 t.0) (sym ((f v).is d refl)))
    left-edge Full true q f = take_full M cap root.0 (Edge t) nodes₀ n outs₀ succs₀ nodes outs succs edges ((f []).too_many refl)
    left-edge Full false q f = take_full M cap root.0 (Edge t) nodes₀ n outs₀ succs₀ nodes outs succs edges ((f []).too_many refl)
