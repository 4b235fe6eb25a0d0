-- What a walk keeps: a property that visits and new edges keep. Every number that the walk meets is one of the given ones.
use Prim.Native.Nat.{ℕ, zero, suc, ◌-◌, ◌<◌}
use mathlib.Core.Path.{◌≡◌, refl}
use mathlib.Core.Bool.{Bool, true, false}
use mathlib.Core.List.{List, [], ◌∷◌}
use native.Mathlib.Omega.{arith}
use borrow.Author.Tests.{eqb-false}
use lib.Dec.{eqb}
use lib.ListN.{length, get_or}
use Rattle.graph_access.specs.graph_crate.Check.{Graph}
use Rattle.graph_access.specs.Names.{import_records, import_record_target, import_record_kind}
use Rattle.graph_access.specs.Words.{module_of, normal}
use Rattle.keep_record.specs.Lines.{elem}
use Rattle.entry_graph.specs.Ordering.{Ordering, add_edge, visit, dynamic_import, import_record, all_records, construct}

-- the modules that records are resolved to
abbrev pub Target : (ℕ → Type 0) → List ℕ → Type 0
Target R row = (import_record_target row ≡ 0 → ⊥) → R (import_record_target row - 1)

abbrev pub Targets : (ℕ → Type 0) → List (List ℕ) → Type 0
Targets R [] = Unit {0}
Targets R (row ∷ rows) = Target R row × Targets R rows

pub targets : (R : ℕ → Type 0) (rows : List (List ℕ)) → ((k : ℕ) → k < length rows → Target R (get_or rows k [])) → Targets R rows
targets R [] f = _
targets R (row ∷ rows) f = (f 0 (omega arith), targets R rows (λ k h. f (suc k) (omega arith)))

module _ (R : ℕ → Type 0) (P : Ordering → Type 0) (on_edge : (a b : ℕ) (s : Ordering) → R a → R b → P s → P (add_edge a b s)) where
  abbrev pub Keeps : (ℕ → ℕ → Ordering → Ordering) → Type 0
  Keeps go = (r t : ℕ) (q : Ordering) → R r → R t → P q → P (go r t q)

  module _ (go : ℕ → ℕ → Ordering → Ordering) (k : Keeps go) (root : ℕ) (h : R root) where
    dynamic-keeps : (t : ℕ) (s : Ordering) → R t → P s → P (dynamic_import go root t s)
    unfolding dynamic_import
    dynamic-keeps t s b p = to (eqb root t) refl (elem t s.nodes) refl
      where
        to : (c : Bool) → eqb root t ≡ c → (d : Bool) → elem t s.nodes ≡ d → P (dynamic_import go root t s)
        to true e d q = rw (e, dynamic_import) (k t t s b b p)
        to false e true q = rw (e, q, dynamic_import) (on_edge root t s h b p)
        to false e false q = rw (e, q, dynamic_import) (k t t (add_edge root t s) b b (on_edge root t s h b p))

    pub record-keeps : (row : List ℕ) (s : Ordering) → Target R row → P s → P (import_record go root row s)
    unfolding import_record
    record-keeps row s b p = to (eqb (import_record_target row) 0) refl (eqb (import_record_kind row) 2) refl
      where
        to : (c : Bool) → eqb (import_record_target row) 0 ≡ c → (d : Bool) → eqb (import_record_kind row) 2 ≡ d → P (import_record go root row s)
        to true e d q = rw (e, import_record) p
        to false e true q = rw (e, q, import_record) (dynamic-keeps (import_record_target row - 1) s (b (eqb-false (import_record_target row) 0 e)) p)
        to false e false q = rw (e, q, import_record) (k root (import_record_target row - 1) s h (b (eqb-false (import_record_target row) 0 e)) p)

    pub records-keep : (rows : List (List ℕ)) (s : Ordering) → Targets R rows → P s → P (all_records go root rows s)
    unfolding all_records
    records-keep [] s b p = p
    records-keep (row ∷ rows) s b p = records-keep rows (import_record go root row s) b.1 (record-keeps row s b.0 p)

  module _ (g : Graph) (on-visit : (m : ℕ) (s : Ordering) → P s → P (visit m s)) (inside : (m : ℕ) → R m → Targets R (import_records (module_of g m))) where
    pub construct-keeps : (fuel : ℕ) → Keeps (λ r t q. construct g fuel r t q)
    unfolding construct
    construct-keeps zero root m s a b p = p
    construct-keeps (suc fuel) root m s a b p = to (construct-keeps fuel) (s.visited m) refl (normal g m) refl
      where
        to : Keeps (λ r t q. construct g fuel r t q) → (c : Bool) → s.visited m ≡ c → (d : Bool) → normal g m ≡ d → P (construct g (suc fuel) root m s)
        to k true e d q = rw (e, construct) p
        to k false e true q = rw (e, q, construct) (records-keep (λ r t y. construct g fuel r t y) k root a (import_records (module_of g m)) (visit m s) (inside m b) (on-visit m s p))
        to k false e false q = rw (e, q, construct) (on-visit m s p)
