-- A related statement and an entry, by their parts.
use Prim.Native.Nat.{ℕ}
use mathlib.Core.Path.{◌≡◌, refl, ap, ◌∙◌, sym}
use mathlib.Core.Logic.{◌≢◌}
use mathlib.Core.List.{List, [], ◌∷◌}
use borrow.Author.Tests.{ne_eqb}
use lib.ListN.{length, get_or}
use Rattle.graph_tables.specs.rows_crate.Walk.{Parsed, got, fault, and_then, below, number, list, walk_of, plain_row, columns_of, Item, no_item}
use Rattle.graph_tables.proofs.rows_crate.Walks.{at_got, fault_is, walk-map}
use Rattle.graph_tables.proofs.rows_crate.Cells.{then_got, no_fault, Number, number_got}
use Rattle.graph_tables.proofs.rows_crate.Items.{got_same}
use mathlib.Core.Bool.{Bool, true, false}
use lib.Dec.{eqb}
use Rattle.graph_tables.specs.graph_format_crate.declared.Header.{Header}
use Rattle.graph_tables.specs.graph_format_crate.Format.{kind_of, statements_of, import_records_of, related_module_at, related_import_record_at, related_at, entry_at}
use Rattle.graph_tables.proofs.graph_format_crate.Chains.{lists_one}
use Rattle.graph_tables.proofs.OneItem.{item_go, item_stop, item_place}
use Rattle.std.specs.Prelude.{Ok, Err}
use Rattle.graph_tables.specs.refusal_crate.declared.Refusal.{Refusal}
use Rattle.graph_tables.specs.refusal_crate.declared.Refusal.TheVariants.{OutOfRange}

pub then_fault : {A B : Type 0} {x : Parsed A} {why : Refusal} (k : A → ℕ → Parsed B) → x ≡ fault why → and_then x k ≡ fault why
unfolding and_then
then_fault k e = rw e

pub then_at : {A B : Type 0} {x : Parsed A} {a : A} {q : ℕ} (k : A → ℕ → Parsed B) → x ≡ got a q → and_then x k ≡ k a q
unfolding and_then
then_at k e = rw e

module _ (h : Header) (ms : List Item) (numbers : List ℕ) (at : ℕ) where
  pub module_stop : {why : Refusal} → walk_of (number (below h.modules) numbers at) ≡ Err why → walk_of (related_module_at h ms numbers at) ≡ Err why
  unfolding related_module_at walk_of
  module_stop {why} e = ap walk_of (then_fault _ (fault_is _ why e))

  pub module_normal : {x q : ℕ} (m k : ℕ) → number (below h.modules) numbers at ≡ got x q → m ≡ x → k ≡ kind_of (get_or ms m no_item) → k ≡ 1 → related_module_at h ms numbers at ≡ got m q
  unfolding related_module_at
  module_normal {x} {q} m k e s i o =
      let j : k ≡ kind_of (get_or ms x no_item) = rw s at i in
      then_at _ e ∙ rw (sym j, o) (ap (λ y. got y q) (sym s))

  pub module_external : {x q : ℕ} (m k : ℕ) → number (below h.modules) numbers at ≡ got x q → m ≡ x → k ≡ kind_of (get_or ms m no_item) → k ≢ 1 → related_module_at h ms numbers at ≡ fault (OutOfRange at)
  unfolding related_module_at
  module_external m k e s i o = then_at _ e ∙ rw (sym s, sym i, ne_eqb k 1 o)

module _ (import_records : List (List ℕ)) (numbers : List ℕ) (at count : ℕ) (is : count ≡ length import_records) where
  pub record_stop : {why : Refusal} → walk_of (number (below count) numbers at) ≡ Err why → walk_of (related_import_record_at import_records numbers at) ≡ Err why
  unfolding related_import_record_at walk_of
  record_stop {why} e = ap walk_of (then_fault _ (rw is at (fault_is (number (below count) numbers at) why e)))

  pub record_none : {x q : ℕ} (k t : ℕ) → number (below count) numbers at ≡ got x q → k ≡ x → t ≡ get_or (get_or import_records k []) 0 0 → t ≡ 0 → related_import_record_at import_records numbers at ≡ fault (OutOfRange at)
  unfolding related_import_record_at
  record_none k t e s i o = then_at _ (rw is at e) ∙ rw (sym s, sym i, o)

  pub record_some : {x q : ℕ} (k t : ℕ) → number (below count) numbers at ≡ got x q → k ≡ x → t ≡ get_or (get_or import_records k []) 0 0 → t ≢ 0 → related_import_record_at import_records numbers at ≡ got k q
  unfolding related_import_record_at
  record_some {x} {q} k t e s i o =
      let j : t ≡ get_or (get_or import_records x []) 0 0 = rw s at i in
      then_at _ (rw is at e) ∙ rw (sym j, ne_eqb t 0 o) (ap (λ y. got y q) (sym s))

-- the four numbers of a related statement
module _ (h : Header) (ms : List Item) (numbers seen : List ℕ) (at : ℕ) where
  pub related_stop : {why : Refusal} → walk_of (related_module_at h ms numbers at) ≡ Err why → walk_of (related_at h ms numbers seen at) ≡ Err why
  unfolding related_at walk_of
  related_stop {why} e = ap walk_of (then_fault _ (fault_is _ why e))

  module _ {x q : ℕ} (m count : ℕ) (e : related_module_at h ms numbers at ≡ got x q) (s : m ≡ x) (c : count ≡ statements_of (get_or ms m no_item)) where
    pub related-stop-statement : {why : Refusal} → walk_of (number (below count) numbers q) ≡ Err why → walk_of (related_at h ms numbers seen at) ≡ Err why
    unfolding related_at walk_of
    related-stop-statement {why} f = ap walk_of (then_at _ e ∙ then_fault _ (rw (sym s, sym c) (fault_is _ why f)))

    module _ {y o : ℕ} (f : number (below count) numbers q ≡ got y o) where
      statement-read : number (below (statements_of (get_or ms x no_item))) numbers q ≡ got y o
      statement-read = rw (sym s, sym c) f

      pub related-stop-record : {why : Refusal} → walk_of (related_import_record_at (import_records_of (get_or ms m no_item)) numbers o) ≡ Err why → walk_of (related_at h ms numbers seen at) ≡ Err why
      unfolding related_at walk_of
      related-stop-record {why} g =
          let w : related_import_record_at (import_records_of (get_or ms x no_item)) numbers o ≡ fault why = rw (sym s) (fault_is _ why g) in
          ap walk_of (then_at _ e ∙ then_at _ statement-read ∙ then_fault _ w)

      pub related-last : {z u : ℕ} → related_import_record_at (import_records_of (get_or ms m no_item)) numbers o ≡ got z u → walk_of (related_at h ms numbers seen at) ≡ walk_of (number (below 2) numbers u)
      unfolding related_at
      related-last {z} {u} g =
          let w : related_import_record_at (import_records_of (get_or ms x no_item)) numbers o ≡ got z u = rw (sym s) g in
          ap walk_of (then_at _ e ∙ then_at _ statement-read ∙ then_at _ w) ∙ walk-map (number (below 2) numbers u) (λ v. x ∷ y ∷ z ∷ v ∷ [])

-- what the module number of a related statement is
pub module_is : (h : Header) (ms : List Item) (numbers : List ℕ) (at : ℕ) {x q : ℕ} → related_module_at h ms numbers at ≡ got x q → Number (below h.modules) numbers at x q
unfolding related_module_at
module_is h ms numbers at {x} {q} e =
    let t = then_got (number (below h.modules) numbers at) _ e in
    go t.0 t.1 (number_got _ numbers at t.2) (eqb (kind_of (get_or ms t.0 no_item)) 1) refl t.3
  where
    go : (y p : ℕ) → Number (below h.modules) numbers at y p → (b : Bool) → eqb (kind_of (get_or ms y no_item)) 1 ≡ b
        → (elim (eqb (kind_of (get_or ms y no_item)) 1) [ true ↦ got y p | false ↦ fault (OutOfRange at) ]) ≡ got x q → Number (below h.modules) numbers at x q
    go y p n true u w = let s = got_same (rw u at w) in rw (sym s.0, sym s.1) n
    go y p n false u w = absurd (no_fault (rw u at w))

-- an entry, by its two numbers
module _ (h : Header) (ms : List Item) (numbers : List ℕ) (i at : ℕ) where
  pub entry_stop : {why : Refusal} → walk_of (plain_row (columns_of 2 h.modules 3 0) numbers [] at) ≡ Err why → walk_of (entry_at h ms numbers i at) ≡ Err why
  unfolding entry_at plain_row columns_of
  entry_stop e = item_stop _ _ numbers at e

  pub entry_go : {q : ℕ} → walk_of (plain_row (columns_of 2 h.modules 3 0) numbers [] at) ≡ Ok q
      → walk_of (entry_at h ms numbers i at) ≡ walk_of (list (record { counts = 16385; row = related_at h ms numbers }) numbers q)
  unfolding entry_at plain_row columns_of
  entry_go {q} e = let t = at_got _ q e in item_go _ _ numbers at t.1 ∙ lists_one _ numbers q

  pub entry_place : {x : Item} {q : ℕ} → entry_at h ms numbers i at ≡ got x q → x.place ≡ at
  unfolding entry_at
  entry_place e = item_place _ _ numbers at e
