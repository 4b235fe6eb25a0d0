-- Within which limits the numbers of an entry that was read are, and those of its related statements.
-- A related module is normal, a related import record resolved (`related_good`).
use Prim.Native.Nat.{ℕ, ◌<◌}
use mathlib.Core.Path.{◌≡◌, refl, ap, ◌∙◌, sym}
use mathlib.Core.Bool.{Bool, true, false}
use mathlib.Core.List.{List, []}
use native.Mathlib.Omega.{arith}
use borrow.Author.Tests.{eqb-true, eqb-false}
use lib.Dec.{eqb}
use lib.ListN.{length, get_or}
use Rattle.graph.specs.rows_crate.Walk.{got, fault, below, number, firsts, Item, no_item}
use Rattle.graph.proofs.rows_crate.Cells.{no_fault, then_got, number_got}
use Rattle.graph.proofs.rows_crate.Items.{got_same, many_each}
use Rattle.graph.specs.graph_format_crate.declared.Header.{Header}
use Rattle.graph.specs.graph_format_crate.Format.{kind_of, statements_of, import_records_of, related_module_at, related_import_record_at, related_at}
use Rattle.graph.specs.graph_tables_crate.Tables.{header_in, modules_in, entries_in}
use Rattle.graph.specs.graph_tables_crate.Places.{EntryTable}
use Rattle.graph_access.proofs.OfEntries.{module_got, record_got, entry_read, related-read}
use Rattle.graph.specs.refusal_crate.declared.Refusal.TheVariants.{OutOfRange}

-- a related statement: its module is normal, its record resolved, each number within its limit
pub record RelatedGood (modules : List Item) (count : ℕ) (row : List ℕ) : Type 0 where
  pub inside : get_or row 0 0 < count
  pub normal : kind_of (get_or modules (get_or row 0 0) no_item) ≡ 1
  pub statement : get_or row 1 0 < statements_of (get_or modules (get_or row 0 0) no_item)
  pub import_record : get_or row 2 0 < length (import_records_of (get_or modules (get_or row 0 0) no_item))
  pub resolved : get_or (get_or (import_records_of (get_or modules (get_or row 0 0) no_item)) (get_or row 2 0) []) 0 0 ≡ 0 → ⊥
  pub flag : get_or row 3 0 < 2

module_normal : (h : Header) (ms : List Item) (numbers : List ℕ) (at : ℕ) {x q : ℕ} → related_module_at h ms numbers at ≡ got x q → kind_of (get_or ms x no_item) ≡ 1
unfolding related_module_at
module_normal h ms numbers at {x} {q} e =
    let t = then_got (number (below h.modules) numbers at) _ e in
    go t.0 t.1 (eqb (kind_of (get_or ms t.0 no_item)) 1) refl t.3
  where
    go : (y p : ℕ) (b : Bool) → eqb (kind_of (get_or ms y no_item)) 1 ≡ b
        → (elim (eqb (kind_of (get_or ms y no_item)) 1) [ true ↦ got y p | false ↦ fault (OutOfRange at) ]) ≡ got x q → kind_of (get_or ms x no_item) ≡ 1
    go y p true u w =
        let s = (got_same (rw u at w)).0 in
        ap (λ z. kind_of (get_or ms z no_item)) (sym s) ∙ eqb-true _ _ u
    go y p false u w = absurd (no_fault (rw u at w))

record_resolved : (import_records : List (List ℕ)) (numbers : List ℕ) (at : ℕ) {x q : ℕ} → related_import_record_at import_records numbers at ≡ got x q → get_or (get_or import_records x []) 0 0 ≡ 0 → ⊥
unfolding related_import_record_at
record_resolved import_records numbers at {x} {q} e =
    let t = then_got (number (below (length import_records)) numbers at) _ e in
    go t.0 t.1 (eqb (get_or (get_or import_records t.0 []) 0 0) 0) refl t.3
  where
    go : (y p : ℕ) (b : Bool) → eqb (get_or (get_or import_records y []) 0 0) 0 ≡ b
        → (elim (eqb (get_or (get_or import_records y []) 0 0) 0) [ true ↦ fault (OutOfRange at) | false ↦ got y p ]) ≡ got x q → get_or (get_or import_records x []) 0 0 ≡ 0 → ⊥
    go y p true u w = absurd (no_fault (rw u at w))
    go y p false u w =
        let s = (got_same (rw u at w)).0 in
        λ z. eqb-false _ _ u (ap (λ i. get_or (get_or import_records i []) 0 0) s ∙ z)

row_good : (h : Header) (ms : List Item) (numbers seen : List ℕ) (at : ℕ) {row : List ℕ} {q : ℕ} → related_at h ms numbers seen at ≡ got row q → RelatedGood ms h.modules row
unfolding related_at
row_good h ms numbers seen at {row} {q} e =
    let t = then_got (related_module_at h ms numbers at) _ e in
    let u = then_got (number (below (statements_of (get_or ms t.0 no_item))) numbers t.1) _ t.3 in
    let v = then_got (related_import_record_at (import_records_of (get_or ms t.0 no_item)) numbers u.1) _ u.3 in
    let w = then_got (number (below 2) numbers v.1) _ v.3 in
    let s = got_same w.3 in
    moved s.0
    (record {
      inside = (module_got h ms numbers at t.2).good.1;
      normal = module_normal h ms numbers at t.2;
      statement = (number_got _ numbers _ u.2).good.1;
      import_record = (record_got _ numbers _ v.2).good.1;
      resolved = record_resolved _ numbers _ v.2;
      flag = (number_got _ numbers _ w.2).good.1;
    })
  where
    moved : {x y : List ℕ} → x ≡ y → RelatedGood ms h.modules x → RelatedGood ms h.modules y
    moved i g = rw (sym i) g

-- an entry that was read, by the table
module _ (numbers table : List ℕ) (t : EntryTable numbers table) (e : ℕ) (h : e < (header_in numbers).entries) where
  abbrev its : Item
  its = get_or (entries_in numbers) e no_item

  pub module_below : get_or its.head 0 0 < (header_in numbers).modules
  module_below = ((entry_read numbers table t e h).1.head.good 0 (omega arith)).1

  pub kind_below : get_or its.head 1 0 < 3
  kind_below = ((entry_read numbers table t e h).1.head.good 1 (omega arith)).1

  pub related_good : (k : ℕ) → k < length (get_or its.rows 0 []) → RelatedGood (modules_in numbers) (header_in numbers).modules (get_or (get_or its.rows 0 []) k [])
  related_good k l =
      let o = many_each (related_at (header_in numbers) (modules_in numbers) numbers) firsts [] _ _ _ (related-read numbers table t e h).1.rows k l in
      row_good (header_in numbers) (modules_in numbers) numbers o.state o.at o.read
