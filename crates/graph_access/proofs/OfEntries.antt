-- Where the numbers of an entry that was read stand, and those of its related statements.
use Prim.Native.Nat.{ℕ, zero, suc, ◌+◌, ◌*◌, ◌<◌}
use mathlib.Core.Path.{◌≡◌, refl, ap, ◌∙◌, sym}
use mathlib.Core.Bool.{Bool, true, false}
use mathlib.Core.List.{List, [], ◌∷◌}
use native.Mathlib.Omega.{arith}
use lib.Dec.{eqb}
use lib.ListN.{length, get_or}
use Rattle.graph.specs.rows_crate.Walk.{Parsed, got, fault, and_then, Rule, below, number, many, ListRule, firsts, Item, no_item}
use Rattle.graph.proofs.rows_crate.Cells.{no_fault, then_got, Number, number_got}
use Rattle.graph.proofs.rows_crate.Items.{got_same, many_first, many-length, many_each, ItemRead, item_got, ListRead, list_got, lists_first}
use Rattle.graph.specs.graph_format_crate.declared.Header.{Header}
use Rattle.graph.specs.graph_format_crate.Format.{kind_of, statements_of, import_records_of, related_module_at, related_import_record_at, related_at, entry_at, entries_at}
use Rattle.graph.specs.graph_tables_crate.Tables.{header_in, modules_in, entries_read, entries_in}
use Rattle.graph.specs.graph_tables_crate.Places.{EntryTable}
use Rattle.graph.specs.refusal_crate.declared.Refusal.TheVariants.{OutOfRange}

-- a number that was read, where a test behind it may have refused it
tested : (r : Rule) (numbers : List ℕ) (at : ℕ) (test : ℕ → ℕ → Parsed ℕ) {x q : ℕ} → ((y p : ℕ) → test y p ≡ got x q → (y ≡ x) × (p ≡ q))
    → and_then (number r numbers at) test ≡ got x q → Number r numbers at x q
tested r numbers at test {x} {q} kept e =
    let t = then_got (number r numbers at) test e in
    let s = kept t.0 t.1 t.3 in
    moved s.0 s.1 (number_got r numbers at t.2)
  where
    moved : {y p z o : ℕ} → y ≡ z → p ≡ o → Number r numbers at y p → Number r numbers at z o
    moved i j n = rw (sym i, sym j) n

pub module_got : (h : Header) (ms : List Item) (numbers : List ℕ) (at : ℕ) {x q : ℕ} → related_module_at h ms numbers at ≡ got x q → Number (below h.modules) numbers at x q
unfolding related_module_at
module_got h ms numbers at {x} {q} e = tested _ numbers at _ (λ y p. go y p (eqb (kind_of (get_or ms y no_item)) 1) refl) e
  where
    go : (y p : ℕ) (b : Bool) → eqb (kind_of (get_or ms y no_item)) 1 ≡ b
        → (elim (eqb (kind_of (get_or ms y no_item)) 1) [ true ↦ got y p | false ↦ fault (OutOfRange at) ]) ≡ got x q → (y ≡ x) × (p ≡ q)
    go y p true u w = got_same (rw u at w)
    go y p false u w = absurd (no_fault (rw u at w))

pub record_got : (import_records : List (List ℕ)) (numbers : List ℕ) (at : ℕ) {x q : ℕ} → related_import_record_at import_records numbers at ≡ got x q → Number (below (length import_records)) numbers at x q
unfolding related_import_record_at
record_got import_records numbers at {x} {q} e = tested _ numbers at _ (λ y p. go y p (eqb (get_or (get_or import_records y []) 0 0) 0) refl) e
  where
    go : (y p : ℕ) (b : Bool) → eqb (get_or (get_or import_records y []) 0 0) 0 ≡ b
        → (elim (eqb (get_or (get_or import_records y []) 0 0) 0) [ true ↦ fault (OutOfRange at) | false ↦ got y p ]) ≡ got x q → (y ≡ x) × (p ≡ q)
    go y p true u w = absurd (no_fault (rw u at w))
    go y p false u w = got_same (rw u at w)

-- a row of four numbers that stands at `at`
record Four (numbers : List ℕ) (at : ℕ) (row : List ℕ) (q : ℕ) : Type 0 where
  pub next : q ≡ at + 4
  pub inside : (c : ℕ) → c < 4 → at + c < length numbers
  pub same : (c : ℕ) → c < 4 → get_or row c 0 ≡ get_or numbers (at + c) 0

module _ (numbers : List ℕ) {r₀ r₁ r₂ r₃ : Rule} {at p o n q a b c d : ℕ}
    (x : Number r₀ numbers at a p) (y : Number r₁ numbers p b o) (z : Number r₂ numbers o c n) (w : Number r₃ numbers n d q) where
  inside_four : (i : ℕ) → i < 4 → at + i < length numbers
  inside_four zero h = omega (arith, x.inside)
  inside_four (suc zero) h = omega (arith, x.next, y.inside)
  inside_four (suc (suc zero)) h = omega (arith, x.next, y.next, z.inside)
  inside_four (suc (suc (suc zero))) h = omega (arith, x.next, y.next, z.next, w.inside)
  inside_four (suc (suc (suc (suc i)))) h = absurd (omega arith)

  at_place : (i j : ℕ) → j ≡ at + i → get_or numbers j 0 ≡ get_or numbers (at + i) 0
  at_place i j e = ap (λ k. get_or numbers k 0) e

  same_four : (i : ℕ) → i < 4 → get_or (a ∷ b ∷ c ∷ d ∷ []) i 0 ≡ get_or numbers (at + i) 0
  same_four zero h = x.same ∙ at_place 0 at (omega arith)
  same_four (suc zero) h = y.same ∙ at_place 1 p (omega (arith, x.next))
  same_four (suc (suc zero)) h = z.same ∙ at_place 2 o (omega (arith, x.next, y.next))
  same_four (suc (suc (suc zero))) h = w.same ∙ at_place 3 n (omega (arith, x.next, y.next, z.next))
  same_four (suc (suc (suc (suc i)))) h = absurd (omega arith)

  four : Four numbers at (a ∷ b ∷ c ∷ d ∷ []) q
  four = record { next = omega (arith, x.next, y.next, z.next, w.next); inside = inside_four; same = same_four }

module _ (h : Header) (ms : List Item) (numbers : List ℕ) where
  related_got : (seen : List ℕ) (at : ℕ) {row : List ℕ} {q : ℕ} → related_at h ms numbers seen at ≡ got row q → Four numbers at row q
  unfolding related_at
  related_got seen at {row} {q} e =
      let t = then_got (related_module_at h ms numbers at) _ e in
      let u = then_got (number (below (statements_of (get_or ms t.0 no_item))) numbers t.1) _ t.3 in
      let v = then_got (related_import_record_at (import_records_of (get_or ms t.0 no_item)) numbers u.1) _ u.3 in
      let w = then_got (number (below 2) numbers v.1) _ v.3 in
      let s = got_same w.3 in
      let f = four numbers (module_got h ms numbers at t.2) (number_got _ numbers _ u.2) (record_got _ numbers _ v.2) (number_got _ numbers _ w.2) in
      moved s.0 s.1 f
    where
      moved : {x y : List ℕ} {p o : ℕ} → x ≡ y → p ≡ o → Four numbers at x p → Four numbers at y o
      moved i j f = rw (sym i, sym j) f

  -- row i of several
  related_each : (k : ℕ) (seen : List ℕ) (at : ℕ) {xs : List (List ℕ)} {q : ℕ} → many (related_at h ms numbers) firsts k seen at ≡ got xs q
      → (i : ℕ) → i < k → Four numbers (at + 4 * i) (get_or xs i []) (at + 4 * i + 4)
  related_each zero seen at e i l = absurd (omega arith)
  related_each (suc k) seen at {xs} {q} e zero l =
      let f = many_first (related_at h ms numbers) firsts k seen at e in
      let r = related_got seen at f.here in
      let n = r.next in
      let z : at + 4 * 0 ≡ at = omega arith in
      rw (z, f.is) (rw n at r)
  related_each (suc k) seen at {xs} {q} e (suc i) l =
      let f = many_first (related_at h ms numbers) firsts k seen at e in
      let z : f.end + 4 * i ≡ at + 4 * suc i = omega (arith, (related_got seen at f.here).next) in
      rw (f.is, sym z) (related_each k _ f.end f.there i (omega arith))

abbrev related_list : Header → List Item → List ℕ → ListRule
related_list h ms numbers = record { counts = 16385; row = related_at h ms numbers }

-- an entry that was read, by the table
module _ (numbers table : List ℕ) (t : EntryTable numbers table) where
  entries_long : length (entries_in numbers) ≡ (header_in numbers).entries
  unfolding entries_read entries_at
  entries_long = many-length _ _ _ _ _ t.read

  module _ (e : ℕ) (h : e < (header_in numbers).entries) where
    abbrev its : Item
    its = get_or (entries_in numbers) e no_item

    abbrev related : List (List ℕ)
    related = get_or its.rows 0 []

    pub entry_read : (q : ℕ) × ItemRead (below (header_in numbers).modules ∷ below 3 ∷ []) (λ head. related_list (header_in numbers) (modules_in numbers) numbers ∷ []) numbers its.place its q
    unfolding entries_read entries_at entry_at
    entry_read =
        let o = many_each _ _ no_item _ _ _ t.read e h in
        let r = item_got _ _ numbers o.at o.read in
        let p = r.place in
        (o.end, rw (sym p) at r)

    entry_place : get_or table e 0 ≡ its.place
    entry_place =
        let i = t.places e (omega (arith, entries_long, h)) in
        let z : 0 + e ≡ e = omega arith in
        rw z at i

    pub related-read : (q : ℕ) × ListRead (related_list (header_in numbers) (modules_in numbers) numbers) numbers (its.place + 2) related q
    related-read =
        let f = lists_first _ _ numbers (its.place + 2) entry_read.1.rows in
        let i = ap (λ l. get_or l 0 []) f.is in
        (f.end, list_got _ numbers (its.place + 2) (rw i f.here))

    pub number_inside : (i : ℕ) → i < 2 → get_or table e 0 + i < length numbers
    number_inside i l = rw entry_place (entry_read.1.head.inside i l)

    pub number_same : (i : ℕ) → i < 2 → get_or numbers (get_or table e 0 + i) 0 ≡ get_or its.head i 0
    number_same i l = rw entry_place (sym (entry_read.1.head.same i l))

    pub count_inside : get_or table e 0 + 2 < length numbers
    count_inside = rw entry_place related-read.1.inside

    pub count_same : get_or numbers (get_or table e 0 + 2) 0 ≡ length related
    count_same = rw entry_place related-read.1.counted

    module _ (k : ℕ) (l : k < length related) (c : ℕ) (w : c < 4) where
      row_read : Four numbers (its.place + 2 + 1 + 4 * k) (get_or related k []) (its.place + 2 + 1 + 4 * k + 4)
      row_read = related_each (header_in numbers) (modules_in numbers) numbers (length related) [] (its.place + 2 + 1) related-read.1.rows k l

      spot : get_or table e 0 + 3 + 4 * k + c ≡ its.place + 2 + 1 + 4 * k + c
      spot = rw entry_place (omega arith)

      pub related-inside : get_or table e 0 + 3 + 4 * k + c < length numbers
      related-inside = rw spot (row_read.inside c w)

      pub related_same : get_or numbers (get_or table e 0 + 3 + 4 * k + c) 0 ≡ get_or (get_or related k []) c 0
      related_same = rw spot (sym (row_read.same c w))
