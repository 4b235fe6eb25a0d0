-- What is known of a statement that was read, and where its parts stand.
use Prim.Native.Nat.{ℕ, zero, suc, ◌+◌, ◌<◌}
use mathlib.Core.Path.{◌≡◌, refl, ap, ◌∙◌, sym}
use mathlib.Core.List.{List, [], ◌∷◌}
use native.Mathlib.Omega.{arith}
use lib.ListN.{length, get_or}
use Rattle.graph.specs.rows_crate.Walk.{Parsed, got, below, many, plain, Item, no_item}
use Rattle.graph.proofs.rows_crate.Items.{many_first, many-length, many_each, ItemRead, item_got, ListRead, list_got, FirstList, lists_first}
use Rattle.graph.specs.graph_format_crate.Format.{import_records_of, statements_of, reference_list, statement_lists, statement_at, module_statements, statements_at}
use Rattle.graph.specs.graph_tables_crate.Tables.{header_in, modules_in, statements_read, statements_in, first_of}
use Rattle.graph.specs.graph_tables_crate.Places.{ModuleTable, StatementTable}
use Rattle.graph.proofs.graph_tables_crate.ByModule.{in_table}
use Rattle.graph_access.specs.References.{ReferencesAt}
use Rattle.graph_access.proofs.Column.{Column, column}
use Rattle.graph_access.proofs.ReadReferences.{references_at}

-- a statement's import records, where the statement is at p
pub record ImportRecordsAt (numbers : List ℕ) (p : ℕ) (xs : List (List ℕ)) : Type 0 where
  pub inside : p + 1 < length numbers
  pub counted : get_or numbers (p + 1) 0 ≡ length xs
  pub here : (k : ℕ) → k < length xs → p + 2 + k < length numbers
  pub same : (k : ℕ) → k < length xs → get_or (get_or xs k []) 0 0 ≡ get_or numbers (p + 2 + k) 0

-- its references, where it has n import records
pub record ReferencesCounted (numbers : List ℕ) (p n : ℕ) (xs : List (List ℕ)) : Type 0 where
  pub inside : p + 2 + n < length numbers
  pub counted : get_or numbers (p + 2 + n) 0 ≡ length xs
  pub follow : ReferencesAt numbers (p + 3 + n) xs

-- thing i of those that are read by their numbers
counted_each : {A : Type 0} (step : ℕ → ℕ → Parsed A) (d : A) (k s at : ℕ) {xs : List A} {q : ℕ} → many step (λ j x. j + 1) k s at ≡ got xs q → (i : ℕ) → i < k
    → (p : ℕ) × (o : ℕ) × (step (s + i) p ≡ got (get_or xs i d) o)
counted_each step d zero s at e i h = absurd (omega arith)
counted_each step d (suc k) s at {xs} {q} e zero h =
    let f = many_first step _ k s at e in
    let z : s + 0 ≡ s = omega arith in
    (at, f.end, rw z (f.here ∙ ap (λ l. got (get_or l 0 d) f.end) (sym f.is)))
counted_each step d (suc k) s at {xs} {q} e (suc i) h =
    let f = many_first step _ k s at e in
    let z : s + suc i ≡ s + 1 + i = omega arith in
    rw (z, f.is) (counted_each step d k (s + 1) f.end f.there i (omega arith))

module _ (numbers table firsts places : List ℕ) (t : ModuleTable numbers table) (u : StatementTable numbers firsts places) (m : ℕ) (h : m < (header_in numbers).modules) where
  abbrev pub all : List Item
  all = get_or (statements_in numbers) m []

  statements_long : length (statements_in numbers) ≡ (header_in numbers).modules
  unfolding statements_read statements_at
  statements_long = many-length _ _ _ _ _ u.read

  all_read : (p : ℕ) × (q : ℕ) × (module_statements (header_in numbers) (modules_in numbers) numbers m p ≡ got all q)
  unfolding statements_read statements_at
  all_read =
      let o = counted_each _ [] _ 0 _ u.read m h in
      let z : 0 + m ≡ m = omega arith in
      (o.0, o.1, rw z at o.2)

  pub all_long : length all ≡ statements_of (get_or (modules_in numbers) m no_item)
  unfolding module_statements
  all_long = many-length _ _ _ _ _ all_read.2

  pub in_first : get_or firsts m 0 ≡ first_of (modules_in numbers) m
  in_first = u.placed.firsts m (omega (arith, statements_long))

  abbrev pub import_records : ℕ
  import_records = length (import_records_of (get_or (modules_in numbers) m no_item))

  module _ (i : ℕ) (l : i < length all) where
    abbrev pub its : Item
    its = get_or all i no_item

    pub index-inside : get_or firsts m 0 + i < length places
    unfolding statements_of
    index-inside = omega (arith, in_first, in_table numbers table t m _ h refl, all_long, l, u.wide)

    pub place-there : get_or places (get_or firsts m 0 + i) 0 ≡ its.place
    place-there = rw in_first (u.placed.places m (omega (arith, statements_long)) i l)

    pub its-read : (q : ℕ) × ItemRead (below 32 ∷ []) (λ head. statement_lists (header_in numbers) numbers import_records) numbers its.place its q
    unfolding module_statements statement_at
    its-read =
        let o = many_each _ _ no_item _ _ _ all_read.2 i (omega (arith, all_long, l)) in
        let r = item_got _ _ numbers o.at o.read in
        let p = r.place in
        (o.end, rw (sym p) at r)

    -- its bits
    pub bits_inside : its.place < length numbers
    bits_inside = omega (arith, its-read.1.head.inside 0 (omega arith))

    pub bits_same : get_or numbers its.place 0 ≡ get_or its.head 0 0
    bits_same = let z : its.place + 0 ≡ its.place = omega arith in sym (rw z at (its-read.1.head.same 0 (omega arith)))

    -- its two lists
    pub both : FirstList (plain numbers (import_records ∷ [])) (reference_list (header_in numbers).symbols numbers ∷ []) numbers (its.place + 1) its.rows its-read.0
    unfolding statement_lists
    both = lists_first _ _ numbers _ its-read.1.rows

    pub records-read : Column numbers (its.place + 1) (get_or its.rows 0 []) both.end
    records-read = let e = ap (λ x. get_or x 0 []) both.is in column import_records numbers (its.place + 1) (rw e both.here)

    behind : both.end ≡ its.place + 2 + length (get_or its.rows 0 [])
    behind = omega (arith, records-read.next)

    pub references-read : (q : ℕ) × ListRead (reference_list (header_in numbers).symbols numbers) numbers (its.place + 2 + length (get_or its.rows 0 [])) (get_or its.rows 1 []) q
    references-read =
        let f = lists_first _ _ numbers _ both.there in
        let e = ap (λ x. get_or x 1 []) both.is ∙ ap (λ x. get_or x 0 []) f.is in
        let b = behind in
        (f.end, list_got _ numbers _ (rw (e, sym b) f.here))

    pub records-at : ImportRecordsAt numbers its.place (get_or its.rows 0 [])
    records-at =
        let r = records-read in
        let z : (k : ℕ) → its.place + 1 + 1 + k ≡ its.place + 2 + k = λ k. omega arith in
        record { inside = r.inside; counted = r.counted; here = λ k b. rw (z k) at (r.here k b); same = λ k b. rw (z k) at (r.same k b) }

    pub references_counted : ReferencesCounted numbers its.place (length (get_or its.rows 0 [])) (get_or its.rows 1 [])
    references_counted =
        let r = references-read.1 in
        let n = length (get_or its.rows 0 []) in
        let z : its.place + 2 + n + 1 ≡ its.place + 3 + n = omega arith in
        record { inside = r.inside; counted = r.counted; follow = rw z at (references_at (header_in numbers).symbols numbers _ [] _ r.rows) }
