-- What is accepted is well formed: a statement's bits, import records and references are below their limits.
use Prim.Native.Nat.{ℕ, zero, suc, ◌+◌, ◌<◌}
use mathlib.Core.Path.{◌≡◌, ap, ◌∙◌, sym}
use mathlib.Core.List.{List, [], ◌∷◌, map}
use native.Mathlib.Omega.{arith}
use lib.ListN.{length, get_or, length-map}
use Rattle.graph.specs.rows_crate.Walk.{got, below, any, number, cells, list, plain, Item, no_item}
use Rattle.graph.proofs.rows_crate.Cells.{then_got, number_got, Cells, cells_got}
use Rattle.graph.proofs.rows_crate.Items.{got_same, many_each, list_got, rows_each, plain_plain}
use Rattle.graph.specs.graph_format_crate.Format.{import_records_of, depended_at, member_rules, parts_at, reference_at}
use Rattle.graph.specs.graph_tables_crate.Tables.{header_in, modules_in, statements_in}
use Rattle.graph.specs.graph_tables_crate.Places.{ModuleTable, StatementTable}
use Rattle.graph_access.proofs.ReadReferences.{first_number}
use Rattle.graph_access.proofs.OfStatements.{its-read, both, references-read}

-- the numbers of a reference, by its kind
pub record ReferenceGood (symbols : ℕ) (row : List ℕ) : Type 0 where
  pub few : get_or row 0 0 < 4
  pub symbol : get_or row 0 0 ≡ 0 → get_or row 1 0 < symbols
  pub resolved : get_or row 0 0 ≡ 2 → (get_or row 1 0 < symbols) × (get_or row 2 0 < 2)
  pub depends : get_or row 0 0 ≡ 2 → (k : ℕ) → 3 + k < length row → get_or row (3 + k) 0 < symbols
  pub member : get_or row 0 0 ≡ 3 → (get_or row 1 0 < symbols) × (get_or row 2 0 < 2)

-- a list of rows of one number
column_below : (limit : ℕ) (numbers : List ℕ) (at : ℕ) {xs : List (List ℕ)} {q : ℕ} → list (plain numbers (limit ∷ [])) numbers at ≡ got xs q
    → (k : ℕ) → k < length xs → get_or (get_or xs k []) 0 0 < limit
column_below limit numbers at {xs} e k l =
    let i = list_got _ numbers at e in
    ((rows_each (limit ∷ []) numbers _ (plain_plain (limit ∷ []) numbers) (length xs) [] (at + 1) i.rows k l).good 0 (omega arith)).1

good_1 : (symbols : ℕ) (xs : List ℕ) → ReferenceGood symbols (1 ∷ xs)
good_1 symbols xs =
    record {
      few = omega arith;
      symbol = λ o. absurd (omega (arith, o));
      resolved = λ o. absurd (omega (arith, o));
      depends = λ o. absurd (omega (arith, o));
      member = λ o. absurd (omega (arith, o));
    }

module _ (symbols : ℕ) (numbers : List ℕ) (at : ℕ) {xs : List ℕ} {q : ℕ} where
  good_0 : parts_at 0 symbols numbers at ≡ got xs q → ReferenceGood symbols (0 ∷ xs)
  unfolding parts_at
  good_0 e =
      let c = cells_got (below symbols ∷ []) numbers at e in
      record {
        few = omega arith;
        symbol = λ o. (c.good 0 (omega arith)).1;
        resolved = λ o. absurd (omega (arith, o));
        depends = λ o. absurd (omega (arith, o));
        member = λ o. absurd (omega (arith, o));
      }

  good_3 : parts_at 3 symbols numbers at ≡ got xs q → ReferenceGood symbols (3 ∷ xs)
  unfolding parts_at member_rules
  good_3 e =
      let c = cells_got (below symbols ∷ below 2 ∷ below any ∷ below any ∷ []) numbers at e in
      record {
        few = omega arith;
        symbol = λ o. absurd (omega (arith, o));
        resolved = λ o. absurd (omega (arith, o));
        depends = λ o. absurd (omega (arith, o));
        member = λ o. ((c.good 0 (omega arith)).1, (c.good 1 (omega arith)).1);
      }

  of_parts : (parts : List ℕ) (ds : List (List ℕ)) (p : ℕ) → Cells (below symbols ∷ below 2 ∷ []) numbers at parts p → list (plain numbers (symbols ∷ [])) numbers p ≡ got ds q
      → get_or parts 0 0 ∷ get_or parts 1 0 ∷ map (λ x. get_or x 0 0) ds ≡ xs → ReferenceGood symbols (2 ∷ xs)
  of_parts parts ds p c f is =
      rw (sym is) (
      record {
        few = omega arith;
        symbol = λ o. absurd (omega (arith, o));
        resolved = λ o. ((c.good 0 (omega arith)).1, (c.good 1 (omega arith)).1);
        depends = λ o. each;
        member = λ o. absurd (omega (arith, o));
      }
      )
    where
      each : (k : ℕ) → 3 + k < length (2 ∷ get_or parts 0 0 ∷ get_or parts 1 0 ∷ map (λ x. get_or x 0 0) ds) → get_or (2 ∷ get_or parts 0 0 ∷ get_or parts 1 0 ∷ map (λ x. get_or x 0 0) ds) (3 + k) 0 < symbols
      each k l =
          let y : 3 + k ≡ suc (suc (suc k)) = omega arith in
          let n = first_number ds k in
          rw (y, n) (column_below symbols numbers p f k (omega (arith, l, length-map ds (λ x. get_or x 0 0))))

  good_2 : parts_at 2 symbols numbers at ≡ got xs q → ReferenceGood symbols (2 ∷ xs)
  unfolding parts_at depended_at
  good_2 e =
      let t = then_got (cells (below symbols ∷ below 2 ∷ []) numbers at) _ e in
      let c = cells_got _ numbers at t.2 in
      let u = then_got (list (plain numbers (symbols ∷ [])) numbers t.1) _ t.3 in
      let w = got_same u.3 in
      of_parts t.0 u.0 t.1 c (u.2 ∙ ap (got u.0) w.1) w.0

  by_kind : (kind : ℕ) → kind < 4 → parts_at kind symbols numbers at ≡ got xs q → ReferenceGood symbols (kind ∷ xs)
  by_kind zero l e = good_0 e
  by_kind (suc zero) l e = good_1 symbols xs
  by_kind (suc (suc zero)) l e = good_2 e
  by_kind (suc (suc (suc zero))) l e = good_3 e
  by_kind (suc (suc (suc (suc k)))) l e = absurd (omega arith)

row_good : (symbols : ℕ) (numbers seen : List ℕ) (at : ℕ) {row : List ℕ} {q : ℕ} → reference_at symbols numbers seen at ≡ got row q → ReferenceGood symbols row
unfolding reference_at
row_good symbols numbers seen at {row} {q} e =
    let t = then_got (number (below 4) numbers at) _ e in
    let n = number_got _ numbers at t.2 in
    let u = then_got (parts_at t.0 symbols numbers t.1) _ t.3 in
    let w = got_same u.3 in
    rw (sym w.0) (by_kind symbols numbers t.1 t.0 n.good.1 u.2)

module _ (numbers modules firsts table : List ℕ) (t : ModuleTable numbers modules) (u : StatementTable numbers firsts table) (m : ℕ) (h : m < (header_in numbers).modules)
    (i : ℕ) (l : i < length (get_or (statements_in numbers) m [])) where
  abbrev the_statement : Item
  the_statement = get_or (get_or (statements_in numbers) m []) i no_item

  pub bits_below : get_or the_statement.head 0 0 < 32
  bits_below = ((its-read numbers modules firsts table t u m h i l).1.head.good 0 (omega arith)).1

  -- a record is one of its module's
  pub record_below : (k : ℕ) → k < length (get_or the_statement.rows 0 []) → get_or (get_or (get_or the_statement.rows 0 []) k []) 0 0 < length (import_records_of (get_or (modules_in numbers) m no_item))
  record_below k b =
      let f = both numbers modules firsts table t u m h i l in
      let e = ap (λ x. get_or x 0 []) f.is in
      rw e (column_below _ numbers _ f.here k (rw e at b))

  pub reference_good : (k : ℕ) → k < length (get_or the_statement.rows 1 []) → ReferenceGood (header_in numbers).symbols (get_or (get_or the_statement.rows 1 []) k [])
  reference_good k b =
      let r = (references-read numbers modules firsts table t u m h i l).1 in
      let o = many_each _ _ [] _ _ _ r.rows k b in
      row_good (header_in numbers).symbols numbers o.state o.at o.read
