-- Reading goes on from place to place, and stays within the numbers: so the import records of a graph are no more than its numbers.
use Prim.Native.Nat.{ℕ, zero, suc, ◌+◌, ◌*◌, ◌-◌, ◌<◌, ◌≤◌}
use mathlib.Core.Path.{◌≡◌, refl, ap, sym}
use mathlib.Core.List.{List, [], ◌∷◌, map}
use native.Mathlib.Decide.{dec_lt}
use native.Mathlib.Omega.{arith}
use lib.ListN.{length, get_or, drop, length-map}
use Rattle.determine_side_effects.specs.rows_crate.Walk.{Parsed, got, Rule, below, many, firsts, ListRule, list, lists, plain_row, Item}
use Rattle.determine_side_effects.proofs.rows_crate.Cells.{Cells, cells_got}
use Rattle.determine_side_effects.proofs.rows_crate.Items.{got_same, many_first, item_got, list_got, lists_first}
use Rattle.determine_side_effects.specs.graph_format_crate.declared.Header.{Header}
use Rattle.determine_side_effects.specs.graph_format_crate.declared.Left.{Left}
use Rattle.determine_side_effects.specs.graph_format_crate.Format.{import_lists, module_lists, module_at, less_module, modules_at}
use Rattle.determine_side_effects.specs.graph_tables_crate.Tables.{header_in, modules_read, modules_in}
use Rattle.determine_side_effects.specs.graph_crate.Check.{graph_in}
use Rattle.determine_side_effects.specs.graph_crate.Loaded.{Loaded}
use Rattle.determine_side_effects.specs.graph_access_crate.Names.{import_records}
use Rattle.determine_side_effects.specs.graph_access_crate.Lists.{module_widths}
use Rattle.determine_side_effects.proofs.graph_access_crate.Fixed.{Columns, AllColumns}
use Rattle.determine_side_effects.proofs.graph_access_crate.OfItems.{module_columns}
use Rattle.determine_side_effects.proofs.graph_access_crate.Indexes.{helper_there}
use Rattle.dynamic_entries.specs.Alive.{records_before}
use Rattle.dead_records.specs.Dead.{record_count}

-- from `at` to `q`, over at least n numbers
record Went (numbers : List ℕ) (n at q : ℕ) : Type 0 where
  on : at + n ≤ q
  inside : at ≤ length numbers → q ≤ length numbers

-- a size for each of a list, all together
total : {A : Type 0} → (A → ℕ) → List A → ℕ
total size [] = 0
total size (x ∷ xs) = size x + total size xs

total_three : {A : Type 0} (xs : List A) → total (λ x. 3) xs ≡ 3 * length xs
unfolding total
total_three [] = refl
total_three (x ∷ xs) = omega (arith, total_three xs)

module _ (numbers : List ℕ) where
  cells_went : (rs : List Rule) (at : ℕ) {xs : List ℕ} {q : ℕ} → Cells rs numbers at xs q → Went numbers (length rs) at q
  cells_went rs at {xs} {q} c = record { on = omega (arith, c.next); inside = go (dec_lt 0 (length rs)) }
    where
      go : Dec (0 < length rs) → at ≤ length numbers → q ≤ length numbers
      go (yes l) h = omega (arith, c.next, c.inside (length rs - 1) (omega arith))
      go (no l) h = omega (arith, c.next, h)

  -- several things, each with its size
  module _ {S A : Type 0} (step : S → ℕ → Parsed A) (next : S → A → S) (size : A → ℕ) (each : (s : S) (at : ℕ) (x : A) (q : ℕ) → step s at ≡ got x q → Went numbers (size x) at q) where
    many-went : (k : ℕ) (s : S) (at : ℕ) {xs : List A} {q : ℕ} → many step next k s at ≡ got xs q → Went numbers (total size xs) at q
    unfolding many total
    many-went zero s at {xs} {q} e =
        let i = got_same e in
        rw (sym i.0) (record { on = omega (arith, i.1); inside = λ l. omega (arith, l, i.1) })
    many-went (suc k) s at {xs} {q} e =
        let f = many_first step next k s at e in
        let a = each s at f.one f.end f.here in
        let b = many-went k (next s f.one) f.end f.there in
        rw f.is (record { on = omega (arith, a.on, b.on); inside = λ l. b.inside (a.inside l) })

  -- a row, a list of rows and lists
  row_went : (rule : ListRule) (w : ℕ) → Columns numbers rule w → (seen : List ℕ) (at : ℕ) {x : List ℕ} {q : ℕ} → rule.row seen at ≡ got x q → Went numbers w at q
  unfolding plain_row
  row_went rule w f seen at {x} {q} e =
      let c = cells_got _ numbers at (f.plain seen at x q e) in
      rw (length-map f.columns (λ l. below l), f.long) at (cells_went (map (λ l. below l) f.columns) at c)

  list_went : (rule : ListRule) (w : ℕ) → Columns numbers rule w → (at : ℕ) {xs : List (List ℕ)} {q : ℕ} → list rule numbers at ≡ got xs q → Went numbers (total (λ x. w) xs) at q
  list_went rule w f at {xs} {q} e =
      let r = list_got rule numbers at e in
      let m = many-went rule.row firsts (λ x. w) (λ seen p x n i. row_went rule w f seen p i) (length xs) [] (at + 1) r.rows in
      record { on = omega (arith, m.on); inside = λ l. m.inside (omega (arith, r.inside)) }

  lists_went : (rs : List ListRule) (ws : List ℕ) → AllColumns numbers rs ws → (at : ℕ) {ls : List (List (List ℕ))} {q : ℕ} → lists rs numbers at ≡ got ls q → Went numbers 0 at q
  unfolding lists
  lists_went [] [] f at e = let i = got_same e in record { on = omega (arith, i.1); inside = λ l. omega (arith, l, i.1) }
  lists_went [] (w ∷ ws) f at e = absurd f
  lists_went (r ∷ rs) [] f at e = absurd f
  lists_went (r ∷ rs) (w ∷ ws) f at e =
      let p = lists_first r rs numbers at e in
      let a = list_went r w f.0 at p.here in
      let b = lists_went rs ws f.1 p.end p.there in
      record { on = omega (arith, a.on, b.on); inside = λ l. b.inside (a.inside l) }

  -- a module takes at least a number for each of its import records
  abbrev records : Item → ℕ
  records x = length (import_records x)

  first_list : (x : Item) (one : List (List ℕ)) (others : List (List (List ℕ))) → x.rows ≡ one ∷ others → records x ≡ length one
  unfolding import_records
  first_list x one others e = ap (λ (l : List (List (List ℕ))). length (get_or l 0 [])) e

  module_went : (h : Header) (left : Left) (at : ℕ) {x : Item} {q : ℕ} → module_at h numbers left at ≡ got x q → Went numbers (records x) at q
  unfolding module_at module_lists import_lists module_widths
  module_went h left at {x} {q} e =
      let i = item_got _ _ numbers at e in
      let c = cells_went _ at i.head in
      let p = lists_first _ _ numbers _ i.rows in
      let f = module_columns h numbers (get_or x.head 9 0) in
      let a = list_went _ 3 f.0 _ p.here in
      let b = lists_went _ (drop 1 module_widths) f.1 p.end p.there in
      record {
        on = omega (arith, c.on, a.on, b.on, total_three p.one, first_list x p.one p.others p.is);
        inside = λ l. b.inside (a.inside (c.inside l));
      }

  before_total : (ms : List Item) (k : ℕ) → records_before ms k ≤ total records ms
  unfolding records_before total
  before_total ms zero = omega arith
  before_total [] (suc k) = omega arith
  before_total (x ∷ ms) (suc k) = omega (arith, before_total ms k)

pub records_few : {numbers tables : List ℕ} → Loaded numbers tables → record_count (graph_in numbers) ≤ length numbers
unfolding record_count graph_in modules_read modules_at
records_few {numbers} t =
    let h = header_in numbers in
    let m = many-went numbers (module_at h numbers) less_module (records numbers) (λ left at x q e. module_went numbers h left at e) _ _ _ t.of_modules.read in
    omega (arith, m.on, m.inside (begin (dec_lt 0 h.helpers)), before_total numbers (modules_in numbers) h.modules)
  where
    begin : Dec (0 < (header_in numbers).helpers) → 7 + (header_in numbers).helpers ≤ length numbers
    begin (yes l) = omega (arith, helper_there t ((header_in numbers).helpers - 1) (omega arith))
    begin (no l) = omega (arith, t.long)
