-- The import records of all modules in one row: how many there are before a module, and where a record stands.
use Prim.Native.Nat.{ℕ, zero, suc, ◌+◌, ◌*◌, ◌<◌, ◌≤◌}
use mathlib.Core.Path.{◌≡◌, refl, ap, ◌∙◌, sym}
use mathlib.Core.List.{List, [], ◌∷◌}
use native.Mathlib.Decide.{ℕ_discrete}
use native.Mathlib.Numerals.{add-one}
use native.Mathlib.Omega.{arith}
use lib.ListN.{length, get_or, set, length-set}
use lib.Seq.{get_or-set_same, get_or-set_other}
use Rattle.determine_side_effects.specs.rows_crate.Walk.{Item, no_item}
use Rattle.determine_side_effects.specs.graph_format_crate.declared.Header.{Header}
use Rattle.determine_side_effects.specs.graph_tables_crate.Tables.{header_in}
use Rattle.determine_side_effects.specs.graph_crate.Check.{Graph, graph_in}
use Rattle.determine_side_effects.specs.graph_crate.Loaded.{Loaded}
use Rattle.determine_side_effects.specs.graph_access_crate.Names.{import_records}
use Rattle.determine_side_effects.specs.graph_access_crate.Words.{module_of}
use Rattle.determine_side_effects.proofs.graph_access_crate.Indexes.{module_list_few}
use Rattle.dynamic_entries.specs.Alive.{records_before}
use Rattle.dead_records.specs.Dead.{record_count}

none_before : (m : ℕ) → records_before [] m ≡ 0
unfolding records_before
none_before zero = refl
none_before (suc m) = refl

none_at : (m : ℕ) → length (import_records (get_or {A = Item} [] m no_item)) ≡ 0
unfolding import_records
none_at zero = refl
none_at (suc m) = refl

before_step : (ms : List Item) (m : ℕ) → records_before ms (m + 1) ≡ records_before ms m + length (import_records (get_or ms m no_item))
unfolding records_before
before_step [] m = omega (arith, none_before (m + 1), none_before m, none_at m)
before_step (x ∷ ms) zero = omega arith
before_step (x ∷ ms) (suc m) =
    let n : suc m + 1 ≡ suc (m + 1) = omega arith in
    let e : records_before (x ∷ ms) (suc m + 1) ≡ length (import_records x) + records_before ms (m + 1) = ap (λ k. records_before (x ∷ ms) k) n in
    omega (arith, e, before_step ms m)

before_mono : (ms : List Item) (m n : ℕ) → m ≤ n → records_before ms m ≤ records_before ms n
unfolding records_before
before_mono ms zero n l = omega arith
before_mono [] (suc m) n l = omega arith
before_mono (x ∷ ms) (suc m) zero l = absurd (omega arith)
before_mono (x ∷ ms) (suc m) (suc n) l = omega (arith, before_mono ms m n (omega arith))

-- a record's bit is in the row
pub record_inside : (g : Graph) (m i : ℕ) → m < g.header.modules → i < length (import_records (module_of g m)) → records_before g.modules m + i < record_count g
unfolding record_count module_of
record_inside g m i l h = omega (arith, before_step g.modules m, before_mono g.modules (m + 1) g.header.modules (omega arith))

-- there are few
module _ {numbers tables : List ℕ} (t : Loaded numbers tables) where
  before_few : (m : ℕ) → m ≤ (header_in numbers).modules → records_before (graph_in numbers).modules m ≤ 16384 * m
  unfolding records_before module_of import_records
  before_few zero l = omega arith
  before_few (suc m) l =
      let e : records_before (graph_in numbers).modules (suc m) ≡ records_before (graph_in numbers).modules m + length (import_records (get_or (graph_in numbers).modules m no_item)) =
      ap (records_before (graph_in numbers).modules) (sym (add-one m)) ∙ before_step (graph_in numbers).modules m in
      omega (arith, e, before_few m (omega arith), module_list_few t m 0 (omega arith) (omega arith))

  pub records_few : record_count (graph_in numbers) ≤ 16777216
  unfolding record_count graph_in
  records_few = omega (arith, before_few (header_in numbers).modules (omega arith), t.few_modules)

-- In a loop over the modules: how many records were met.
pub record Counting (g : Graph) (m total : ℕ) : Type 0 where
  pub inside : m ≤ g.header.modules
  pub total_is : total ≡ records_before g.modules m
  pub total_small : total ≤ 16384 * m

module _ (g : Graph) where
  pub counting_none : Counting g 0 0
  unfolding records_before
  counting_none = record { inside = omega arith; total_is = refl; total_small = omega arith }

  pub counting_more : (m total n : ℕ) → Counting g m total → m < g.header.modules → n ≡ length (import_records (module_of g m)) → n ≤ 16384 → Counting g (m + 1) (total + n)
  unfolding module_of
  counting_more m total n c l e s =
      record { inside = omega (arith, l); total_is = omega (arith, c.total_is, e, before_step g.modules m); total_small = omega (arith, c.total_small) }

  pub counting_done : (m total : ℕ) → Counting g m total → g.header.modules ≤ m → total ≡ record_count g
  unfolding record_count
  counting_done m total c l = let e : m ≡ g.header.modules = omega (arith, c.inside) in c.total_is ∙ ap (records_before g.modules) e

-- and the first numbers of the modules that were passed
pub record Numbering (g : Graph) (before after : List ℕ) (m total : ℕ) : Type 0 where
  pub counting : Counting g m total
  pub same_length : length after ≡ length before
  pub has : (k : ℕ) → k < m → get_or after k 0 ≡ records_before g.modules k

module _ (g : Graph) (before : List ℕ) where
  pub numbering_none : Numbering g before before 0 0
  numbering_none = record { counting = counting_none g; same_length = refl; has = λ k l. absurd (omega arith) }

  pub numbering_more : (after : List ℕ) (m total n : ℕ) → Numbering g before after m total → g.header.modules ≤ length before → m < g.header.modules
      → n ≡ length (import_records (module_of g m)) → n ≤ 16384 → Numbering g before (set after m total) (m + 1) (total + n)
  numbering_more after m total n s long l e small =
      record {
        counting = counting_more g m total n s.counting l e small;
        same_length = length-set after m total ∙ s.same_length;
        has = λ k h. number k h (ℕ_discrete k m);
      }
    where
      inside : m < length after
      inside = omega (arith, s.same_length)

      number : (k : ℕ) → k < m + 1 → Dec (k ≡ m) → get_or (set after m total) k 0 ≡ records_before g.modules k
      number k h (yes q) = rw q (get_or-set_same after m total 0 inside ∙ s.counting.total_is)
      number k h (no q) = get_or-set_other after m k total 0 q ∙ s.has k (omega (arith, h, q))

-- the header that the code reads is the graph's
module _ (numbers : List ℕ) (h : Header) (e : h ≡ header_in numbers) where
  pub modules_are : h.modules ≡ (graph_in numbers).header.modules
  unfolding graph_in
  modules_are = ap (λ (x : Header). x.modules) e

  pub entries_are : h.entries ≡ (graph_in numbers).header.entries
  unfolding graph_in
  entries_are = ap (λ (x : Header). x.entries) e
