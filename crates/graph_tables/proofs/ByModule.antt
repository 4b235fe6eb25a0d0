-- The loop over the statements of all modules.
-- The modules' statements are no more than the header's count (`first_fits`).
use Prim.Native.Nat.{ℕ, zero, suc, ◌+◌, ◌<◌, ◌≤◌}
use mathlib.Core.Path.{◌≡◌, refl, ap, ◌∙◌, sym}
use mathlib.Core.List.{List, [], ◌∷◌, ◌++◌}
use native.Mathlib.Omega.{arith}
use borrow.Author.Count.{below_more}
use lib.ListN.{length, get_or, set, get_or-append}
use lib.Seq.{get_or-set_same, get_or-set_other, get_or_at}
use Rattle.tables.specs.rows_crate.Walk.{got, many, walk_of, Item, no_item}
use Rattle.tables.proofs.rows_crate.Walks.{fault_is}
use Rattle.tables.proofs.rows_crate.Many.{Going, going_start, going_step, going_stop, going_done}
use Rattle.tables.proofs.rows_crate.Items.{many_first, many-length}
use Rattle.tables.specs.graph_format_crate.declared.Header.{Header}
use Rattle.tables.specs.graph_format_crate.declared.Left.{Left}
use Rattle.tables.specs.graph_format_crate.Format.{module_at, less_module, modules_at, statements_of, import_records_of, statement_at, following, module_statements, statements_at}
use Rattle.graph_tables.specs.Tables.{header_in, modules_read, modules_in, first_of}
use Rattle.graph_tables.specs.Places.{Placed, StatementsFilled, ModuleTable}
use Rattle.tables.specs.Layout.{sizes, start_of, first_statements, statement_places, Laid, Kept, at_first_statements, at_statements, at_verdicts}
use Rattle.tables.proofs.Sections.{start_next, section_has, word_kept, kept_none, kept_both, kept_less, kept_set, laid_kept}
use Rattle.graph_tables.proofs.Facts.{nine_fits, modules_long}
use Rattle.graph_tables.proofs.Sections.{placed_section}
use Rattle.std.specs.Prelude.{Ok, Err}
use Rattle.tables.specs.refusal_crate.declared.Refusal.{Refusal}

-- one module more
pub first_step : (ms : List Item) (m : ℕ) → m < length ms → first_of ms (m + 1) ≡ first_of ms m + statements_of (get_or ms m no_item)
unfolding first_of
first_step [] m h = absurd (omega arith)
first_step (x ∷ ms) zero h = omega arith
first_step (x ∷ ms) (suc m) h =
    let r = first_step ms m (omega arith) in
    let e : suc m + 1 ≡ suc (m + 1) = omega arith in
    rw e (omega (arith, r))

pub first_mono : (ms : List Item) (i j : ℕ) → i ≤ j → first_of ms i ≤ first_of ms j
unfolding first_of
first_mono ms zero j h = omega arith
first_mono [] (suc i) j h = omega arith
first_mono (x ∷ ms) (suc i) zero h = absurd (omega arith)
first_mono (x ∷ ms) (suc i) (suc j) h = omega (arith, first_mono ms i j (omega arith))

-- the modules have no more statements than the header counts
empty : (ys : List Item) → length ys ≡ 0 → ys ≡ []
empty [] l = refl
empty (y ∷ ys) l = absurd (omega arith)

of_none : (m n : ℕ) → first_of [] m ≤ n
unfolding first_of
of_none zero n = omega arith
of_none (suc m) n = omega arith

of_more : (left : Left) (x : Item) (ys : List Item) (m : ℕ) → get_or x.head 9 0 ≤ left.statements → first_of ys m ≤ (less_module left x).statements → first_of (x ∷ ys) (suc m) ≤ left.statements
unfolding less_module statements_of first_of
of_more left x ys m a b = omega arith

all_fit : (h : Header) (numbers : List ℕ) (k : ℕ) (left : Left) (at : ℕ) {xs : List Item} {q : ℕ} → many (module_at h numbers) less_module k left at ≡ got xs q
    → (m : ℕ) → first_of xs m ≤ left.statements
unfolding first_of
all_fit h numbers zero left at {xs} e m = rw (empty xs (many-length _ _ zero left at e)) (of_none m left.statements)
all_fit h numbers (suc k) left at e zero = omega arith
all_fit h numbers (suc k) left at {xs} e (suc m) =
    let f = many_first _ _ k left at e in
    let r = all_fit h numbers k (less_module left f.one) f.end f.there m in
    rw f.is (of_more left f.one f.others m (nine_fits h numbers left at f.here) r)

pub first_fits : (numbers table : List ℕ) → ModuleTable numbers table → (m : ℕ) → first_of (modules_in numbers) m ≤ (header_in numbers).statements
unfolding modules_read modules_at
first_fits numbers table t m = all_fit _ numbers _ _ _ t.read m

-- the places of the statements begin behind the first statements
apart : (h : Header) → start_of h at_statements ≡ start_of h at_first_statements + h.modules
unfolding sizes
apart h = start_next h 2

module _ (h : Header) (ms : List Item) (numbers : List ℕ) (at₀ : ℕ) (before : List ℕ) where
  abbrev next : ℕ → List Item → ℕ
  next m xs = m + 1

  -- m modules done, at q; `first` is the number of the next module's first statement
  pub record Outer (tables : List ℕ) (m q first : ℕ) (done : List (List Item)) : Type 0 where
    pub going : Going (module_statements h ms numbers) next h.modules 0 at₀ m q m done
    pub sum : first ≡ first_of ms m
    pub begun : (j : ℕ) → j < m → get_or tables (start_of h at_first_statements + j) 0 ≡ first_of ms j
    pub longs : (j : ℕ) → j < m → length (get_or done j []) ≡ statements_of (get_or ms j no_item)
    pub places : (j : ℕ) → j < m → Placed (start_of h at_statements + first_of ms j) (get_or done j []) tables
    pub kept : Kept (start_of h at_first_statements) before tables

  pub outer_start : Outer before 0 at₀ 0 []
  unfolding first_of
  outer_start =
      record {
        going = going_start _ _ _ _ _;
        sum = refl;
        begun = λ j l. absurd (omega arith);
        longs = λ j l. absurd (omega arith);
        places = λ j l. absurd (omega arith);
        kept = kept_none;
      }

module _ {h : Header} {ms : List Item} {numbers : List ℕ} {at₀ : ℕ} {before tables : List ℕ} {m q first : ℕ} {done : List (List Item)} (o : Outer h ms numbers at₀ before tables m q first done) where
  -- Module m's statements are read, and their places written; word i is to have the number of its first statement.
  module _ {later : List ℕ} {i : ℕ} (l : m < h.modules) (room : start_of h at_statements ≤ length before) (kept : Kept (start_of h at_statements + first) tables later) (z : i ≡ start_of h at_first_statements + m) where
    -- it is in front of the places
    before-places : i < start_of h at_statements
    before-places = omega (arith, z, l, apart h)

    pub outer-writes : i < length later
    outer-writes = omega (arith, before-places, room, o.kept.same_length, kept.same_length)

    module _ {p count : ℕ} {xs : List Item} (few : m < length ms) (e : module_statements h ms numbers m q ≡ got xs p) (is : count ≡ statements_of (get_or ms m no_item)) (placed : Placed (start_of h at_statements + first) xs later) where
      long : length done ≡ m
      long = o.going.long

      old : (j : ℕ) → j < m → get_or (done ++ (xs ∷ [])) j [] ≡ get_or done j []
      old j b = get_or-append done (xs ∷ []) [] j (omega (arith, long))

      new : get_or (done ++ (xs ∷ [])) m [] ≡ xs
      new = get_or_at done xs [] [] m long

      size : length xs ≡ statements_of (get_or ms m no_item)
      unfolding module_statements
      size = many-length _ _ _ _ _ e

      begun-old : (j : ℕ) → j < m → get_or (set later i first) (start_of h at_first_statements + j) 0 ≡ first_of ms j
      begun-old j b =
          get_or-set_other later i (start_of h at_first_statements + j) first 0 (λ w. omega (arith, w, z, b))
          ∙ word_kept kept (start_of h at_first_statements + j) (omega (arith, b, l, apart h))
          ∙ o.begun j b

      begun-new : get_or (set later i first) (start_of h at_first_statements + m) 0 ≡ first_of ms m
      begun-new = ap (λ j. get_or (set later i first) j 0) (sym z) ∙ get_or-set_same later i first 0 outer-writes ∙ o.sum

      -- a place of an earlier module is in front of this one's
      places-old : (j : ℕ) → j < m → Placed (start_of h at_statements + first_of ms j) (get_or (done ++ (xs ∷ [])) j []) (set later i first)
      places-old j b n k =
          let k' : n < length (get_or done j []) = rw (old j b) at k in
          let s = first_step ms j (omega (arith, few, b)) in
          let u : first_of ms (j + 1) ≤ first_of ms m = first_mono ms (j + 1) m (omega arith) in
          get_or-set_other later i (start_of h at_statements + first_of ms j + n) first 0 (λ w. omega (arith, w, before-places))
          ∙ word_kept kept (start_of h at_statements + first_of ms j + n) (omega (arith, s, o.longs j b, o.sum, u, k'))
          ∙ o.places j b n k'
          ∙ ap (λ y. (get_or y n no_item).place) (sym (old j b))

      places-new : Placed (start_of h at_statements + first_of ms m) (get_or (done ++ (xs ∷ [])) m []) (set later i first)
      places-new =
          rw (new, sym o.sum) (λ n k. get_or-set_other later i (start_of h at_statements + first + n) first 0 (λ w. omega (arith, w, before-places)) ∙ placed n k)

      pub outer-step : Outer h ms numbers at₀ before (set later i first) (m + 1) p (first + count) (done ++ (xs ∷ []))
      outer-step =
          record {
            going = going_step _ _ _ _ _ o.going l e;
            sum = omega (arith, first_step ms m few, o.sum, is);
            begun = below_more (λ j. get_or (set later i first) (start_of h at_first_statements + j) 0 ≡ first_of ms j) m begun-old begun-new;
            longs = below_more (λ j. length (get_or (done ++ (xs ∷ [])) j []) ≡ statements_of (get_or ms j no_item)) m (λ j b. ap length (old j b) ∙ o.longs j b) (ap length new ∙ size);
            places = below_more (λ j. Placed (start_of h at_statements + first_of ms j) (get_or (done ++ (xs ∷ [])) j []) (set later i first)) m places-old places-new;
            kept = kept_set (start_of h at_first_statements) i first (omega (arith, z)) (kept_both o.kept (kept_less (omega (arith, apart h)) kept));
          }

  -- after a fault nothing is said of the sections
  pub outer_stop : {why : Refusal} {later : List ℕ} → m < h.modules → walk_of (module_statements h ms numbers m q) ≡ Err why → Kept (start_of h at_statements + first) tables later
      → (Err why ≡ walk_of (statements_at h ms numbers at₀)) × StatementsFilled ms (statements_at h ms numbers at₀) (first_statements later) (statement_places later) × Kept (start_of h at_first_statements) before later
  unfolding statements_at
  outer_stop {why} l e q' =
      let w = going_stop _ _ _ _ _ o.going l e in
      (w, rw (fault_is _ why (sym w)) tt, kept_both o.kept (kept_less (omega (arith, apart h)) q'))

  module _ (t : Laid h at_verdicts before) (fit : (j : ℕ) → first_of ms j ≤ h.statements) (few : h.modules ≤ length ms) (l : h.modules ≤ m) where
    laid : Laid h at_verdicts tables
    laid = laid_kept t 2 (omega arith) o.kept

    done_all : statements_at h ms numbers at₀ ≡ got done q
    unfolding statements_at
    done_all = going_done _ _ _ _ _ o.going l

    firsts : (j : ℕ) → j < length done → get_or (first_statements tables) j 0 ≡ first_of ms j
    unfolding sizes
    firsts j b = section_has laid 2 (omega arith) j (omega (arith, b, o.going.long, o.going.low)) ∙ o.begun j (omega (arith, b, o.going.long))

    places : (j : ℕ) → j < length done → Placed (first_of ms j) (get_or done j []) (statement_places tables)
    unfolding sizes
    places j b =
        let c : j < m = omega (arith, b, o.going.long) in
        let u : first_of ms j + length (get_or done j []) ≤ h.statements = omega (arith, o.longs j c, first_step ms j (omega (arith, c, few, o.going.low)), fit (j + 1)) in
        placed_section laid 3 (omega arith) (first_of ms j) (get_or done j []) u (o.places j c)

    pub outer-end : (Ok q ≡ walk_of (statements_at h ms numbers at₀)) × StatementsFilled ms (statements_at h ms numbers at₀) (first_statements tables) (statement_places tables) × Kept (start_of h at_first_statements) before tables
    unfolding walk_of
    outer-end = (sym (ap walk_of done_all), rw done_all (record { firsts = firsts; places = places }), o.kept)

-- the statements of module m, by its counts
pub as_module : (h : Header) (ms : List Item) (numbers : List ℕ) (m q count import_records : ℕ) → count ≡ get_or (get_or ms m no_item).head 9 0 → import_records ≡ length (import_records_of (get_or ms m no_item))
    → many (statement_at h import_records numbers) following count 0 q ≡ module_statements h ms numbers m q
unfolding module_statements statements_of
as_module h ms numbers m q count import_records c r = rw (c, r)

-- module m's statements are inside the table
pub in_table : (numbers table : List ℕ) (t : ModuleTable numbers table) (m count : ℕ) → m < (header_in numbers).modules → count ≡ get_or (get_or (modules_in numbers) m no_item).head 9 0
    → first_of (modules_in numbers) m + count ≤ (header_in numbers).statements
unfolding statements_of
in_table numbers table t m count h c =
    omega (arith, first_step (modules_in numbers) m (omega (arith, modules_long numbers table t)), first_fits numbers table t (m + 1), c)
