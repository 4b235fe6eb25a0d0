-- Where the statements of a module begin.
use Prim.Native.Nat.{ℕ, zero, suc, ◌+◌, ◌*◌, ◌-◌, ◌<◌, ◌≤◌}
use mathlib.Core.Path.{◌≡◌, refl, ap, ◌∙◌, sym}
use mathlib.Core.Bool.{false≢true}
use mathlib.Core.List.{List, [], ◌∷◌}
use native.Mathlib.Decide.{ℕ_discrete, dec_lt}
use native.Mathlib.Numerals.{add-one}
use native.Mathlib.Omega.{arith}
use lib.ListN.{length, get_or, set}
use lib.Seq.{get_or-set_same, get_or-set_other}
use Rattle.bit_row.specs.Row.{bytes_for}
use Rattle.bit_row.proofs.Size.{bytes_hold, bytes_at_most}
use Rattle.determine_side_effects.specs.rows_crate.Walk.{Item}
use Rattle.determine_side_effects.specs.graph_format_crate.declared.Header.{Header}
use Rattle.determine_side_effects.specs.tables_crate.Layout.{sizes, start_of, first_bytes_in, Laid, Kept, at_first_bytes, all_sections}
use Rattle.determine_side_effects.proofs.tables_crate.Sections.{ends_inside, section-length, kept_none, kept_set, laid_kept, laid_less}
use Rattle.determine_side_effects.proofs.tables_crate.Writing.{section-set}
use Rattle.determine_side_effects.specs.graph_tables_crate.Tables.{header_in}
use Rattle.determine_side_effects.specs.graph_crate.Check.{graph_in}
use Rattle.determine_side_effects.specs.graph_crate.Loaded.{Loaded}
use Rattle.determine_side_effects.proofs.graph_crate.Kept.{loaded_kept}
use Rattle.determine_side_effects.proofs.graph_crate.LaterRules.{runtime_none}
use Rattle.determine_side_effects.proofs.graph_crate.WellFormed.{runtime_is_normal}
use Rattle.determine_side_effects.specs.graph_access_crate.Words.{statement_list}
use Rattle.determine_side_effects.proofs.graph_access_crate.Indexes.{statements_few}
use Rattle.answer_rows.specs.declared.Row.TheVariants.{Statements}
use Rattle.answer_rows.specs.Shown.{bytes_before, row_bytes}
use Rattle.answer_rows.specs.Tabled.{FirstByteTable}

none_before : (m : ℕ) → bytes_before [] m ≡ 0
unfolding bytes_before
none_before zero = refl
none_before (suc m) = refl

none_at : (m : ℕ) → length (get_or {A = List Item} [] m []) ≡ 0
none_at zero = refl
none_at (suc m) = refl

pub before_step : (ss : List (List Item)) (m : ℕ) → bytes_before ss (m + 1) ≡ bytes_before ss m + bytes_for (length (get_or ss m []))
unfolding bytes_before
before_step [] m = let e = bytes_at_most (length (get_or {A = List Item} [] m [])) in omega (arith, none_before (m + 1), none_before m, none_at m, e)
before_step (s ∷ ss) zero = omega arith
before_step (s ∷ ss) (suc m) =
    let n : suc m + 1 ≡ suc (m + 1) = omega arith in
    let e : bytes_before (s ∷ ss) (suc m + 1) ≡ bytes_for (length s) + bytes_before ss (m + 1) = ap (λ k. bytes_before (s ∷ ss) k) n in
    omega (arith, e, before_step ss m)

pub before_mono : (ss : List (List Item)) (m n : ℕ) → m ≤ n → bytes_before ss m ≤ bytes_before ss n
unfolding bytes_before
before_mono ss zero n l = omega arith
before_mono [] (suc m) n l = omega arith
before_mono (s ∷ ss) (suc m) zero l = absurd (omega arith)
before_mono (s ∷ ss) (suc m) (suc n) l = omega (arith, before_mono ss m n (omega arith))

-- a statement's bit is in the row
pub statement_inside : (ss : List (List Item)) (m n i : ℕ) → m < n → i < length (get_or ss m []) → 8 * bytes_before ss m + i < 8 * bytes_before ss n
statement_inside ss m n i l h = omega (arith, before_step ss m, before_mono ss (m + 1) n (omega arith), bytes_hold (length (get_or ss m [])))

-- a module by the header that the code reads is one of the graph's
pub modules_below : (numbers : List ℕ) (h : Header) → h ≡ header_in numbers → (m : ℕ) → m < h.modules → m < (header_in numbers).modules
modules_below numbers h e m l = omega (arith, l, ap (λ (x : Header). x.modules) e)

-- an accepted graph's runtime module is one of its modules
pub some_modules : {numbers tables : List ℕ} → Loaded numbers tables → 0 < (header_in numbers).modules
some_modules {numbers} t = go (dec_lt 0 (header_in numbers).modules)
  where
    go : Dec (0 < (header_in numbers).modules) → 0 < (header_in numbers).modules
    go (yes l) = l
    go (no l) = absurd (false≢true (runtime_none numbers (header_in numbers) refl (omega (arith, l)) ∙ runtime_is_normal numbers t.accepted))

-- the statements of the first modules take few bytes
pub before_few : {numbers tables : List ℕ} → Loaded numbers tables → (m : ℕ) → m ≤ (header_in numbers).modules → bytes_before (graph_in numbers).statements m ≤ 16384 * m
unfolding bytes_before statement_list
before_few t zero l = omega arith
before_few {numbers} t (suc m) l =
    let n = length (get_or (graph_in numbers).statements m []) in
    let e : bytes_before (graph_in numbers).statements (suc m) ≡ bytes_before (graph_in numbers).statements m + bytes_for n = ap (bytes_before (graph_in numbers).statements) (sym (add-one m)) ∙ before_step (graph_in numbers).statements m in
    omega (arith, e, before_few t m (omega arith), bytes_at_most n, statements_few t m (omega arith))

-- the last module's first byte, and its bytes
module _ {numbers tables : List ℕ} (t : Loaded numbers tables) (h : Header) (is : h ≡ header_in numbers) where
  pub last_module : h.modules - 1 < (header_in numbers).modules
  last_module = omega (arith, some_modules t, ap (λ x. x.modules) is)

  pub last_bytes : (a n b : ℕ) → a ≡ bytes_before (graph_in numbers).statements (h.modules - 1) → n ≡ length (statement_list (graph_in numbers) (h.modules - 1)) → b ≡ bytes_for n
      → a + b ≡ row_bytes (graph_in numbers) Statements
  unfolding row_bytes graph_in statement_list
  last_bytes a n b i j k =
      let e : h.modules - 1 + 1 ≡ (header_in numbers).modules = omega (arith, last_module, ap (λ x. x.modules) is) in
      omega (arith, i, k ∙ ap bytes_for j, before_step (graph_in numbers).statements (h.modules - 1), ap (bytes_before (graph_in numbers).statements) e)

-- the section's words so far
pub record Filling (numbers before after : List ℕ) (m total : ℕ) : Type 0 where
  pub kept : Kept (start_of (header_in numbers) at_first_bytes) before after
  pub few : m ≤ (header_in numbers).modules
  pub total_is : total ≡ bytes_before (graph_in numbers).statements m
  pub has : (k : ℕ) → k < m → get_or (first_bytes_in after) k 0 ≡ bytes_before (graph_in numbers).statements k

module _ (numbers before : List ℕ) (p : Loaded numbers before) (t : Laid (header_in numbers) all_sections before) where
  pub filling_none : Filling numbers before before 0 0
  unfolding bytes_before
  filling_none = record { kept = kept_none; few = omega arith; total_is = refl; has = λ k l. absurd (omega arith) }

  module _ (after : List ℕ) (m total : ℕ) (f : Filling numbers before after m total) where
    laid-after : Laid (header_in numbers) all_sections after
    laid-after = laid_kept t 9 (omega arith) f.kept

    long : length (first_bytes_in after) ≡ (header_in numbers).modules
    unfolding sizes
    long = section-length laid-after 9 (omega arith)

    pub filling-done : (header_in numbers).modules ≤ m → FirstByteTable (graph_in numbers) (first_bytes_in after)
    unfolding graph_in
    filling-done l = record { long = omega (arith, long); has = λ k b. f.has k (omega (arith, l, b)) }

    module _ (l : m < (header_in numbers).modules) where
      pub word-there : get_or before 9 0 + m < length after
      unfolding sizes
      word-there = omega (arith, t.starts 9 (omega arith), ends_inside laid-after 9 (omega arith), l)

      written : Kept (start_of (header_in numbers) at_first_bytes) before (set after (get_or before 9 0 + m) total)
      written = kept_set (start_of (header_in numbers) at_first_bytes) (get_or before 9 0 + m) total (omega (arith, t.starts 9 (omega arith))) f.kept

      pub still_loaded : Loaded numbers (set after (get_or before 9 0 + m) total)
      still_loaded = loaded_kept p 9 (omega arith) (laid_less (omega arith) t) written

      is_set : first_bytes_in (set after (get_or before 9 0 + m) total) ≡ set (first_bytes_in after) m total
      unfolding sizes
      is_set = ap (λ i. first_bytes_in (set after (i + m) total)) (t.starts 9 (omega arith)) ∙ section-set laid-after 9 (omega arith) m total l

      pub filling-more : (n b : ℕ) → n ≡ length (statement_list (graph_in numbers) m) → b ≡ bytes_for n → Filling numbers before (set after (get_or before 9 0 + m) total) (m + 1) (total + b)
      unfolding statement_list
      filling-more n b e is =
          record {
            kept = written;
            few = omega (arith, l);
            total_is = omega (arith, f.total_is, is ∙ ap bytes_for e, before_step (graph_in numbers).statements m);
            has = λ k h. rw is_set (entry k h (ℕ_discrete k m));
          }
        where
          entry : (k : ℕ) → k < m + 1 → Dec (k ≡ m) → get_or (set (first_bytes_in after) m total) k 0 ≡ bytes_before (graph_in numbers).statements k
          entry k h (yes q) = rw q (get_or-set_same (first_bytes_in after) m total 0 (omega (arith, l, long)) ∙ f.total_is)
          entry k h (no q) = get_or-set_other (first_bytes_in after) m k total 0 q ∙ f.has k (omega (arith, h, q))

      pub total_small : total ≤ 16777216
      total_small = omega (arith, f.total_is, before_few p m f.few, f.few, p.few_modules)
