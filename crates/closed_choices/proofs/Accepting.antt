-- The theorems over accepted numbers: such numbers have tables, whatever code may hold them.
use Prim.Native.Nat.{ℕ, zero, suc, ◌+◌, ◌-◌, ◌<◌, ◌≤◌}
use mathlib.Core.Path.{◌≡◌, refl, ap, ◌∙◌, sym}
use mathlib.Core.List.{List, [], ◌∷◌, ◌++◌, map, append_assoc, append-nil}
use native.Mathlib.Nat.{one-mul}
use native.Mathlib.Omega.{arith}
use lib.ListN.{length, get_or, drop, replicate, length-append, length-map, length-replicate, get_or-append}
use lib.Seq.{get_or-append-add, get_or-drop, drop-drop, drop_at}
use Rattle.determine_side_effects.specs.rows_crate.Walk.{Parsed, got, many, Item, no_item, walk_of, cells}
use Rattle.determine_side_effects.proofs.rows_crate.Cells.{then_got}
use Rattle.determine_side_effects.proofs.rows_crate.Items.{many_first, many-length, rows_end, plain_plain}
use Rattle.determine_side_effects.specs.graph_format_crate.declared.Header.{Header}
use Rattle.determine_side_effects.specs.graph_format_crate.Format.{header_rules, modules_at, symbols_at, statements_at, entries_at, module_statements, statements_of}
use Rattle.determine_side_effects.specs.tables_crate.Layout.{sizes, start_from, start_of, first_statements, statement_places, Laid, at_modules, at_symbols, at_first_statements, at_statements, at_entries, at_verdicts}
use Rattle.determine_side_effects.proofs.tables_crate.Sections.{start_five, section_has}
use Rattle.determine_side_effects.specs.graph_tables_crate.Tables.{items_of, end_of, header_in, modules_read, modules_in, symbols_read, statements_read, first_of}
use Rattle.determine_side_effects.specs.graph_tables_crate.Places.{Filled, StatementsPlaced, StatementsFilled, ModuleTable}
use Rattle.determine_side_effects.proofs.graph_tables_crate.Sections.{placed_section}
use Rattle.determine_side_effects.proofs.graph_tables_crate.ByModule.{first_step, first_fits}
use Rattle.determine_side_effects.specs.graph_crate.Check.{Graph, helpers_at, graph_at, walked, check_of, answer_of, HeaderRead}
use Rattle.determine_side_effects.specs.graph_crate.Loaded.{Loaded}
use Rattle.determine_side_effects.proofs.graph_crate.Checking.{walked_is, bounded}
use Rattle.determine_side_effects.proofs.graph_crate.Loading.{module-table, symbol-table, statement-table, entry-table, loaded}
use Rattle.determine_side_effects.proofs.graph_crate.WellFormed.{accepted_is}
use Rattle.determine_side_effects.specs.graph_access_crate.Words.{tabulate}
use Rattle.answer_rows.proofs.Tabulated.{length-tabulate, get_d_tabulate}
use Rattle.std.specs.Prelude.{Ok}

-- the places of items, and of statements by module
abbrev places_of : List Item → List ℕ
places_of xs = map (λ x. x.place) xs

places_at : (xs : List Item) (i : ℕ) → i < length xs → get_or (places_of xs) i 0 ≡ (get_or xs i no_item).place
places_at [] i h = absurd (omega arith)
places_at (x ∷ xs) zero h = refl
places_at (x ∷ xs) (suc i) h = places_at xs i (omega arith)

places_long : (xs : List Item) → length (places_of xs) ≡ length xs
places_long xs = length-map xs (λ x. x.place)

abbrev flat : List (List Item) → List ℕ
flat [] = []
flat (s ∷ ss) = places_of s ++ flat ss

flat_long : (ms : List Item) (ss : List (List Item)) → length ms ≡ length ss → ((m : ℕ) → m < length ss → length (get_or ss m []) ≡ statements_of (get_or ms m no_item))
    → length (flat ss) ≡ first_of ms (length ss)
unfolding first_of
flat_long ms [] l c = refl
flat_long [] (s ∷ ss) l c = absurd (omega (arith, l))
flat_long (x ∷ ms) (s ∷ ss) l c =
    omega (arith, length-append (places_of s) (flat ss), places_long s, c 0 (omega arith), flat_long ms ss (omega (arith, l)) (λ n v. c (suc n) (omega (arith, v))))

-- statement i of module m stands in the flat list behind those of the modules before
flat_at : (ms : List Item) (ss : List (List Item)) (rest : List ℕ) → length ms ≡ length ss → ((m : ℕ) → m < length ss → length (get_or ss m []) ≡ statements_of (get_or ms m no_item))
    → (m i : ℕ) → m < length ss → i < length (get_or ss m []) → get_or (flat ss ++ rest) (first_of ms m + i) 0 ≡ (get_or (get_or ss m []) i no_item).place
unfolding first_of
flat_at ms [] rest l c m i h u = absurd (omega arith)
flat_at [] (s ∷ ss) rest l c m i h u = absurd (omega (arith, l))
flat_at (x ∷ ms) (s ∷ ss) rest l c zero i h u =
    let z : 0 + i ≡ i = omega arith in
    let w : i < length (places_of s) = omega (arith, places_long s, u) in
    ap (λ j. get_or ((places_of s ++ flat ss) ++ rest) j 0) z
    ∙ get_or-append (places_of s ++ flat ss) rest 0 i (omega (arith, w, length-append (places_of s) (flat ss)))
    ∙ get_or-append (places_of s) (flat ss) 0 i w ∙ places_at s i u
flat_at (x ∷ ms) (s ∷ ss) rest l c (suc m) i h u =
    let e : statements_of x + first_of ms m + i ≡ length (places_of s) + (first_of ms m + i) = omega (arith, places_long s, c 0 (omega arith)) in
    ap (λ j. get_or ((places_of s ++ flat ss) ++ rest) j 0) e
    ∙ ap (λ (r : List ℕ). get_or r (length (places_of s) + (first_of ms m + i)) 0) (append_assoc (places_of s) (flat ss) rest)
    ∙ get_or-append-add (places_of s) (flat ss ++ rest) (first_of ms m + i) 0
    ∙ flat_at ms ss rest (omega (arith, l)) (λ n v. c (suc n) (omega (arith, v))) m i (omega (arith, h)) u

-- a list that was read, by what it was read from
read_is : {A : Type 0} (x : Parsed (List A)) {xs : List A} {q : ℕ} → x ≡ got xs q → (xs ≡ items_of x) × (q ≡ end_of x)
unfolding items_of end_of
read_is x e = (rw e, rw e)

walk_ends : {A : Type 0} (x : Parsed A) {a : A} {q : ℕ} → x ≡ got a q → walk_of x ≡ Ok q
unfolding walk_of
walk_ends x e = rw e

-- a list has a part from word `at` on
record Holds (at : ℕ) (part xs : List ℕ) : Type 0 where
  has : (i : ℕ) → i < length part → get_or xs (at + i) 0 ≡ get_or part i 0

part_held : (at : ℕ) (part rest xs : List ℕ) → drop at xs ≡ part ++ rest → Holds at part xs
part_held at part rest xs e = record { has = λ i l. sym (get_or-drop at xs i 0) ∙ ap (λ (r : List ℕ). get_or r i 0) e ∙ get_or-append part rest 0 i l }

-- what is behind it
part_next : (at : ℕ) (part rest xs : List ℕ) → drop at xs ≡ part ++ rest → (n : ℕ) → length part ≡ n → drop (at + n) xs ≡ rest
part_next at part rest xs e n l = sym (drop-drop n at xs) ∙ ap (drop n) e ∙ drop_at part rest n l

-- the places of items that were read
filled_by : (x : Parsed (List Item)) {xs : List Item} {q at : ℕ} {tables : List ℕ} → x ≡ got xs q → Holds at (places_of xs) tables → Filled x at tables
filled_by x {xs} e s = rw e (λ i h. s.has i (omega (arith, places_long xs, h)) ∙ places_at xs i h)

-- five lists as the sections of tables
record Sections (h : Header) (a b c d e tables : List ℕ) : Type 0 where
  laid : Laid h at_verdicts tables
  first : Holds (start_of h at_modules) a tables
  second : Holds (start_of h at_symbols) b tables
  third : Holds (start_of h at_first_statements) c tables
  fourth : Holds (start_of h at_statements) d tables
  fifth : Holds (start_of h at_entries) e tables

-- they are, one behind another, behind the words of the layout
abbrev joined : Header → List ℕ → List ℕ → List ℕ → List ℕ → List ℕ → List ℕ
joined h a b c d e = tabulate (start_of h) 0 11 ++ (a ++ (b ++ (c ++ (d ++ e))))

module _ (h : Header) (a b c d e : List ℕ) (la : length a ≡ h.modules) (lb : length b ≡ h.symbols) (lc : length c ≡ h.modules) (ld : length d ≡ h.statements) (le : length e ≡ h.entries)
    (few : start_of h at_verdicts < 4294967296) where
  abbrev all : List ℕ
  all = joined h a b c d e

  layout_long : length (tabulate (start_of h) 0 11) ≡ 11
  layout_long = length-tabulate (start_of h) 0 11

  all_long : length all ≡ start_of h at_verdicts
  all_long =
      omega (
        arith,
        start_five h,
        layout_long,
        length-append (tabulate (start_of h) 0 11) (a ++ (b ++ (c ++ (d ++ e)))),
        length-append a (b ++ (c ++ (d ++ e))),
        length-append b (c ++ (d ++ e)),
        length-append c (d ++ e),
        length-append d e,
        la,
        lb,
        lc,
        ld,
        le,
      )

  starts : (k : ℕ) → k ≤ 10 → get_or all k 0 ≡ start_of h k
  starts k l =
      let z : 0 + k ≡ k = omega arith in
      get_or-append (tabulate (start_of h) 0 11) (a ++ (b ++ (c ++ (d ++ e)))) 0 k (omega (arith, l, layout_long))
      ∙ get_d_tabulate (start_of h) 0 11 k 0 (omega (arith, l))
      ∙ ap (start_of h) z

  joined_sections : Sections h a b c d e all
  unfolding start_of start_from sizes
  joined_sections =
      let p : drop (start_of h at_modules) all ≡ a ++ (b ++ (c ++ (d ++ e))) = drop_at (tabulate (start_of h) 0 11) (a ++ (b ++ (c ++ (d ++ e)))) 11 layout_long in
      let q : drop (start_of h at_symbols) all ≡ b ++ (c ++ (d ++ e)) = part_next (start_of h at_modules) a (b ++ (c ++ (d ++ e))) all p h.modules la in
      let r : drop (start_of h at_first_statements) all ≡ c ++ (d ++ e) = part_next (start_of h at_symbols) b (c ++ (d ++ e)) all q h.symbols lb in
      let s : drop (start_of h at_statements) all ≡ d ++ e = part_next (start_of h at_first_statements) c (d ++ e) all r h.modules lc in
      let t : drop (start_of h at_entries) all ≡ e = part_next (start_of h at_statements) d e all s h.statements ld in
      record {
        laid = record { known = omega arith; few = omega (arith, all_long, few); starts = starts; fits = omega (arith, all_long) };
        first = part_held (start_of h at_modules) a (b ++ (c ++ (d ++ e))) all p;
        second = part_held (start_of h at_symbols) b (c ++ (d ++ e)) all q;
        third = part_held (start_of h at_first_statements) c (d ++ e) all r;
        fourth = part_held (start_of h at_statements) d e all s;
        fifth = part_held (start_of h at_entries) e [] all (t ∙ sym (append-nil e));
      }

-- each module's statements are as many as its count says
lists_long : (h : Header) (ms : List Item) (numbers : List ℕ) (k s at : ℕ) {ss : List (List Item)} {q : ℕ} → many (module_statements h ms numbers) (λ m x. m + 1) k s at ≡ got ss q
    → (m : ℕ) → m < length ss → length (get_or ss m []) ≡ statements_of (get_or ms (s + m) no_item)
unfolding module_statements
lists_long h ms numbers zero s at e m u = absurd (none e u)
  where
    none : {ss : List (List Item)} {q : ℕ} → many (module_statements h ms numbers) (λ m x. m + 1) zero s at ≡ got ss q → m < length ss → ⊥
    none e u = omega (arith, u, many-length (module_statements h ms numbers) (λ m x. m + 1) zero s at e)
lists_long h ms numbers (suc k) s at {ss} {q} e zero u =
    let f = many_first (module_statements h ms numbers) (λ m x. m + 1) k s at e in
    let z : s ≡ s + 0 = omega arith in
    ap (λ (l : List (List Item)). length (get_or l 0 [])) f.is ∙ many-length _ _ _ _ _ f.here ∙ ap (λ j. statements_of (get_or ms j no_item)) z
lists_long h ms numbers (suc k) s at {ss} {q} e (suc m) u =
    let f = many_first (module_statements h ms numbers) (λ m x. m + 1) k s at e in
    let z : s + 1 + m ≡ s + suc m = omega arith in
    let w : suc m < suc (length f.others) = rw f.is at u in
    ap (λ (l : List (List Item)). length (get_or l (suc m) [])) f.is ∙ lists_long h ms numbers k (s + 1) f.end f.there m (omega (arith, w)) ∙ ap (λ j. statements_of (get_or ms j no_item)) z

-- accepted numbers have tables
pub record Tabled (numbers : List ℕ) : Type 0 where
  pub tables : List ℕ
  pub holds : Loaded numbers tables

module _ (numbers : List ℕ) (ok : answer_of (check_of numbers) ≡ Ok tt) where
  abbrev h : Header
  h = header_in numbers

  header_good : HeaderRead numbers h
  unfolding check_of walked
  header_good =
      let a = then_got (walked numbers) _ (accepted_is numbers ok).1 in
      let b = then_got (cells header_rules numbers 0) _ a.2 in
      record { end = b.1; read = walk_ends _ b.2; is = refl }

  graph_read : (g : Graph) × (q : ℕ) × (graph_at h numbers 7 ≡ got g q)
  unfolding check_of walked
  graph_read =
      let a = then_got (walked numbers) _ (accepted_is numbers ok).1 in
      let b = then_got (cells header_rules numbers 0) _ a.2 in
      (a.0, a.1, sym (walked_is numbers b.2) ∙ a.2)

  -- the tables of parts that are read one behind another
  module _ (at : ℕ) (z : at ≡ 7 + h.helpers) (ms : List Item) (q₁ : ℕ) (ys : List Item) (q₂ : ℕ) (ss : List (List Item)) (q₃ : ℕ) (es : List Item) (q₄ : ℕ)
      (b : modules_at h numbers at ≡ got ms q₁) (c : symbols_at h ms numbers q₁ ≡ got ys q₂) (d : statements_at h ms numbers q₂ ≡ got ss q₃) (f : entries_at h ms numbers q₃ ≡ got es q₄) where
    many-modules : length ms ≡ h.modules
    unfolding modules_at
    many-modules = many-length _ _ _ _ _ b

    many-symbols : length ys ≡ h.symbols
    unfolding symbols_at
    many-symbols = many-length _ _ _ _ _ c

    many-lists : length ss ≡ h.modules
    unfolding statements_at
    many-lists = many-length _ _ _ _ _ d

    many-entries : length es ≡ h.entries
    unfolding entries_at
    many-entries = many-length _ _ _ _ _ f

    modules_are : (ms ≡ modules_in numbers) × (q₁ ≡ end_of (modules_read numbers))
    unfolding modules_in modules_read
    modules_are = read_is _ (rw z at b)

    symbols-end : q₂ ≡ end_of (symbols_read numbers)
    unfolding symbols_read
    symbols-end = (read_is _ (rw (modules_are.0, modules_are.1) at c)).1

    statements-end : q₃ ≡ end_of (statements_read numbers)
    unfolding statements_read
    statements-end = (read_is _ (rw (modules_are.0, symbols-end) at d)).1

    lists : (m : ℕ) → m < length ss → length (get_or ss m []) ≡ statements_of (get_or ms m no_item)
    unfolding statements_at
    lists m u = let w : 0 + m ≡ m = omega arith in lists_long h ms numbers h.modules 0 q₂ d m u ∙ ap (λ j. statements_of (get_or ms j no_item)) w

    modules-placed : ModuleTable numbers (places_of ms)
    unfolding modules_read
    modules-placed =
        record {
          end = q₁;
          read = rw (z, modules_are.0) at b;
          places = rw (sym modules_are.0) (λ i u. let w : 0 + i ≡ i = omega arith in ap (λ j. get_or (places_of ms) j 0) w ∙ places_at ms i u);
          long = omega (arith, places_long ms, many-modules);
        }

    -- no more statements than the header counts
    fit : (m : ℕ) → first_of ms m ≤ h.statements
    fit m = rw modules_are.0 (first_fits numbers (places_of ms) modules-placed m)

    abbrev begins : List ℕ
    begins = tabulate (first_of ms) 0 h.modules

    abbrev zeros : List ℕ
    zeros = replicate (h.statements - length (flat ss)) 0

    abbrev tables : List ℕ
    tables = joined h (places_of ms) (places_of ys) begins (flat ss ++ zeros) (places_of es)

    long-begins : length begins ≡ h.modules
    long-begins = length-tabulate (first_of ms) 0 h.modules

    long-statements : length (flat ss ++ zeros) ≡ h.statements
    long-statements =
        omega (
          arith,
          length-append (flat ss) zeros,
          length-replicate {A = ℕ} (h.statements - length (flat ss)) 0,
          flat_long ms ss (omega (arith, many-modules, many-lists)) lists,
          fit (length ss),
        )

    sections : Sections h (places_of ms) (places_of ys) begins (flat ss ++ zeros) (places_of es) tables
    sections =
        joined_sections h (places_of ms) (places_of ys) begins (flat ss ++ zeros) (places_of es)
        (places_long ms ∙ many-modules) (places_long ys ∙ many-symbols) long-begins long-statements (places_long es ∙ many-entries)
        (omega (arith, start_five h, bounded numbers h header_good))

    placed : StatementsPlaced ms ss (first_statements tables) (statement_places tables)
    unfolding sizes
    placed =
        record {
          firsts =
              λ m u.
              let w : 0 + m ≡ m = omega arith in
              let v : m < h.modules = omega (arith, u, many-lists) in
              section_has sections.laid 2 (omega arith) m v
              ∙ sections.third.has m (omega (arith, v, long-begins))
              ∙ get_d_tabulate (first_of ms) 0 h.modules m 0 v
              ∙ ap (first_of ms) w;
          places =
              λ m u.
              let s = first_step ms m (omega (arith, u, many-modules, many-lists)) in
              let v : first_of ms m + length (get_or ss m []) ≤ h.statements = omega (arith, s, lists m u, fit (m + 1)) in
              placed_section sections.laid 3 (omega arith) (first_of ms m) (get_or ss m []) v
              (λ i n.
              let e : start_of h at_statements + first_of ms m + i ≡ start_of h at_statements + (first_of ms m + i) = omega arith in
              ap (λ j. get_or tables j 0) e
              ∙ sections.fourth.has (first_of ms m + i) (omega (arith, n, v, long-statements))
              ∙ flat_at ms ss zeros (omega (arith, many-modules, many-lists)) lists m i u n);
        }

    with-statements : StatementsFilled (modules_in numbers) (statements_at h (modules_in numbers) numbers q₂) (first_statements tables) (statement_places tables)
    with-statements = rw (sym modules_are.0) (rw d placed)

    tabled : Tabled numbers
    tabled =
        record {
          tables = tables;
          holds =
              loaded numbers tables h ok header_good sections.laid
              (record {
                of_modules = module-table numbers h refl tables sections.laid at q₁ z (walk_ends _ b) (filled_by _ b sections.first);
                of_symbols =
                    symbol-table numbers h refl tables sections.laid q₁ q₂ modules_are.1 (walk_ends _ (rw modules_are.0 at c))
                    (filled_by _ (rw modules_are.0 at c) sections.second);
                of_statements = statement-table numbers h refl tables sections.laid q₂ q₃ symbols-end (walk_ends _ (rw modules_are.0 at d)) with-statements;
                of_entries =
                    entry-table numbers h refl tables sections.laid q₃ q₄ statements-end (walk_ends _ (rw modules_are.0 at f))
                    (filled_by _ (rw modules_are.0 at f) sections.fifth);
              });
        }

  pub accepted_tabled : Tabled numbers
  unfolding graph_at helpers_at
  accepted_tabled =
      let e = graph_read.2 in
      let a = then_got (helpers_at h numbers 7) _ e in
      let b = then_got (modules_at h numbers a.1) _ a.3 in
      let c = then_got (symbols_at h b.0 numbers b.1) _ b.3 in
      let d = then_got (statements_at h b.0 numbers c.1) _ c.3 in
      let f = then_got (entries_at h b.0 numbers d.1) _ d.3 in
      let r = rows_end (h.symbols ∷ []) numbers _ (plain_plain (h.symbols ∷ []) numbers) h.helpers [] 7 a.2 in
      tabled a.1 (r ∙ ap (λ j. 7 + j) (one-mul h.helpers)) b.0 b.1 c.0 c.1 d.0 d.1 f.0 f.1 b.2 c.2 d.2 f.2
