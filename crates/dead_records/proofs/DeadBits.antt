-- The import records that dead entries mark, and their bits in a row.
use Prim.Native.Nat.{ℕ, suc, ◌+◌, ◌*◌, ◌-◌, ◌<◌, ◌≤◌}
use mathlib.Core.Path.{◌≡◌, refl, ap, ◌∙◌, sym}
use mathlib.Core.Bool.{Bool, true, false, ◌||◌, ◌&&◌}
use mathlib.Core.List.{List, [], ◌∷◌, ◌++◌}
use native.Mathlib.Numerals.{add-one}
use native.Mathlib.Omega.{arith}
use borrow.Author.Tests.{eq-eqb, ne_eqb, lt-ltb}
use lib.Dec.{eqb}
use lib.ListN.{length, get_or, drop, drop_of_length-le}
use lib.Seq.{drop-cons}
use Rattle.bit_row.specs.Row.{bit_at, bytes_for, cleared}
use Rattle.bit_row.proofs.Size.{bytes_hold}
use Rattle.bit_row.proofs.Cleared.{cleared_unset, cleared_kept}
use Rattle.determine_side_effects.specs.graph_format_crate.declared.Header.{Header}
use Rattle.determine_side_effects.specs.graph_tables_crate.Tables.{header_in}
use Rattle.determine_side_effects.specs.graph_crate.Check.{Graph, graph_in}
use Rattle.determine_side_effects.specs.graph_crate.Loaded.{Loaded}
use Rattle.determine_side_effects.specs.graph_access_crate.Names.{related, related_module, related_import_record, unreachable}
use Rattle.determine_side_effects.specs.graph_access_crate.Words.{some, tabulate, entry_of}
use Rattle.determine_side_effects.specs.graph_access_crate.declared.entries.RelatedStmt.{RelatedStmt}
use Rattle.determine_side_effects.specs.graph_access_crate.Related.{RelatedHere, RelatedIs}
use Rattle.determine_side_effects.proofs.graph_access_crate.Indexes.{related_here}
use Rattle.determine_side_effects.specs.Effects.{last_verdicts}
use Rattle.keep_record.specs.Lines.{elem}
use Rattle.answer_rows.specs.Shown.{bytes_of}
use Rattle.answer_rows.proofs.InRow.{Under, under_not}
use Rattle.answer_rows.proofs.Tabulated.{some_or, some_over, none_passes}
use Rattle.answer_rows.proofs.Bytes.{row_is}
use Rattle.entry_order.specs.Plan.{dead_at, is_set, dead_in}
use Rattle.dynamic_entries.specs.Alive.{is_pure, records_before, dead_of}
use Rattle.dead_records.specs.Dead.{record_count, is_dead_record}
use Rattle.dead_records.proofs.Numbering.{record_inside}

-- a related statement marks its import record, or nothing
module _ (g : Graph) (v : List ℕ) where
  dead_here : (row : List ℕ) (rows : List (List ℕ)) → eqb (unreachable row) 0 ≡ true → is_pure g v row ≡ true
      → dead_of g v (row ∷ rows) ≡ (records_before g.modules (related_module row) + related_import_record row) ∷ dead_of g v rows
  unfolding dead_of
  dead_here row rows r p = rw (r, p, dead_of)

  dead_not : (row : List ℕ) (rows : List (List ℕ)) → (eqb (unreachable row) 0 && is_pure g v row) ≡ false → dead_of g v (row ∷ rows) ≡ dead_of g v rows
  unfolding dead_of
  dead_not row rows e = rw (e, dead_of)

  -- each is one of the records
  dead_under : (rows : List (List ℕ)) → ((k : ℕ) → k < length rows → RelatedHere g (get_or rows k [])) → Under (record_count g) (dead_of g v rows)
  unfolding dead_of
  dead_under [] here = tt
  dead_under (row ∷ rows) here = go (eqb (unreachable row) 0 && is_pure g v row) refl (dead_under rows (λ k l. here (suc k) (omega (arith, l))))
    where
      go : (b : Bool) → (eqb (unreachable row) 0 && is_pure g v row) ≡ b → Under (record_count g) (dead_of g v rows) → Under (record_count g) (dead_of g v (row ∷ rows))
      go true e r = let h = here 0 (omega arith) in rw (e, dead_of) (record_inside g (related_module row) (related_import_record row) h.inside h.import_record_inside, r)
      go false e r = rw (e, dead_of) r

swap : (a b d : Bool) → (a || (b || d)) ≡ ((b || a) || d)
swap true true d = refl
swap true false d = refl
swap false true d = refl
swap false false d = refl

-- In the loop over an entry's related statements: the bits that are set and those that are left.
pub record Marking (g : Graph) (v : List ℕ) (rows : List (List ℕ)) (before bits : List ℕ) (k : ℕ) : Type 0 where
  pub same_length : length bits ≡ length before
  pub inside : k ≤ length rows
  pub on : (j : ℕ) → (elem j (dead_of g v (drop k rows)) || bit_at bits j) ≡ (elem j (dead_of g v rows) || bit_at before j)

module _ (g : Graph) (v : List ℕ) (rows : List (List ℕ)) (before : List ℕ) where
  pub marking_none : Marking g v rows before before 0
  marking_none = record { same_length = refl; inside = omega arith; on = λ j. refl }

  pub marking_done : (bits : List ℕ) (k : ℕ) → Marking g v rows before bits k → length rows ≤ k → (j : ℕ) → bit_at bits j ≡ (elem j (dead_of g v rows) || bit_at before j)
  unfolding dead_of elem
  marking_done bits k m l j = sym (ap (λ (xs : List (List ℕ)). elem j (dead_of g v xs) || bit_at bits j) (drop_of_length-le rows l)) ∙ m.on j

  module _ (bits : List ℕ) (k : ℕ) (m : Marking g v rows before bits k) (l : k < length rows) (r : RelatedStmt) (is : RelatedIs g (get_or rows k []) r) where
    next : drop k rows ≡ get_or rows k [] ∷ drop (k + 1) rows
    next = drop-cons rows k [] l ∙ ap (λ i. get_or rows k [] ∷ drop i rows) (sym (add-one k))

    -- where its bit stands
    pub bit-inside : (first width : ℕ) → first ≡ records_before g.modules r.module.0 → record_count g ≤ width → first + r.import_record.0 < width
    bit-inside first width e w =
        let h = record_inside g (related_module (get_or rows k [])) (related_import_record (get_or rows k [])) is.here.inside is.here.import_record_inside in
        omega (arith, h, e ∙ ap (records_before g.modules) is.module_is, is.import_record_is, w)

    -- its bit is set
    pub marking-set : (pure : Bool) (first : ℕ) (set after : List ℕ) → r.unreachable ≡ 0 → pure ≡ is_pure g v (get_or rows k []) → pure ≡ true
        → first ≡ records_before g.modules r.module.0 → length set ≡ length bits → ((j : ℕ) → bit_at set j ≡ (eqb j (first + r.import_record.0) || bit_at bits j)) → after ≡ set
        → Marking g v rows before after (k + 1)
    unfolding elem
    marking-set pure first set after u p y f same to now =
        let row = get_or rows k [] in
        let e : dead_of g v (drop k rows) ≡ (records_before g.modules (related_module row) + related_import_record row) ∷ dead_of g v (drop (k + 1) rows) =
        ap (dead_of g v) next ∙ dead_here g v row (drop (k + 1) rows) (eq-eqb (unreachable row) 0 (sym is.unreachable_is ∙ u)) (sym p ∙ y) in
        let at : first + r.import_record.0 ≡ records_before g.modules (related_module row) + related_import_record row =
        omega (arith, f ∙ ap (records_before g.modules) is.module_is, is.import_record_is) in
        record {
          same_length = ap length now ∙ same ∙ m.same_length;
          inside = omega (arith, l);
          on = λ j.
              let rest = elem j (dead_of g v (drop (k + 1) rows)) in
              ap (λ (x : List ℕ). rest || bit_at x j) now ∙ ap (λ b. rest || b) (to j) ∙ swap rest (eqb j (first + r.import_record.0)) (bit_at bits j)
              ∙ ap (λ i. (eqb j i || rest) || bit_at bits j) at ∙ ap (λ (xs : List ℕ). elem j xs || bit_at bits j) (sym e) ∙ m.on j;
        }

    -- it marks nothing
    marking-passed : (after : List ℕ) → (eqb (unreachable (get_or rows k [])) 0 && is_pure g v (get_or rows k [])) ≡ false → after ≡ bits → Marking g v rows before after (k + 1)
    marking-passed after n now =
        record {
          same_length = ap length now ∙ m.same_length;
          inside = omega (arith, l);
          on = λ j.
              ap (λ (x : List ℕ). elem j (dead_of g v (drop (k + 1) rows)) || bit_at x j) now
              ∙ ap (λ (xs : List ℕ). elem j xs || bit_at bits j) (sym (ap (dead_of g v) next ∙ dead_not g v (get_or rows k []) (drop (k + 1) rows) n)) ∙ m.on j;
        }

    pub marking-unreachable : (after : List ℕ) → (r.unreachable ≡ 0 → ⊥) → after ≡ bits → Marking g v rows before after (k + 1)
    marking-unreachable after u now =
        marking-passed after (ap (λ b. b && is_pure g v (get_or rows k [])) (ne_eqb (unreachable (get_or rows k [])) 0 (λ q. u (is.unreachable_is ∙ q)))) now

    pub marking-impure : (pure : Bool) (after : List ℕ) → pure ≡ is_pure g v (get_or rows k []) → pure ≡ false → after ≡ bits → Marking g v rows before after (k + 1)
    marking-impure pure after p n now =
        marking-passed after (ap (λ b. eqb (unreachable (get_or rows k [])) 0 && b) (sym p ∙ n) ∙ and_false (eqb (unreachable (get_or rows k [])) 0)) now
      where
        and_false : (a : Bool) → (a && false) ≡ false
        and_false true = refl
        and_false false = refl

-- whether an entry was found dead, by its word
module _ (numbers plan : List ℕ) (h : Header) (is : h ≡ header_in numbers) (e : ℕ) (l : e < (header_in numbers).entries) where
  word_is : get_or plan (h.entries + h.modules + e) 0 ≡ get_or plan (dead_at (header_in numbers) + e) 0
  word_is = ap (λ (x : Header). get_or plan (x.entries + x.modules + e) 0) is

  pub dead_word : get_or plan (h.entries + h.modules + e) 0 ≡ 1 → dead_in (header_in numbers) plan e ≡ true
  unfolding dead_in is_set
  dead_word w = rw (lt-ltb e (header_in numbers).entries l, eq-eqb (get_or plan (dead_at (header_in numbers) + e) 0) 1 (sym word_is ∙ w))

  pub live_word : (get_or plan (h.entries + h.modules + e) 0 ≡ 1 → ⊥) → dead_in (header_in numbers) plan e ≡ false
  unfolding dead_in is_set
  live_word w = rw (lt-ltb e (header_in numbers).entries l, ne_eqb (get_or plan (dead_at (header_in numbers) + e) 0) 1 (λ q. w (word_is ∙ q)))

-- whether an entry marks record j, and whether one from number e on does
module _ (g : Graph) (dead : ℕ → Bool) where
  unfoldable pub shows : ℕ → ℕ → Bool
  shows j e = dead e && elem j (dead_of g (last_verdicts g) (related (entry_of g e)))

  unfoldable pub left : ℕ → ℕ → Bool
  left j e = some (shows j) (tabulate (λ x. x) e (g.header.entries - e))

  left_all : (j : ℕ) → left j 0 ≡ is_dead_record g dead j
  unfolding left shows is_dead_record
  left_all j = let z : g.header.entries - 0 ≡ g.header.entries = omega arith in ap (λ n. some (shows j) (tabulate (λ x. x) 0 n)) z

  left_next : (j e : ℕ) → e < g.header.entries → left j e ≡ (shows j e || left j (e + 1))
  unfolding left
  left_next j e l = some_or (shows j) (λ x. x) g.header.entries e l

  left_over : (j e : ℕ) → g.header.entries ≤ e → left j e ≡ false
  unfolding left
  left_over j e l = some_over (shows j) (λ x. x) g.header.entries e l

-- In the loop over the entries: the bits that are set and those that are left.
pub record Showing (g : Graph) (dead : ℕ → Bool) (before bits : List ℕ) (e : ℕ) : Type 0 where
  pub same_length : length bits ≡ length before
  pub inside : e ≤ g.header.entries
  pub on : (j : ℕ) → (left g dead j e || bit_at bits j) ≡ (is_dead_record g dead j || bit_at before j)

module _ (g : Graph) (dead : ℕ → Bool) (before : List ℕ) where
  pub showing_none : Showing g dead before before 0
  showing_none = record { same_length = refl; inside = omega arith; on = λ j. ap (λ b. b || bit_at before j) (left_all g dead j) }

  pub showing_done : (bits : List ℕ) (e : ℕ) → Showing g dead before bits e → g.header.entries ≤ e → (j : ℕ) → bit_at bits j ≡ (is_dead_record g dead j || bit_at before j)
  showing_done bits e b l j = sym (ap (λ x. x || bit_at bits j) (left_over g dead j e l)) ∙ b.on j

  module _ (bits : List ℕ) (e : ℕ) (b : Showing g dead before bits e) (l : e < g.header.entries) where
    pub showing-dead : (set after : List ℕ) → dead e ≡ true → length set ≡ length bits
        → ((j : ℕ) → bit_at set j ≡ (elem j (dead_of g (last_verdicts g) (related (entry_of g e))) || bit_at bits j)) → after ≡ set → Showing g dead before after (e + 1)
    unfolding shows
    showing-dead set after d same to now =
        record {
          same_length = ap length now ∙ same ∙ b.same_length;
          inside = omega (arith, l);
          on = λ j.
              let its = elem j (dead_of g (last_verdicts g) (related (entry_of g e))) in
              let rest = left g dead j (e + 1) in
              ap (λ (x : List ℕ). rest || bit_at x j) now ∙ ap (λ x. rest || x) (to j) ∙ swap rest its (bit_at bits j)
              ∙ ap (λ x. ((x && its) || rest) || bit_at bits j) (sym d) ∙ ap (λ x. x || bit_at bits j) (sym (left_next g dead j e l)) ∙ b.on j;
        }

    pub showing-passed : (after : List ℕ) → dead e ≡ false → after ≡ bits → Showing g dead before after (e + 1)
    unfolding shows
    showing-passed after d now =
        record {
          same_length = ap length now ∙ b.same_length;
          inside = omega (arith, l);
          on = λ j.
              let its = elem j (dead_of g (last_verdicts g) (related (entry_of g e))) in
              let rest = left g dead j (e + 1) in
              ap (λ (x : List ℕ). rest || bit_at x j) now ∙ ap (λ x. ((x && its) || rest) || bit_at bits j) (sym d)
              ∙ ap (λ x. x || bit_at bits j) (sym (left_next g dead j e l)) ∙ b.on j;
        }

module _ {numbers tables : List ℕ} (t : Loaded numbers tables) (dead : ℕ → Bool) where
  abbrev g : Graph
  g = graph_in numbers

  -- no bit behind the records
  pub dead_inside : (j : ℕ) → 8 * bytes_for (record_count g) ≤ j → is_dead_record g dead j ≡ false
  unfolding shows is_dead_record graph_in
  dead_inside j l = none_passes (shows g dead j) (λ x. x) 0 (header_in numbers).entries (λ e a h. none e (omega (arith, h)))
    where
      none : (e : ℕ) → e < (header_in numbers).entries → (dead e && elem j (dead_of g (last_verdicts g) (related (entry_of g e)))) ≡ false
      none e h =
          let rows = related (entry_of g e) in
          let u = dead_under g (last_verdicts g) rows (λ k q. related_here t e k h q) in
          ap (λ x. dead e && x) (under_not (record_count g) j (dead_of g (last_verdicts g) rows) u (omega (arith, l, bytes_hold (record_count g)))) ∙ and_false (dead e)
        where
          and_false : (a : Bool) → (a && false) ≡ false
          and_false true = refl
          and_false false = refl

-- bits that are those of a test where the row's first n bytes were cleared, and as they were behind them
pub dead_over : (g : Graph) (p : ℕ → Bool) (n : ℕ) (lent mid bits : List ℕ) → n ≡ bytes_for (record_count g) → mid ≡ cleared n lent → bytes_for (record_count g) ≤ length lent
    → length bits ≡ length lent → ((i : ℕ) → get_or bits i 0 < 256) → ((i : ℕ) → get_or lent i 0 < 256)
    → ((j : ℕ) → bit_at mid j ≡ false → bit_at bits j ≡ p j) → ((j : ℕ) → 8 * bytes_for (record_count g) ≤ j → bit_at bits j ≡ bit_at mid j)
    → bits ≡ bytes_of p (bytes_for (record_count g)) ++ drop (bytes_for (record_count g)) lent
dead_over g p n lent mid bits e c long same small small-lent on off = row_is p size lent long bits same small small-lent front behind
  where
    size : ℕ
    size = bytes_for (record_count g)

    mid-is : mid ≡ cleared size lent
    mid-is = c ∙ ap (λ k. cleared k lent) e

    front : (j : ℕ) → j < 8 * size → bit_at bits j ≡ p j
    front j l = on j (ap (λ (r : List ℕ). bit_at r j) mid-is ∙ cleared_unset size lent j l)

    behind : (j : ℕ) → 8 * size ≤ j → bit_at bits j ≡ bit_at lent j
    behind j l = off j l ∙ ap (λ (r : List ℕ). bit_at r j) mid-is ∙ cleared_kept size lent j l
