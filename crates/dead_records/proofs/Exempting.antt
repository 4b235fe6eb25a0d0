-- Kept statements by their words, and the bits that are cleared for them.
use Prim.Native.Nat.{ℕ, ◌+◌, ◌*◌, ◌-◌, ◌<◌, ◌≤◌}
use mathlib.Core.Path.{◌≡◌, refl, ap, ◌∙◌, sym}
use mathlib.Core.Bool.{Bool, true, false, not, ◌||◌, ◌&&◌}
use mathlib.Core.List.{List, [], ◌∷◌}
use native.Mathlib.Numerals.{add-one}
use native.Mathlib.Omega.{arith}
use borrow.Author.Tests.{eq-eqb, ne_eqb}
use lib.Dec.{eqb}
use lib.ListN.{length, get_or, drop, drop_of_length-le}
use lib.Seq.{drop-cons}
use Rattle.bit_row.specs.Row.{bit_at}
use Rattle.determine_side_effects.specs.graph_tables_crate.Tables.{header_in}
use Rattle.determine_side_effects.specs.graph_crate.Check.{Graph, graph_in}
use Rattle.determine_side_effects.specs.graph_crate.Loaded.{Loaded}
use Rattle.determine_side_effects.specs.graph_access_crate.Names.{related_module, related_statement, related_import_record, unreachable}
use Rattle.determine_side_effects.specs.graph_access_crate.Words.{some, statement_list}
use Rattle.determine_side_effects.specs.graph_access_crate.declared.entries.RelatedStmt.{RelatedStmt}
use Rattle.determine_side_effects.specs.graph_access_crate.Related.{RelatedIs}
use Rattle.determine_side_effects.proofs.graph_access_crate.Indexes.{statement_number_below}
use Rattle.determine_side_effects.specs.facts_crate.declared.Fact.{Fact}
use Rattle.determine_side_effects.specs.facts_crate.Facts.{mark_of, statement_fact}
use Rattle.dynamic_entries.specs.Alive.{records_before}
use Rattle.marked.specs.Marked.{marked}
use Rattle.dead_records.specs.Parts.{is_late, kept_before}
use Rattle.dead_records.proofs.Numbering.{record_inside}
use Rattle.dead_records.specs.Dead.{record_count, record_number, exempts}

-- the marks of statements stand behind two for each module
module _ {numbers tables : List ℕ} (t : Loaded numbers tables) (m i : ℕ) (a : m < (header_in numbers).modules) (b : i < length (statement_list (graph_in numbers) m)) where
  pub statement_place : (2 * (header_in numbers).modules ≤ mark_of (graph_in numbers) (statement_fact m i)) × (mark_of (graph_in numbers) (statement_fact m i) < 2 * (header_in numbers).modules + (header_in numbers).statements)
  unfolding mark_of graph_in
  statement_place = (omega arith, omega (arith, statement_number_below t m i a b))

-- whether a statement was kept before the runtime stage, by its mark and its word
module _ (g : Graph) (marks scratch : List ℕ) (f : Fact) (at : ℕ) where
  pub unmarked_not_kept : at ≡ mark_of g f → bit_at marks at ≡ false → false ≡ kept_before g marks scratch f
  unfolding kept_before marked
  unmarked_not_kept e n = let u : bit_at marks (mark_of g f) ≡ false = ap (λ j. bit_at marks j) (sym e) ∙ n in rw u

  pub kept_by_word : (first : ℕ) → at ≡ mark_of g f → bit_at marks at ≡ true → first ≡ g.header.modules → not (eqb (get_or scratch (at - first) 0) 1) ≡ kept_before g marks scratch f
  unfolding kept_before marked is_late
  kept_by_word first e y z =
      let u : bit_at marks (mark_of g f) ≡ true = ap (λ j. bit_at marks j) (sym e) ∙ y in
      let w : get_or scratch (at - first) 0 ≡ get_or scratch (mark_of g f - g.header.modules) 0 = (λ i. get_or scratch (e i - z i) 0) in
      rw u (ap (λ n. not (eqb n 1)) w)

some_first : {A : Type 0} (test : A → Bool) (x : A) (xs : List A) → some test (x ∷ xs) ≡ (test x || some test xs)
unfolding some
some_first test x xs = go (test x) refl
  where
    go : (b : Bool) → test x ≡ b → some test (x ∷ xs) ≡ (b || some test xs)
    go true e = rw (e, some)
    go false e = rw (e, some)

pub take_turns : (rest e b : Bool) → (not rest && (not e && b)) ≡ (not (e || rest) && b)
take_turns true true b = refl
take_turns true false b = refl
take_turns false true b = refl
take_turns false false b = refl

and_false : (a : Bool) → (a && false) ≡ false
and_false true = refl
and_false false = refl

-- In the loop over an entry's related statements: the bits that are cleared and those that are left to clear.
pub record Exempting (g : Graph) (kept : Fact → Bool) (rows : List (List ℕ)) (before bits : List ℕ) (k : ℕ) : Type 0 where
  pub same_length : length bits ≡ length before
  pub inside : k ≤ length rows
  pub on : (j : ℕ) → (not (some (exempts g kept j) (drop k rows)) && bit_at bits j) ≡ (not (some (exempts g kept j) rows) && bit_at before j)

module _ (g : Graph) (kept : Fact → Bool) (rows : List (List ℕ)) (before : List ℕ) where
  pub exempting_none : Exempting g kept rows before before 0
  exempting_none = record { same_length = refl; inside = omega arith; on = λ j. refl }

  pub exempting_done : (bits : List ℕ) (k : ℕ) → Exempting g kept rows before bits k → length rows ≤ k → (j : ℕ) → bit_at bits j ≡ (not (some (exempts g kept j) rows) && bit_at before j)
  unfolding some
  exempting_done bits k m l j = sym (ap (λ (xs : List (List ℕ)). not (some (exempts g kept j) xs) && bit_at bits j) (drop_of_length-le rows l)) ∙ m.on j

  module _ (bits : List ℕ) (k : ℕ) (m : Exempting g kept rows before bits k) (l : k < length rows) (r : RelatedStmt) (is : RelatedIs g (get_or rows k []) r) where
    next : drop k rows ≡ get_or rows k [] ∷ drop (k + 1) rows
    next = drop-cons rows k [] l ∙ ap (λ i. get_or rows k [] ∷ drop i rows) (sym (add-one k))

    first_of : (j : ℕ) → some (exempts g kept j) (drop k rows) ≡ (exempts g kept j (get_or rows k []) || some (exempts g kept j) (drop (k + 1) rows))
    first_of j = ap (λ (xs : List (List ℕ)). some (exempts g kept j) xs) next ∙ some_first (exempts g kept j) (get_or rows k []) (drop (k + 1) rows)

    -- where its bit stands
    pub bit-inside : (first width : ℕ) → first ≡ records_before g.modules r.module.0 → record_count g ≤ width → first + r.import_record.0 < width
    bit-inside first width e w =
        let h = record_inside g (related_module (get_or rows k [])) (related_import_record (get_or rows k [])) is.here.inside is.here.import_record_inside in
        omega (arith, h, e ∙ ap (records_before g.modules) is.module_is, is.import_record_is, w)

    -- it clears nothing
    exempting-passed : (after : List ℕ) → ((j : ℕ) → exempts g kept j (get_or rows k []) ≡ false) → after ≡ bits → Exempting g kept rows before after (k + 1)
    exempting-passed after n now =
        record {
          same_length = ap length now ∙ m.same_length;
          inside = omega (arith, l);
          on = λ j.
              let rest = some (exempts g kept j) (drop (k + 1) rows) in
              ap (λ (x : List ℕ). not rest && bit_at x j) now ∙ ap (λ x. not (x || rest) && bit_at bits j) (sym (n j)) ∙ ap (λ x. not x && bit_at bits j) (sym (first_of j)) ∙ m.on j;
        }

    pub exempting-unreachable : (after : List ℕ) → (r.unreachable ≡ 0 → ⊥) → after ≡ bits → Exempting g kept rows before after (k + 1)
    unfolding exempts
    exempting-unreachable after u now = exempting-passed after (λ j. none j) now
      where
        none : (j : ℕ) → exempts g kept j (get_or rows k []) ≡ false
        none j = rw (ne_eqb (unreachable (get_or rows k [])) 0 (λ q. u (is.unreachable_is ∙ q)))

    module _ (b : Bool) (q : b ≡ kept (statement_fact r.module.0 r.statement.0)) where
      kept-is : kept (statement_fact (related_module (get_or rows k [])) (related_statement (get_or rows k []))) ≡ b
      kept-is = rw (← is.module_is, ← is.statement_is) (sym q)

      -- its bit is cleared
      pub exempting-set : (first : ℕ) (set after : List ℕ) → r.unreachable ≡ 0 → b ≡ true
          → first ≡ records_before g.modules r.module.0 → length set ≡ length bits → ((j : ℕ) → bit_at set j ≡ (not (eqb j (first + r.import_record.0)) && bit_at bits j)) → after ≡ set
          → Exempting g kept rows before after (k + 1)
      unfolding exempts record_number
      exempting-set first set after u y f same to now =
          record {
            same_length = ap length now ∙ same ∙ m.same_length;
            inside = omega (arith, l);
            on = λ j.
                let rest = some (exempts g kept j) (drop (k + 1) rows) in
                ap (λ (x : List ℕ). not rest && bit_at x j) now ∙ ap (λ x. not rest && x) (to j) ∙ take_turns rest (eqb j (first + r.import_record.0)) (bit_at bits j)
                ∙ ap (λ x. not (x || rest) && bit_at bits j) (sym (its j)) ∙ ap (λ x. not x && bit_at bits j) (sym (first_of j)) ∙ m.on j;
          }
        where
          at : first + r.import_record.0 ≡ record_number g (get_or rows k [])
          at = omega (arith, f ∙ ap (records_before g.modules) is.module_is, is.import_record_is)

          its : (j : ℕ) → exempts g kept j (get_or rows k []) ≡ eqb j (first + r.import_record.0)
          its j = rw (eq-eqb (unreachable (get_or rows k [])) 0 (sym is.unreachable_is ∙ u), kept-is ∙ y) (ap (λ n. eqb j n) (sym at))

      pub exempting-unkept : (after : List ℕ) → b ≡ false → after ≡ bits → Exempting g kept rows before after (k + 1)
      unfolding exempts
      exempting-unkept after n now = exempting-passed after (λ j. none j) now
        where
          none : (j : ℕ) → exempts g kept j (get_or rows k []) ≡ false
          none j = rw (kept-is ∙ n) (and_false (eqb (unreachable (get_or rows k [])) 0))
