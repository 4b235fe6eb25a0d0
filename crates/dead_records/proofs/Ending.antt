-- The bits of the dead records after all entries, and the row that they make.
use Prim.Native.Nat.{ℕ, suc, ◌+◌, ◌*◌, ◌<◌, ◌≤◌}
use mathlib.Core.Path.{◌≡◌, refl, ap, ◌∙◌, sym}
use mathlib.Core.Bool.{Bool, true, false, not, ◌||◌, ◌&&◌}
use mathlib.Core.List.{List, [], ◌∷◌}
use native.Mathlib.Omega.{arith}
use borrow.Author.Tests.{ne_eqb}
use lib.Dec.{eqb}
use lib.ListN.{length, get_or}
use Rattle.bit_row.specs.Row.{bit_at, bytes_for, cleared}
use Rattle.bit_row.proofs.Size.{bytes_hold}
use Rattle.determine_side_effects.specs.graph_format_crate.declared.Header.{Header}
use Rattle.determine_side_effects.specs.graph_tables_crate.Tables.{header_in}
use Rattle.determine_side_effects.specs.graph_crate.Check.{Graph, graph_in}
use Rattle.determine_side_effects.specs.graph_crate.Loaded.{Loaded}
use Rattle.determine_side_effects.specs.graph_access_crate.Names.{related, related_module, related_statement, related_import_record, unreachable}
use Rattle.determine_side_effects.specs.graph_access_crate.Words.{some, flag, option, entry_of, statement_list}
use Rattle.determine_side_effects.specs.graph_access_crate.Related.{RelatedHere}
use Rattle.determine_side_effects.proofs.graph_access_crate.Indexes.{related_here}
use Rattle.determine_side_effects.specs.facts_crate.declared.Fact.{Fact}
use Rattle.determine_side_effects.specs.facts_crate.Facts.{statement_fact}
use Rattle.keep_record.specs.declared.Line.{Line}
use Rattle.keep_record.specs.Lines.{has}
use Rattle.answer_rows.proofs.Tabulated.{none_passes}
use Rattle.entry_order.specs.Order.{module_of_entry, is_dynamic}
use Rattle.dynamic_entries.specs.Alive.{records_before}
use Rattle.dead_records.specs.Dead.{record_count, is_dead_record, dead_now, record_number, exempts, exempted_by, exempted, dead_at_end, dead_record, dead_row}
use Rattle.dead_records.specs.Parts.{kept_before}
use Rattle.dead_records.proofs.Numbering.{record_inside}
use Rattle.dead_records.proofs.DeadBits.{dead_inside, dead_over}
use Rattle.dead_records.proofs.Agreeing.{dead_same, exempted_same}

and_false : (a : Bool) → (a && false) ≡ false
and_false true = refl
and_false false = refl

or_unset : (a b : Bool) → b ≡ false → (a || b) ≡ a
or_unset true b q = refl
or_unset false b q = q

turned : (a b : Bool) → (not a && b) ≡ (b && not a)
turned true true = refl
turned true false = refl
turned false true = refl
turned false false = refl

none_of : {A : Type 0} (test : A → Bool) (d : A) (xs : List A) → ((k : ℕ) → k < length xs → test (get_or xs k d) ≡ false) → some test xs ≡ false
unfolding some
none_of test d [] none = refl
none_of test d (x ∷ xs) none = let here = none 0 (omega arith) in rw (here, some) (none_of test d xs (λ k l. none (suc k) (omega arith)))

-- the option that the code reads is the graph's
pub option_is : (numbers : List ℕ) (h : Header) (b after : Bool) → h ≡ header_in numbers → b ≡ flag 6 h.options → b ≡ after → option (graph_in numbers) 6 ≡ after
unfolding option graph_in
option_is numbers h b after e f is = sym (ap (λ (x : Header). flag 6 x.options) e) ∙ sym f ∙ is

module _ {numbers tables : List ℕ} (t : Loaded numbers tables) where
  abbrev g : Graph
  g = graph_in numbers

  -- no related statement exempts a bit behind the records
  module _ (kept : Fact → Bool) (live : ℕ → Bool) where
    exempts-inside : (j : ℕ) (row : List ℕ) → record_count g ≤ j → RelatedHere g row → exempts g kept j row ≡ false
    unfolding exempts record_number
    exempts-inside j row l h =
        let i = record_inside g (related_module row) (related_import_record row) h.inside h.import_record_inside in
        let n = ne_eqb j (records_before g.modules (related_module row) + related_import_record row) (λ e. omega (arith, e, i, l)) in
        let k = kept (statement_fact (related_module row) (related_statement row)) in
        ap (λ b. eqb (unreachable row) 0 && (k && b)) n ∙ ap (λ b. eqb (unreachable row) 0 && b) (and_false k) ∙ and_false (eqb (unreachable row) 0)

    exempted-inside : (j : ℕ) → 8 * bytes_for (record_count g) ≤ j → exempted g kept live j ≡ false
    unfolding exempted exempted_by graph_in
    exempted-inside j l = none_passes (exempted_by g kept live j) (λ x. x) 0 (header_in numbers).entries (λ e a h. none e (omega (arith, h)))
      where
        behind : record_count g ≤ j
        behind = omega (arith, l, bytes_hold (record_count g))

        none : (e : ℕ) → e < (header_in numbers).entries → (is_dynamic g e && (live (module_of_entry g e) && some (exempts g kept j) (related (entry_of g e)))) ≡ false
        none e h =
            let n = none_of (exempts g kept j) [] (related (entry_of g e)) (λ k q. exempts-inside j (get_or (related (entry_of g e)) k []) behind (related_here t e k h q)) in
            ap (λ b. is_dynamic g e && (live (module_of_entry g e) && b)) n ∙ ap (λ b. is_dynamic g e && b) (and_false (live (module_of_entry g e))) ∙ and_false (is_dynamic g e)

    -- the bits after the entries that a try would now find dead and those of live modules, by marks and words that say what is kept
    pub end-bits : (marks scratch before marked bits : List ℕ)
        → ((m i : ℕ) → m < g.header.modules → i < length (statement_list g m) → kept_before g marks scratch (statement_fact m i) ≡ kept (statement_fact m i))
        → ((j : ℕ) → bit_at marked j ≡ (is_dead_record g (dead_now g (kept_before g marks scratch) live) j || bit_at before j))
        → ((j : ℕ) → bit_at bits j ≡ (not (exempted g (kept_before g marks scratch) live j) && bit_at marked j))
        → (j : ℕ) → bit_at bits j ≡ (not (exempted g kept live j) && (is_dead_record g (dead_now g kept live) j || bit_at before j))
    end-bits marks scratch before marked bits same to from j =
        from j ∙ ap (λ b. not b && bit_at marked j) (exempted_same t (kept_before g marks scratch) kept live same j)
        ∙ ap (λ b. not (exempted g kept live j) && b) (to j ∙ ap (λ b. b || bit_at before j) (dead_same t (kept_before g marks scratch) kept live same j))

  -- the row that the bits make, by the option
  module _ (main : List Line) (live dead : ℕ → Bool) (n : ℕ) (lent mid bits : List ℕ) (e : n ≡ bytes_for (record_count g)) (c : mid ≡ cleared n lent)
      (long : bytes_for (record_count g) ≤ length lent) (same : length bits ≡ length lent) (small : (i : ℕ) → get_or bits i 0 < 256) (small-lent : (i : ℕ) → get_or lent i 0 < 256) where
    pub found-row : option g 6 ≡ false → ((j : ℕ) → bit_at bits j ≡ (is_dead_record g dead j || bit_at mid j)) → bits ≡ dead_row g main live dead lent
    unfolding dead_row dead_record
    found-row o is =
        dead_over g (dead_record g main live dead) n lent mid bits e c long same small small-lent
        (λ j q. rw (o, dead_record) (is j ∙ or_unset (is_dead_record g dead j) (bit_at mid j) q))
        (λ j l. is j ∙ ap (λ b. b || bit_at mid j) (dead_inside t dead j l))

    pub end_row : option g 6 ≡ true
        → ((j : ℕ) → bit_at bits j ≡ (not (exempted g (has g 0 main) live j) && (is_dead_record g (dead_now g (has g 0 main) live) j || bit_at mid j))) → bits ≡ dead_row g main live dead lent
    unfolding dead_row dead_record dead_at_end
    end_row o is =
        let kept = has g 0 main in
        let then = dead_now g kept live in
        dead_over g (dead_record g main live dead) n lent mid bits e c long same small small-lent
        (λ j q.
        rw (o, dead_record) (is j ∙ ap (λ b. not (exempted g kept live j) && b) (or_unset (is_dead_record g then j) (bit_at mid j) q) ∙ turned (exempted g kept live j) (is_dead_record g then j)))
        (λ j l. is j ∙ ap (λ b. not b && (is_dead_record g then j || bit_at mid j)) (exempted-inside kept live j l) ∙ ap (λ b. b || bit_at mid j) (dead_inside t then j l))
