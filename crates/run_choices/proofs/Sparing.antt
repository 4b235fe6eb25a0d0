-- What a run's rows leave 0: the facts of its lines are good, so they show no spare bit, and a record that is found dead is one of the graph's.
use Prim.Native.Nat.{ℕ, ◌+◌, ◌*◌, ◌/◌, ◌%◌, ◌<◌, ◌≤◌}
use mathlib.Core.Path.{◌≡◌, refl, ap, ◌∙◌, sym, subst}
use mathlib.Core.Bool.{Bool, true, false, not, ◌&&◌, false≢true, not-eq-not}
use mathlib.Core.Logic.{◌⊎◌, inl, inr}
use mathlib.Core.List.{List, [], ◌∷◌, ◌++◌}
use native.Mathlib.Omega.{arith}
use native.Mathlib.Nat.{le_refl}
use native.Mathlib.Decide.{dec_lt}
use borrow.Author.Tests.{eqb-true}
use lib.Dec.{eqb}
use lib.ListN.{length, get_or, drop, get_or-append}
use Rattle.bit_row.specs.Row.{bit_at, bit_of, bytes_for}
use Rattle.determine_side_effects.specs.graph_tables_crate.Tables.{header_in}
use Rattle.determine_side_effects.specs.graph_crate.Check.{Graph, graph_in, check_of, answer_of}
use Rattle.determine_side_effects.specs.graph_crate.Loaded.{Loaded}
use Rattle.determine_side_effects.specs.graph_access_crate.Names.{related, related_module, related_import_record, unreachable}
use Rattle.determine_side_effects.specs.graph_access_crate.Words.{entry_of, option, tabulate}
use Rattle.determine_side_effects.proofs.graph_access_crate.Indexes.{related_here}
use Rattle.determine_side_effects.specs.facts_crate.declared.Fact.{Fact}
use Rattle.determine_side_effects.specs.facts_crate.Facts.{Good, mark_of, mark_count}
use Rattle.determine_side_effects.proofs.facts_crate.Marks.{mark_below}
use Rattle.determine_side_effects.specs.Effects.{last_verdicts}
use Rattle.determine_side_effects.proofs.Lists.{both, either, some_found}
use Rattle.linking_metadata.specs.Namespaces.{target_of}
use Rattle.keep_record.specs.declared.Line.{Line}
use Rattle.keep_record.specs.Lines.{elem, has, marks_of, marks_from}
use Rattle.worklist.specs.Drain.{line, fact_at}
use Rattle.answer_rows.specs.declared.Row.{Row}
use Rattle.answer_rows.specs.declared.Row.TheVariants.{Modules, Statements, Used, External, Json, NamespaceReason}
use Rattle.answer_rows.specs.Shown.{row_bytes, shown_row, bytes_of}
use Rattle.answer_rows.proofs.InRow.{target_below}
use Rattle.answer_rows.proofs.Tabulated.{length-tabulate, get_d_tabulate}
use Rattle.dynamic_entries.specs.Alive.{is_pure, records_before, dead_of}
use Rattle.passes.specs.Helpers.{helper_union, runtime_starts}
use Rattle.tree_shaking.specs.Rounds.{main_part, runtime_stage}
use Rattle.dead_records.specs.Dead.{record_count, is_dead_record, dead_now, exempted, dead_at_end, dead_record, dead_row}
use Rattle.run_rows.specs.Run.{Run, with_runtime, run_of}
use Rattle.dead_records.proofs.Numbering.{record_inside}
use Rattle.run_parts.specs.Operation.{done, lines_for, row_after, dead_after, marks_after}
use Rattle.closed_choices.specs.Choice.{HasLine}
use Rattle.closed_choices.specs.Operation.{Spare}
use Rattle.closed_choices.proofs.Accepting.{Tabled, accepted_tabled}
use Rattle.closed_choices.proofs.Every.{Every, every_at, every_by}
use Rattle.closed_choices.proofs.Showing.{bytes_long, bit_of_bytes, bit_behind, rows_show}
use Rattle.closed_choices.proofs.Smallest.{marked_line}
use Rattle.closed_choices.proofs.Spare.{spare_unshown}
use Rattle.run_choices.specs.Operation.{RunSpares}
use Rattle.run_choices.proofs.GoodStarts.{runtime_starts_good}
use Rattle.run_choices.proofs.Stages.{not_among, whole_more, whole_next}
use Rattle.run_choices.proofs.Growing.{main_whole}
use Rattle.std.specs.Prelude.{Ok}

-- the bits of bytes that stand in front of others
pub bit_before : (xs rest : List ℕ) (j : ℕ) → j < 8 * length xs → bit_at (xs ++ rest) j ≡ bit_at xs j
unfolding bit_at
bit_before xs rest j l =
    let h : j / 8 < length xs = omega arith in
    ap (λ x. eqb (bit_of (j % 8) x) 1) (get_or-append xs rest 0 (j / 8) h)

pub bit_in_front : (p : ℕ → Bool) (n : ℕ) (rest : List ℕ) (j : ℕ) → j < 8 * n → bit_at (bytes_of p n ++ rest) j ≡ p j
bit_in_front p n rest j l = bit_before (bytes_of p n) rest j (omega (arith, l, bytes_long p n)) ∙ bit_of_bytes p n j l

-- option 6, by cases
module _ (g : Graph) (main : List Line) (live dead : ℕ → Bool) (j : ℕ) where
  pub with_bit : option g 6 ≡ true → dead_record g main live dead j ≡ dead_at_end g (has g 0 main) live j
  unfolding dead_record
  with_bit o = rw (o, dead_record)

  pub without_bit : option g 6 ≡ false → dead_record g main live dead j ≡ is_dead_record g dead j
  unfolding dead_record
  without_bit o = rw (o, dead_record)

-- what a dead try marks are records of the graph
module _ (g : Graph) (v : List ℕ) where
  pub dead_inside : (rows : List (List ℕ)) → Every (λ row. records_before g.modules (related_module row) + related_import_record row < record_count g) rows
      → (j : ℕ) → elem j (dead_of g v rows) ≡ true → j < record_count g
  unfolding dead_of elem
  dead_inside [] a j e = absurd (false≢true e)
  dead_inside (row ∷ rows) a j e = go (eqb (unreachable row) 0 && is_pure g v row) refl (λ q. dead_inside rows a.1 j q)
    where
      at : ℕ
      at = records_before g.modules (related_module row) + related_import_record row

      first : (eqb j at ≡ true) ⊎ (elem j (dead_of g v rows) ≡ true) → (elem j (dead_of g v rows) ≡ true → j < record_count g) → j < record_count g
      first (inl q) more = omega (arith, eqb-true j at q, a.0)
      first (inr q) more = more q

      go : (b : Bool) → (eqb (unreachable row) 0 && is_pure g v row) ≡ b → (elem j (dead_of g v rows) ≡ true → j < record_count g) → j < record_count g
      go true q more = first (either (eqb j at) (elem j (dead_of g v rows)) (rw (q, dead_of) at e)) more
      go false q more = more (rw (q, dead_of) at e)

module _ {numbers tables : List ℕ} (t : Loaded numbers tables) where
  abbrev g : Graph
  g = graph_in numbers

  abbrev v : List ℕ
  v = last_verdicts (graph_in numbers)

  entries_of : g.header.entries ≡ (header_in numbers).entries
  unfolding graph_in
  entries_of = refl

  no_spare_dead : (dead : ℕ → Bool) (j : ℕ) → record_count g ≤ j → is_dead_record g dead j ≡ false
  unfolding is_dead_record
  no_spare_dead dead j l = (not-eq-not {b = false}).0 (λ e. go (some_found test 0 entries e))
    where
      entries : List ℕ
      entries = tabulate (λ e. e) 0 g.header.entries

      test : ℕ → Bool
      test e = dead e && elem j (dead_of g v (related (entry_of g e)))

      inside : (e : ℕ) → e < (header_in numbers).entries → (k : ℕ) → k < length (related (entry_of g e))
          → records_before g.modules (related_module (get_or (related (entry_of g e)) k [])) + related_import_record (get_or (related (entry_of g e)) k []) < record_count g
      inside e h k u = let r = related_here t e k h u in record_inside g _ _ r.inside r.import_record_inside

      go : (k : ℕ) × (k < length entries) × (test (get_or entries k 0) ≡ true) → ⊥
      go p =
          let n = length-tabulate (λ (e : ℕ). e) 0 g.header.entries in
          let h : p.0 < (header_in numbers).entries = omega (arith, p.1, n, entries_of) in
          let z : get_or entries p.0 0 ≡ p.0 = omega (arith, get_d_tabulate (λ (e : ℕ). e) 0 g.header.entries p.0 0 (omega (arith, p.1, n))) in
          let q = both (dead p.0) (elem j (dead_of g v (related (entry_of g p.0)))) (subst (λ e. test e ≡ true) z p.2) in
          omega (arith, l, dead_inside g v (related (entry_of g p.0)) (every_by (λ row. records_before g.modules (related_module row) + related_import_record row < record_count g) (related (entry_of g p.0)) [] (inside p.0 h)) j q.1)

  no_spare_record : (main : List Line) (live dead : ℕ → Bool) (j : ℕ) → record_count g ≤ j → dead_record g main live dead j ≡ false
  unfolding dead_at_end
  no_spare_record main live dead j l = go (option g 6) refl
    where
      go : (b : Bool) → option g 6 ≡ b → dead_record g main live dead j ≡ false
      go true o = with_bit g main live dead j o ∙ ap (λ b. b && not (exempted g (has g 0 main) live j)) (no_spare_dead (dead_now g (has g 0 main) live) j l)
      go false o = without_bit g main live dead j o ∙ no_spare_dead dead j l

  targets : (s : ℕ) → s < g.header.symbols → target_of g s < g.header.symbols
  unfolding graph_in
  targets s h = target_below t s h

  -- lines of good facts
  module _ (lines : List Line) (good : Every (λ l. Good g l.fact) lines) where
    line_good : (f : Fact) → HasLine lines f → Good g f
    unfolding fact_at
    line_good f h = subst (λ x. Good g x) h.is (every_at (λ l. Good g l.fact) lines _ good h.number h.inside)

    spare_zero : (row : Row) (lent : List ℕ) (j : ℕ) → j < 8 * row_bytes g row → Spare g row j → bit_at (shown_row g row lines lent) j ≡ false
    spare_zero row lent j l s =
        (not-eq-not {b = false}).0
        (λ e. let p = (rows_show g row lines lent).set-by j l e in spare_unshown g targets row p.0 j (line_good p.0 p.1) s p.2)

    unmarked : (n j : ℕ) → mark_count g ≤ j → elem j (marks_from g n lines) ≡ false
    unmarked n j l =
        not_among g n lines j
        ((not-eq-not {b = false}).0
        (λ e. let p = marked_line g lines j e in
        omega (arith, l, p.2, mark_below t (fact_at lines p.0) (line_good (fact_at lines p.0) (record { number = p.0; inside = p.1; is = refl })))))

    marks_end : (n : ℕ) (lent : List ℕ) (j : ℕ) → mark_count g ≤ j → bit_at (bytes_of (λ k. elem k (marks_from g n lines)) (length lent)) j ≡ false
    marks_end n lent j l = go (dec_lt j (8 * length lent))
      where
        marked : ℕ → Bool
        marked k = elem k (marks_from g n lines)

        go : Dec (j < 8 * length lent) → bit_at (bytes_of marked (length lent)) j ≡ false
        go (yes u) = bit_of_bytes marked (length lent) j u ∙ unmarked n j l
        go (no u) = bit_behind (bytes_of marked (length lent)) j (omega (arith, bytes_long marked (length lent)))

-- the run of accepted numbers
module _ (numbers : List ℕ) (accepted : answer_of (check_of numbers) ≡ Ok tt) where
  abbrev G : Graph
  G = graph_in numbers

  abbrev main : List Line
  main = (main_part G (last_verdicts G)).end.lines

  tables : Tabled numbers
  tables = accepted_tabled numbers accepted

  main_good : Every (λ l. Good G l.fact) main
  main_good = (main_whole tables.holds).sound.good

  all_good : Every (λ l. Good G l.fact) (run_of G).lines
  unfolding run_of with_runtime runtime_stage
  all_good =
      let t = tables.holds in
      let word = helper_union G (has G 0 main) in
      (whole_more t (length main) (runtime_starts G (last_verdicts G) word) main (le_refl (length main)) (runtime_starts_good t (last_verdicts G) word) (whole_next t main (main_whole t))).sound.good

  rows_good : (row : Row) → Every (λ l. Good G l.fact) (lines_for row (run_of G))
  unfolding run_of with_runtime
  rows_good Modules = all_good
  rows_good Statements = all_good
  rows_good Used = all_good
  rows_good External = all_good
  rows_good Json = main_good
  rows_good NamespaceReason = main_good

  pub spares : RunSpares G (run_of G)
  unfolding row_after dead_after dead_row marks_after
  spares =
      record {
        spare_bits = λ row lent j l s. spare_zero tables.holds (lines_for row (run_of G)) (rows_good row) row lent j l s;
        spare_dead = λ lent j l u. bit_in_front (dead_record G (run_of G).main (run_of G).live (run_of G).dead) (bytes_for (record_count G)) _ j u ∙ no_spare_record tables.holds (run_of G).main (run_of G).live (run_of G).dead j l;
        spare_marks = λ lent j l. marks_end tables.holds (run_of G).lines all_good (length (run_of G).main) lent j l;
      }
