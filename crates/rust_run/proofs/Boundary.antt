-- T11 at the boundary: in the answer of a run that is not refused, and in its rows, a caller reads what the Rust has.
use Rattle.std.proofs.Common.{◌≡◌, ℕ, ◌+◌, ◌*◌, ◌<◌, true, false, ◌↔◌, List, length, get_or, take, drop, sym, refl, ap, ◌∙◌, subst, inl, inr, arith}
use lib.ListN.{get_or-append}
use lib.Seq.{take-append_seam}
use Rattle.bit_row.specs.Row.{bit_at, bytes_for}
use Rattle.bit_row.proofs.Size.{bytes_hold}
use Rattle.determine_side_effects.specs.graph_crate.Check.{Graph, graph_in, check_of, answer_of}
use Rattle.determine_side_effects.specs.graph_access_crate.Names.{owner, import_records}
use Rattle.determine_side_effects.specs.graph_access_crate.Words.{option, module_of, symbol_of, statement_list, tabulate}
use Rattle.determine_side_effects.specs.facts_crate.declared.Fact.{Fact}
use Rattle.determine_side_effects.specs.facts_crate.Facts.{Good}
use Rattle.determine_side_effects.specs.Effects.{last_verdicts}
use Rattle.keep_record.specs.declared.Line.{Line}
use Rattle.keep_record.specs.Lines.{has}
use Rattle.worklist.specs.Drain.{fact_at}
use Rattle.answer_rows.specs.declared.Row.TheVariants.{Modules, Statements, Used, External, Json, NamespaceReason}
use Rattle.answer_rows.specs.Shown.{bytes_before, row_bytes, shown_row}
use Rattle.answer_rows.proofs.FirstBytes.{statement_inside}
use Rattle.answer_rows.proofs.Tabulated.{length-tabulate, get_d_tabulate}
use Rattle.dynamic_entries.specs.Alive.{records_before}
use Rattle.passes.specs.Helpers.{helper_word, helper_union, runtime_starts}
use Rattle.tree_shaking.specs.Rounds.{main_part, runtime_stage, final_entries}
use Rattle.dead_records.specs.Dead.{dead_row}
use Rattle.run_rows.specs.Run.{Run, with_runtime, run_of, helpers_row, entries_row}
use Rattle.dead_records.proofs.Numbering.{record_inside}
use Rattle.run_parts.specs.declared.Totals.{Totals}
use Rattle.run_parts.specs.Operation as operation
use Rattle.run_parts.specs.Operation.{Rows, rooms_of, outcome_of, before, short, done, answered, row_after, dead_after, helpers_after, entries_after, Ends}
use Rattle.closed_choices.specs.Choice.{HasLine}
use Rattle.closed_choices.proofs.Every.{every_at}
use Rattle.closed_choices.proofs.Handling.{no_line}
use Rattle.run_choices.proofs.GoodStarts.{runtime_starts_good}
use Rattle.run_choices.proofs.Growing.{main_whole}
use Rattle.run_choices.proofs.Stages.{Whole, whole_more, whole_next}
use Rattle.run_choices.proofs.Done.{run_done}
use Rattle.rust_values.specs.Values.{pair, In}
use Rattle.rust_engine.specs.EntryPoints.{ShownBy, ReasonBy}
use Rattle.rust_run.specs.IncludeStatements.{Outcome}
use Rattle.rust_run.specs.Agreement.{Agrees}
use Rattle.rust_run.specs.Boundary.{RowsAgree, RunShowsRust}
use Rattle.rust_run.proofs.Level.{loaded}
use Rattle.rust_run.proofs.OfRuns.{rust_agrees}
use Rattle.run_choices.proofs.Sparing.{without_bit}
use Rattle.run_choices.proofs.OfDead.{dead_shown}
use Rattle.rust_run.proofs.BoundaryRows.{both_ways, turned, bit_shown, module_shown, statement-shown}
use Rattle.std.specs.Prelude.{Result, Ok, Err}
use Rattle.determine_side_effects.specs.refusal_crate.declared.Refusal.{Refusal}
use Rattle.determine_side_effects.specs.refusal_crate.declared.Refusal.TheVariants.{NoRoom}

-- The facts of the lines of both stages are good -----------------------------------------------------------------------------------------

module _ (numbers : List ℕ) (ok : answer_of (check_of numbers) ≡ Ok tt) where
  abbrev g : Graph
  g = graph_in numbers

  abbrev v : List ℕ
  v = last_verdicts (graph_in numbers)

  abbrev main : List Line
  main = (main_part g v).end.lines

  whole : Whole g (length main) (runtime_stage g v main (helper_union g (has g 0 main)))
  unfolding runtime_stage
  whole =
      let t = loaded numbers ok in
      let word = helper_union g (has g 0 main) in
      whole_more t (length main) (runtime_starts g v word) main (omega arith) (runtime_starts_good t v word) (whole_next t main (main_whole t))

  lines_good : (f : Fact) → HasLine (run_of g).lines f → Good g f
  unfolding run_of with_runtime fact_at
  lines_good f h =
      subst (λ (x : Fact). Good g x) h.is
      (every_at (λ l. Good g l.fact) (runtime_stage g v main (helper_union g (has g 0 main))) no_line whole.sound.good h.number h.inside)

-- The rows one by one --------------------------------------------------------------------------------------------------------------------

module _ (g : Graph) (r : Run) (o : Outcome) (agrees : Agrees g o r) (lent : List ℕ) where
  module_bit : (m : ℕ) → m < g.header.modules → (bit_at (shown_row g Modules r.lines lent) m ≡ true) ↔ In m o.context.modules
  unfolding row_bytes
  module_bit m h =
      let b = bit_shown g Modules r.lines lent m (omega (arith, h, bytes_hold g.header.modules)) in
      both_ways (both_ways b (turned (module_shown g (HasLine r.lines) m))) (agrees.modules_are m)

  statement_bit : ((f : Fact) → HasLine r.lines f → Good g f) → (m i : ℕ) → m < g.header.modules → i < length (statement_list g m)
      → (bit_at (shown_row g Statements r.lines lent) (8 * bytes_before g.statements m + i) ≡ true) ↔ In (pair m i) o.context.statements
  unfolding row_bytes statement_list
  statement_bit good m i h l =
      let b = bit_shown g Statements r.lines lent (8 * bytes_before g.statements m + i) (statement_inside g.statements m g.header.modules i h l) in
      both_ways (both_ways b (turned (statement-shown g (HasLine r.lines) good m i l))) (agrees.statements_are m i)

  symbol_inside : (s : ℕ) → s < g.header.symbols → s < 8 * bytes_for g.header.symbols
  symbol_inside s h = omega (arith, h, bytes_hold g.header.symbols)

  used_bit : (s : ℕ) → s < g.header.symbols → (bit_at (shown_row g Used r.lines lent) s ≡ true) ↔ In s o.context.used
  unfolding row_bytes
  used_bit s h = both_ways (bit_shown g Used r.lines lent s (symbol_inside s h)) (agrees.used_are s)

  external_bit : (s : ℕ) → s < g.header.symbols → (bit_at (shown_row g External r.lines lent) s ≡ true) ↔ In s o.context.external
  unfolding row_bytes
  external_bit s h = both_ways (bit_shown g External r.lines lent s (symbol_inside s h)) (agrees.external_are s)

  json_bit : (s : ℕ) → s < g.header.symbols → (bit_at (shown_row g Json r.main lent) s ≡ true) ↔ In (pair (owner (symbol_of g s)) s) o.main.json
  unfolding row_bytes
  json_bit s h =
      let a = agrees.json_are (owner (symbol_of g s)) s in
      both_ways (bit_shown g Json r.main lent s (symbol_inside s h)) (λ q. (a.0 q).1, λ q. a.1 (refl, q))

  unknown_bit : (m : ℕ) → m < g.header.modules → (bit_at (shown_row g NamespaceReason r.main lent) (8 * m) ≡ true) ↔ In (pair m 1) o.main.reasons
  unfolding row_bytes
  unknown_bit m h =
      let a = agrees.reasons_are m 1 in
      both_ways (bit_shown g NamespaceReason r.main lent (8 * m) (omega (arith, h))) (λ q. first (a.0 q), λ q. a.1 (inl (refl, q)))
    where
      first : ReasonBy g (HasLine r.main) m 1 → ShownBy g (HasLine r.main) NamespaceReason (8 * m)
      first (inl q) = q.1
      first (inr q) = absurd (omega (arith, q.0))

  re_export_bit : (m : ℕ) → m < g.header.modules → (bit_at (shown_row g NamespaceReason r.main lent) (8 * m + 1) ≡ true) ↔ In (pair m 2) o.main.reasons
  unfolding row_bytes
  re_export_bit m h =
      let a = agrees.reasons_are m 2 in
      both_ways (bit_shown g NamespaceReason r.main lent (8 * m + 1) (omega (arith, h))) (λ q. second (a.0 q), λ q. a.1 (inr (refl, q)))
    where
      second : ReasonBy g (HasLine r.main) m 2 → ShownBy g (HasLine r.main) NamespaceReason (8 * m + 1)
      second (inl q) = absurd (omega (arith, q.0))
      second (inr q) = q.1

  dead_bit : option g 6 ≡ false → (m k : ℕ) → m < g.header.modules → k < length (import_records (module_of g m))
      → (bit_at (dead_row g r.main r.live r.dead lent) (records_before g.modules m + k) ≡ true) ↔ In (pair m k) o.dead
  dead_bit off m k h l =
      let e = dead_shown g r.main r.live r.dead lent (records_before g.modules m + k) (record_inside g m k h l) ∙ without_bit g r.main r.live r.dead (records_before g.modules m + k) off in
      both_ways (λ q. sym e ∙ q, λ q. e ∙ q) (agrees.dead_are m k h l)

  helper_word_lem : (m : ℕ) → m < g.header.modules → get_or (helpers_row g r.main lent) m 0 ≡ o.helpers m
  unfolding helpers_row
  helper_word_lem m h =
      let n = g.header.modules in
      let f = helper_word g (has g 0 r.main) in
      let l : m < length (tabulate f 0 n) = omega (arith, h, length-tabulate f 0 n) in
      let z : 0 + m ≡ m = omega arith in
      get_or-append (tabulate f 0 n) (drop n lent) 0 m l ∙ get_d_tabulate f 0 n m 0 h ∙ ap f z ∙ sym (agrees.helpers_are m h)

  entries_front : take (length (final_entries g r.live)) (entries_row g r.live lent) ≡ o.entries
  unfolding entries_row
  entries_front = take-append_seam (final_entries g r.live) (drop (length (final_entries g r.live)) lent) ∙ sym agrees.entries_are

-- The rows of a run that is done ---------------------------------------------------------------------------------------------------------

module _ (g : Graph) (r : Run) (lent after : Rows) (totals : Totals) (ends : Ends (done g r) (Ok totals) lent after) where
  rounds_same : totals.rounds ≡ r.rounds
  unfolding answered
  rounds_same = let e = ends.answer in cc

  entries_same : totals.entries ≡ length (final_entries g r.live)
  unfolding answered
  entries_same = let e = ends.answer in cc

  rows_agree : ((f : Fact) → HasLine r.lines f → Good g f) → (o : Outcome) → Agrees g o r → RowsAgree g o totals.rounds totals.entries after
  unfolding row_after dead_after helpers_after entries_after
  rows_agree good o a =
      record {
        rounds_are = rounds_same ∙ sym a.rounds_are;
        entry_count = entries_same ∙ ap (λ (es : List ℕ). length es) (sym a.entries_are);
        entries_are = rw (entries_same, ends.entries_are) (entries_front g r o a lent.entries);
        module_bits = rw ends.modules_are (module_bit g r o a lent.modules);
        statement_bits = rw ends.statements_are (statement_bit g r o a lent.statements good);
        used_bits = rw ends.used_are (used_bit g r o a lent.used);
        external_bits = rw ends.external_are (external_bit g r o a lent.external);
        json_bits = rw ends.json_are (json_bit g r o a lent.json);
        unknown_bits = rw ends.reasons_are (unknown_bit g r o a lent.reason);
        re_export_bits = rw ends.reasons_are (re_export_bit g r o a lent.reason);
        dead_bits = rw ends.dead_are (dead_bit g r o a lent.dead);
        helper_words = rw ends.helpers_are (helper_word_lem g r o a lent.helpers);
      }

-- T11 at the boundary: a refused run answers otherwise, so this one is done, with the graph's own run
not_refused : (totals : Totals) (why : Refusal) → ◌≡◌ {A = Result Totals Refusal} (Ok totals) (Err why) → ⊥
not_refused totals why e = cc

pub run_shows_rust : RunShowsRust
unfolding answered
run_shows_rust numbers lent after totals runs a o x = go (outcome_of numbers (rooms_of lent)) refl
  where
    go : (w : operation.Outcome) → outcome_of numbers (rooms_of lent) ≡ w → RowsAgree (graph_in numbers) o totals.rounds totals.entries after
    go (before why) e = absurd (not_refused totals why (runs.answer ∙ ap answered e))
    go short e = absurd (not_refused totals NoRoom (runs.answer ∙ ap answered e))
    go (done g r) e =
        let d = run_done numbers (rooms_of lent) g r e in
        let w : done g r ≡ done (graph_in numbers) (run_of (graph_in numbers)) = ap (λ h. done h r) d.graph_is ∙ ap (λ (y : Run). done (graph_in numbers) y) d.run_is in
        rows_agree (graph_in numbers) (run_of (graph_in numbers)) lent after totals
        (subst (λ (y : operation.Outcome). Ends y (Ok totals) lent after) (e ∙ w) runs)
        (lines_good numbers d.accepted) o (rust_agrees numbers d.accepted a o x)
