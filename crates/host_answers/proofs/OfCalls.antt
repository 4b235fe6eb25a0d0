-- What a caller knows of a call at the C boundary whose answer has the number 0.
use Prim.Native.Nat.{ℕ, ◌*◌, ◌≤◌}
use mathlib.Core.Path.{◌≡◌, refl, ap, ◌∙◌, sym, subst}
use mathlib.Core.Bool.{Bool, true, false}
use mathlib.Core.List.{List, ◌++◌}
use native.Mathlib.Omega.{arith}
use borrow.Author.Tests.{ltb-true, ltb-false}
use lib.Dec.{ltb}
use lib.ListN.{length, get_or, take, drop, take-append-drop, length-append, get_or-append}
use lib.Seq.{take_at, drop_at, drop-append_seam}
use Rattle.leb128.specs.Read.{all, answer_of as answer_of_read, read_of, lent_of}
use Rattle.determine_side_effects.specs.rows_crate.Walk.{Parsed, got, fault}
use Rattle.bit_row.specs.Row.{bytes_for}
use Rattle.determine_side_effects.specs.graph_crate.Check.{Graph, graph_in, check_of, answer_of}
use Rattle.determine_side_effects.specs.graph_access_crate.Words.{tabulate}
use Rattle.determine_side_effects.specs.Effects.{last_verdicts}
use Rattle.determine_side_effects.specs.Operation.{effects_answer, effects_row}
use Rattle.determine_side_effects.proofs.Loading.{last-length, short_answer, long_row}
use Rattle.keep_record.specs.declared.Line.{Line}
use Rattle.keep_record.specs.Lines.{written, has}
use Rattle.keep_record.specs.Held.{lines_of}
use Rattle.keep_record.proofs.Rows.{tabulate-length, written-length, lines_same}
use Rattle.starts.specs.Starts.{starts_of}
use Rattle.answer_rows.specs.declared.Row.{Row}
use Rattle.answer_rows.specs.Shown.{bytes_of}
use Rattle.drain_parts.specs.Operation as drain
use Rattle.passes.specs.Helpers.{helper_word}
use Rattle.tree_shaking.specs.Rounds.{final_entries}
use Rattle.dead_records.specs.Dead.{record_count, dead_record, dead_row}
use Rattle.run_rows.specs.Run.{run_of, helpers_row, entries_row}
use Rattle.run_parts.specs.Operation as run
use Rattle.judge_parts.specs.Operation.{judge_of}
use Rattle.run_starts.specs.Operation as starts
use Rattle.closed_choices.specs.Choice.{HasLine}
use Rattle.closed_choices.specs.Operation.{DrainShows}
use Rattle.closed_choices.proofs.Showing.{bytes_long, rows_show}
use Rattle.closed_choices.proofs.OfOperation.{drain_shows}
use Rattle.run_choices.proofs.OfDead.{every_dead_at_end}
use Rattle.run_choices.proofs.OfRuns.{run_spares}
use Rattle.settled_runs.specs.Choice.{SmallestSettled}
use Rattle.settled_runs.proofs.OfRuns.{every_settles}
use Rattle.rust_effects.proofs.SameVerdicts.{rust_effects}
use Rattle.rust_run.proofs.Boundary.{run_shows_rust}
use Rattle.rust_returns.proofs.OnCircles.{returns_and_agrees}
use Rattle.own_starts.specs.Once.{triples}
use Rattle.judged_records.specs.Choice.{SmallestByRules}
use Rattle.judged_records.proofs.DrainRows.{written_many, lines_back}
use Rattle.judged_records.proofs.RunTriples.{triples-length}
use Rattle.judged_records.proofs.OfRuns.{main_begins, run_row}
use Rattle.judged_records.proofs.OfOperations.{judge_exactly, drain_smallest, drain_passes, run_passes}
use Rattle.judged_starts.proofs.OfStarts.{starts_given}
use Rattle.answers.specs.declared.DrainAnswer.{DrainAnswer}
use Rattle.answers.specs.declared.ReadAnswer.{ReadAnswer}
use Rattle.answers.specs.declared.Refusal.{Refusal}
use Rattle.determine_side_effects.specs.refusal_crate.declared.Refusal.{Refusal as Why}
use Rattle.determine_side_effects.specs.refusal_crate.declared.Refusal.TheVariants.{NoRoom}
use Rattle.answers.specs.declared.RunAnswer.{RunAnswer}
use Rattle.answers.specs.Answers.{read_answer_of, judge_answer_of}
use Rattle.host_answers.specs.Answered.{row_of_run, row_of_drain, DrainAnswers, EveryRead, EveryCheck, EveryEffects, EveryRun, EveryRunReturns, EveryRunDeadAtEnd, EveryRunSettles, EveryRunSpare, EveryJudge, EveryDrainJudged, EveryRunJudged, EveryStartsJudged, EveryDrain}
use Rattle.host_answers.proofs.GraphFaults.{check_faults}
use Rattle.host_answers.proofs.Refusals.{reads_of, effects_in, judges_of}
use Rattle.host_answers.proofs.NotRefused.{read_whole, accepted_exactly, effects_passed, passed_exactly}
use Rattle.host_answers.proofs.OfRuns.{totals_in, drain_kept, RunKept, run_kept, starts_kept}
use Rattle.host_answers.proofs.ByRow.{row_of_run_lem, row_of_drain_lem}
use Rattle.std.specs.Prelude.{Result, Ok, Err}

-- A file and a graph ---------------------------------------------------------------------------------------------------------------------

count_is : (a : ReadAnswer) (xs : List ℕ) → a ≡ read_answer_of (answer_of_read (all xs)) → length xs ≡ a.count
unfolding read_answer_of answer_of_read
count_is a xs e = sym (ap (λ (x : ReadAnswer). x.count) e)

numbers_first : (xs lent after : List ℕ) (n : ℕ) → after ≡ lent_of (all xs) lent → length xs ≡ n → take n after ≡ xs
unfolding lent_of
numbers_first xs lent after n e l = ap (take n) e ∙ take_at xs (drop (length xs) lent) n l

pub read_call : EveryRead
read_call file lent a after k z =
    let w = read_whole (read_of file (length lent)) (reads_of file (length lent)) (sym (ap (λ (x : ReadAnswer). x.number) k.answers) ∙ z) in
    record {
      numbers = w.0;
      read = w.1;
      count_is = sym (count_is a w.0 (k.answers ∙ ap (λ d. read_answer_of (answer_of_read d)) w.1));
      first = numbers_first w.0 lent after a.count (k.leaves ∙ ap (λ d. lent_of d lent) w.1) (count_is a w.0 (k.answers ∙ ap (λ d. read_answer_of (answer_of_read d)) w.1));
    }

pub check_call : EveryCheck
check_call numbers = accepted_exactly (check_of numbers) (check_faults numbers)

-- Verdicts -------------------------------------------------------------------------------------------------------------------------------

effects_refused : (why : Why) → ◌≡◌ {A = Result Unit Why} (Err why) (Ok tt) → ⊥
effects_refused why e = cc

effects_accepted : (numbers : List ℕ) (room : ℕ) → effects_answer numbers room ≡ Ok tt → answer_of (check_of numbers) ≡ Ok tt
unfolding effects_answer answer_of
effects_accepted numbers room e = go (check_of numbers) refl
  where
    go : (x : Parsed Graph) → check_of numbers ≡ x → answer_of (check_of numbers) ≡ Ok tt
    go (got g q) t = ap answer_of t
    go (fault why) t = absurd (effects_refused why (rw (t, effects_answer) at e))

verdicts_first : (numbers lent : List ℕ) → effects_answer numbers (length lent) ≡ Ok tt → effects_row numbers lent ≡ last_verdicts (graph_in numbers) ++ drop (graph_in numbers).header.modules lent
unfolding graph_in
verdicts_first numbers lent e = go (ltb (length lent) (graph_in numbers).header.modules) refl
  where
    go : (b : Bool) → ltb (length lent) (graph_in numbers).header.modules ≡ b → effects_row numbers lent ≡ last_verdicts (graph_in numbers) ++ drop (graph_in numbers).header.modules lent
    go true t = absurd (effects_refused NoRoom (short_answer numbers (effects_accepted numbers (length lent) e) (length lent) (ltb-true _ _ t) ∙ e))
    go false t = sym (long_row numbers (effects_accepted numbers (length lent) e) lent (ltb-false _ _ t))

pub effects_call : EveryEffects
effects_call numbers lent a after k z w x =
    let g = graph_in numbers in
    let e = effects_passed (effects_answer numbers (length lent)) (effects_in numbers (length lent)) (sym (ap (λ (y : Refusal). y.number) k.answers) ∙ z) in
    ap (take g.header.modules) (k.leaves ∙ verdicts_first numbers lent e)
    ∙ take_at (last_verdicts g) (drop g.header.modules lent) g.header.modules (last-length g)
    ∙ sym (rust_effects g w x)

-- Runs -----------------------------------------------------------------------------------------------------------------------------------

pub run_call : EveryRun
run_call numbers a lent after k z way o x =
    run_shows_rust numbers lent after (totals_in a) (run_kept numbers a lent after k z).runs way o x

pub run_call_returns : EveryRunReturns
run_call_returns numbers a lent after k z way n ch =
    let r = returns_and_agrees numbers (run_kept numbers a lent after k z).accepted way n ch in
    (r.0, r.1, r.2, run_call numbers a lent after k z way r.0 r.1)

pub run_call_dead_at_end : EveryRunDeadAtEnd
run_call_dead_at_end numbers a lent after k z on =
    let g = graph_in numbers in
    let w = run_kept numbers a lent after k z in
    let e = subst (λ (o : run.Outcome). run.Ends o (run.answered (run.outcome_of numbers (run.rooms_of lent))) lent after) w.is_done k.leaves in
    rw e.dead_are (every_dead_at_end numbers (run.rooms_of lent) g (run_of g) w.is_done on lent.dead)

-- Records --------------------------------------------------------------------------------------------------------------------------------

-- the number 0 from a record that is passed
zero_of : (numbers given row : List ℕ) → judge_of numbers given row ≡ Ok tt → (judge_answer_of (judge_of numbers given row)).number ≡ 0
zero_of numbers given row e = (passed_exactly (judge_of numbers given row) (judges_of numbers given row)).1 e

pub judge_call : EveryJudge
judge_call numbers given row =
    let p = passed_exactly (judge_of numbers given row) (judges_of numbers given row) in
    let q = judge_exactly numbers given row in
    (λ z. q.0 (p.0 z), λ h. p.1 (q.1 h))

-- what stands in front of a row lies in it
front_inside : (front rest row : List ℕ) (n : ℕ) → row ≡ front ++ rest → length front ≡ n → n ≤ length row
front_inside front rest row n e l = omega (arith, ap length e, length-append front rest, l)

pub drain_judged : EveryDrainJudged
unfolding drain.record_after
drain_judged numbers given a lent after k z = let w = drain_kept numbers given a lent after k z in go w.graph w.lines w.is_done w.lines_are w.record_is
  where
    go : (g : Graph) (lines : List Line) → drain.outcome_of numbers given (drain.rooms_of lent) ≡ drain.done g lines → a.lines ≡ length lines
        → after.lines ≡ drain.record_after (drain.done g lines) lent.lines
        → (6 * a.lines ≤ length after.lines) × ((judge_answer_of (judge_of numbers given (take (6 * a.lines) after.lines))).number ≡ 0)
    go g lines e n r = (
      rw n (front_inside (written lines) _ after.lines (6 * length lines) r (written-length lines)),
      zero_of numbers given _ (ap (λ m. judge_of numbers given (take (6 * m) after.lines)) n ∙ ap (λ xs. judge_of numbers given (take (6 * length lines) xs)) r ∙ drain_passes numbers given (drain.rooms_of lent) g lines e lent.lines),
    )

-- the lines of the main stage stand in front of those of both stages
main_inside : (g : Graph) (row : List ℕ) (lent : List ℕ) (n : ℕ) → row ≡ run.record_after (run.done g (run_of g)) lent → n ≡ length (run_of g).main → 6 * n ≤ length row
unfolding run.record_after
main_inside g row lent n e l =
    let both = (run_of g).lines in
    let b = main_begins g in
    omega (arith, l, ap length b.1, length-append (run_of g).main b.0, front_inside (written both) _ row (6 * length both) e (written-length both))

pub run_judged : EveryRunJudged
run_judged numbers a lent after k z =
    let g = graph_in numbers in
    let w = run_kept numbers a lent after k z in (
      main_inside g after.lines lent.lines a.lines w.record_is w.lines_are,
      zero_of numbers _ _ (rw (w.lines_are, w.record_is) (run_passes numbers (run.rooms_of lent) g (run_of g) w.is_done lent.lines).1),
    )

-- what the starts leave in their record begins with the same lines
starts_row : (g : Graph) (lent : List ℕ) → take (6 * length (run_of g).main) (starts.record_after (starts.done g) lent) ≡ written (run_of g).main
unfolding starts.record_after
starts_row g lent = take_at (written (run_of g).main) _ (6 * length (run_of g).main) (written-length (run_of g).main)

pub starts_judged : EveryStartsJudged
unfolding starts.starts_after
starts_judged numbers a lent after k z b lent' after' j y =
    let g = graph_in numbers in
    let w = run_kept numbers a lent after k z in
    let s = starts_kept numbers b lent' after' j y in
    let p = (starts_given numbers (starts.rooms_of lent') g s.is_done).passed lent'.starts lent'.lines in (
      rw s.count_is (front_inside (triples (starts.own_starts_once (graph_in numbers))) _ after'.starts (3 * length (starts.own_starts_once (graph_in numbers))) s.starts_are (triples-length (starts.own_starts_once (graph_in numbers)))),
      zero_of numbers _ _
          (rw (w.lines_are, w.record_is, s.count_is, s.starts_are, run_row numbers (run.rooms_of lent) g (run_of g) w.is_done lent.lines) (rw (starts_row g lent'.lines) at p)),
    )

-- Rows -----------------------------------------------------------------------------------------------------------------------------------

-- the rows of a run that are no rows of bits by fact
behind_dead : (g : Graph) (main : List Line) (live dead : ℕ → Bool) (lent : List ℕ) → drop (bytes_for (record_count g)) (dead_row g main live dead lent) ≡ drop (bytes_for (record_count g)) lent
unfolding dead_row
behind_dead g main live dead lent =
    drop_at (bytes_of (dead_record g main live dead) (bytes_for (record_count g))) _ (bytes_for (record_count g)) (bytes_long (dead_record g main live dead) (bytes_for (record_count g)))

behind_helpers : (g : Graph) (main : List Line) (lent : List ℕ) → drop g.header.modules (helpers_row g main lent) ≡ drop g.header.modules lent
unfolding helpers_row
behind_helpers g main lent = drop_at (tabulate (helper_word g (has g 0 main)) 0 g.header.modules) _ g.header.modules (tabulate-length (helper_word g (has g 0 main)) 0 g.header.modules)

behind_entries : (g : Graph) (live : ℕ → Bool) (lent : List ℕ) (n : ℕ) → n ≡ length (final_entries g live) → drop n (entries_row g live lent) ≡ drop n lent
unfolding entries_row
behind_entries g live lent n e = rw e (drop-append_seam (final_entries g live) (drop (length (final_entries g live)) lent))

pub run_call_spare : EveryRunSpare
unfolding run.row_after run.dead_after run.helpers_after run.entries_after
run_call_spare numbers a lent after k z =
    let g = graph_in numbers in
    let w = run_kept numbers a lent after k z in
    let s = run_spares numbers (run.rooms_of lent) g (run_of g) w.is_done in
    let e = subst (λ (o : run.Outcome). run.Ends o (run.answered (run.outcome_of numbers (run.rooms_of lent))) lent after) w.is_done k.leaves in
    record {
      spare_bits = λ row j l h. rw (row_of_run_lem e row) (s.spare_bits row (row_of_run row lent) j l h);
      spare_dead = λ j l h. rw e.dead_are (s.spare_dead lent.dead j l h);
      spare_marks = λ j l. rw e.marks_are (s.spare_marks lent.marks j l);
      behind = λ row. rw (row_of_run_lem e row) (rows_show g row (run.lines_for row (run_of g)) (row_of_run row lent)).behind;
      behind_dead = rw e.dead_are (behind_dead g (run_of g).main (run_of g).live (run_of g).dead lent.dead);
      behind_helpers = rw e.helpers_are (behind_helpers g (run_of g).main lent.helpers);
      behind_entries = rw e.entries_are (behind_entries g (run_of g).live lent.entries a.entries w.entries_are);
    }

-- the lines that stand in front of a record are read back from it
lines_read : (lines : List Line) (rest row : List ℕ) (n : ℕ) → n ≡ length lines → row ≡ written lines ++ rest → lines_of n row ≡ lines
lines_read lines rest row n l e =
    ap (λ k. lines_of k row) l
    ∙ lines_same (length lines) row (written lines) (λ j h. ap (λ xs. get_or xs j 0) e ∙ get_or-append (written lines) rest 0 j (omega (arith, h, written-length lines)))
    ∙ ap (λ k. lines_of k (written lines)) (sym (written_many lines))
    ∙ lines_back lines

-- the final entries stand in front of their row
entries_front : (g : Graph) (live : ℕ → Bool) (lent : List ℕ) (n : ℕ) → n ≡ length (final_entries g live) → take n (entries_row g live lent) ≡ final_entries g live
unfolding entries_row
entries_front g live lent n e = take_at (final_entries g live) (drop (length (final_entries g live)) lent) n (sym e)

main_read : (numbers : List ℕ) (a : RunAnswer) (lent after : run.Rows) → RunKept numbers a lent after → lines_of a.lines after.lines ≡ (run_of (graph_in numbers)).main
main_read numbers a lent after w =
    let main = (run_of (graph_in numbers)).main in
    let n = 6 * length main in
    let front : take n after.lines ≡ written main = ap (take n) w.record_is ∙ run_row numbers (run.rooms_of lent) (graph_in numbers) (run_of (graph_in numbers)) w.is_done lent.lines in
    lines_read main (drop n after.lines) after.lines a.lines w.lines_are (sym (take-append-drop n after.lines) ∙ ap (λ xs. xs ++ drop n after.lines) front)

pub run_call_settles : EveryRunSettles
unfolding run.entries_after
run_call_settles numbers a lent after k z on =
    let g = graph_in numbers in
    let w = run_kept numbers a lent after k z in
    let e = subst (λ (o : run.Outcome). run.Ends o (run.answered (run.outcome_of numbers (run.rooms_of lent))) lent after) w.is_done k.leaves in
    record {
      live = (run_of g).live;
      smallest =
          subst (λ (l : List Line). SmallestSettled g (HasLine l) (λ m. (run_of g).live m ≡ true)) (sym (main_read numbers a lent after w))
          (every_settles numbers (run.rooms_of lent) g (run_of g) w.is_done on).smallest;
      entries_are = rw e.entries_are (entries_front g (run_of g).live lent.entries a.entries w.entries_are);
    }

drain_answers : (g : Graph) (given : List ℕ) (lines : List Line) (a : DrainAnswer) (lent after : drain.Rows) → lines_of a.lines after.lines ≡ lines
    → ((row : Row) → row_of_drain row after ≡ drain.row_after row (drain.done g lines) (row_of_drain row lent)) → SmallestByRules g (starts_of given) (HasLine lines) → DrainShows g given lines
    → DrainAnswers g given a lent after
drain_answers g given lines a lent after e rows least s =
    record {
      smallest = rw e least;
      rows_show = λ row. rw (e, rows row) (s.rows_show row (row_of_drain row lent));
      spare_bits = λ row j l h. rw (rows row) (s.spare_bits row (row_of_drain row lent) j l h);
    }

pub drain_call : EveryDrain
unfolding drain.record_after
drain_call numbers given a lent after k z =
    let room = drain.rooms_of lent in
    let w = drain_kept numbers given a lent after k z in
    let d = drain_shows numbers given room w.graph w.lines w.is_done in
    subst (λ (g : Graph). DrainAnswers g given a lent after) d.0
    (drain_answers w.graph given w.lines a lent after (lines_read w.lines _ after.lines a.lines w.lines_are w.record_is)
    (λ row. row_of_drain_lem k.leaves row ∙ ap (λ y. drain.row_after row y (row_of_drain row lent)) w.is_done)
    (drain_smallest numbers given room w.graph w.lines w.is_done) d.1)
