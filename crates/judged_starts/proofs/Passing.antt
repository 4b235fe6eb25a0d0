-- The starts that are given are the facts of the run's own starts, so the judge passes the lines of the main part beside them.
use Prim.Native.Nat.{ℕ, ◌*◌, ◌-◌}
use mathlib.Core.Path.{◌≡◌, refl}
use mathlib.Core.List.{List}
use lib.ListN.{length, take, drop, replicate}
use lib.Seq.{take_at}
use Rattle.determine_side_effects.specs.graph_crate.Check.{Graph, graph_in, check_of, answer_of}
use Rattle.determine_side_effects.specs.Effects.{last_verdicts}
use Rattle.determine_side_effects.specs.facts_crate.declared.Fact.{Fact}
use Rattle.determine_side_effects.specs.facts_crate.Facts.{module_fact, Good}
use Rattle.keep_record.specs.declared.Line.{Line}
use Rattle.keep_record.specs.Lines.{written}
use Rattle.keep_record.proofs.Rows.{written-length}
use Rattle.worklist.specs.Drain.{drain_of}
use Rattle.tree_shaking.specs.Own.{run_starts}
use Rattle.run_rows.specs.Run.{with_runtime, run_of}
use Rattle.own_starts.specs.Once.{triples}
use Rattle.run_starts.specs.Operation.{own_by_kind, own_starts_once, done, record_after, starts_after}
use Rattle.judge_parts.specs.Operation.{judge_of}
use Rattle.closed_choices.proofs.Accepting.{accepted_tabled}
use Rattle.closed_choices.proofs.Every.{Every, every_by}
use Rattle.run_choices.proofs.Growing.{run_starts_good, main_lines}
use Rattle.run_choices.proofs.ByKind.{main_by_kind, own-by-kind, by_kind_own}
use Rattle.judged_records.specs.Sentence.{IsKeepRecord}
use Rattle.judged_records.specs.Operation.{Passes}
use Rattle.judged_records.proofs.DrainLines.{Among, all_among, drain_stands}
use Rattle.judged_records.proofs.Drains.{lines_record, drain_whole, drain_least}
use Rattle.judged_records.proofs.RunTriples.{Startable, triples-length, triples_back, triples_pass}
use Rattle.judged_records.proofs.RunStarts.{run-starts-fit}
use Rattle.judged_records.proofs.RunOnce.{once_every, once_has, same_smallest, same_stand}
use Rattle.judged_records.proofs.OfOperations.{judge_exactly}
use Rattle.std.specs.Prelude.{Ok}

-- what the rows begin with
starts_row : (g : Graph) (starts : List ℕ) → take (3 * length (own_starts_once g)) (starts_after (done g) starts) ≡ triples (own_starts_once g)
unfolding starts_after
starts_row g starts = take_at (triples (own_starts_once g)) (drop (3 * length (own_starts_once g)) starts) (3 * length (own_starts_once g)) (triples-length (own_starts_once g))

record_row : (g : Graph) (lines : List ℕ) → take (6 * length (run_of g).main) (record_after (done g) lines) ≡ written (run_of g).main
unfolding record_after
record_row g lines = let main = (run_of g).main in take_at (written main) (replicate (length lines - 6 * length main) 0) (6 * length main) (written-length main)

module _ (numbers : List ℕ) (accepted : answer_of (check_of numbers) ≡ Ok tt) where
  abbrev g : Graph
  g = graph_in numbers

  abbrev v : List ℕ
  v = last_verdicts (graph_in numbers)

  abbrev own : List Fact
  own = run_starts (graph_in numbers) (last_verdicts (graph_in numbers))

  abbrev given : List Fact
  given = own_starts_once (graph_in numbers)

  abbrev lines : List Line
  lines = drain_of g v own

  by_kind : own_by_kind g ≡ main_by_kind g v
  unfolding own_by_kind run_of with_runtime
  by_kind = refl

  -- what all of the run's own starts have, those have that are given
  given_every : (P : Fact → Type 0) → Every P own → Every P given
  unfolding own_starts_once
  given_every P a = once_every g P (own_by_kind g) (rw by_kind (own-by-kind g v P a))

  own_good : Every (Good g) own
  own_good = every_by (Good g) own (module_fact 0) (run_starts_good (accepted_tabled numbers accepted).holds)

  -- each of the ones is among the others
  pub own_given : Every (Among given) own
  unfolding own_starts_once
  own_given =
      let t = (accepted_tabled numbers accepted).holds in
      by_kind_own t v (Among given) (rw (← by_kind) (once_has t (own_by_kind g) (rw by_kind (own-by-kind g v (Good g) own_good))))

  pub given_own : Every (Among own) given
  given_own = given_every (Among own) (all_among own)

  given_record : IsKeepRecord g given (written lines)
  given_record =
      let t = (accepted_tabled numbers accepted).holds in
      let w = drain_whole t own (run_starts_good t) in
      lines_record g given lines w.sound.good w.sound.apart (same_stand own given own_given given_own g v lines (drain_stands g v own))
      (same_smallest own given own_given given_own g _ (drain_least t own (run_starts_good t)))

  main_are : (run_of g).main ≡ lines
  unfolding run_of with_runtime
  main_are = main_lines (accepted_tabled numbers accepted).holds

  given_passes : Passes numbers (triples given) (written (run_of g).main)
  given_passes =
      record {
        accepted = accepted;
        starts_good = triples_pass g given (given_every (Good g) own_good) (given_every (Startable g) (run-starts-fit g v));
        is_record = rw (triples_back given, main_are) given_record;
      }

  pub own_passed : (starts lines : List ℕ) → judge_of numbers (take (3 * length (own_starts_once g)) (starts_after (done g) starts)) (take (6 * length (run_of g).main) (record_after (done g) lines)) ≡ Ok tt
  own_passed starts lines = rw (starts_row g starts, record_row g lines) ((judge_exactly numbers (triples given) (written (run_of g).main)).1 given_passes)
