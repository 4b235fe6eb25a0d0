-- T10 for runs: the lines of a run's main part are a keep record of its own starts, and the judge passes them.
use Prim.Native.Nat.{ℕ, zero, suc, ◌+◌, ◌*◌, ◌-◌}
use mathlib.Core.Path.{◌≡◌, ap, ◌∙◌, sym}
use mathlib.Core.Bool.{Bool, true, false}
use mathlib.Core.List.{List, [], ◌∷◌, ◌++◌, append-nil, append_assoc}
use lib.Dec.{ltb}
use lib.ListN.{length, take, replicate}
use lib.Seq.{take_at}
use Rattle.determine_side_effects.specs.graph_crate.Check.{Graph, graph_in, check_of, answer_of}
use Rattle.determine_side_effects.specs.Effects.{last_verdicts}
use Rattle.determine_side_effects.specs.facts_crate.declared.Fact.{Fact}
use Rattle.determine_side_effects.specs.facts_crate.Facts.{module_fact, mark_count, Good}
use Rattle.keep_record.specs.declared.Line.{Line}
use Rattle.keep_record.specs.Lines.{written, has, added, adds}
use Rattle.keep_record.proofs.Rows.{written-length, written-append}
use Rattle.keep_record.proofs.Adding.{added_prefix, adds_prefix}
use Rattle.worklist.specs.Drain.{line, news, drained, started, drained_all, drain_of}
use Rattle.passes.specs.Helpers.{helper_union, runtime_starts}
use Rattle.tree_shaking.specs.Rounds.{main_part, runtime_stage}
use Rattle.tree_shaking.specs.Own.{run_starts}
use Rattle.run_rows.specs.Run.{Run, with_runtime, run_of}
use Rattle.run_parts.specs.Operation.{Rooms, done, outcome_of, record_after}
use Rattle.own_starts.specs.Once.{once, triples}
use Rattle.closed_choices.proofs.Accepting.{accepted_tabled}
use Rattle.closed_choices.proofs.Every.{Every, every_by}
use Rattle.run_choices.proofs.Growing.{run_starts_good, main_lines}
use Rattle.run_choices.proofs.Done.{run_done}
use Rattle.judged_records.specs.Sentence.{IsKeepRecord}
use Rattle.judged_records.specs.Operation.{Passes, JudgesExactly, EveryRunPasses}
use Rattle.judged_records.proofs.DrainLines.{drain_stands}
use Rattle.judged_records.proofs.Drains.{lines_record, drain_whole, drain_least, drain_is_record}
use Rattle.judged_records.proofs.RunTriples.{Startable, triples_back, triples_pass}
use Rattle.judged_records.proofs.RunStarts.{run-starts-fit}
use Rattle.judged_records.proofs.RunOnce.{once_every, once_has, once_only, same_smallest, same_stand}
use Rattle.std.specs.Prelude.{Ok}

-- lines go on behind those that are there
abbrev pub Begins : List Line → List Line → Type 0
Begins lines more = (rest : List Line) × (more ≡ lines ++ rest)

begins_on : (a b c : List Line) → Begins a b → Begins b c → Begins a c
begins_on a b c p q = (p.0 ++ q.0, q.1 ∙ ap (λ (l : List Line). l ++ q.0) p.1 ∙ append_assoc a p.0 q.0)

module _ (g : Graph) (v : List ℕ) (base : ℕ) where
  drained_begins : (fuel k : ℕ) (lines : List Line) → Begins lines (drained g v base fuel k lines)
  unfolding drained
  drained_begins zero k lines = ([], sym (append-nil lines))
  drained_begins (suc fuel) k lines = go (ltb k (length lines)) (drained_begins fuel (k + 1) (adds g base lines (news g v base lines k)))
    where
      more : List Line
      more = adds g base lines (news g v base lines k)

      go : (b : Bool) → Begins more (drained g v base fuel (k + 1) more) → Begins lines (elim b [ true ↦ drained g v base fuel (k + 1) more | false ↦ lines ])
      go true r = begins_on lines more (drained g v base fuel (k + 1) more) (adds_prefix g base lines (news g v base lines k)) r
      go false r = ([], sym (append-nil lines))

  started_begins : (lines : List Line) (f : Fact) → Begins lines (started g v base lines f)
  unfolding started
  started_begins lines f =
      begins_on lines (added g base lines (line f 0 0 0)) (drained g v base (mark_count g) (length lines) (added g base lines (line f 0 0 0)))
      (added_prefix g base lines (line f 0 0 0)) (drained_begins (mark_count g) (length lines) (added g base lines (line f 0 0 0)))

  all_begins : (fs : List Fact) (lines : List Line) → Begins lines (drained_all g v base fs lines)
  unfolding drained_all
  all_begins [] lines = ([], sym (append-nil lines))
  all_begins (f ∷ fs) lines =
      begins_on lines (started g v base lines f) (drained_all g v base fs (started g v base lines f)) (started_begins lines f) (all_begins fs (started g v base lines f))

-- the record row of a run begins with the lines of its main part
pub main_begins : (g : Graph) → Begins (run_of g).main (run_of g).lines
unfolding run_of with_runtime runtime_stage
main_begins g = let main = (main_part g (last_verdicts g)).end.lines in all_begins g (last_verdicts g) (length main) (runtime_starts g (last_verdicts g) (helper_union g (has g 0 main))) main

main_row : (g : Graph) (r : Run) → Begins r.main r.lines → (lent : List ℕ) → take (6 * length r.main) (record_after (done g r) lent) ≡ written r.main
unfolding record_after
main_row g r p lent =
    let zeros = replicate {A = ℕ} (length lent - 6 * length r.lines) 0 in
    ap (λ (xs : List ℕ). take (6 * length r.main) (xs ++ zeros)) (ap (λ (l : List Line). written l) p.1 ∙ written-append r.main p.0)
    ∙ ap (λ (xs : List ℕ). take (6 * length r.main) xs) (append_assoc (written r.main) (written p.0) zeros)
    ∙ take_at (written r.main) (written p.0 ++ zeros) (6 * length r.main) (written-length r.main)

-- the run of accepted numbers
module _ (numbers : List ℕ) (accepted : answer_of (check_of numbers) ≡ Ok tt) where
  abbrev g : Graph
  g = graph_in numbers

  abbrev v : List ℕ
  v = last_verdicts (graph_in numbers)

  abbrev starts : List Fact
  starts = run_starts g v

  abbrev lines : List Line
  lines = drain_of g v (run_starts g v)

  main_are : (run_of g).main ≡ lines
  unfolding run_of with_runtime
  main_are = main_lines (accepted_tabled numbers accepted).holds

  good : Every (Good g) starts
  good = every_by (Good g) starts (module_fact 0) (run_starts_good (accepted_tabled numbers accepted).holds)

  -- as they were started, and each once
  started_record : IsKeepRecord g starts (written lines)
  started_record = let t = (accepted_tabled numbers accepted).holds in drain_is_record t starts (run_starts_good t)

  once_record : IsKeepRecord g (once g starts) (written lines)
  once_record =
      let t = (accepted_tabled numbers accepted).holds in
      let w = drain_whole t starts (run_starts_good t) in
      let to = once_has t starts good in
      let of = once_only g starts in
      lines_record g (once g starts) lines w.sound.good w.sound.apart (same_stand starts (once g starts) to of g v lines (drain_stands g v starts))
      (same_smallest starts (once g starts) to of g _ (drain_least t starts (run_starts_good t)))

  passes : (fs : List Fact) → Every (Good g) fs → Every (Startable g) fs → IsKeepRecord g fs (written lines) → Passes numbers (triples fs) (written (run_of g).main)
  passes fs a b r = record { accepted = accepted; starts_good = triples_pass g fs a b; is_record = rw (triples_back fs, main_are) r }

  both_pass : Passes numbers (triples (once g starts)) (written (run_of g).main) × Passes numbers (triples starts) (written (run_of g).main)
  both_pass =
      let fit = run-starts-fit g v in
      (passes (once g starts) (once_every g (Good g) starts good) (once_every g (Startable g) starts fit) once_record, passes starts good fit started_record)

-- every run that is not refused
module _ (numbers : List ℕ) (room : Rooms) (g : Graph) (r : Run) (e : outcome_of numbers room ≡ done g r) where
  pub run_record : Passes numbers (triples (once g (run_starts g (last_verdicts g)))) (written r.main) × Passes numbers (triples (run_starts g (last_verdicts g))) (written r.main)
  run_record = let d = run_done numbers room g r e in rw (d.graph_is, d.run_is) (both_pass numbers d.accepted)

  pub run_row : (lent : List ℕ) → take (6 * length r.main) (record_after (done g r) lent) ≡ written r.main
  run_row lent = let d = run_done numbers room g r e in main_row g r (rw d.run_is (main_begins (graph_in numbers))) lent

pub run_passes : JudgesExactly → EveryRunPasses
run_passes judges numbers room g r e lent =
    let p = run_record numbers room g r e in
    rw (run_row numbers room g r e lent) ((judges numbers _ (written r.main)).1 p.0, (judges numbers _ (written r.main)).1 p.1)
