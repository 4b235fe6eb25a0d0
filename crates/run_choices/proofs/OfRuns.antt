-- T8, T12 and what bounds a run, over the operation: what a run keeps that is not refused, which runs are not refused for their room, and what the
-- rows leave 0.
use Prim.Native.Nat.{ℕ, ◌*◌, ◌≤◌}
use mathlib.Core.Path.{◌≡◌, ◌∙◌, sym, subst}
use mathlib.Core.Bool.{false}
use mathlib.Core.List.{List}
use native.Mathlib.Omega.{arith}
use native.Mathlib.Nat.{le_refl}
use borrow.Author.Tests.{le-ltb}
use lib.Dec.{ltb}
use lib.ListN.{length}
use Rattle.determine_side_effects.specs.graph_crate.Check.{Graph, graph_in, check_of, answer_of}
use Rattle.determine_side_effects.specs.facts_crate.Facts.{mark_count}
use Rattle.determine_side_effects.specs.Effects.{last_verdicts}
use Rattle.keep_record.specs.declared.Line.{Line}
use Rattle.keep_record.specs.Lines.{has}
use Rattle.passes.specs.Helpers.{helper_union, runtime_starts}
use Rattle.tree_shaking.specs.Rounds.{main_part, runtime_stage}
use Rattle.tree_shaking.specs.Own.{run_starts}
use Rattle.run_rows.specs.Run.{with_runtime, run_of}
use Rattle.run_parts.specs.Operation.{done, worked}
use Rattle.closed_choices.specs.Choice.{Smallest, HasLine}
use Rattle.closed_choices.proofs.Accepting.{Tabled, accepted_tabled}
use Rattle.closed_choices.proofs.Smallest.{drain_smallest}
use Rattle.run_choices.specs.Operation.{RunKeeps, EveryRunKeeps, EnoughRuns, EveryRunSpares}
use Rattle.run_choices.proofs.GoodStarts.{runtime_starts_good}
use Rattle.run_choices.proofs.Stages.{whole_more, whole_few, whole_next}
use Rattle.run_choices.proofs.Growing.{run_starts_good, main_lines, main_whole}
use Rattle.run_choices.proofs.Sparing.{spares}
use Rattle.run_choices.proofs.OnCycles.{on_cycle_is}
use Rattle.run_choices.proofs.Rounds.{main_rounds}
use Rattle.run_choices.proofs.FewRounds.{few_without}
use Rattle.run_choices.proofs.Done.{outcome_work, outcome_accepted, run_done}
use Rattle.std.specs.Prelude.{Ok}

-- the run of accepted numbers
module _ (numbers : List ℕ) (accepted : answer_of (check_of numbers) ≡ Ok tt) where
  abbrev g : Graph
  g = graph_in numbers

  abbrev v : List ℕ
  v = last_verdicts (graph_in numbers)

  abbrev main : List Line
  main = (main_part g v).end.lines

  tables : Tabled numbers
  tables = accepted_tabled numbers accepted

  main_smallest : Smallest g (run_starts g v) (HasLine main)
  main_smallest =
      subst (λ (l : List Line). Smallest g (run_starts g v) (HasLine l)) (sym (main_lines tables.holds))
      (drain_smallest tables.holds (run_starts g v) (run_starts_good tables.holds))

  keeps : RunKeeps g (run_of g)
  unfolding run_of with_runtime
  keeps =
      record {
        smallest = main_smallest;
        starts_good = run_starts_good tables.holds;
        rounds_made = (main_rounds g v).0;
        rounds_few = (main_rounds g v).1;
        rounds_few_without = few_without tables.holds;
        cycles = on_cycle_is tables.holds;
      }

  -- no more lines than marks in the main part, and no more than that in the runtime stage
  lines_few : length (run_of g).lines ≤ 2 * mark_count g
  unfolding run_of with_runtime runtime_stage
  lines_few =
      let t = tables.holds in
      let word = helper_union g (has g 0 main) in
      let w = whole_more t (length main) (runtime_starts g v word) main (le_refl (length main)) (runtime_starts_good t v word) (whole_next t main (main_whole t)) in
      omega (arith, whole_few t 0 main (main_whole t), whole_few t (length main) (runtime_stage g v main word) w)

-- T8 and T12: what every run keeps that is not refused
pub run_keeps : EveryRunKeeps
run_keeps numbers room g r e =
    let d = run_done numbers room g r e in
    (d.graph_is, rw (d.graph_is, d.run_is) (keeps numbers d.accepted))

-- with enough room a run is not refused
pub run_enough : EnoughRuns
unfolding worked
run_enough numbers room ok long l =
    let all = run_of (graph_in numbers) in
    let t : ltb room.lines (6 * length all.lines) ≡ false = le-ltb room.lines (6 * length all.lines) (omega (arith, l, lines_few numbers ok)) in
    let w : worked (graph_in numbers) all room.lines ≡ done (graph_in numbers) all = rw (t, worked) in
    (all, outcome_accepted numbers room ok ∙ outcome_work (graph_in numbers) room long ∙ w)

-- what a run's rows leave 0
pub run_spares : EveryRunSpares
run_spares numbers room g r e = let d = run_done numbers room g r e in rw (d.graph_is, d.run_is) (spares numbers d.accepted)
