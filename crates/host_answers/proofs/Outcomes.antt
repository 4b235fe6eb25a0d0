-- The numbers of refusals of a drain, of a run and of a run's own starts, by how each may end.
use Prim.Native.Nat.{ℕ, ◌*◌, ◌/◌, ◌%◌}
use mathlib.Core.Path.{◌≡◌}
use mathlib.Core.List.{List}
use native.Mathlib.Omega.{arith}
use lib.Dec.{eqb, ltb, leb}
use lib.ListN.{length}
use Rattle.bit_row.specs.Row.{bytes_for}
use Rattle.determine_side_effects.specs.graph_crate.Check.{Graph, check_of}
use Rattle.determine_side_effects.specs.facts_crate.Facts.{mark_count}
use Rattle.keep_record.specs.declared.Line.{Line}
use Rattle.starts.specs.Starts.{starts_fault}
use Rattle.drain_parts.specs.Operation as drain
use Rattle.run_rows.specs.Run.{Run, run_of}
use Rattle.run_parts.specs.Operation as run
use Rattle.run_starts.specs.Operation as starts
use Rattle.host_answers.specs.Numbers.{OneOf}
use Rattle.host_answers.proofs.Faults.{by_test}
use Rattle.host_answers.proofs.GraphFaults.{check_faults}
use Rattle.host_answers.proofs.Refusals.{of_same, to_5, three, four, five, by_check}
use Rattle.std.specs.Prelude.{Err}
use Rattle.determine_side_effects.specs.refusal_crate.declared.Refusal.{Refusal}
use Rattle.determine_side_effects.specs.refusal_crate.declared.Refusal.TheVariants.{NoRoom}
use Rattle.determine_side_effects.specs.refusal_crate.Number.{number_of}

-- Drain ----------------------------------------------------------------------------------------------------------------------------------

pub record Drains (o : drain.Outcome) : Type 0 where
  pub numbers : (why : Refusal) → drain.answered o ≡ Err why → OneOf 2 5 (number_of why)

drains_before : {why : Refusal} → OneOf 2 5 (number_of why) → Drains (drain.before why)
unfolding drain.answered
drains_before {why} o = record { numbers = λ other e. let i : why ≡ other = cc in of_same o i }

drains_worked : (g : Graph) (lines : List Line) (room : ℕ) → Drains (drain.worked g lines room)
unfolding drain.worked drain.answered
drains_worked g lines room =
    by_test Drains (ltb room (6 * length lines)) (record { numbers = λ why e. let i : NoRoom ≡ why = cc in of_same five i })
    (record { numbers = λ why e. cc })

drains_in : (g : Graph) (given : List ℕ) (room : drain.Rooms) → Drains (drain.outcome_in g given room)
unfolding drain.outcome_in
drains_in g given room =
    by_test Drains (eqb (length given % 3) 0)
    (by_test Drains (eqb (starts_fault g given 0 (length given / 3)) 0)
    (by_test Drains (drain.enough g room) (drains_worked g _ room.lines) (drains_before five))
    (drains_before (to_5 three)))
    (drains_before (to_5 four))

pub drains_of : (numbers given : List ℕ) (room : drain.Rooms) → Drains (drain.outcome_of numbers given room)
unfolding drain.outcome_of
drains_of numbers given room =
    by_check Drains (check_of numbers) _ _ (check_faults numbers) (λ g. drains_in g given room) (λ why o. drains_before (to_5 o))

-- Run ------------------------------------------------------------------------------------------------------------------------------------

pub record Runs (o : run.Outcome) : Type 0 where
  pub numbers : (why : Refusal) → run.answered o ≡ Err why → OneOf 2 5 (number_of why)

runs_before : {why : Refusal} → OneOf 2 5 (number_of why) → Runs (run.before why)
unfolding run.answered
runs_before {why} o = record { numbers = λ other e. let i : why ≡ other = cc in of_same o i }

runs_worked : (g : Graph) (r : Run) (room : ℕ) → Runs (run.worked g r room)
unfolding run.worked run.answered
runs_worked g r room =
    by_test Runs (ltb room (6 * length r.lines)) (record { numbers = λ why e. let i : NoRoom ≡ why = cc in of_same five i })
    (record { numbers = λ why e. cc })

runs_in : (g : Graph) (room : run.Rooms) → Runs (run.outcome_in g room)
unfolding run.outcome_in
runs_in g room = by_test Runs (run.enough g room) (runs_worked g (run_of g) room.lines) (runs_before five)

pub runs_of : (numbers : List ℕ) (room : run.Rooms) → Runs (run.outcome_of numbers room)
unfolding run.outcome_of
runs_of numbers room = by_check Runs (check_of numbers) _ _ (check_faults numbers) (λ g. runs_in g room) (λ why o. runs_before (to_5 o))

-- Starts ---------------------------------------------------------------------------------------------------------------------------------

pub record Starts (o : starts.Outcome) : Type 0 where
  pub numbers : (why : Refusal) → starts.answered o ≡ Err why → OneOf 2 5 (number_of why)

starts_before : {why : Refusal} → OneOf 2 5 (number_of why) → Starts (starts.before why)
unfolding starts.answered
starts_before {why} o = record { numbers = λ other e. let i : why ≡ other = cc in of_same o i }

starts_short : Starts starts.short
unfolding starts.answered
starts_short = record { numbers = λ why e. let i : NoRoom ≡ why = cc in of_same five i }

starts_worked : (g : Graph) (lines room : ℕ) → Starts (starts.worked g lines room)
unfolding starts.worked starts.answered
starts_worked g lines room =
    by_test Starts (ltb lines (6 * length (run_of g).main)) starts_short
    (by_test Starts (ltb room (3 * length (starts.own_starts_once g))) starts_short
    (record { numbers = λ why e. cc }))

starts_in : (g : Graph) (room : starts.Rooms) → Starts (starts.outcome_in g room)
unfolding starts.outcome_in
starts_in g room = by_test Starts (leb (bytes_for (mark_count g)) room.marks) (starts_worked g room.lines room.starts) (starts_before five)

pub starts_of : (numbers : List ℕ) (room : starts.Rooms) → Starts (starts.outcome_of numbers room)
unfolding starts.outcome_of
starts_of numbers room = by_check Starts (check_of numbers) _ _ (check_faults numbers) (λ g. starts_in g room) (λ why o. starts_before (to_5 o))
