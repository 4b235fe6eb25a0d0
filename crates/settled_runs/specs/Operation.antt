-- T16 over the operation: for every run that is not refused (docs/RULES.md, Settled runs). The theorems are in proofs/OfRuns.antt.
use Rattle.std.specs.Prelude.{ℕ, ◌+◌, ◌<◌, ◌≡◌, true, false, List, ◌++◌}
use Rattle.determine_side_effects.specs.graph_crate.Check.{Graph, graph_in, check_of, answer_of}
use Rattle.determine_side_effects.specs.graph_access_crate.Words.{option}
use Rattle.determine_side_effects.specs.Effects.{last_verdicts}
use Rattle.keep_record.specs.declared.Line.{Line}
use Rattle.entry_order.specs.Order.{module_of_entry, is_dynamic}
use Rattle.dynamic_entries.specs.Tries.{tried, now_dead}
use Rattle.tree_shaking.specs.Rounds.{goes_on, rounds_fuel, rounds_from, begun, main_part}
use Rattle.other_options.specs.Options.{SameButBit}
use Rattle.run_rows.specs.Run.{Run}
use Rattle.run_parts.specs.Operation.{Rooms, done, outcome_of}
use Rattle.closed_choices.specs.Choice.{HasLine}
use Rattle.run_choices.specs.DeadAtEnd.{after_rounds}
use Rattle.settled_runs.specs.Choice.{SmallestSettled}
use Rattle.settled_runs.specs.Until.{Idle, NoModule, Until}
use Rattle.settled_runs.specs.Order.{SameButOrder, SameCycles, SameChoice}
use Rattle.std.specs.Prelude.{Ok}

-- With options bit 7: the facts of the main part and the live modules are the smallest settled choice; and one more try of a dynamic entry whose module is
-- not live would find it dead, so that the dead records of bit 6 need no such condition.
pub record Settles (g : Graph) (r : Run) : Type 1 where
  pub smallest : SmallestSettled g (HasLine r.main) (λ m. r.live m ≡ true)
  pub others_dead : (e : ℕ) → e < g.header.entries → is_dynamic g e ≡ true → r.live (module_of_entry g e) ≡ false
      → tried g (last_verdicts g) e (after_rounds r) ≡ now_dead e (after_rounds r)

abbrev pub EverySettles : Type 1
EverySettles = (numbers : List ℕ) (room : Rooms) (g : Graph) (r : Run) → outcome_of numbers room ≡ done g r → option g 7 ≡ true → Settles g r

-- With the bit the rounds go on up to the first that brings nothing, without it up to the first in which no module became kept; that one is counted.
abbrev pub EveryUntil : Type 0
EveryUntil =
    (numbers : List ℕ) (room : Rooms) (g : Graph) (r : Run) → outcome_of numbers room ≡ done g r
    → (option g 7 ≡ true → Until g Idle r) × (option g 7 ≡ false → Until g NoModule r)

-- More rounds allowed would change nothing: it is never their bound that ends them.
abbrev pub FuelNever : Type 0
FuelNever =
    (numbers : List ℕ) → answer_of (check_of numbers) ≡ Ok tt → (more : ℕ)
    → rounds_from (graph_in numbers) (last_verdicts (graph_in numbers)) (goes_on (graph_in numbers)) (rounds_fuel (graph_in numbers) + more) 0 0
    (begun (graph_in numbers) (last_verdicts (graph_in numbers)))
    ≡ main_part (graph_in numbers) (last_verdicts (graph_in numbers))

-- The lines of a run are the first lines of another, and what is live in it is live there.
pub record Begins (r s : Run) : Type 0 where
  pub rest : List Line
  pub lines_are : s.main ≡ r.main ++ rest
  pub live_stays : (m : ℕ) → r.live m ≡ true → s.live m ≡ true

-- so it is of runs over two graphs that differ in no more than the bit, without it and with it
abbrev pub EveryBegins : Type 0
EveryBegins =
    (numbers others : List ℕ) (room space : Rooms) (g h : Graph) (r s : Run) → outcome_of numbers room ≡ done g r → outcome_of others space ≡ done h s
    → SameButBit 7 g h → option g 7 ≡ false → option h 7 ≡ true → Begins r s

-- Whatever the order of the entries, if it puts the same modules on cycles: runs with the bit over two such graphs have the same facts and live modules.
abbrev pub EveryOrder : Type 0
EveryOrder =
    (numbers others : List ℕ) (room space : Rooms) (g h : Graph) (r s : Run) → outcome_of numbers room ≡ done g r → outcome_of others space ≡ done h s
    → option g 7 ≡ true → SameButOrder g h → SameCycles g h → SameChoice r s
