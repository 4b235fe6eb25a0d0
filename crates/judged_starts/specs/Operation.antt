-- What is known of a run's own starts as they are given, over the operation, for all numbers and lent rows. The theorem is `starts_given` in
-- proofs/OfStarts.antt.
use Rattle.std.specs.Prelude.{ℕ, ◌*◌, ◌<◌, ◌≡◌, List, length, get_or, take}
use Rattle.determine_side_effects.specs.graph_crate.Check.{Graph, graph_in}
use Rattle.determine_side_effects.specs.Effects.{last_verdicts}
use Rattle.determine_side_effects.specs.facts_crate.declared.Fact.{Fact}
use Rattle.determine_side_effects.specs.facts_crate.Facts.{module_fact}
use Rattle.tree_shaking.specs.Own.{run_starts}
use Rattle.run_rows.specs.Run.{run_of}
use Rattle.run_starts.specs.Operation.{Rooms, own_starts_once, done, outcome_of, record_after, starts_after}
use Rattle.judge_parts.specs.Operation.{judge_of}
use Rattle.std.specs.Prelude.{Ok}

-- a list has a fact
pub record Has (facts : List Fact) (f : Fact) : Type 0 where
  pub number : ℕ
  pub inside : number < length facts
  pub is : get_or facts number (module_fact 0) ≡ f

-- One list of facts is another without its repeats.
pub record WithoutRepeats (all once : List Fact) : Type 0 where
  pub each : (f : Fact) → Has all f → Has once f
  pub no_other : (f : Fact) → Has once f → Has all f
  pub no_repeat : (i k : ℕ) → i < k → k < length once → get_or once i (module_fact 0) ≡ get_or once k (module_fact 0) → ⊥

-- The starts that are given, where nothing is refused: those that the steps of the run define (`run_starts`), without repeats, whatever the order; and the
-- judge passes the run's lines up to the runtime helpers, as the record holds them, beside the triples, as the row of starts holds them.
pub record StartsGiven (numbers : List ℕ) (g : Graph) : Type 0 where
  pub is_graph : g ≡ graph_in numbers
  pub own : WithoutRepeats (run_starts g (last_verdicts g)) (own_starts_once g)
  pub passed : (starts lines : List ℕ)
      → judge_of numbers (take (3 * length (own_starts_once g)) (starts_after (done g) starts)) (take (6 * length (run_of g).main) (record_after (done g) lines)) ≡ Ok tt

abbrev pub EveryStartsGiven : Type 0
EveryStartsGiven = (numbers : List ℕ) (room : Rooms) (g : Graph) → outcome_of numbers room ≡ done g → StartsGiven numbers g
