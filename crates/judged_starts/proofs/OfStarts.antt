-- Starts that are given are the run's own without repeats, and the judge passes the run's lines beside them.
use Prim.Native.Nat.{ℕ}
use mathlib.Core.Path.{◌≡◌}
use mathlib.Core.List.{List}
use Rattle.determine_side_effects.specs.graph_crate.Check.{graph_in, check_of, answer_of}
use Rattle.determine_side_effects.specs.Effects.{last_verdicts}
use Rattle.tree_shaking.specs.Own.{run_starts}
use Rattle.run_starts.specs.Operation.{own_by_kind, own_starts_once}
use Rattle.judged_starts.specs.Operation.{WithoutRepeats, EveryStartsGiven}
use Rattle.judged_starts.proofs.Done.{starts_done}
use Rattle.judged_starts.proofs.Repeats.{once_without}
use Rattle.judged_starts.proofs.Passing.{own_given, given_own, own_passed}
use Rattle.std.specs.Prelude.{Ok}

own_once : (numbers : List ℕ) → answer_of (check_of numbers) ≡ Ok tt → WithoutRepeats (run_starts (graph_in numbers) (last_verdicts (graph_in numbers))) (own_starts_once (graph_in numbers))
unfolding own_starts_once
own_once numbers accepted =
    let g = graph_in numbers in
    once_without g (run_starts g (last_verdicts g)) (own_by_kind g) (own_given numbers accepted) (given_own numbers accepted)

pub starts_given : EveryStartsGiven
starts_given numbers room g e =
    let d = starts_done numbers room g e in
    record { is_graph = d.graph_is; own = rw d.graph_is (own_once numbers d.accepted); passed = rw d.graph_is (own_passed numbers d.accepted) }
