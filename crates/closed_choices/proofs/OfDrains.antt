-- T5 and T6 over every accepted graph and all starts that are not refused.
-- A drain has no more lines than there are marks (`lines_few`).
use Prim.Native.Nat.{ℕ, ◌/◌, ◌≤◌}
use mathlib.Core.Path.{◌≡◌}
use mathlib.Core.List.{List}
use lib.ListN.{length}
use Rattle.determine_side_effects.specs.graph_crate.Check.{graph_in, check_of, answer_of}
use Rattle.determine_side_effects.specs.facts_crate.Facts.{mark_count}
use Rattle.determine_side_effects.specs.Effects.{last_verdicts}
use Rattle.worklist.specs.Drain.{drain_of}
use Rattle.starts.specs.Starts.{starts_of, starts_fault}
use Rattle.starts.proofs.Starting.{starts_good}
use Rattle.closed_choices.specs.Choice.{Smallest, HasLine}
use Rattle.closed_choices.proofs.Accepting.{accepted_tabled}
use Rattle.closed_choices.proofs.Smallest.{drain_smallest, lines-suffice}
use Rattle.std.specs.Prelude.{Ok}

module _ (numbers starts : List ℕ) (accepted : answer_of (check_of numbers) ≡ Ok tt) (good : starts_fault (graph_in numbers) starts 0 (length starts / 3) ≡ 0) where
  -- the facts of the drain's lines are the smallest closed choice that holds the starts
  pub facts_smallest : Smallest (graph_in numbers) (starts_of starts) (HasLine (drain_of (graph_in numbers) (last_verdicts (graph_in numbers)) (starts_of starts)))
  facts_smallest = drain_smallest (accepted_tabled numbers accepted).holds (starts_of starts) (starts_good (graph_in numbers) starts good)

  -- as many lines as there are marks suffice for them
  pub lines_few : length (drain_of (graph_in numbers) (last_verdicts (graph_in numbers)) (starts_of starts)) ≤ mark_count (graph_in numbers)
  lines_few = lines-suffice (accepted_tabled numbers accepted).holds (starts_of starts) (starts_good (graph_in numbers) starts good)
