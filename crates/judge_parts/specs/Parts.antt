-- What is known once the lines may be judged.
use Rattle.std.specs.Prelude.{ℕ, ◌≡◌, List}
use Rattle.determine_side_effects.specs.graph_crate.Check.{graph_in}
use Rattle.keep_rules.specs.Prepared.{Prepared}
use Rattle.starts.specs.Starts.{starts_of, StartsGood}
use Rattle.judge_parts.specs.Operation.{judged_lines, judge_of}
use Rattle.std.specs.Prelude.{Result, Ok, Err}
use Rattle.determine_side_effects.specs.refusal_crate.declared.Refusal.{Refusal}

-- Whether the lines may be judged: a refusal is the judge's answer; without one the graph is accepted with all its tables, the starts are good facts, and the
-- answer is that of the lines.
pub record MayJudge (numbers starts row tables : List ℕ) (r : Result Unit Refusal) : Type 0 where
  pub refused : (why : Refusal) → r ≡ Err why → judge_of numbers starts row ≡ Err why
  pub good : r ≡ Ok tt → Prepared numbers tables × StartsGood (graph_in numbers) (starts_of starts)
  pub goes : r ≡ Ok tt → judge_of numbers starts row ≡ judged_lines (graph_in numbers) (starts_of starts) row
