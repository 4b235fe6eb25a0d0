-- The operation on the numbers of a graph and a lent row of verdicts.
use Rattle.std.specs.Prelude.{ℕ, true, false, List, ◌++◌, ltb, length, drop}
use Rattle.facts.specs.rows_crate.Walk.{got, fault}
use Rattle.facts.specs.graph_crate.Check.{check_of}
use Rattle.determine_side_effects.specs.Effects.{last_verdicts}
use Rattle.std.specs.Prelude.{Result, Ok, Err}
use Rattle.facts.specs.refusal_crate.declared.Refusal.{Refusal}
use Rattle.facts.specs.refusal_crate.declared.Refusal.TheVariants.{NoRoom}

-- the answer: that of the check; 5 if the graph is accepted and the row has fewer numbers than modules (docs/OPERATIONS.md, Effects)
unfoldable pub effects_answer : List ℕ → ℕ → Result Unit Refusal
effects_answer numbers room =
    elim (check_of numbers) [
      | fault why ↦ Err why
      | got g q ↦ elim (ltb room g.header.modules) [ true ↦ Err NoRoom | false ↦ Ok tt ]
    ]

-- the row: it begins with a verdict for each module; what is behind them, and a row that is refused, stays as it was
unfoldable pub effects_row : List ℕ → List ℕ → List ℕ
effects_row numbers row =
    elim (check_of numbers) [
      | fault why ↦ row
      | got g q ↦ elim (ltb (length row) g.header.modules) [ true ↦ row | false ↦ last_verdicts g ++ drop g.header.modules row ]
    ]
