-- What the rows hold while starts are noted.
use Rattle.std.specs.Prelude.{ℕ, ◌+◌, ◌*◌, ◌<◌, ◌≤◌, ◌≡◌, List, ◌∷◌, ◌++◌, map, length, get_or, take, drop}
use Rattle.facts.specs.graph_crate.Check.{Graph}
use Rattle.facts.specs.declared.Fact.{Fact}
use Rattle.facts.specs.Facts.{kind_of, first_part, second_part, module_fact, mark_of, Good}
use Rattle.keep_record.specs.Held.{Distinct}
use Rattle.fact_marks.specs.Marks.{Marks}
use Rattle.own_starts.specs.Once.{notes, triples}

-- These facts are noted, in a row that was lent as `lent`: they are marked, each once, counted, and, if the row is long enough, written as
-- triples; behind them it is as lent.
pub record Noting (g : Graph) (facts : List Fact) (seen lent out : List ℕ) (n : ℕ) : Type 0 where
  pub marks : Marks g facts seen
  pub good : (i : ℕ) → i < length facts → Good g (get_or facts i (module_fact 0))
  pub apart : Distinct (map (mark_of g) facts)
  pub counted : n ≡ length facts
  pub long : length out ≡ length lent
  pub written : 3 * n ≤ length lent → out ≡ triples facts ++ drop (3 * n) lent

-- some facts are noted
pub record Noted (g : Graph) (seen out : List ℕ) (n : ℕ) : Type 0 where
  pub facts : List Fact
  pub lent : List ℕ
  pub noting : Noting g facts seen lent out n

-- some more are noted
pub record Notes (g : Graph) (more : List Fact) (seen₀ out₀ : List ℕ) (n₀ : ℕ) (seen out : List ℕ) (n : ℕ) : Type 0 where
  pub on : (facts : List Fact) (lent : List ℕ) → Noting g facts seen₀ lent out₀ n₀ → Noting g (notes g facts more) seen lent out n

-- triple n of a row is written, if the row has it
pub record Writes (f : Fact) (n : ℕ) (out₀ out : List ℕ) : Type 0 where
  pub fits : 3 * n + 3 ≤ length out₀ → out ≡ take (3 * n) out₀ ++ (kind_of f ∷ first_part f ∷ second_part f ∷ drop (3 * n + 3) out₀)
  pub else_same : length out₀ < 3 * n + 3 → out ≡ out₀
