-- A row of marks that holds a list of facts.
use Rattle.std.specs.Prelude.{ℕ, ◌*◌, ◌≤◌, ◌≡◌, List, [], ◌∷◌, ◌++◌, map, length}
use Rattle.bit_row.specs.Row.{bit_at}
use Rattle.facts.specs.graph_crate.Check.{Graph}
use Rattle.facts.specs.declared.Fact.{Fact}
use Rattle.facts.specs.Facts.{mark_of, mark_count}
use Rattle.keep_record.specs.Lines.{elem}

-- the bits of the row are the marks of these facts, and the row is wide enough for all marks
pub record Marks (g : Graph) (facts : List Fact) (marks : List ℕ) : Type 0 where
  pub wide : mark_count g ≤ 8 * length marks
  pub marked : (j : ℕ) → bit_at marks j ≡ elem j (map (mark_of g) facts)

-- one more fact
pub record MarksOne (g : Graph) (f : Fact) (before after : List ℕ) : Type 0 where
  pub same_length : length after ≡ length before
  pub on : (facts : List Fact) → Marks g facts before → Marks g (facts ++ (f ∷ [])) after
