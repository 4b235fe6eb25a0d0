-- Whether a line of a record stands: it is in form, its fact has no earlier line, and it is a start or follows by its rule from the earlier
-- lines that it names (docs/OPERATIONS.md, Judge).
use Rattle.std.specs.Prelude.{ℕ, zero, suc, ◌+◌, ◌-◌, Bool, true, false, ◌&&◌, not, List, map, eqb}
use Rattle.determine_side_effects.specs.graph_crate.Check.{Graph}
use Rattle.determine_side_effects.specs.facts_crate.declared.Fact.{Fact}
use Rattle.determine_side_effects.specs.facts_crate.Facts.{mark_of}
use Rattle.keep_record.specs.Lines.{elem, has}
use Rattle.keep_record.specs.Held.{line_at, lines_of}
use Rattle.justification.specs.Justify.{follows, joined_by_either}
use Rattle.record_form.specs.Form.{in_form}

-- a fact is among the starts (`mark_injective` in `facts`: facts with one mark are one fact)
unfoldable pub is_start : Graph → List Fact → Fact → Bool
is_start g starts f = elem (mark_of g f) (map (mark_of g) starts)

-- the fact of the line that a name stands for, 1 more than its number
unfoldable pub named : List ℕ → ℕ → Fact
named row n = (line_at row (n - 1)).fact

-- line k is one of the starts, or follows by its rule from the lines that it names
unfoldable pub is_justified : Graph → List ℕ → List Fact → List ℕ → ℕ → Bool
is_justified g v starts row k =
    elim (eqb (line_at row k).rule 0) [
      | true ↦ is_start g starts (line_at row k).fact
      | false ↦ elim (eqb (line_at row k).rule 1) [
        | true ↦ joined_by_either g (named row (line_at row k).because) (named row (line_at row k).and) (line_at row k).fact
        | false ↦ follows g v (named row (line_at row k).because) (line_at row k).rule (line_at row k).fact
      ]
    ]

-- line k is in form, repeats no fact, and is justified
unfoldable pub stands : Graph → List ℕ → List Fact → List ℕ → ℕ → Bool
stands g v starts row k = in_form g row k && (not (has g 0 (lines_of k row) (line_at row k).fact) && is_justified g v starts row k)

-- the first of n numbers from k on that does not pass a test; k + n where all do
unfoldable pub first_bad : (ℕ → Bool) → ℕ → ℕ → ℕ
first_bad good k zero = k
first_bad good k (suc n) = elim (good k) [ true ↦ first_bad good (k + 1) n | false ↦ k ]
