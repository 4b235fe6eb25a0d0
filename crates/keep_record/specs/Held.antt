-- What the rows of marks and of lines hold while the record grows.
use Rattle.std.specs.Prelude.{ℕ, ◌+◌, ◌*◌, ◌-◌, ◌<◌, ◌≤◌, ◌≡◌, false, List, [], ◌∷◌, ◌++◌, length, get_or, replicate}
use Rattle.bit_row.specs.Row.{bit_at}
use Rattle.facts.specs.graph_crate.Check.{Graph}
use Rattle.facts.specs.graph_access_crate.Words.{tabulate}
use Rattle.facts.specs.Facts.{fact_of, Good, mark_count}
use Rattle.keep_record.specs.declared.Line.{Line}
use Rattle.keep_record.specs.Lines.{written, elem, marks_from}
use Rattle.std.specs.Prelude.{Result, Ok, Err}
use Rattle.keep_record.specs.declared.Full.{Full}

-- the line whose numbers are the k-th six of a row, and the first `count` lines of a row
unfoldable pub line_at : List ℕ → ℕ → Line
line_at row k =
    record {
      fact = fact_of (get_or row (6 * k) 0) (get_or row (6 * k + 1) 0) (get_or row (6 * k + 2) 0);
      rule = get_or row (6 * k + 3) 0;
      because = get_or row (6 * k + 4) 0;
      and = get_or row (6 * k + 5) 0;
    }

unfoldable pub lines_of : ℕ → List ℕ → List Line
lines_of count row = tabulate (line_at row) 0 count

-- no number twice
abbrev pub Distinct : List ℕ → Type 0
Distinct [] = Unit {0}
Distinct (x ∷ xs) = (elem x xs ≡ false) × Distinct xs

-- The rows hold `count` lines, the first `base` of them of an earlier stage: their facts are good, those that are there differ, the marks are
-- theirs and no others, and behind the lines the record is zero.
pub record Held (g : Graph) (base : ℕ) (marks row : List ℕ) (count : ℕ) : Type 0 where
  pub base_inside : base ≤ count
  pub base_few : base ≤ mark_count g
  pub room : 6 * count ≤ length row
  pub wide : mark_count g ≤ 8 * length marks
  pub marked : (j : ℕ) → bit_at marks j ≡ elem j (marks_from g base (lines_of count row))
  pub good : (k : ℕ) → k < count → Good g (line_at row k).fact
  pub apart : Distinct (marks_from g base (lines_of count row))
  pub zero_behind : row ≡ written (lines_of count row) ++ replicate (length row - 6 * count) 0

-- What an addition leaves: the rows hold these lines, or they are too many for the record.
-- the result of what needs more room than the record has
abbrev pub no_room : {A : Type 0} → Result A Full
no_room = Err (record {})

pub record Grown (g : Graph) (base : ℕ) (lines : List Line) (marks row : List ℕ) (r : Result ℕ Full) : Type 0 where
  pub held : (c : ℕ) → r ≡ Ok c → (lines_of c row ≡ lines) × Held g base marks row c
  pub full : r ≡ no_room → length row < 6 * length lines

-- the numbers of a line that can be written: a good fact by a rule from earlier lines
pub record Writable (g : Graph) (count : ℕ) (l : Line) : Type 0 where
  pub good_fact : Good g l.fact
  pub rule_small : l.rule < 15
  pub because_earlier : l.because ≤ count
  pub and_earlier : l.and ≤ count
