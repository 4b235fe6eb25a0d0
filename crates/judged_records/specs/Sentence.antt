-- What is asked of a record, over any numbers (docs/OPERATIONS.md, Record and Judge): its lines are of the form, no fact has
-- two, each is a start or follows by its rule from the earlier lines it names, and their facts are the smallest closed choice that holds the
-- starts. The rules are those of the relation in `rule_relation`.
use Rattle.std.specs.Prelude.{ℕ, ◌+◌, ◌*◌, ◌-◌, ◌/◌, ◌%◌, ◌<◌, ◌≤◌, ◌≡◌, List, length, get_or}
use Rattle.determine_side_effects.specs.graph_crate.Check.{Graph}
use Rattle.determine_side_effects.specs.Effects.{last_verdicts}
use Rattle.determine_side_effects.specs.facts_crate.declared.Fact.{Fact}
use Rattle.determine_side_effects.specs.facts_crate.Facts.{fact_of, second_part, module_fact, Good}
use Rattle.keep_record.specs.declared.Line.{Line}
use Rattle.keep_record.specs.Held.{lines_of}
use Rattle.rule_relation.specs.Relation.{Gives, Joins}
use Rattle.closed_choices.specs.Choice.{HasLine}
use Rattle.judged_records.specs.Choice.{SmallestByRules}

-- The six numbers of line k: fact kind, two parts, rule, two names.
abbrev pub kind_at : List ℕ → ℕ → ℕ
kind_at row k = get_or row (6 * k) 0

abbrev pub first_at : List ℕ → ℕ → ℕ
first_at row k = get_or row (6 * k + 1) 0

abbrev pub second_at : List ℕ → ℕ → ℕ
second_at row k = get_or row (6 * k + 2) 0

abbrev pub rule_at : List ℕ → ℕ → ℕ
rule_at row k = get_or row (6 * k + 3) 0

abbrev pub because_at : List ℕ → ℕ → ℕ
because_at row k = get_or row (6 * k + 4) 0

abbrev pub and_at : List ℕ → ℕ → ℕ
and_at row k = get_or row (6 * k + 5) 0

-- its fact, and the fact of the line that a name, 1 more than a line's number, stands for
abbrev pub fact_in : List ℕ → ℕ → Fact
fact_in row k = fact_of (kind_at row k) (first_at row k) (second_at row k)

abbrev pub named_in : List ℕ → ℕ → Fact
named_in row n = fact_in row (n - 1)

-- The names of line k by its rule, each 1 more than the number of an earlier line: a start has none, K1 two, every other rule one.
pub data Names (k : ℕ) : ℕ → ℕ → ℕ → Type 0 where
  of_start : Names k 0 0 0
  of_K1 : (a b : ℕ) → 1 ≤ a → a ≤ k → 1 ≤ b → b ≤ k → Names k 1 a b
  of_rule : (r a : ℕ) → 2 ≤ r → r ≤ 14 → 1 ≤ a → a ≤ k → Names k r a 0

-- (1) line k is of the form: a kind from 1 to 6, parts within their kinds, an unused one 0, and the names of its rule
pub record LineInForm (g : Graph) (row : List ℕ) (k : ℕ) : Type 0 where
  pub kind_least : 1 ≤ kind_at row k
  pub kind_most : kind_at row k ≤ 6
  pub parts_good : Good g (fact_in row k)
  pub unused_zero : second_part (fact_in row k) ≡ second_at row k
  pub names_good : Names k (rule_at row k) (because_at row k) (and_at row k)

-- (3) line k is one of the starts, or follows by its rule from the lines that it names, K1 in either order
pub data Justified (g : Graph) (v : List ℕ) (starts : List Fact) (row : List ℕ) (k : ℕ) : Type 0 where
  as_start : (i : ℕ) → rule_at row k ≡ 0 → i < length starts → get_or starts i (module_fact 0) ≡ fact_in row k → Justified g v starts row k
  by_K1 : rule_at row k ≡ 1 → Joins g (named_in row (because_at row k)) (named_in row (and_at row k)) (fact_in row k) → Justified g v starts row k
  by_K1_exchanged : rule_at row k ≡ 1 → Joins g (named_in row (and_at row k)) (named_in row (because_at row k)) (fact_in row k) → Justified g v starts row k
  by_rule : 2 ≤ rule_at row k → Gives g v (rule_at row k) (named_in row (because_at row k)) (fact_in row k) → Justified g v starts row k

-- the whole sentence
pub record IsKeepRecord (g : Graph) (starts : List Fact) (row : List ℕ) : Type 1 where
  pub six_each : length row % 6 ≡ 0
  pub in_form_holds : (k : ℕ) → k < length row / 6 → LineInForm g row k
  pub no_fact_twice : (i k : ℕ) → i < k → k < length row / 6 → fact_in row i ≡ fact_in row k → ⊥
  pub justified : (k : ℕ) → k < length row / 6 → Justified g (last_verdicts g) starts row k
  pub smallest : SmallestByRules g starts (HasLine (lines_of (length row / 6) row))
