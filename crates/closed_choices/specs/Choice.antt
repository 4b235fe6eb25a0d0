-- A choice is a set of facts. It is closed if every fact that a rule gives from its facts, by the last verdicts, is in it (docs/RULES.md,
-- Keep rules).
use Rattle.std.specs.Prelude.{ℕ, ◌*◌, ◌<◌, ◌≡◌, true, List, [], length, get_or, drop}
use Rattle.bit_row.specs.Row.{bit_at}
use Rattle.determine_side_effects.specs.graph_crate.Check.{Graph}
use Rattle.determine_side_effects.specs.graph_access_crate.Names.{owner, declaring_statements, only}
use Rattle.determine_side_effects.specs.facts_crate.declared.Fact.{Fact}
use Rattle.determine_side_effects.specs.facts_crate.Facts.{module_fact, statement_fact, forward_fact}
use Rattle.determine_side_effects.specs.graph_access_crate.Words.{symbol_of}
use Rattle.determine_side_effects.specs.Effects.{last_verdicts}
use Rattle.keep_rules.specs.Rules.{Given, gives}
use Rattle.keep_record.specs.declared.Line.{Line}
use Rattle.keep_record.specs.Lines.{elem}
use Rattle.worklist.specs.Drain.{fact_at}
use Rattle.answer_rows.specs.declared.Row.{Row}
use Rattle.answer_rows.specs.Shown.{shows, row_bytes}

-- a choice: any predicate on facts
abbrev pub Choice : Type 1
Choice = Fact → Type 0

unfoldable pub nothing_given : Given
nothing_given = record { rule = 0; fact = module_fact 0 }

-- K1 joins a module and a forward that it owns; K2 to K14 go from one fact
pub record Closed (g : Graph) (C : Choice) : Type 0 where
  pub by_K1 : (m s i : ℕ) → C (module_fact m) → C (forward_fact s) → owner (symbol_of g s) ≡ m → i < length (declaring_statements (symbol_of g s))
      → C (statement_fact m (only (get_or (declaring_statements (symbol_of g s)) i [])))
  pub by_K2_to_K14 : (f : Fact) (k : ℕ) → C f → k < length (gives g (last_verdicts g) f) → C (get_or (gives g (last_verdicts g) f) k nothing_given).fact

-- it holds each of the starts
abbrev pub HoldsStarts : List Fact → Choice → Type 0
HoldsStarts starts C = (i : ℕ) → i < length starts → C (get_or starts i (module_fact 0))

-- closed, with the starts, and inside every other that is closed and holds them
pub record Smallest (g : Graph) (starts : List Fact) (C : Choice) : Type 1 where
  pub holds_starts : HoldsStarts starts C
  pub closed : Closed g C
  pub inside_each : (D : Choice) → HoldsStarts starts D → Closed g D → (f : Fact) → C f → D f

-- the facts of lines
pub record HasLine (lines : List Line) (f : Fact) : Type 0 where
  pub number : ℕ
  pub inside : number < length lines
  pub is : fact_at lines number ≡ f

-- An answer row shows what facts give, and nothing else: bit j is set exactly if a fact of the choice shows it; behind the answer the
-- row is as lent.
pub record RowShows (g : Graph) (row : Row) (C : Choice) (lent after : List ℕ) : Type 0 where
  pub set-by : (j : ℕ) → j < 8 * row_bytes g row → bit_at after j ≡ true → (f : Fact) × C f × (elem j (shows g row f) ≡ true)
  pub sets : (j : ℕ) (f : Fact) → j < 8 * row_bytes g row → C f → elem j (shows g row f) ≡ true → bit_at after j ≡ true
  pub behind : drop (row_bytes g row) after ≡ drop (row_bytes g row) lent
