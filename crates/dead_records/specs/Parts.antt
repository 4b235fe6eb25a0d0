-- What the code's parts take and leave.
use Rattle.std.specs.Prelude.{ℕ, ◌+◌, ◌*◌, ◌-◌, ◌<◌, ◌≤◌, ◌≡◌, Bool, not, ◌&&◌, List, eqb, length, get_or}
use Rattle.determine_side_effects.specs.graph_crate.Check.{Graph}
use Rattle.determine_side_effects.specs.graph_access_crate.Words.{statement_list, tabulate}
use Rattle.determine_side_effects.specs.facts_crate.declared.Fact.{Fact}
use Rattle.determine_side_effects.specs.facts_crate.Facts.{mark_of, mark_count, statement_fact}
use Rattle.keep_record.specs.declared.Line.{Line}
use Rattle.keep_record.specs.Lines.{elem, marks_of}
use Rattle.keep_record.specs.Held.{line_at, Held}
use Rattle.marked.specs.Marked.{marked}
use Rattle.entry_order.specs.Plan.{cycled_at, plan_size}
use Rattle.dynamic_entries.specs.Sorted.{on_cycle}
use Rattle.dynamic_entries.specs.Alive.{records_before}

-- The scratch row: for each module the number of its first import record, then for each statement, in the order of the marks, 1 if it is late: only
-- the runtime stage keeps it.
abbrev pub HasFirsts : Graph → List ℕ → Type 0
HasFirsts g scratch = (m : ℕ) → m < g.header.modules → get_or scratch m 0 ≡ records_before g.modules m

unfoldable pub is_late : Graph → List ℕ → Fact → Bool
is_late g scratch f = eqb (get_or scratch (mark_of g f - g.header.modules) 0) 1

-- the lines from number `from` up to `to`
abbrev pub lines_between : ℕ → ℕ → List ℕ → List Line
lines_between from to row = tabulate (line_at row) from (to - from)

-- the words of the statements say which have one of these lines
abbrev pub HasLate : Graph → List Line → List ℕ → Type 0
HasLate g lines scratch =
    (m i : ℕ) → m < g.header.modules → i < length (statement_list g m) → is_late g scratch (statement_fact m i) ≡ elem (mark_of g (statement_fact m i)) (marks_of g lines)

-- kept before the runtime stage: marked, and not late
unfoldable pub kept_before : Graph → List ℕ → List ℕ → Fact → Bool
kept_before g marks scratch f = marked g marks f && not (is_late g scratch f)

-- the words fit in, and the marks are all there
pub record WordsFit (g : Graph) (marks scratch : List ℕ) : Type 0 where
  pub words : g.header.modules + g.header.statements ≤ length scratch
  pub wide : mark_count g ≤ 8 * length marks

-- the plan's words of cycles
abbrev pub HasCycles : Graph → List ℕ → Type 0
HasCycles g plan = (m : ℕ) → m < g.header.modules → eqb (get_or plan (cycled_at g.header + m) 0) 1 ≡ on_cycle g m

-- After both stages: a plan with its cycles, and marks and record that hold `count` lines, the first `main` of them of the main stage.
pub record AfterStages (g : Graph) (plan marks row : List ℕ) (main count : ℕ) : Type 0 where
  pub long : plan_size g.header ≤ length plan
  pub cycles : HasCycles g plan
  pub held : Held g main marks row count
