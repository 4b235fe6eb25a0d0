-- What the steps of judging lines take and leave.
use Rattle.std.specs.Prelude.{ℕ, ◌+◌, ◌/◌, ◌<◌, ◌≡◌, true, false, List, map, length}
use Rattle.determine_side_effects.specs.graph_crate.Check.{Graph, graph_in}
use Rattle.determine_side_effects.specs.Effects.{last_verdicts}
use Rattle.determine_side_effects.specs.facts_crate.declared.Fact.{Fact}
use Rattle.keep_record.specs.declared.Line.{Line}
use Rattle.keep_record.specs.Held.{lines_of}
use Rattle.fact_marks.specs.Marks.{Marks}
use Rattle.consequences.specs.declared.Cursor.{Cursor}
use Rattle.consequences.specs.Cursors.{Placed}
use Rattle.line_judgement.specs.declared.Trail.{Trail}
use Rattle.line_judgement.specs.Stand.{named, is_justified, stands}
use Rattle.std.specs.Prelude.{Option, Some, None}

-- the facts of lines
abbrev pub facts_of : List Line → List Fact
facts_of lines = map (λ l. l.fact) lines

-- Where the last search ended: its cursor may be taken up again for the premise that the line named. With rule 0 there was none.
pub record Trails (numbers row : List ℕ) (t : Trail) : Type 0 where
  pub placed : (t.rule ≡ 0 → ⊥) → Placed numbers (named row t.because) t.segment t.place

-- the first k lines all stand
abbrev pub AllStand : Graph → List Fact → List ℕ → ℕ → Type 0
AllStand g starts row k = (i : ℕ) → i < k → stands g (last_verdicts g) starts row i ≡ true

-- the cursor is the trail's, if that is of this rule and these names, and else at the begin
pub record Begins (numbers : List ℕ) (t : Trail) (rule because and : ℕ) (c : Cursor) : Type 0 where
  pub placed : (row : List ℕ) → Trails numbers row t → (rule ≡ 0 → ⊥) → Placed numbers (named row because) c.segment c.place

-- line k is justified or not
pub record Justifies (numbers : List ℕ) (starts : List Fact) (row : List ℕ) (k : ℕ) (r : Option Trail) : Type 0 where
  pub good : (t : Trail) → r ≡ Some t → is_justified (graph_in numbers) (last_verdicts (graph_in numbers)) starts row k ≡ true
  pub trails : (t : Trail) → r ≡ Some t → Trails numbers row t
  pub bad : r ≡ None → is_justified (graph_in numbers) (last_verdicts (graph_in numbers)) starts row k ≡ false

-- line k stands, and is marked, or does not
pub record JudgesLine (numbers : List ℕ) (starts : List Fact) (row marks : List ℕ) (k : ℕ) (r : Option Trail) : Type 0 where
  pub good : (t : Trail) → r ≡ Some t → stands (graph_in numbers) (last_verdicts (graph_in numbers)) starts row k ≡ true
  pub trails : (t : Trail) → r ≡ Some t → Trails numbers row t
  pub marks_are : (t : Trail) → r ≡ Some t → Marks (graph_in numbers) (facts_of (lines_of (k + 1) row)) marks
  pub bad : r ≡ None → stands (graph_in numbers) (last_verdicts (graph_in numbers)) starts row k ≡ false

-- where no line is bad, all stand and are marked
pub record JudgesLines (g : Graph) (starts : List Fact) (row marks : List ℕ) (first : ℕ) : Type 0 where
  pub all_stand : first ≡ length row / 6 → AllStand g starts row (length row / 6)
  pub marks_are : first ≡ length row / 6 → Marks g (facts_of (lines_of (length row / 6) row)) marks
