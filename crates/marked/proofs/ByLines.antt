-- The marks of a record's lines say which facts have a line.
use Prim.Native.Nat.{ℕ}
use mathlib.Core.Path.{◌≡◌}
use mathlib.Core.Bool.{Bool}
use mathlib.Core.List.{List}
use Rattle.facts.specs.graph_crate.Check.{Graph}
use Rattle.facts.specs.declared.Fact.{Fact}
use Rattle.facts.specs.Facts.{mark_of}
use Rattle.keep_record.specs.Lines.{has}
use Rattle.keep_record.specs.Held.{lines_of, Held}
use Rattle.marked.specs.Marked.{marked}

pub marked_has : (g : Graph) (base : ℕ) (marks row : List ℕ) (count : ℕ) → Held g base marks row count → ◌≡◌ {A = Fact → Bool} (marked g marks) (has g base (lines_of count row))
unfolding marked has
marked_has g base marks row count h = λ i f. h.marked (mark_of g f) i
