-- The keep record: lines, how numbers hold them, and how a new fact gets its line (docs/OPERATIONS.md, Record).
use Rattle.std.specs.Prelude.{ℕ, zero, suc, Bool, true, false, ◌||◌, List, [], ◌∷◌, ◌++◌, map, eqb}
use Rattle.facts.specs.graph_crate.Check.{Graph}
use Rattle.facts.specs.declared.Fact.{Fact}
use Rattle.facts.specs.declared.Fact.TheVariants.{Module, Statement, Use, CheckedUse, Forward, Bailout}
use Rattle.facts.specs.Facts.{kind_of, first_part, second_part, mark_of}
use Rattle.keep_record.specs.declared.Line.{Line}

-- a line's six numbers, and those of lines one behind another
unfoldable pub numbers_of : Line → List ℕ
numbers_of l = kind_of l.fact ∷ first_part l.fact ∷ second_part l.fact ∷ l.rule ∷ l.because ∷ l.and ∷ []

unfoldable pub written : List Line → List ℕ
written [] = []
written (l ∷ ls) = numbers_of l ++ written ls

-- whether a list has a number
unfoldable pub elem : ℕ → List ℕ → Bool
elem x [] = false
elem x (y ∷ ys) = eqb x y || elem x ys

-- the marks of the lines' facts
unfoldable pub marks_of : Graph → List Line → List ℕ
marks_of g lines = map (λ l. mark_of g l.fact) lines

-- A record may go on behind the lines of an earlier stage, its base (docs/RULES.md, Step 6). Of the base's facts the modules and the
-- statements stay.
abbrev pub stays : Fact → Bool
stays (Module m) = true
stays (Statement m i) = true
stays (Use s x) = false
stays (CheckedUse s x) = false
stays (Forward s) = false
stays (Bailout m) = false

-- the marks of a stage whose base is the first `base` lines; with no base those of all lines
unfoldable pub marks_from : Graph → ℕ → List Line → List ℕ
marks_from g zero lines = marks_of g lines
marks_from g (suc base) [] = []
marks_from g (suc base) (l ∷ ls) = elim (stays l.fact) [ true ↦ mark_of g l.fact ∷ marks_from g base ls | false ↦ marks_from g base ls ]

-- whether a fact is there: it has a line of this stage, or the base has it and it stays (`mark_injective` in `facts`: facts with one mark
-- are one fact)
unfoldable pub has : Graph → ℕ → List Line → Fact → Bool
has g base lines f = elem (mark_of g f) (marks_from g base lines)

-- a further line, unless its fact is there, so that no fact has two lines in a stage, and a module or statement of the base has none; several
-- lines in turn
unfoldable pub added : Graph → ℕ → List Line → Line → List Line
added g base lines l = elim (has g base lines l.fact) [ true ↦ lines | false ↦ lines ++ (l ∷ []) ]

unfoldable pub adds : Graph → ℕ → List Line → List Line → List Line
adds g base lines [] = lines
adds g base lines (l ∷ ls) = adds g base (added g base lines l) ls
