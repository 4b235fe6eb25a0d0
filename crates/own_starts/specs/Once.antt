-- Starts as triples, each once, where it stands first.
use Rattle.std.specs.Prelude.{ℕ, true, false, List, [], ◌∷◌, ◌++◌, map}
use Rattle.facts.specs.graph_crate.Check.{Graph}
use Rattle.facts.specs.declared.Fact.{Fact}
use Rattle.facts.specs.Facts.{kind_of, first_part, second_part, mark_of}
use Rattle.keep_record.specs.Lines.{elem}

-- one more start, unless it is there
unfoldable pub noted : Graph → List Fact → Fact → List Fact
noted g facts f = elim (elem (mark_of g f) (map (mark_of g) facts)) [ true ↦ facts | false ↦ facts ++ (f ∷ []) ]

-- several in turn
unfoldable pub notes : Graph → List Fact → List Fact → List Fact
notes g facts [] = facts
notes g facts (f ∷ fs) = notes g (noted g facts f) fs

unfoldable pub once : Graph → List Fact → List Fact
once g facts = notes g [] facts

-- starts as triples: each one's kind and two parts (docs/OPERATIONS.md, Starts)
unfoldable pub triples : List Fact → List ℕ
triples [] = []
triples (f ∷ fs) = kind_of f ∷ first_part f ∷ second_part f ∷ triples fs
