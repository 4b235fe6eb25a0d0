-- Whether a fact is kept, by its mark.
use Rattle.std.specs.Prelude.{ℕ, Bool, List}
use Rattle.bit_row.specs.Row.{bit_at}
use Rattle.facts.specs.graph_crate.Check.{Graph}
use Rattle.facts.specs.declared.Fact.{Fact}
use Rattle.facts.specs.Facts.{mark_of}

unfoldable pub marked : Graph → List ℕ → Fact → Bool
marked g marks f = bit_at marks (mark_of g f)
