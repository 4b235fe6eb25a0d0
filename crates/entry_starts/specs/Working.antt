-- The rows of the work before and after some facts are started.
use Rattle.std.specs.Prelude.{ℕ, List}
use Rattle.determine_side_effects.specs.graph_crate.Check.{Graph}
use Rattle.determine_side_effects.specs.facts_crate.declared.Fact.{Fact}
use Rattle.determine_side_effects.specs.Effects.{last_verdicts}
use Rattle.keep_record.specs.declared.Line.{Line}
use Rattle.keep_record.specs.Held.{lines_of, Held, Grown}
use Rattle.worklist.specs.Drain.{drained_all}
use Rattle.worklist.specs.Links.{Linked, AllLinked}
use Rattle.std.specs.Prelude.{Result}
use Rattle.keep_record.specs.declared.Full.{Full}

-- marks, record and the table of K1's partners hold `count` lines, the first `base` of them of an earlier stage
pub record Working (g : Graph) (base : ℕ) (partners marks row : List ℕ) (count : ℕ) : Type 0 where
  pub held : Held g base marks row count
  pub linked : Linked g base partners (lines_of count row)

-- The facts were started over the lines `before`, each with all that follows from it: the rows hold what the definition gives, or it is too
-- much for the record.
pub record Started (g : Graph) (base : ℕ) (facts : List Fact) (before : List Line) (partners marks row : List ℕ) (r : Result ℕ Full) : Type 0 where
  pub grown : Grown g base (drained_all g (last_verdicts g) base facts before) marks row r
  pub linked : AllLinked g base partners row r
