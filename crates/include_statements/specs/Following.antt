-- Lines that follow from line k and name it alone: those of a rule's candidate, and those of segments in their order (docs/RULES.md, K2 to K14).
use Rattle.std.specs.Prelude.{ℕ, ◌+◌, List, [], ◌∷◌, map}
use Rattle.keep_rules.specs.declared.Candidate.{Candidate}
use Rattle.keep_rules.specs.declared.Candidate.TheVariants.{Gives, Nothing}
use Rattle.keep_rules.specs.Rules.{Segment, Given, given_by}
use Rattle.keep_record.specs.declared.Line.{Line}

-- the line that names line k alone (docs/OPERATIONS.md, Record)
unfoldable pub line_by : ℕ → Given → Line
line_by k x = record { fact = x.fact; rule = x.rule; because = k + 1; and = 0 }

-- what a candidate of a rule adds, before it is looked whether its fact is there: a line or none (docs/RULES.md, K2 to K14)
unfoldable pub candidate_lines : ℕ → ℕ → Candidate → List Line
candidate_lines k rule (Gives f) = line_by k (record { rule = rule; fact = f }) ∷ []
candidate_lines k rule Nothing = []

-- the same of all candidates of segments (docs/RULES.md, K2 to K14, each rule's order)
unfoldable pub lines_by : ℕ → List Segment → List Line
lines_by k ss = map (line_by k) (given_by ss 0)
