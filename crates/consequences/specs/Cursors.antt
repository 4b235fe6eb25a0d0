-- How the code walks through the consequences of a fact.
use Rattle.std.specs.Prelude.{ℕ, suc, ◌≡◌, List, get_or, drop}
use Rattle.determine_side_effects.specs.graph_crate.Check.{graph_in}
use Rattle.determine_side_effects.specs.graph_access_crate.Names.{references}
use Rattle.determine_side_effects.specs.graph_access_crate.References.{ReferencesAt}
use Rattle.determine_side_effects.specs.index_crate.declared.ModuleIdx.{ModuleIdx}
use Rattle.determine_side_effects.specs.index_crate.declared.StmtIdx.{StmtIdx}
use Rattle.determine_side_effects.specs.facts_crate.declared.Fact.{Fact}
use Rattle.determine_side_effects.specs.facts_crate.declared.Fact.TheVariants.{Statement}
use Rattle.determine_side_effects.specs.graph_access_crate.Words.{statement_of}
use Rattle.determine_side_effects.specs.Effects.{last_verdicts}
use Rattle.keep_rules.specs.Rules.{Segment, no_segment, segments_of, Given, given_by}

-- the segments of a fact of the graph that the numbers stand for, under its last verdicts
unfoldable pub segments_in : List ℕ → Fact → List Segment
segments_in numbers f = segments_of (graph_in numbers) (last_verdicts (graph_in numbers)) f

unfoldable pub segment_in : List ℕ → Fact → ℕ → Segment
segment_in numbers f j = get_or (segments_in numbers f) j no_segment

-- Segment j + 1 of a statement is that of its reference j: the reference and those behind it stand at `place`.
pub record Placed (numbers : List ℕ) (f : Fact) (j place : ℕ) : Type 0 where
  pub known : (m : ModuleIdx) (i : StmtIdx) (k : ℕ) → f ≡ Statement m i → j ≡ suc k
      → ReferencesAt numbers place (drop k (references (statement_of (graph_in numbers) m.0 i.0)))

-- what is left from a cursor on
unfoldable pub left : List ℕ → Fact → ℕ → ℕ → List Given
left numbers f j k = given_by (drop j (segments_in numbers f)) k
