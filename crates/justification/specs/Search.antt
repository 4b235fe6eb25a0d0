-- What the searches for a fact among the candidates of a rule find.
use Rattle.std.specs.Prelude.{ℕ, ◌+◌, ◌-◌, ◌<◌, ◌≤◌, ◌≡◌, Bool, true, false, List, [], length, get_or}
use Rattle.determine_side_effects.specs.graph_crate.Check.{graph_in}
use Rattle.determine_side_effects.specs.graph_access_crate.Names.{owner, declaring_statements, only}
use Rattle.determine_side_effects.specs.graph_access_crate.Words.{symbol_of}
use Rattle.determine_side_effects.specs.facts_crate.declared.Fact.{Fact}
use Rattle.determine_side_effects.specs.facts_crate.Facts.{statement_fact}
use Rattle.determine_side_effects.specs.Effects.{last_verdicts}
use Rattle.keep_rules.specs.declared.Candidate.{Candidate}
use Rattle.keep_rules.specs.declared.Candidate.TheVariants.{Gives, Nothing}
use Rattle.consequences.specs.declared.Cursor.{Cursor}
use Rattle.consequences.specs.Cursors.{segments_in, segment_in, Placed}
use Rattle.justification.specs.declared.Span.{Span}
use Rattle.justification.specs.Justify.{same_fact, follows, declares, joined_by, joined_by_either}
use Rattle.std.specs.Prelude.{Option, Some, None}

-- the candidate gives this fact
abbrev pub is_candidate : Fact → Candidate → Bool
is_candidate f (Gives e) = same_fact e f
is_candidate f Nothing = false

-- candidate i of segment j of the premise gives the fact
unfoldable pub gives_at : List ℕ → Fact → Fact → ℕ → ℕ → Bool
gives_at numbers premise f j i = is_candidate f ((segment_in numbers premise j).candidate i)

-- The one segment of a rule where the rules of `count` segments ascend one by one from `first`.
pub record SpanAt (rule first count : ℕ) (r : Span) : Type 0 where
  pub inside : r.to ≤ count
  pub of_rule : (j : ℕ) → r.from ≤ j → j < r.to → first + j ≡ rule
  pub no_other : (j : ℕ) → j < count → first + j ≡ rule → (r.from ≤ j) × (j < r.to)
  pub first_one : count ≤ 1 → r.from ≡ 0

-- The segments of a rule are those of the span; the first of them may be a reference's, which stands at its place.
pub record RuleSpan (numbers : List ℕ) (premise : Fact) (rule : ℕ) (r : Span) : Type 0 where
  pub inside : r.to ≤ length (segments_in numbers premise)
  pub of_rule : (j : ℕ) → r.from ≤ j → j < r.to → (segment_in numbers premise j).rule ≡ rule
  pub no_other : (j : ℕ) → j < length (segments_in numbers premise) → (segment_in numbers premise j).rule ≡ rule → (r.from ≤ j) × (j < r.to)
  pub placed : Placed numbers premise r.from r.place

-- The search through segment j from candidate k on: the fact is found there, or is nowhere.
pub record SegmentSearched (numbers : List ℕ) (premise f : Fact) (j k : ℕ) (r : Option ℕ) : Type 0 where
  pub at : (i : ℕ) → r ≡ Some i → (k ≤ i) × (i < (segment_in numbers premise j).count) × (gives_at numbers premise f j i ≡ true)
  pub fits : (i : ℕ) → r ≡ Some i → i < 18446744073709551615
  pub nowhere : r ≡ None → (i : ℕ) → k ≤ i → i < (segment_in numbers premise j).count → gives_at numbers premise f j i ≡ false

-- The search through the segments from the cursor on, up to `to`: a cursor right behind the candidate that gives the fact, or none does.
pub record SpanSearched (numbers : List ℕ) (premise f : Fact) (c : Cursor) (to : ℕ) (r : Option Cursor) : Type 0 where
  pub segment_found : (d : Cursor) → r ≡ Some d → (c.segment ≤ d.segment) × (d.segment < to)
  pub candidate_found : (d : Cursor) → r ≡ Some d
      → (0 < d.index) × (d.index ≤ (segment_in numbers premise d.segment).count) × (gives_at numbers premise f d.segment (d.index - 1) ≡ true)
  pub placed : (d : Cursor) → r ≡ Some d → Placed numbers premise d.segment d.place
  pub absent : r ≡ None → (j i : ℕ) → c.segment ≤ j → j < to → (j ≡ c.segment → c.index ≤ i) → i < (segment_in numbers premise j).count
      → gives_at numbers premise f j i ≡ false

-- The search for a justification by K2 to K14: one is found, with a cursor to go on from, exactly if the rule gives the fact.
pub record Followed (numbers : List ℕ) (premise : Fact) (rule : ℕ) (f : Fact) (r : Option Cursor) : Type 0 where
  pub found : (d : Cursor) → r ≡ Some d → follows (graph_in numbers) (last_verdicts (graph_in numbers)) premise rule f ≡ true
  pub placed : (d : Cursor) → r ≡ Some d → Placed numbers premise d.segment d.place
  pub absent : r ≡ None → follows (graph_in numbers) (last_verdicts (graph_in numbers)) premise rule f ≡ false

-- The search through the declaring statements of symbol s from number k on.
pub record DeclaringSearched (numbers : List ℕ) (s : ℕ) (f : Fact) (k : ℕ) (r : Option ℕ) : Type 0 where
  pub at : (i : ℕ) → r ≡ Some i → declares (graph_in numbers) s f ≡ true
  pub nowhere : r ≡ None → (i : ℕ) → k ≤ i → i < length (declaring_statements (symbol_of (graph_in numbers) s))
      → same_fact (statement_fact (owner (symbol_of (graph_in numbers) s)) (only (get_or (declaring_statements (symbol_of (graph_in numbers) s)) i []))) f ≡ false

pub record Declared (numbers : List ℕ) (s : ℕ) (f : Fact) (r : Option ℕ) : Type 0 where
  pub at : (i : ℕ) → r ≡ Some i → declares (graph_in numbers) s f ≡ true
  pub nowhere : r ≡ None → declares (graph_in numbers) s f ≡ false

-- The search for a justification by K1, for a module and a forward in this order, and in either.
pub record JoinedOne (numbers : List ℕ) (a b f : Fact) (r : Option ℕ) : Type 0 where
  pub at : (i : ℕ) → r ≡ Some i → joined_by (graph_in numbers) a b f ≡ true
  pub nowhere : r ≡ None → joined_by (graph_in numbers) a b f ≡ false

pub record Joined (numbers : List ℕ) (a b f : Fact) (r : Option ℕ) : Type 0 where
  pub at : (i : ℕ) → r ≡ Some i → joined_by_either (graph_in numbers) a b f ≡ true
  pub nowhere : r ≡ None → joined_by_either (graph_in numbers) a b f ≡ false
