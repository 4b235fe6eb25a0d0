-- A circle: uses among a run's lines each of which gives another of them, by the alias (K11) or the wrapper (K12). The Rust remembers no use, so it does
-- not return where one is reached; the theorems in proofs/ say that it returns on every other graph.
use Rattle.std.specs.Prelude.{ℕ, ◌≡◌, ◌⊎◌, ◌↔◌, List}
use Rattle.determine_side_effects.specs.graph_crate.Check.{Graph, graph_in, check_of, answer_of}
use Rattle.determine_side_effects.specs.facts_crate.Facts.{use_fact}
use Rattle.determine_side_effects.specs.Effects.{last_verdicts}
use Rattle.run_rows.specs.Run.{run_of}
use Rattle.closed_choices.specs.Choice.{Choice, HasLine}
use Rattle.rule_relation.specs.Relation.{Gives}
use Rattle.rust_values.specs.Values.{Pair, In}
use Rattle.rust_run.specs.IncludeStatements.{Outcome, Returns}
use Rattle.rust_run.specs.Agreement.{AsRust, Agrees}
use Rattle.rust_returns.specs.Following.{Choosing, Follows}
use Rattle.std.specs.Prelude.{Ok}

-- the use of s for reason x gives the use of t for reason y; no other rule gives a use from a use
pub data GivesUse (g : Graph) (s x t y : ℕ) : Type 0 where
  by_alias : Gives g (last_verdicts g) 11 (use_fact s x) (use_fact t y) → GivesUse g s x t y
  by_wrapper : Gives g (last_verdicts g) 12 (use_fact s x) (use_fact t y) → GivesUse g s x t y

-- uses of a choice, not none, each of which gives one of them
pub record CircleIn (g : Graph) (C : Choice) : Type 0 where
  pub uses : List Pair
  pub one : Pair
  pub is_in : In one uses
  pub chosen : (p : Pair) → In p uses → C (use_fact p.first p.second)
  pub leads_on : (p : Pair) → In p uses → (q : Pair) × In q uses × GivesUse g p.first p.second q.first q.second

-- among the lines of the run
abbrev pub Circle : Graph → Type 0
Circle g = CircleIn g (HasLine (run_of g).lines)

-- There are choices for every accepted graph, so what is said for each of them is said of some.
abbrev pub HasChoices : Type 0
HasChoices = (numbers : List ℕ) → answer_of (check_of numbers) ≡ Ok tt → Choosing (graph_in numbers)

-- the Rust returns, whatever the hash orders and the components
abbrev pub ReturnsBy : Graph → Type 0
ReturnsBy g = (ch : Choosing g) → (o : Outcome) × (r : Returns g o) × Follows g ch o r

-- On every accepted graph it does so, or there is a circle. A run whose options ask for more rounds has more lines, and a circle may be among those alone.
abbrev pub ReturnsUnlessCircles : Type 0
ReturnsUnlessCircles = (numbers : List ℕ) → answer_of (check_of numbers) ≡ Ok tt → AsRust (graph_in numbers) → ReturnsBy (graph_in numbers) ⊎ Circle (graph_in numbers)

-- and where there is one, it returns by none
abbrev pub NeverOnCircles : Type 0
NeverOnCircles =
    (numbers : List ℕ) → answer_of (check_of numbers) ≡ Ok tt → AsRust (graph_in numbers) → Circle (graph_in numbers) → (o : Outcome) → Returns (graph_in numbers) o → ⊥

-- so it returns exactly where there is none
abbrev pub ReturnsExactly : Type 0
ReturnsExactly =
    (numbers : List ℕ) → answer_of (check_of numbers) ≡ Ok tt → AsRust (graph_in numbers) → ((o : Outcome) × Returns (graph_in numbers) o) ↔ (Circle (graph_in numbers) → ⊥)

-- with T11: without a circle the Rust returns, whatever the orders, and its outcome is the run's
abbrev pub ReturnsAndAgrees : Type 0
ReturnsAndAgrees =
    (numbers : List ℕ) → answer_of (check_of numbers) ≡ Ok tt → AsRust (graph_in numbers) → (Circle (graph_in numbers) → ⊥) → (ch : Choosing (graph_in numbers))
    → (o : Outcome) × (r : Returns (graph_in numbers) o) × Follows (graph_in numbers) ch o r × Agrees (graph_in numbers) o (run_of (graph_in numbers))
