-- A graph with a circle, and with each count at its least: one module, which is the runtime and has effects, one statement and one symbol, its namespace;
-- no entry. The symbol is an alias of export 1 of itself: a CommonJS namespace of its own module, whose export 1 it is. So a use of it gives a use of it,
-- by K11. The runtime stage includes the module, and K5 uses the symbol. examples/circle.graph is this graph.
use Rattle.std.specs.Prelude.{ℕ, ◌≡◌, List, [], ◌∷◌}
use Rattle.determine_side_effects.specs.graph_crate.Check.{graph_in, check_of, answer_of}
use Rattle.rust_run.specs.IncludeStatements.{Outcome, Returns}
use Rattle.rust_returns.specs.Circle.{Circle}
use Rattle.std.specs.Prelude.{Ok}

abbrev pub circle : List ℕ
circle =
    0 ∷ 0 ∷ 1 ∷ 1 ∷ 1 ∷ 0 ∷ 0
    ∷ 1 ∷ 1 ∷ 0 ∷ 0 ∷ 0 ∷ 0 ∷ 0 ∷ 1 ∷ 0 ∷ 1 ∷ 1 ∷ 1 ∷ 0 ∷ 0 ∷ 0 ∷ 0 ∷ 0 ∷ 1 ∷ 0 ∷ 1 ∷ 1 ∷ 0 ∷ 0 ∷ 1 ∷ 0 ∷ 0 ∷ 0 ∷ 0
    ∷ 0 ∷ 0 ∷ 0 ∷ 1 ∷ 1 ∷ 0 ∷ 0 ∷ 0 ∷ 0
    ∷ 0 ∷ 0 ∷ 0 ∷ []

-- it is accepted, it has a circle, and the relation leads to no outcome
pub record NeverReturns (numbers : List ℕ) : Type 0 where
  pub accepted : answer_of (check_of numbers) ≡ Ok tt
  pub circles : Circle (graph_in numbers)
  pub no_outcome : (o : Outcome) → Returns (graph_in numbers) o → ⊥
