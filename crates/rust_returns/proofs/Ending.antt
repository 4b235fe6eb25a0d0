-- Uses and contexts from which every way comes to an end, as inductive predicates.
use Prim.Native.Nat.{ℕ}
use mathlib.Core.Path.{◌≡◌}
use mathlib.Core.List.{List, ◌∷◌}
use Rattle.determine_side_effects.specs.graph_crate.Check.{Graph}
use Rattle.determine_side_effects.specs.Effects.{last_verdicts}
use Rattle.rust_engine.specs.Context.{Context, WorkItem, rest}
use Rattle.rust_engine.specs.Engine.{Orders, Reorders, handle}
use Rattle.rust_returns.specs.Circle.{GivesUse}

-- a use from which every way of uses, each given by the one before, comes to an end
pub data Ends (g : Graph) : ℕ → ℕ → Type 0 where
  ends : (s x : ℕ) → ((t y : ℕ) → GivesUse g s x t y → Ends g t y) → Ends g s x

-- a context from which the engine pops only finitely many items, whatever the hash orders
pub data Stops (g : Graph) : Context → Type 0 where
  stops : (c : Context)
      → ((i : WorkItem) (is : List WorkItem) (order : Orders) → Reorders order → c.pending ≡ i ∷ is → Stops g (handle g (last_verdicts g) order i (rest is c))) → Stops g c
