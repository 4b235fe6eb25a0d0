-- A depth-first walk: each node is entered once, its successors are walked in order, and then it is completed.
use Rattle.std.specs.Prelude.{ℕ, zero, suc, Bool, true, false, ◌||◌, List, [], ◌∷◌, eqb}

-- which nodes were entered, and those that were completed, the last first
pub record Search : Type 0 where
  pub seen : ℕ → Bool
  pub done : List ℕ

unfoldable pub none : ℕ → Bool
none x = false

-- one more
unfoldable pub with : ℕ → (ℕ → Bool) → ℕ → Bool
with t f x = eqb x t || f x

abbrev pub nowhere : Search
nowhere = record { seen = none; done = [] }

abbrev pub entered : ℕ → Search → Search
entered t s = record { seen = with t s.seen; done = s.done }

abbrev pub completed : ℕ → Search → Search
completed t s = record { seen = s.seen; done = t ∷ s.done }

unfoldable pub each : (ℕ → Search → Search) → List ℕ → Search → Search
each step [] s = s
each step (u ∷ us) s = each step us (step u s)

-- at most `fuel` deep: as many as there are nodes suffice (`walk_is` in proofs/Walks.antt)
unfoldable pub walk : (ℕ → List ℕ) → ℕ → ℕ → Search → Search
walk g zero t s = s
walk g (suc fuel) t s =
    elim (s.seen t) [ true ↦ s | false ↦ completed t (each (λ u q. walk g fuel u q) (g t) (entered t s)) ]

-- the nodes as the walk from all the roots, in turn, completes them, the last first
unfoldable pub finished : (ℕ → List ℕ) → ℕ → List ℕ → List ℕ
finished g fuel roots = (each (λ u q. walk g fuel u q) roots nowhere).done
