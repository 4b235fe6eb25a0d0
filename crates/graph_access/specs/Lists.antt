-- Where the lists of an item stand.
use Rattle.std.specs.Prelude.{ℕ, zero, suc, ◌+◌, ◌*◌, ◌<◌, ◌≤◌, List, [], ◌∷◌, length, get_or}
use Rattle.graph.specs.rows_crate.Walk.{any}
use Rattle.graph.specs.graph_format_crate.declared.Header.{Header}

-- the place of list j, where the first stands at `at` and list i has rows of as many numbers as `widths` says
unfoldable pub place_of : List ℕ → ℕ → List ℕ → ℕ → ℕ
place_of numbers at widths zero = at
place_of numbers at [] (suc j) = at
place_of numbers at (w ∷ ws) (suc j) = place_of numbers (at + 1 + w * get_or numbers at 0) ws j

-- the lists up to list j, and list j's count, are inside the numbers
pub record Inside (numbers : List ℕ) (at : ℕ) (widths : List ℕ) (j : ℕ) : Type 0 where
  pub known : j < length widths
  pub counted : (i : ℕ) → i ≤ j → place_of numbers at widths i < length numbers

-- how many numbers a row of each of a module's lists has
unfoldable pub module_widths : List ℕ
module_widths = 3 ∷ 1 ∷ 1 ∷ 1 ∷ 1 ∷ 1 ∷ 3 ∷ 2 ∷ 2 ∷ 2 ∷ []

-- of a symbol's lists
unfoldable pub symbol_widths : List ℕ
symbol_widths = 1 ∷ 1 ∷ 1 ∷ []

-- The limits of the columns of a module's lists, where it has n statements; of a symbol's, where its owner has. docs/GRAPH.md.
unfoldable pub module_limits : Header → ℕ → List (List ℕ)
module_limits h n =
    ((h.modules + 1) ∷ 3 ∷ 4 ∷ [])
    ∷ (h.modules ∷ [])
    ∷ (h.symbols ∷ [])
    ∷ (h.symbols ∷ [])
    ∷ (h.symbols ∷ [])
    ∷ (h.symbols ∷ [])
    ∷ (any ∷ h.symbols ∷ 2 ∷ [])
    ∷ (h.symbols ∷ h.modules ∷ [])
    ∷ (any ∷ any ∷ [])
    ∷ (h.helpers ∷ n ∷ [])
    ∷ []

unfoldable pub symbol_limits : Header → ℕ → List (List ℕ)
symbol_limits h n = (h.symbols ∷ []) ∷ (n ∷ []) ∷ (n ∷ []) ∷ []
