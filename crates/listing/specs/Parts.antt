-- Parts of the listing, over the rows that they show.
use Rattle.std.specs.Prelude.{ℕ, ◌+◌, List, [], ◌∷◌}
use Rattle.bit_row.specs.Row.{bit_at}
use Rattle.listing.specs.Text.{line, only_if}
use Rattle.listing.specs.Listing.{Shown, shown}

-- an answer of which only some rows count
abbrev pub of_entries : List ℕ → Shown
of_entries entries = shown 0 0 [] entries [] [] [] [] [] [] [] []

abbrev pub of_modules : List ℕ → List ℕ → List ℕ → List ℕ → Shown
of_modules verdicts modules reason helpers = shown 0 0 verdicts [] modules [] [] [] [] reason [] helpers

abbrev pub of_statements : List ℕ → Shown
of_statements statements = shown 0 0 [] [] [] statements [] [] [] [] [] []

abbrev pub of_json : List ℕ → Shown
of_json json = shown 0 0 [] [] [] [] [] [] json [] [] []

abbrev pub of_dead : List ℕ → Shown
of_dead dead = shown 0 0 [] [] [] [] [] [] [] [] dead []

-- `WORD MODULE INDEX`, if the bit that many behind a module's first is set
unfoldable pub pair_text : List ℕ → List ℕ → ℕ → ℕ → ℕ → List ℕ
pair_text word row first m i = only_if (bit_at row (first + i)) (line word (m ∷ i ∷ []))
