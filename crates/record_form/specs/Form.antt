-- Whether the six numbers of a line are in form (docs/OPERATIONS.md, Record): a fact's kind and parts, a rule, two names of earlier lines, and 0
-- where one is not used.
use Rattle.std.specs.Prelude.{ℕ, ◌+◌, ◌*◌, Bool, true, false, ◌&&◌, List, eqb, ltb, leb, get_or}
use Rattle.determine_side_effects.specs.graph_crate.Check.{Graph}
use Rattle.starts.specs.Starts.{start_fault}

-- a fact's numbers: those of a start, or of a forward
unfoldable pub parts_fit : Graph → ℕ → ℕ → ℕ → Bool
parts_fit g kind a b =
    elim (eqb kind 5) [ true ↦ ltb a g.header.symbols && eqb b 0 | false ↦ eqb (start_fault g kind a b) 0 ]

-- 1 more than the number of a line before line k
unfoldable pub is_earlier : ℕ → ℕ → Bool
is_earlier k n = ltb 0 n && leb n k

-- line k's names: none for a start, two for K1, one for every other rule
unfoldable pub names_fit : ℕ → ℕ → ℕ → ℕ → Bool
names_fit k rule a b =
    elim (eqb rule 0) [
      | true ↦ eqb a 0 && eqb b 0
      | false ↦ is_earlier k a && elim (eqb rule 1) [ true ↦ is_earlier k b | false ↦ eqb b 0 ]
    ]

unfoldable pub in_form : Graph → List ℕ → ℕ → Bool
in_form g row k =
    parts_fit g (get_or row (6 * k) 0) (get_or row (6 * k + 1) 0) (get_or row (6 * k + 2) 0)
    && (ltb (get_or row (6 * k + 3) 0) 15 && names_fit k (get_or row (6 * k + 3) 0) (get_or row (6 * k + 4) 0) (get_or row (6 * k + 5) 0))
