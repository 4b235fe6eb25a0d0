-- What the private functions of the reader answer.
use Rattle.std.specs.Prelude.{ℕ, ◌+◌, Bool, true, false, List, length, Option, Some, None}
use Rattle.leb128.specs.Groups.{value, groups, good}
use Rattle.leb128.specs.Read.{Decoded, all, refused}

-- x, with the place p behind it, if that is good, else no number
unfoldable pub told : Bool → ℕ → ℕ → Option (ℕ × ℕ)
told true x p = Some (x, p)
told false x p = None

-- the number that the bytes xs begin with, the first of which stands at `at`: its value, and the place behind its groups
unfoldable pub number_of : ℕ → List ℕ → Option (ℕ × ℕ)
number_of at xs = told (good (groups xs)) (value (groups xs)) (at + length (groups xs))

-- nothing was refused
unfoldable pub accepted : Decoded → Bool
accepted (all xs) = true
accepted (refused why) = false
