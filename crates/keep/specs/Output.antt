-- What the program prints of a text at once (docs/OPERATIONS.md, Program keep).
use Rattle.std.specs.Prelude.{ℕ, ◌+◌, ◌≤◌, ◌<◌, ◌≡◌, List, length, take, drop}
use Rattle.keep.specs.declared.Part.{Part}
use Rattle.keep.specs.declared.Part.TheVariants.{Next, Last}

-- What a row holds of a text behind its first `skip` bytes: all that is left, or as much as fills the row, and then more is left.
abbrev pub PartOf : List ℕ → ℕ → List ℕ → Part → Type 0
PartOf text skip out (Last n) = (n ≤ length out) × (take n out ≡ drop skip text)
PartOf text skip out (Next next) = (next ≡ skip + length out) × (next < length text) × (out ≡ take (length out) (drop skip text))
