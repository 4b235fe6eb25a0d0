-- The numbers and places of refusals (docs/OPERATIONS.md, "Answers and refusals").
use Rattle.std.specs.Prelude.{ℕ}
use Rattle.refusal.specs.declared.Refusal.{Refusal}
use Rattle.refusal.specs.declared.Refusal.TheVariants.{NoNumber, OverLimit, OutOfRange, WrongLength, NoRoom, Unjustified}

abbrev pub number_of : Refusal → ℕ
number_of (NoNumber place) = 1
number_of (OverLimit place) = 2
number_of (OutOfRange place) = 3
number_of (WrongLength place) = 4
number_of NoRoom = 5
number_of (Unjustified place) = 6

abbrev pub place_of : Refusal → ℕ
place_of (NoNumber place) = place
place_of (OverLimit place) = place
place_of (OutOfRange place) = place
place_of (WrongLength place) = place
place_of NoRoom = 0
place_of (Unjustified place) = place
