-- Choices by a test whose one case is another term for the same.
use mathlib.Core.Path.{◌≡◌, refl}
use mathlib.Core.Bool.{Bool, true, false}

pub same_first : {A : Type 0} (b : Bool) (x y z : A) → x ≡ y → ◌≡◌ {A = A} (elim b [ true ↦ x | false ↦ z ]) (elim b [ true ↦ y | false ↦ z ])
same_first true x y z e = e
same_first false x y z e = refl

pub same_second : {A : Type 0} (b : Bool) (x y z : A) → x ≡ y → ◌≡◌ {A = A} (elim b [ true ↦ z | false ↦ x ]) (elim b [ true ↦ z | false ↦ y ])
same_second true x y z e = refl
same_second false x y z e = e
