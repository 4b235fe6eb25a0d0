-- A segment by its place among five.
use Prim.Native.Nat.{ℕ, zero, suc, ◌<◌}
use mathlib.Core.Path.{◌≡◌, refl, ap}
use native.Mathlib.Omega.{arith}
use Rattle.keep_rules.specs.Rules.{Segment}

-- a candidate of the segment
pub place_in : {q r : Segment} (k : ℕ) → q ≡ r → k < r.count → k < q.count
place_in k e h = omega (arith, h, ap (λ (x : Segment). x.count) e)

pub counted : {q r : Segment} → q ≡ r → q.count ≡ r.count
counted e = ap (λ (x : Segment). x.count) e

pub picked : {q r : Segment} (k : ℕ) → q ≡ r → q.candidate k ≡ r.candidate k
picked k e = ap (λ (x : Segment). x.candidate k) e

-- the last of five
pub last : (j : ℕ) → j < 5 → (j ≡ 0 → ⊥) → (j ≡ 1 → ⊥) → (j ≡ 2 → ⊥) → (j ≡ 3 → ⊥) → j ≡ 4
last zero l a b c d = absurd (a refl)
last (suc zero) l a b c d = absurd (b refl)
last (suc (suc zero)) l a b c d = absurd (c refl)
last (suc (suc (suc zero))) l a b c d = absurd (d refl)
last (suc (suc (suc (suc j)))) l a b c d = omega (arith, l)
