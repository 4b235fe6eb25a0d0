-- A row of up to three columns, and rows one behind another.
use Prim.Native.Nat.{ℕ, zero, suc}
use mathlib.Core.Path.{◌≡◌, refl, ◌∙◌}
use mathlib.Core.Logic.{◌≢◌}
use mathlib.Core.List.{List, [], ◌∷◌, map}
use lib.ListN.{take}
use Rattle.rows.specs.Walk.{value, below, number, cells, plain_row, walk_of, onward, columns_of}
use Rattle.rows.proofs.Walks.{cells_cons, onward_at, onward_fault}
use Rattle.std.specs.Prelude.{Result, Ok, Err}
use Rattle.refusal.specs.declared.Refusal.{Refusal}

-- one cell below a limit
abbrev cell : ℕ → List ℕ → ℕ → Result ℕ Refusal
cell l numbers at = walk_of (number (value 0 l) numbers at)

module _ (numbers seen : List ℕ) (a b c : ℕ) where
  abbrev ends : ℕ → ℕ → Result ℕ Refusal
  ends width at = walk_of (plain_row (columns_of width a b c) numbers seen at)

  -- the columns from the second on
  second : ℕ → ℕ → Result ℕ Refusal
  second width at = walk_of (cells (map (λ l. below l) (take width (b ∷ c ∷ []))) numbers at)

  first : (w at : ℕ) → ends (suc w) at ≡ onward (cell a numbers at) (λ q. second w q)
  unfolding plain_row columns_of second
  first w at = cells_cons _ _ numbers at

  next : (w at : ℕ) → second (suc w) at ≡ onward (cell b numbers at) (λ q. walk_of (cells (map (λ l. below l) (take w (c ∷ []))) numbers q))
  unfolding second
  next w at = cells_cons _ _ numbers at

  pub row_none : (width at : ℕ) → width ≡ 0 → ends width at ≡ Ok at
  unfolding plain_row columns_of cells walk_of
  row_none width at e = rw e

  pub row_stop_first : (width at : ℕ) {why : Refusal} → width ≢ 0 → cell a numbers at ≡ Err why → ends width at ≡ Err why
  row_stop_first zero at d e = absurd (d refl)
  row_stop_first (suc w) at d e = first w at ∙ onward_fault _ e

  pub row_one : (width at : ℕ) {q : ℕ} → width ≡ 1 → cell a numbers at ≡ Ok q → ends width at ≡ Ok q
  unfolding second cells walk_of
  row_one width at w e = rw w (first 0 at ∙ onward_at _ e)

  pub row_stop_second : (width at : ℕ) {q : ℕ} {why : Refusal} → width ≢ 0 → width ≢ 1 → cell a numbers at ≡ Ok q → cell b numbers q ≡ Err why → ends width at ≡ Err why
  row_stop_second zero at d₀ d₁ e f = absurd (d₀ refl)
  row_stop_second (suc zero) at d₀ d₁ e f = absurd (d₁ refl)
  row_stop_second (suc (suc w)) at {q} d₀ d₁ e f = first (suc w) at ∙ onward_at _ e ∙ next w q ∙ onward_fault _ f

  pub row_two : (width at : ℕ) {q s : ℕ} → width ≡ 2 → cell a numbers at ≡ Ok q → cell b numbers q ≡ Ok s → ends width at ≡ Ok s
  unfolding cells walk_of
  row_two width at {q} w e f = rw w (first 1 at ∙ onward_at _ e ∙ next 0 q ∙ onward_at _ f)

  last : (x : Result ℕ Refusal) → onward x (λ q. Ok q) ≡ x
  unfolding onward
  last (Ok q) = refl
  last (Err why) = refl

  third : (w at : ℕ) → walk_of (cells (map (λ l. below l) (take (suc w) (c ∷ []))) numbers at) ≡ cell c numbers at
  unfolding cells walk_of
  third zero at = cells_cons (below c) [] numbers at ∙ last _
  third (suc w) at = cells_cons (below c) [] numbers at ∙ last _

  pub row_three : (width at : ℕ) {q s : ℕ} → width ≢ 0 → width ≢ 1 → width ≢ 2 → cell a numbers at ≡ Ok q → cell b numbers q ≡ Ok s
      → ends width at ≡ cell c numbers s
  row_three zero at d₀ d₁ d₂ e f = absurd (d₀ refl)
  row_three (suc zero) at d₀ d₁ d₂ e f = absurd (d₁ refl)
  row_three (suc (suc zero)) at d₀ d₁ d₂ e f = absurd (d₂ refl)
  row_three (suc (suc (suc w))) at {q} {s} d₀ d₁ d₂ e f =
      first (suc (suc w)) at ∙ onward_at _ e ∙ next (suc w) q ∙ onward_at _ f ∙ third w s
