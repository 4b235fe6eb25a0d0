-- Rows of successors in a table of rows, and lists of numbers.
use Prim.Native.Nat.{ℕ, suc, ◌+◌, ◌*◌, ◌-◌, ◌<◌, ◌≤◌}
use mathlib.Core.Path.{◌≡◌, refl, ap, ◌∙◌, sym}
use mathlib.Core.Logic.{◌⊎◌, inl, inr, ⊎_elim}
use mathlib.Core.Bool.{Bool, true, false, ◌||◌}
use mathlib.Core.List.{List, [], ◌∷◌, ◌++◌}
use native.Mathlib.Nat.{suc-mul, mul-le-mul, mul-le-mul_right}
use native.Mathlib.Omega.{arith}
use borrow.Author.Tests.{ltb-true, ltb-false, eqb-true, eqb-false, eq-eqb, ne_eqb}
use lib.Dec.{eqb, ltb}
use lib.ListN.{length, get_or, take}
use lib.Seq.{get_or-take, length-take-le}
use Rattle.graph_access.specs.Words.{tabulate}
use Rattle.keep_record.specs.Lines.{elem}
use Rattle.keep_record.specs.Held.{Distinct}
use Rattle.keep_record.proofs.Rows.{tabulate-length, tabulate-at, tabulate_more, tabulate-same}
use Rattle.keep_record.proofs.Adding.{elem_at, elem_more}
use Rattle.keep_record.proofs.Counting.{elem_place, distinct_below}
use Rattle.entry_graph.specs.Memory.{row_of}

-- flags
pub both : {b : Bool} → b ≡ true → b ≡ false → ⊥
both p q = let e : true ≡ false = sym p ∙ q in let z : ◌≡◌ {A = ℕ} 0 1 = cc in omega arith

pub or_cases : (a b : Bool) → (a || b) ≡ true → (a ≡ true) ⊎ (b ≡ true)
or_cases true b e = inl refl
or_cases false b e = inr e

pub or_right : (a b : Bool) → b ≡ true → (a || b) ≡ true
or_right true b e = refl
or_right false b e = e

-- one more at the end of a list
pub more_cases : (x y : ℕ) (xs : List ℕ) → elem x (xs ++ y ∷ []) ≡ true → (x ≡ y) ⊎ (elem x xs ≡ true)
more_cases x y xs e = ⊎_elim (λ a. inl (eqb-true x y a)) (λ b. inr b) (or_cases (eqb x y) (elem x xs) (sym (elem_more x y xs) ∙ e))

pub more_kept : (x y : ℕ) (xs : List ℕ) → elem x xs ≡ true → elem x (xs ++ y ∷ []) ≡ true
more_kept x y xs e = elem_more x y xs ∙ or_right (eqb x y) (elem x xs) e

pub more_last : (x : ℕ) (xs : List ℕ) → elem x (xs ++ x ∷ []) ≡ true
more_last x xs = elem_more x x xs ∙ (rw (eq-eqb x x refl))

-- different numbers below n are no more than n
pub distinct_few : (n : ℕ) (xs : List ℕ) → Distinct xs → ((x : ℕ) → elem x xs ≡ true → x < n) → length xs ≤ n
distinct_few n xs d b = distinct_below n xs d (λ i h. b (get_or xs i 0) (elem_at xs i h))

pub front_place : (n x : ℕ) (xs : List ℕ) → n ≤ length xs → elem x (take n xs) ≡ true → (i : ℕ) × (i < n) × (x ≡ get_or xs i 0)
front_place n x xs h e =
    let p = elem_place x (take n xs) e in
    let l : p.0 < n = omega (arith, p.1, length-take-le n xs h) in
    (p.0, l, p.2 ∙ get_or-take n xs p.0 0 l)

-- cells of a table with rows of one width
pub cell_below : (rows width r c : ℕ) → r < rows → c < width → r * width + c < rows * width
cell_below rows width r c h l = omega (arith, mul-le-mul_right {m = suc r} {n = rows} width h, suc-mul r width)

pub cell_small : (width r : ℕ) → width ≤ 1024 → r < 1024 → r * width ≤ 1048576
cell_small width r w h = omega (arith, mul-le-mul {n₁ = r} {m₁ = width} {n₂ = 1024} {m₂ = 1024} (omega arith) w)

cell_later : (width a b c d : ℕ) → b < width → a < c → a * width + b ≡ c * width + d → ⊥
cell_later width a b c d h l e = omega (arith, mul-le-mul_right {m = suc a} {n = c} width l, suc-mul a width)

pub cell_row : (width a b c d : ℕ) → b < width → d < width → a * width + b ≡ c * width + d → a ≡ c
cell_row width a b c d h l e = go (ltb a c) refl (ltb c a) refl
  where
    go : (p : Bool) → ltb a c ≡ p → (q : Bool) → ltb c a ≡ q → a ≡ c
    go true s q t = absurd (cell_later width a b c d h (ltb-true a c s) e)
    go false s true t = absurd (cell_later width c d a b l (ltb-true c a t) (sym e))
    go false s false t = omega (arith, ltb-false a c s, ltb-false c a t)

pub cell_other_row : (width a b c d : ℕ) → b < width → d < width → (a ≡ c → ⊥) → eqb (a * width + b) (c * width + d) ≡ false
cell_other_row width a b c d h l n = ne_eqb _ _ (λ e. n (cell_row width a b c d h l e))

pub cell_eqb : (width a b c d : ℕ) → b < width → d < width → b ≡ d → eqb (a * width + b) (c * width + d) ≡ eqb a c
cell_eqb width a b c d h l q = go (eqb a c) refl
  where
    go : (p : Bool) → eqb a c ≡ p → eqb (a * width + b) (c * width + d) ≡ p
    go true e = let r : a * width + b ≡ c * width + d = rw (eqb-true a c e, q) in eq-eqb _ _ r
    go false e = cell_other_row width a b c d h l (eqb-false a c e)

pub cell_column : (width a b c d : ℕ) → b < width → d < width → (b ≡ d → ⊥) → eqb (a * width + b) (c * width + d) ≡ false
cell_column width a b c d h l n = ne_eqb _ _ (λ e. let q = cell_row width a b c d h l e in let r : a * width ≡ c * width = ap (λ (k : ℕ). k * width) q in n (omega (arith, r)))

-- a row of successors
module _ (cap : ℕ) (outs succs : List ℕ) (u : ℕ) where
  pub row-length : length (row_of cap outs succs u) ≡ get_or outs u 0 - 1
  unfolding row_of
  row-length = tabulate-length (λ k. get_or succs (u * cap + k) 0) 0 (get_or outs u 0 - 1)

  pub row_at : (k : ℕ) → k < get_or outs u 0 - 1 → get_or (row_of cap outs succs u) k 0 ≡ get_or succs (u * cap + k) 0
  unfolding row_of
  row_at k h = tabulate-at (λ k. get_or succs (u * cap + k) 0) 0 (get_or outs u 0 - 1) k 0 h ∙ (let e : 0 + k ≡ k = omega arith in ap (λ (i : ℕ). get_or succs (u * cap + i) 0) e)

  pub row_none : get_or outs u 0 - 1 ≡ 0 → row_of cap outs succs u ≡ []
  unfolding row_of tabulate
  row_none e = ap (λ (n : ℕ). tabulate (λ k. get_or succs (u * cap + k) 0) 0 n) e

  -- its successors are below, where each cell is
  pub row_below : (n : ℕ) → ((k : ℕ) → k < get_or outs u 0 - 1 → get_or succs (u * cap + k) 0 < n) → (v : ℕ) → elem v (row_of cap outs succs u) ≡ true → v < n
  row_below n b v e =
      let p = elem_place v (row_of cap outs succs u) e in
      let l : p.0 < get_or outs u 0 - 1 = omega (arith, p.1, row-length) in
      rw (p.2, row_at p.0 l) (b p.0 l)

  -- other rows that hold the same
  pub row_same : (outs' succs' : List ℕ) → get_or outs' u 0 - 1 ≡ get_or outs u 0 - 1 → ((k : ℕ) → k < get_or outs u 0 - 1 → get_or succs' (u * cap + k) 0 ≡ get_or succs (u * cap + k) 0)
      → row_of cap outs' succs' u ≡ row_of cap outs succs u
  unfolding row_of
  row_same outs' succs' e f =
      ap (λ (n : ℕ). tabulate (λ k. get_or succs' (u * cap + k) 0) 0 n) e
      ∙ tabulate-same (λ k. get_or succs' (u * cap + k) 0) (λ k. get_or succs (u * cap + k) 0) 0 (get_or outs u 0 - 1)
      (λ k h. let z : 0 + k ≡ k = omega arith in rw z (f k h))

  -- one more
  pub row_more : (outs' succs' : List ℕ) (count to : ℕ) → get_or outs u 0 ≡ count + 1 → get_or outs' u 0 ≡ count + 2 → ((k : ℕ) → k < count → get_or succs' (u * cap + k) 0 ≡ get_or succs (u * cap + k) 0) → get_or succs' (u * cap + count) 0 ≡ to
      → row_of cap outs' succs' u ≡ row_of cap outs succs u ++ to ∷ []
  unfolding row_of
  row_more outs' succs' count to o o' f t =
      let n : get_or outs u 0 - 1 ≡ count = omega (arith, o) in
      let n' : get_or outs' u 0 - 1 ≡ count + 1 = omega (arith, o') in
      let z : 0 + count ≡ count = omega arith in
      let at : (ℕ → ℕ) = λ k. get_or succs' (u * cap + k) 0 in
      ap (λ (i : ℕ). tabulate at 0 i) n'
      ∙ tabulate_more at 0 count
      ∙ ap (λ (x : ℕ). tabulate at 0 count ++ x ∷ []) (ap at z ∙ t)
      ∙ ap (λ (xs : List ℕ). xs ++ to ∷ []) (tabulate-same at (λ k. get_or succs (u * cap + k) 0) 0 count (λ k h. let y : 0 + k ≡ k = omega arith in rw y (f k h)) ∙ ap (λ (i : ℕ). tabulate (λ k. get_or succs (u * cap + k) 0) 0 i) (sym n))
