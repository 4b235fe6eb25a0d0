-- The search for a first number that an earlier row has.
-- Short lists are searched so, each number against all earlier ones.
use Prim.Native.Nat.{ℕ, zero, suc, ◌+◌, ◌-◌, ◌*◌, ◌<◌, ◌≤◌}
use mathlib.Core.Path.{◌≡◌, refl, ap, ◌∙◌, sym}
use mathlib.Core.Logic.{◌≢◌}
use mathlib.Core.Bool.{Bool, true, false}
use mathlib.Core.List.{List, [], map}
use native.Mathlib.Nat.{mul-suc, mul-le-mul_left, add-zero}
use native.Mathlib.Numerals.{add-one}
use native.Mathlib.Omega.{arith}
use borrow.Author.Tests.{eq-eqb, ne_eqb, lt-ltb, le-ltb}
use lib.ListN.{length, get_or}
use Rattle.rows.specs.Walk.{Parsed, got, fault, below, many, elem, repeated, firsts, firsts_at, plain_row, distinct_row, row_of, columns_of, walk_of}
use Rattle.rows.proofs.Cells.{Cells, cells_got}
use Rattle.std.specs.Prelude.{Result, Ok}
use Rattle.refusal.specs.declared.Refusal.{Refusal}
use Rattle.refusal.specs.declared.Refusal.TheVariants.{OutOfRange}

-- row k of `count` rows is inside
pub place_in : (at width count k l : ℕ) → at + width * count ≤ l → k < count → 0 < width → at + width * k < l
place_in at width count k l h i p =
    let m : width * suc k ≤ width * count = mul-le-mul_left width i in
    let e : width * suc k ≡ width * k + width = mul-suc width k in
    omega arith

module _ (numbers : List ℕ) (at width x : ℕ) where
  pub seen_hit : (k : ℕ) → 0 < k → get_or numbers (at + width * (k - 1)) 0 ≡ x → elem x (firsts_at numbers at width k) ≡ true
  unfolding elem firsts_at
  seen_hit zero h e = absurd (omega arith)
  seen_hit (suc k) h e =
      let z : suc k - 1 ≡ k = omega arith in
      let y : x ≡ get_or numbers (at + width * k) 0 = sym (rw z at e) in
      rw (eq-eqb x (get_or numbers (at + width * k) 0) y, firsts_at, elem)

  pub seen_miss : (k : ℕ) → 0 < k → get_or numbers (at + width * (k - 1)) 0 ≢ x → elem x (firsts_at numbers at width (k - 1)) ≡ elem x (firsts_at numbers at width k)
  unfolding elem firsts_at
  seen_miss zero h d = absurd (omega arith)
  seen_miss (suc k) h d =
      let z : suc k - 1 ≡ k = omega arith in
      let y : x ≢ get_or numbers (at + width * k) 0 = λ e. d (rw z (sym e)) in
      rw (z, ne_eqb x (get_or numbers (at + width * k) 0) y, firsts_at, elem)

  pub seen_none : (k : ℕ) → k ≤ 0 → elem x (firsts_at numbers at width k) ≡ false
  unfolding elem firsts_at
  seen_none zero h = refl
  seen_none (suc k) h = absurd (omega arith)

module _ (numbers seen : List ℕ) (q : ℕ) where
  pub repeated_past : length numbers ≤ q → repeated numbers seen q ≡ false
  unfolding repeated
  repeated_past h = rw (le-ltb q (length numbers) h, repeated)

  pub repeated_in : q < length numbers → repeated numbers seen q ≡ elem (get_or numbers q 0) seen
  unfolding repeated
  repeated_in h = rw (lt-ltb q (length numbers) h, repeated)

  pub distinct_hit : (columns : List ℕ) → repeated numbers seen q ≡ true → distinct_row columns numbers seen q ≡ fault (OutOfRange q)
  unfolding distinct_row
  distinct_hit columns e = rw (e, distinct_row)

  pub distinct_miss : (columns : List ℕ) → repeated numbers seen q ≡ false → distinct_row columns numbers seen q ≡ plain_row columns numbers [] q
  unfolding distinct_row plain_row
  distinct_miss columns e = rw (e, distinct_row)

columns_long : (width a b c : ℕ) → 0 < width → width ≤ 3 → length (map (λ l. below l) (columns_of width a b c)) ≡ width
unfolding columns_of
columns_long zero a b c h l = refl
columns_long (suc zero) a b c h l = refl
columns_long (suc (suc zero)) a b c h l = refl
columns_long (suc (suc (suc zero))) a b c h l = refl
columns_long (suc (suc (suc (suc w)))) a b c h l = absurd (omega arith)

-- one more row: where it ends, and its first number
module _ (numbers : List ℕ) (at width a b c k q p : ℕ) (row : List ℕ) (some : 0 < width) (few : width ≤ 3) (is : q ≡ at + width * k)
    (e : plain_row (columns_of width a b c) numbers [] q ≡ got row p) where
  read : Cells (map (λ l. below l) (columns_of width a b c)) numbers q row p
  unfolding plain_row
  read = cells_got _ numbers q e

  pub row_ends : p ≡ at + width * (k + 1)
  row_ends =
      let l = columns_long width a b c some few in
      let s : width * (k + 1) ≡ width * k + width = rw (add-one k) (mul-suc width k) in
      omega (arith, read.next, l, s, is)

  pub row_inside : q < length numbers
  row_inside =
      let l = columns_long width a b c some few in
      let z : q + 0 ≡ q = add-zero q in
      rw z at (read.inside 0 (omega (arith, l, some)))

  pub row_first : firsts (firsts_at numbers at width k) row ≡ firsts_at numbers at width (k + 1)
  unfolding firsts firsts_at
  row_first =
      let l = columns_long width a b c some few in
      let z : q + 0 ≡ at + width * k = omega (arith, is) in
      let f : get_or row 0 0 ≡ get_or numbers (at + width * k) 0 = read.same 0 (omega (arith, l, some)) ∙ ap (λ j. get_or numbers j 0) z in
      rw (add-one k, f)

-- which rows a list has
module _ (columns numbers : List ℕ) (k q : ℕ) (r : Result ℕ Refusal) (b : Bool) where
  pub by_distinct : b ≡ true → r ≡ walk_of (many (distinct_row columns numbers) firsts k [] q) → r ≡ walk_of (many (row_of b columns numbers) firsts k [] q)
  unfolding row_of
  by_distinct h e = rw (h, row_of) e

  pub by_plain : b ≡ false → r ≡ walk_of (many (plain_row columns numbers) firsts k [] q) → r ≡ walk_of (many (row_of b columns numbers) firsts k [] q)
  unfolding row_of
  by_plain h e = rw (h, row_of) e

-- an empty list ends where it begins
pub no_rows : (step : List ℕ → ℕ → Parsed (List ℕ)) (q k : ℕ) → k ≡ 0 → Ok q ≡ walk_of (many step firsts k [] q)
unfolding many walk_of
no_rows step q k e = rw (e, many, walk_of)
