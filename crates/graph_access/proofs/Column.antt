-- A list of rows of one number: where it stands, and its numbers.
use Prim.Native.Nat.{ℕ, zero, suc, ◌+◌, ◌*◌, ◌<◌, ◌≤◌}
use mathlib.Core.Path.{◌≡◌}
use mathlib.Core.List.{List, [], ◌∷◌}
use native.Mathlib.Nat.{one-mul}
use native.Mathlib.Omega.{arith}
use lib.ListN.{length, get_or}
use Rattle.graph.specs.rows_crate.Walk.{got, below, list, plain}
use Rattle.graph.proofs.rows_crate.Cells.{Cells}
use Rattle.graph.proofs.rows_crate.Items.{ListRead, list_got, rows_end, rows_each, plain_plain}

pub record Column (numbers : List ℕ) (at : ℕ) (xs : List (List ℕ)) (q : ℕ) : Type 0 where
  pub inside : at < length numbers
  pub counted : get_or numbers at 0 ≡ length xs
  pub here : (k : ℕ) → k < length xs → at + 1 + k < length numbers
  pub same : (k : ℕ) → k < length xs → get_or (get_or xs k []) 0 0 ≡ get_or numbers (at + 1 + k) 0
  pub next : q ≡ at + 1 + length xs
  pub fits : at + 1 + length xs ≤ length numbers

-- where each is inside, all are
all_inside : (at n size : ℕ) → at < size → ((k : ℕ) → k < n → at + 1 + k < size) → at + 1 + n ≤ size
all_inside at zero size a f = omega arith
all_inside at (suc n) size a f = omega (arith, f n (omega arith))

module _ (limit : ℕ) (numbers : List ℕ) (at : ℕ) {xs : List (List ℕ)} {q : ℕ} (e : list (plain numbers (limit ∷ [])) numbers at ≡ got xs q) where
  its : ListRead (plain numbers (limit ∷ [])) numbers at xs q
  its = list_got _ numbers at e

  row : (k : ℕ) → k < length xs → Cells (below limit ∷ []) numbers (at + 1 + 1 * k) (get_or xs k []) (at + 1 + 1 * k + 1)
  row k l = rows_each (limit ∷ []) numbers _ (plain_plain (limit ∷ []) numbers) (length xs) [] (at + 1) its.rows k l

  spot : (k : ℕ) → at + 1 + 1 * k + 0 ≡ at + 1 + k
  spot k = omega (arith, one-mul k)

  there : (k : ℕ) → k < length xs → at + 1 + k < length numbers
  there k l = rw (spot k) at ((row k l).inside 0 (omega arith))

  end : q ≡ at + 1 + 1 * length xs
  end = rows_end (limit ∷ []) numbers _ (plain_plain (limit ∷ []) numbers) (length xs) [] (at + 1) its.rows

  pub column : Column numbers at xs q
  column =
      record {
        inside = its.inside;
        counted = its.counted;
        here = there;
        same = λ k l. rw (spot k) at ((row k l).same 0 (omega arith));
        next = omega (arith, end, one-mul (length xs));
        fits = all_inside at (length xs) (length numbers) its.inside there;
      }
