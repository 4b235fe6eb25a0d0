-- Texts that are the same because their parts are.
use Prim.Native.Nat.{ℕ, zero, suc, ◌+◌, ◌<◌, ◌≤◌}
use mathlib.Core.Path.{◌≡◌, refl, ap, ◌∙◌}
use mathlib.Core.Bool.{Bool, true, false}
use mathlib.Core.List.{List, ◌∷◌, ◌++◌}
use native.Mathlib.Numerals.{add-one}
use native.Mathlib.Omega.{arith}
use lib.ListN.{length, get_or, take, drop, length-take}
use lib.Seq.{drop-cons}
use Rattle.determine_side_effects.specs.graph_crate.Check.{Graph}
use Rattle.answer_rows.specs.Shown.{bit_value}
use Rattle.listing.specs.Text.{only_if, text_of}
use Rattle.listing.specs.Listing.{Shown, entry_text}
use Rattle.rust_listing.specs.Listing.{one_if, entry_lines}

-- two rows of texts, each of which is the same in both
texts_from : (f h : ℕ → List ℕ) (i n : ℕ) → ((k : ℕ) → k < i + n → f k ≡ h k) → text_of f i n ≡ text_of h i n
unfolding text_of
texts_from f h i zero same = refl
texts_from f h i (suc n) same =
    ap (λ (t : List ℕ). t ++ text_of f (i + 1) n) (same i (omega arith))
    ∙ ap (λ (t : List ℕ). h i ++ t) (texts_from f h (i + 1) n (λ k l. same k (omega (arith, l))))

pub texts_same : (f h : ℕ → List ℕ) (n : ℕ) → ((k : ℕ) → k < n → f k ≡ h k) → text_of f 0 n ≡ text_of h 0 n
texts_same f h n same = texts_from f h 0 n (λ k l. same k (omega (arith, l)))

-- the same, with a length that goes by the number, for each of a number of rows
pub rows_same : (f h : ℕ → ℕ → List ℕ) (long : ℕ → ℕ) (n : ℕ) → ((m k : ℕ) → m < n → k < long m → f m k ≡ h m k)
    → text_of (λ m. text_of (f m) 0 (long m)) 0 n ≡ text_of (λ m. text_of (h m) 0 (long m)) 0 n
rows_same f h long n same = texts_same (λ m. text_of (f m) 0 (long m)) (λ m. text_of (h m) 0 (long m)) n (λ m l. texts_same (f m) (h m) (long m) (λ k u. same m k l u))

-- a text on a condition, by another that is the same
pub only_same : (a b : Bool) (text : List ℕ) → a ≡ b → only_if a text ≡ only_if b text
only_same a b text e = ap (λ c. only_if c text) e

-- a bit as a number
pub value_same : (b : Bool) → bit_value b 0 ≡ one_if b
unfolding bit_value one_if
value_same true = refl
value_same false = refl

-- the lines of final entries, from the i-th on
module _ (g : Graph) (a : Shown) where
  entries_from : (i n : ℕ) → i + n ≤ length a.entries → text_of (entry_text g a) i n ≡ entry_lines g (take n (drop i a.entries))
  unfolding text_of entry_text entry_lines
  entries_from i zero l = refl
  entries_from i (suc n) l =
      let c : drop i a.entries ≡ get_or a.entries i 0 ∷ drop (i + 1) a.entries = rw (add-one i) (drop-cons a.entries i 0 (omega (arith, l))) in
      rw (c, entries_from (i + 1) n (omega (arith, l)))

  pub entries_same : (es : List ℕ) → a.count ≡ length es → take a.count a.entries ≡ es → text_of (entry_text g a) 0 a.count ≡ entry_lines g es
  entries_same es n e =
      let l : a.count ≤ length a.entries = omega (arith, n, ap length e, length-take a.count a.entries) in
      entries_from 0 a.count (omega (arith, l)) ∙ ap (entry_lines g) e
