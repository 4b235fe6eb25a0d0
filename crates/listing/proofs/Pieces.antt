-- Pieces of a text, one behind the other.
use Prim.Native.Nat.{ℕ, zero, suc, ◌+◌, ◌-◌, ◌/◌, ◌%◌, ◌<◌, ◌≤◌}
use mathlib.Core.Path.{◌≡◌, refl, ap, ◌∙◌, sym}
use mathlib.Core.List.{List, [], ◌∷◌, ◌++◌, append_assoc, append-nil}
use native.Mathlib.Nat.{zero-add}
use native.Mathlib.Numerals.{add-one}
use native.Mathlib.Omega.{arith}
use lib.ListN.{length, get_or, set, length-append}
use borrow.Author.Tests.{lt-ltb, le-ltb}
use Rattle.listing.specs.Text.{digits, decimal, numbers_text, text_of, shown_in, Emits}
use Rattle.listing.proofs.Windows.{shown-length, shown_none, byte_before, byte_behind, byte_in}

-- no piece
pub emits_none : {skip at : ℕ} {row : List ℕ} → Emits skip [] at row row at
emits_none {skip} {at} {row} = record { counts = omega arith; shows = λ text lent l e. e ∙ ap (λ t. shown_in skip t lent) (sym (append-nil text)) }

-- two pieces
pub emits_both : {skip at q r : ℕ} {p s before middle after : List ℕ} → Emits skip p at before middle q → Emits skip s q middle after r → Emits skip (p ++ s) at before after r
emits_both {skip} {at} {q} {r} {p} {s} a b =
    record {
      counts = omega (arith, a.counts, b.counts, length-append p s);
      shows = λ text lent l e. b.shows (text ++ p) lent (omega (arith, a.counts, length-append text p)) (a.shows text lent l e) ∙ ap (λ t. shown_in skip t lent) (append_assoc text p s);
    }

-- a piece by another name
pub emits_as : {skip at r : ℕ} {p s before after : List ℕ} → p ≡ s → Emits skip p at before after r → Emits skip s at before after r
emits_as {skip} {at} {r} {p} {s} {before} {after} e a = rw (sym e) a

-- a whole text
pub emits_all : {skip r : ℕ} {p before after : List ℕ} → Emits skip p 0 before after r → (r ≡ length p) × (after ≡ shown_in skip p before)
emits_all {skip} {r} {p} {before} {after} a = (omega (arith, a.counts), a.shows [] before refl (shown_none skip before))

-- a byte, before the window, behind it, and in it
module _ (skip at byte : ℕ) (before : List ℕ) where
  pub byte_passed : at < skip → Emits skip (byte ∷ []) at before before (at + 1)
  byte_passed l = record { counts = refl; shows = λ text lent n e. e ∙ byte_before skip text lent byte (omega arith) }

  pub byte_over : skip ≤ at → length before ≤ at - skip → Emits skip (byte ∷ []) at before before (at + 1)
  byte_over l m = record { counts = refl; shows = λ text lent n e. e ∙ byte_behind skip text lent byte (omega arith) (omega (arith, ap length e, shown-length skip text lent)) }

  pub byte_put : skip ≤ at → at - skip < length before → Emits skip (byte ∷ []) at before (set before (at - skip) byte) (at + 1)
  byte_put l m =
      record {
        counts = refl;
        shows = λ text lent n e. ap (λ (k : ℕ). set before (k - skip) byte) n ∙ ap (λ (v : List ℕ). set v (length text - skip) byte) e
            ∙ byte_in skip text lent byte (omega arith) (omega (arith, ap length e, shown-length skip text lent));
      }

-- one more of the texts
text_more : (f : ℕ → List ℕ) (i n : ℕ) → text_of f i (suc n) ≡ text_of f i n ++ f (i + n)
unfolding text_of
text_more f i zero = append-nil (f i) ∙ ap f (omega arith)
text_more f i (suc n) =
    let e : i + 1 + n ≡ i + suc n = omega arith in
    ap (λ t. f i ++ t) (text_more f (i + 1) n) ∙ sym (append_assoc (f i) (text_of f (i + 1) n) (f (i + 1 + n))) ∙ ap (λ k. (f i ++ text_of f (i + 1) n) ++ f k) e

-- texts that are equal one by one
pub text_same : (f g : ℕ → List ℕ) (i n : ℕ) → ((k : ℕ) → f k ≡ g k) → text_of f i n ≡ text_of g i n
unfolding text_of
text_same f g i zero e = refl
text_same f g i (suc n) e = rw (e i, text_same f g (i + 1) n e) refl

-- the first k of a loop's texts are added
pub record Going (skip : ℕ) (f : ℕ → List ℕ) (size k at : ℕ) (before after : List ℕ) (end : ℕ) : Type 0 where
  pub few : k ≤ size
  pub long : length after ≡ length before
  pub emits : Emits skip (text_of f 0 k) at before after end

pub go_none : {skip size at : ℕ} {f : ℕ → List ℕ} {row : List ℕ} → Going skip f size 0 at row row at
unfolding text_of
go_none = record { few = omega arith; long = refl; emits = emits_none }

pub go_more : {skip size k at q r : ℕ} {f : ℕ → List ℕ} {before middle after : List ℕ} → Going skip f size k at before middle q → k < size → length after ≡ length middle → Emits skip (f k) q middle after r
    → Going skip f size (k + 1) at before after r
go_more {k = k} {f = f} g l e a =
    record {
      few = omega arith;
      long = e ∙ g.long;
      emits = emits_as (sym (ap (text_of f 0) (add-one k) ∙ text_more f 0 k ∙ ap (λ i. text_of f 0 k ++ f i) (zero-add k))) (emits_both g.emits a);
    }

pub go_done : {skip size k at r : ℕ} {f : ℕ → List ℕ} {before after : List ℕ} → Going skip f size k at before after r → size ≤ k → Emits skip (text_of f 0 size) at before after r
go_done {size = size} {k = k} {f = f} g l = let e : k ≡ size = omega (arith, g.few) in emits_as (ap (text_of f 0) e) g.emits

-- a word by its bytes, numbers by their fields
text_shift : (f : ℕ → List ℕ) (i n : ℕ) → text_of f (i + 1) n ≡ text_of (λ k. f (k + 1)) i n
unfolding text_of
text_shift f i zero = refl
text_shift f i (suc n) = ap (λ t. f (i + 1) ++ t) (text_shift f (i + 1) n)

next : (x : ℕ) (xs : List ℕ) (k : ℕ) → get_or (x ∷ xs) (k + 1) 0 ≡ get_or xs k 0
next x xs k = ap (λ i. get_or (x ∷ xs) i 0) (add-one k)

-- the texts of a list's elements
text_next : (f : ℕ → List ℕ) (x : ℕ) (xs : List ℕ) (n : ℕ) → text_of (λ i. f (get_or (x ∷ xs) i 0)) 0 (suc n) ≡ f x ++ text_of (λ i. f (get_or xs i 0)) 0 n
unfolding text_of
text_next f x xs n = ap (λ t. f x ++ t) (text_shift (λ i. f (get_or (x ∷ xs) i 0)) 0 n ∙ text_same (λ k. f (get_or (x ∷ xs) (k + 1) 0)) (λ k. f (get_or xs k 0)) 0 n (λ k. ap f (next x xs k)))

pub bytes_of : (word : List ℕ) → text_of (λ i. get_or word i 0 ∷ []) 0 (length word) ≡ word
unfolding text_of
bytes_of [] = refl
bytes_of (b ∷ bs) = text_next (λ x. x ∷ []) b bs (length bs) ∙ ap (λ t. b ∷ t) (bytes_of bs)

pub fields_of : (ns : List ℕ) → text_of (λ i. 32 ∷ decimal (get_or ns i 0)) 0 (length ns) ++ 10 ∷ [] ≡ numbers_text ns
unfolding text_of numbers_text
fields_of [] = refl
fields_of (n ∷ ns) =
    ap (λ t. t ++ 10 ∷ []) (text_next (λ x. 32 ∷ decimal x) n ns (length ns)) ∙ append_assoc (32 ∷ decimal n) (text_of (λ i. 32 ∷ decimal (get_or ns i 0)) 0 (length ns)) (10 ∷ [])
    ∙ ap (λ t. (32 ∷ decimal n) ++ t) (fields_of ns)

-- digits: none, the only one, the last one
pub digits_none : (fuel n : ℕ) → fuel ≡ 0 → digits fuel n ≡ []
unfolding digits
digits_none fuel n e = rw (e, digits) refl

pub digits_one : (fuel n : ℕ) → 0 < fuel → n < 10 → digits fuel n ≡ (48 + n) ∷ []
unfolding digits
digits_one zero n l h = absurd (omega arith)
digits_one (suc fuel) n l h = rw (lt-ltb n 10 h, digits) refl

pub digits_more : (fuel n : ℕ) → 0 < fuel → 10 ≤ n → digits fuel n ≡ digits (fuel - 1) (n / 10) ++ (48 + n % 10) ∷ []
unfolding digits
digits_more zero n l h = absurd (omega arith)
digits_more (suc fuel) n l h = let e : suc fuel - 1 ≡ fuel = omega arith in rw (le-ltb n 10 h, digits, e) refl
