-- A row that holds the window on a text, and a byte more.
use Prim.Native.Nat.{ℕ, suc, ◌-◌, ◌<◌, ◌≤◌}
use mathlib.Core.Path.{◌≡◌, refl, ap, ◌∙◌, sym}
use mathlib.Core.List.{List, [], ◌∷◌, ◌++◌}
use native.Mathlib.Omega.{arith}
use lib.ListN.{length, get_or, take, drop, set, length-append, length-take, length-drop, drop_of_length-le}
use lib.Seq.{drop-nil, take-nil, take_all, drop-cons, take-append-le, drop-append-le, set_at, append_snoc}
use Rattle.listing.specs.Text.{window, shown_in}

-- a row keeps its length
pub shown-length : (skip : ℕ) (text lent : List ℕ) → length (shown_in skip text lent) ≡ length lent
unfolding shown_in window
shown-length skip text lent =
    let w = take (length lent) (drop skip text) in
    omega (arith, length-append w (drop (length w) lent), length-drop (length w) lent, length-take (length lent) (drop skip text))

-- nothing is shown of no text
pub shown_none : (skip : ℕ) (lent : List ℕ) → lent ≡ shown_in skip [] lent
unfolding shown_in window
shown_none skip lent = rw (drop-nil {A = ℕ} skip, take-nil {A = ℕ} (length lent)) refl

-- a text whose window is known
window_is : (skip : ℕ) (text lent w : List ℕ) → window skip (length lent) text ≡ w → shown_in skip text lent ≡ w ++ drop (length w) lent
unfolding shown_in
window_is skip text lent w e = ap (λ v. v ++ drop (length v) lent) e

module _ (skip : ℕ) (text lent : List ℕ) (byte : ℕ) where
  -- a byte before the window
  pub byte_before : length text < skip → shown_in skip text lent ≡ shown_in skip (text ++ byte ∷ []) lent
  unfolding shown_in window
  byte_before l =
      let a : drop skip text ≡ [] = drop_of_length-le text {i = skip} (omega arith) in
      let b : drop skip (text ++ byte ∷ []) ≡ [] = drop_of_length-le (text ++ byte ∷ []) {i = skip} (omega (arith, length-append text (byte ∷ []))) in
      ap (λ v. take (length lent) v ++ drop (length (take (length lent) v)) lent) (a ∙ sym b)

  -- a byte behind the window
  pub byte_behind : skip ≤ length text → length lent ≤ length text - skip → shown_in skip text lent ≡ shown_in skip (text ++ byte ∷ []) lent
  unfolding shown_in window
  byte_behind l m =
      let a : drop skip (text ++ byte ∷ []) ≡ drop skip text ++ byte ∷ [] = drop-append-le skip text (byte ∷ []) l in
      let b : take (length lent) (drop skip text ++ byte ∷ []) ≡ take (length lent) (drop skip text) = take-append-le (length lent) (drop skip text) (byte ∷ []) (omega (arith, length-drop skip text)) in
      ap (λ v. v ++ drop (length v) lent) (sym (ap (take (length lent)) a ∙ b))

  -- a byte in the window
  whole_before : length text - skip < length lent → window skip (length lent) text ≡ drop skip text
  unfolding window
  whole_before m = take_all (length lent) (drop skip text) (omega (arith, length-drop skip text))

  whole_after : skip ≤ length text → length text - skip < length lent → window skip (length lent) (text ++ byte ∷ []) ≡ drop skip text ++ byte ∷ []
  unfolding window
  whole_after l m =
      ap (take (length lent)) (drop-append-le skip text (byte ∷ []) l) ∙ take_all (length lent) (drop skip text ++ byte ∷ []) (omega (arith, length-append (drop skip text) (byte ∷ []), length-drop skip text))

  pub byte_in : skip ≤ length text → length text - skip < length lent → set (shown_in skip text lent) (length text - skip) byte ≡ shown_in skip (text ++ byte ∷ []) lent
  byte_in l m =
      let w = drop skip text in
      let k = length text - skip in
      let is : length w ≡ k = length-drop skip text in
      let a : shown_in skip text lent ≡ w ++ drop (length w) lent = window_is skip text lent w (whole_before m) in
      let b : shown_in skip (text ++ byte ∷ []) lent ≡ (w ++ byte ∷ []) ++ drop (length (w ++ byte ∷ [])) lent = window_is skip (text ++ byte ∷ []) lent (w ++ byte ∷ []) (whole_after l m) in
      let d : drop (length w) lent ≡ get_or lent k 0 ∷ drop (suc k) lent = ap (λ i. drop i lent) is ∙ drop-cons lent k 0 m in
      let e : length (w ++ byte ∷ []) ≡ suc k = omega (arith, length-append w (byte ∷ [])) in
      ap (λ v. set v k byte) (a ∙ ap (λ v. w ++ v) d) ∙ set_at w (get_or lent k 0) (drop (suc k) lent) byte k is ∙ sym (append_snoc w byte (drop (suc k) lent))
      ∙ ap (λ i. (w ++ byte ∷ []) ++ drop i lent) (sym e) ∙ sym b
