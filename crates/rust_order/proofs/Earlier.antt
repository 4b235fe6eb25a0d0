-- One number stands before another in a list; in a list with no number twice never both ways.
use Prim.Native.Nat.{ℕ}
use mathlib.Core.Path.{◌≡◌, refl, ap, sym, subst}
use mathlib.Core.Logic.{◌⊎◌, inl, inr}
use mathlib.Core.Bool.{false}
use mathlib.Core.List.{List, [], ◌∷◌, ◌++◌}
use Rattle.keep_record.specs.Lines.{elem}
use Rattle.keep_record.specs.Held.{Distinct}
use Rattle.cycles.proofs.Members.{never_both}
use Rattle.rust_values.specs.Values.{In}
use Rattle.rust_values.proofs.Members.{in_elem}
use Rattle.rust_order.specs.DynamicEntries.{Before}

abbrev pub Earlier : ℕ → ℕ → List ℕ → Type 0
Earlier m n [] = ⊥
Earlier m n (x ∷ xs) = ((m ≡ x) × In n xs) ⊎ Earlier m n xs

pub before_earlier : {m n : ℕ} {xs : List ℕ} → Before m n xs → Earlier m n xs
before_earlier {m} {n} {xs} b = subst (λ (l : List ℕ). Earlier m n l) (sym b.parts) (behind b.front)
  where
    behind : (front : List ℕ) → Earlier m n (front ++ (m ∷ b.back))
    behind [] = inl (refl, b.then)
    behind (x ∷ front) = inr (behind front)

pub earlier_before : (m n : ℕ) (xs : List ℕ) → Earlier m n xs → Before m n xs
earlier_before m n [] h = absurd h
earlier_before m n (x ∷ xs) (inl h) = record { front = []; back = xs; parts = ap (λ (y : ℕ). y ∷ xs) (sym h.0); then = h.1 }
earlier_before m n (x ∷ xs) (inr h) =
    let b = earlier_before m n xs h in
    record { front = x ∷ b.front; back = b.back; parts = ap (λ (ys : List ℕ). x ∷ ys) b.parts; then = b.then }

in_twice : (x : ℕ) (xs : List ℕ) (m : ℕ) → elem x xs ≡ false → m ≡ x → In m xs → ⊥
in_twice x xs m d e i = never_both (in_elem x xs (subst (λ (y : ℕ). In y xs) e i)) d

pub earlier_in : (m n : ℕ) (xs : List ℕ) → Earlier m n xs → In n xs
earlier_in m n [] h = h
earlier_in m n (x ∷ xs) (inl h) = inr h.1
earlier_in m n (x ∷ xs) (inr h) = inr (earlier_in m n xs h)

pub earlier_first : (m n : ℕ) (xs : List ℕ) → Earlier m n xs → In m xs
earlier_first m n [] h = h
earlier_first m n (x ∷ xs) (inl h) = inl h.0
earlier_first m n (x ∷ xs) (inr h) = inr (earlier_first m n xs h)

pub earlier_once : (m n : ℕ) (xs : List ℕ) → Distinct xs → Earlier m n xs → Earlier n m xs → ⊥
earlier_once m n [] d h k = h
earlier_once m n (x ∷ xs) d (inl h) (inl k) = in_twice x xs m d.0 h.0 k.1
earlier_once m n (x ∷ xs) d (inl h) (inr k) = in_twice x xs m d.0 h.0 (earlier_in n m xs k)
earlier_once m n (x ∷ xs) d (inr h) (inl k) = in_twice x xs n d.0 k.0 (earlier_in m n xs h)
earlier_once m n (x ∷ xs) d (inr h) (inr k) = earlier_once m n xs d.1 h k
