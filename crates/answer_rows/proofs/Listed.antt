-- A row after the bits of a list are set.
use Prim.Native.Nat.{ℕ}
use mathlib.Core.Path.{◌≡◌, ap, ◌∙◌, sym}
use mathlib.Core.Bool.{Bool, ◌||◌, or-false, or_assoc}
use mathlib.Core.List.{List, [], ◌∷◌, ◌++◌}
use lib.Dec.{eqb}
use Rattle.keep_record.specs.Lines.{elem}
use Rattle.keep_record.proofs.Adding.{elem-append}

module _ (j : ℕ) (list : List ℕ) (old : Bool) where
  pub set-none : list ≡ [] → old ≡ (elem j list || old)
  unfolding elem
  set-none e = sym (ap (λ (l : List ℕ). elem j l || old) e)

  pub set_same : (other : List ℕ) (new : Bool) → list ≡ other → new ≡ (elem j other || old) → new ≡ (elem j list || old)
  set_same other new e p = p ∙ sym (ap (λ (l : List ℕ). elem j l || old) e)

  pub set-one : (n m : ℕ) (new : Bool) → list ≡ n ∷ [] → m ≡ n → new ≡ (eqb j m || old) → new ≡ (elem j list || old)
  unfolding elem
  set-one n m new e i p =
      p ∙ ap (λ k. eqb j k || old) i ∙ ap (λ (b : Bool). b || old) (sym (or-false (eqb j n))) ∙ sym (ap (λ (l : List ℕ). elem j l || old) e)

  pub set_both : (xs ys : List ℕ) (mid new : Bool) → list ≡ xs ++ ys → mid ≡ (elem j ys || old) → new ≡ (elem j xs || mid) → new ≡ (elem j list || old)
  set_both xs ys mid new e p q =
      q ∙ ap (λ (b : Bool). elem j xs || b) p ∙ sym (or_assoc (elem j xs) (elem j ys) old) ∙ ap (λ (b : Bool). b || old) (sym (elem-append j xs ys))
      ∙ sym (ap (λ (l : List ℕ). elem j l || old) e)
