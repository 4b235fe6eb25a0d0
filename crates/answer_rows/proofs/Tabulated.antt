-- A list by number: its length, its elements, and whether one of them passes.
use Prim.Native.Nat.{ℕ, zero, suc, ◌+◌, ◌-◌, ◌<◌, ◌≤◌}
use mathlib.Core.Path.{◌≡◌, refl, ap, ◌∙◌}
use mathlib.Core.Bool.{Bool, true, false, ◌||◌}
use mathlib.Core.List.{List, [], ◌∷◌, ◌++◌}
use native.Mathlib.Omega.{arith}
use Rattle.determine_side_effects.specs.graph_access_crate.Words.{some, tabulate}
pub use Rattle.determine_side_effects.proofs.Lists.{length-tabulate, get_d_tabulate}
use Rattle.determine_side_effects.proofs.facts_crate.Folds.{tabulate_next, tabulate-none}

-- the first of those that are left, and the others
module _ {A : Type 0} (test : A → Bool) (f : ℕ → A) (n i : ℕ) where
  first_or : (b : Bool) (xs : List A) → test (f i) ≡ b → some test (f i ∷ xs) ≡ (test (f i) || some test xs)
  unfolding some
  first_or true xs e = rw (e, some)
  first_or false xs e = rw (e, some)

  pub some_or : i < n → some test (tabulate f i (n - i)) ≡ (test (f i) || some test (tabulate f (i + 1) (n - (i + 1))))
  some_or l = ap (λ (xs : List A). some test xs) (tabulate_next f n i l) ∙ first_or (test (f i)) (tabulate f (i + 1) (n - (i + 1))) refl

  pub some_over : n ≤ i → some test (tabulate f i (n - i)) ≡ false
  unfolding some
  some_over l = ap (λ (xs : List A). some test xs) (tabulate-none f n i l)

-- one of two lists, and of one element
module _ {A : Type 0} (test : A → Bool) where
  pub some-append : (xs ys : List A) → some test (xs ++ ys) ≡ (some test xs || some test ys)
  unfolding some
  some-append [] ys = refl
  some-append (x ∷ xs) ys = go (test x) refl (some-append xs ys)
    where
      go : (b : Bool) → test x ≡ b → some test (xs ++ ys) ≡ (some test xs || some test ys) → some test (x ∷ xs ++ ys) ≡ (some test (x ∷ xs) || some test ys)
      go true e p = rw (e, some)
      go false e p = rw (e, some) p

  pub some_one : (x : A) → some test (x ∷ []) ≡ test x
  unfolding some
  some_one x = go (test x) refl
    where
      go : (b : Bool) → test x ≡ b → some test (x ∷ []) ≡ test x
      go true e = rw (e, some)
      go false e = rw (e, some)

-- if none of the elements passes
pub none_passes : {A : Type 0} (test : A → Bool) (f : ℕ → A) (i n : ℕ) → ((k : ℕ) → i ≤ k → k < i + n → test (f k) ≡ false) → some test (tabulate f i n) ≡ false
unfolding some tabulate
none_passes test f i zero none = refl
none_passes test f i (suc n) none =
    let here = none i (omega arith) (omega arith) in
    rw (here, some) (none_passes test f (i + 1) n (λ k l m. none k (omega (arith, l)) (omega (arith, m))))
