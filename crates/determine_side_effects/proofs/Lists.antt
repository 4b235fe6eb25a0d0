-- Tests of a list's elements, lists made of a function's values, and how many of a list's numbers are 0.
use Prim.Native.Nat.{ℕ, zero, suc, ◌+◌, ◌<◌, ◌≤◌}
use mathlib.Core.Path.{◌≡◌, refl, ap, ◌∙◌, sym}
use mathlib.Core.Logic.{◌⊎◌, inl, inr}
use mathlib.Core.Bool.{Bool, true, false, ◌&&◌, ◌||◌, false≢true}
use mathlib.Core.List.{List, [], ◌∷◌, ◌++◌}
use native.Mathlib.Numerals.{add-one}
use native.Mathlib.Nat.{zero-add}
use native.Mathlib.Omega.{arith}
use lib.Seq.{drop-cons, ext_get_or}
use lib.ListN.{length, get_or, drop, set, drop_of_length-le}
use Rattle.facts.specs.graph_access_crate.Words.{some, tabulate}

pub both : (a b : Bool) → (a && b) ≡ true → (a ≡ true) × (b ≡ true)
both true b e = (refl, e)
both false b e = absurd (false≢true e)

pub either : (a b : Bool) → (a || b) ≡ true → (a ≡ true) ⊎ (b ≡ true)
either true b e = inl refl
either false b e = inr e

-- some element passes the test
module _ {A : Type 0} (test : A → Bool) (d : A) where
  pub some_found : (xs : List A) → some test xs ≡ true → (k : ℕ) × (k < length xs) × (test (get_or xs k d) ≡ true)
  unfolding some
  some_found [] e = absurd (false≢true e)
  some_found (x ∷ xs) e = go (test x) refl (λ f. some_found xs f)
    where
      go : (b : Bool) → test x ≡ b → (some test xs ≡ true → (k : ℕ) × (k < length xs) × (test (get_or xs k d) ≡ true))
          → (k : ℕ) × (k < suc (length xs)) × (test (get_or (x ∷ xs) k d) ≡ true)
      go true t more = (0, (omega arith), t)
      go false t more = let r = more (rw (t, some) at e) in (suc r.0, (omega (arith, r.1)), r.2)

  pub some_holds : (xs : List A) (k : ℕ) → k < length xs → test (get_or xs k d) ≡ true → some test xs ≡ true
  unfolding some
  some_holds [] k l e = absurd (omega arith)
  some_holds (x ∷ xs) zero l e = rw (e, some)
  some_holds (x ∷ xs) (suc k) l e = go (test x) refl (some_holds xs k (omega arith) e)
    where
      go : (b : Bool) → test x ≡ b → some test xs ≡ true → some test (x ∷ xs) ≡ true
      go true t m = rw (t, some)
      go false t m = rw (t, some) m

  -- a walk over all elements, from element k on
  pub some_stop : (xs : List A) (k : ℕ) → k < length xs → test (get_or xs k d) ≡ true → some test (drop k xs) ≡ true
  unfolding some
  some_stop xs k l e = rw (drop-cons xs k d l, e, some)

  pub some_go : (xs : List A) (k : ℕ) → k < length xs → test (get_or xs k d) ≡ false → some test (drop k xs) ≡ some test (drop (k + 1) xs)
  unfolding some
  some_go xs k l e = rw (drop-cons xs k d l, e, some) (ap (λ j. some test (drop j xs)) (sym (add-one k)))

  pub some_end : (xs : List A) (k : ℕ) → length xs ≤ k → some test (drop k xs) ≡ false
  unfolding some
  some_end xs k l = rw (drop_of_length-le xs l, some)

pub some_same : {A : Type 0} (f h : A → Bool) (d : A) (xs : List A) → ((k : ℕ) → k < length xs → f (get_or xs k d) ≡ h (get_or xs k d)) → some f xs ≡ some h xs
unfolding some
some_same f h d [] e = refl
some_same f h d (x ∷ xs) e = go (h x) refl (some_same f h d xs (λ k l. e (suc k) (omega arith)))
  where
    go : (b : Bool) → h x ≡ b → some f xs ≡ some h xs → some f (x ∷ xs) ≡ some h (x ∷ xs)
    go true t m = let s : f x ≡ true = e 0 (omega arith) ∙ t in rw (s, some, t, some)
    go false t m = let s : f x ≡ false = e 0 (omega arith) ∙ t in rw (s, some, t, some) m

-- a function's values
module _ {A : Type 0} (f : ℕ → A) where
  pub length-tabulate : (i n : ℕ) → length (tabulate f i n) ≡ n
  unfolding tabulate
  length-tabulate i zero = refl
  length-tabulate i (suc n) = ap suc (length-tabulate (i + 1) n)

  pub get_d_tabulate : (i n k : ℕ) (d : A) → k < n → get_or (tabulate f i n) k d ≡ f (i + k)
  unfolding tabulate
  get_d_tabulate i zero k d l = absurd (omega arith)
  get_d_tabulate i (suc n) zero d l = ap f (omega arith)
  get_d_tabulate i (suc n) (suc k) d l = get_d_tabulate (i + 1) n k d (omega arith) ∙ ap f (omega arith)

  pub tabulate_snoc : (i n : ℕ) → tabulate f i (suc n) ≡ tabulate f i n ++ (f (i + n) ∷ [])
  unfolding tabulate
  tabulate_snoc i zero = ap (λ k. f k ∷ []) (omega arith)
  tabulate_snoc i (suc n) = ap (λ l. f i ∷ l) (tabulate_snoc (i + 1) n ∙ ap (λ k. tabulate f (i + 1) n ++ (f k ∷ [])) (omega arith))

-- the elements of a list, one by one
pub tabulate_get_D : (v : List ℕ) → tabulate (λ i. get_or v i 0) 0 (length v) ≡ v
tabulate_get_D v = let l = length-tabulate (λ i. get_or v i 0) 0 (length v) in ext_get_or 0 _ _ l (λ j b. get_d_tabulate (λ i. get_or v i 0) 0 (length v) j 0 (omega (arith, b, l)) ∙ ap (λ i. get_or v i 0) (zero-add j))

-- two functions with the same values
pub tabulate-same : {A : Type 0} (f h : ℕ → A) (i n : ℕ) → ((k : ℕ) → k < i + n → f k ≡ h k) → tabulate f i n ≡ tabulate h i n
unfolding tabulate
tabulate-same f h i zero e = refl
tabulate-same f h i (suc n) e = rw (e i (omega arith), tabulate-same f h (i + 1) n (λ k l. e k (omega (arith, l))))

-- how many of the numbers are 0
unfoldable pub zeros : List ℕ → ℕ
zeros [] = 0
zeros (zero ∷ xs) = suc (zeros xs)
zeros (suc x ∷ xs) = zeros xs

pub zeros_length : (v : List ℕ) → zeros v ≤ length v
unfolding zeros
zeros_length [] = omega arith
zeros_length (zero ∷ xs) = omega (arith, zeros_length xs)
zeros_length (suc x ∷ xs) = omega (arith, zeros_length xs)

pub zeros_set : (v : List ℕ) (m : ℕ) → m < length v → get_or v m 0 ≡ 0 → zeros (set v m 1) < zeros v
unfolding zeros
zeros_set [] m l e = absurd (omega arith)
zeros_set (zero ∷ xs) zero l e = omega arith
zeros_set (suc x ∷ xs) zero l e = absurd (omega arith)
zeros_set (zero ∷ xs) (suc m) l e = omega (arith, zeros_set xs m (omega arith) e)
zeros_set (suc x ∷ xs) (suc m) l e = zeros_set xs m (omega arith) e
