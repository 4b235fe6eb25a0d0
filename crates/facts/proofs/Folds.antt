-- Loops over a list: whether one of the elements that are left passes, what a table's entry becomes by those that do, and lists by number.
use Prim.Native.Nat.{ℕ, suc, ◌+◌, ◌-◌, ◌<◌, ◌≤◌}
use mathlib.Core.Path.{◌≡◌, refl, ap, ◌∙◌, sym}
use mathlib.Core.Logic.{◌≢◌}
use mathlib.Core.Bool.{Bool, true, false}
use mathlib.Core.List.{List, [], ◌∷◌}
use native.Mathlib.Numerals.{add-one}
use native.Mathlib.Omega.{arith}
use borrow.Author.Tests.{eqb-true, eqb-false}
use lib.Dec.{eqb}
use lib.Seq.{drop-cons, get_or-set_same, get_or-set_other}
use lib.ListN.{length, get_or, set, drop, drop_of_length-le}
use Rattle.graph_access.specs.Words.{some, tabulate}

-- element k, and those behind it
module _ {A : Type 0} (test : A → Bool) (d : A) (xs : List A) (k : ℕ) where
  pub some_next : k < length xs → test (get_or xs k d) ≡ false → some test (drop k xs) ≡ some test (drop (k + 1) xs)
  unfolding some
  some_next l e = rw (drop-cons xs k d l, e, some) (ap (λ j. some test (drop j xs)) (sym (add-one k)))

  pub some_here : k < length xs → test (get_or xs k d) ≡ true → some test (drop k xs) ≡ true
  unfolding some
  some_here l e = rw (drop-cons xs k d l, e, some)

  pub some_none : length xs ≤ k → some test (drop k xs) ≡ false
  unfolding some
  some_none l = rw (drop_of_length-le xs l, some)

-- `value` where one of the elements passes, else as before
unfoldable pub by_some : {A : Type 0} → (A → Bool) → ℕ → List A → ℕ → ℕ
by_some test value xs before = elim (some test xs) [ true ↦ value | false ↦ before ]

module _ {A : Type 0} (test : A → Bool) (value : ℕ) (d : A) (xs : List A) (k : ℕ) where
  pub by_some_step : (b c : ℕ) → k < length xs → (test (get_or xs k d) ≡ true → c ≡ value) → (test (get_or xs k d) ≡ false → c ≡ b)
      → by_some test value (drop (k + 1) xs) c ≡ by_some test value (drop k xs) b
  unfolding by_some
  by_some_step b c l y n = go (test (get_or xs k d)) refl
    where
      always : (t : Bool) → some test (drop (k + 1) xs) ≡ t → by_some test value (drop (k + 1) xs) value ≡ value
      always true e = rw (e, by_some)
      always false e = rw (e, by_some)

      passed : test (get_or xs k d) ≡ true → by_some test value (drop k xs) b ≡ value
      passed e = let h = some_here test d xs k l e in rw (h, by_some)

      go : (t : Bool) → test (get_or xs k d) ≡ t → by_some test value (drop (k + 1) xs) c ≡ by_some test value (drop k xs) b
      go true e = ap (λ x. by_some test value (drop (k + 1) xs) x) (y e) ∙ always (some test (drop (k + 1) xs)) refl ∙ sym (passed e)
      go false e = let h = some_next test d xs k l e in ap (λ x. by_some test value (drop (k + 1) xs) x) (n e) ∙ rw (h, by_some)

  pub by_some_end : (b : ℕ) → length xs ≤ k → by_some test value (drop k xs) b ≡ b
  unfolding by_some
  by_some_end b l = rw (some_none test d xs k l, by_some)

-- an entry of a table that was written to
module _ (table : List ℕ) (y value s : ℕ) where
  pub set_here : y < length table → eqb y s ≡ true → get_or (set table y value) s 0 ≡ value
  set_here l e = ap (λ j. get_or (set table y value) j 0) (sym (eqb-true y s e)) ∙ get_or-set_same table y value 0 l

  pub set_there : eqb y s ≡ false → get_or (set table y value) s 0 ≡ get_or table s 0
  set_there e = let d : s ≢ y = λ z. eqb-false y s e (sym z) in get_or-set_other table y s value 0 d

-- a list by number, from i on
module _ {A : Type 0} (f : ℕ → A) (n i : ℕ) where
  pub tabulate_next : i < n → tabulate f i (n - i) ≡ f i ∷ tabulate f (i + 1) (n - (i + 1))
  unfolding tabulate
  tabulate_next l = let e : n - i ≡ suc (n - (i + 1)) = omega arith in rw (e, tabulate)

  pub tabulate-none : n ≤ i → tabulate f i (n - i) ≡ []
  unfolding tabulate
  tabulate-none l = let e : n - i ≡ 0 = omega arith in rw (e, tabulate)

module _ {A : Type 0} (test : A → Bool) (f : ℕ → A) (n i : ℕ) where
  pub some_tabulate_next : i < n → test (f i) ≡ false → some test (tabulate f i (n - i)) ≡ some test (tabulate f (i + 1) (n - (i + 1)))
  unfolding some
  some_tabulate_next l e = rw (tabulate_next f n i l, e, some)

  pub some-tabulate-here : i < n → test (f i) ≡ true → some test (tabulate f i (n - i)) ≡ true
  unfolding some
  some-tabulate-here l e = rw (tabulate_next f n i l, e, some)

  pub some-tabulate-none : n ≤ i → some test (tabulate f i (n - i)) ≡ false
  unfolding some
  some-tabulate-none l = rw (tabulate-none f n i l, some)
