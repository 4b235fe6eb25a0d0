-- Members of lists, and of sets as functions.
use Prim.Native.Nat.{ℕ, zero, suc, ◌+◌, ◌<◌, ◌≤◌}
use mathlib.Core.Path.{◌≡◌, refl, ◌∙◌, sym}
use mathlib.Core.Logic.{◌⊎◌, inl, inr, ⊎_elim}
use mathlib.Core.Bool.{Bool, true, false, ◌||◌}
use mathlib.Core.List.{List, [], ◌∷◌, ◌++◌}
use native.Mathlib.Omega.{arith}
use borrow.Author.Tests.{eqb-true, eqb-false, eq-eqb, ne_eqb}
use lib.Dec.{eqb}
use Rattle.graph_access.specs.Words.{tabulate}
use Rattle.keep_record.specs.Lines.{elem}
use Rattle.entry_order.specs.Order.{those}
use Rattle.cycles.specs.Search.{none, with}

abbrev pub In : List ℕ → ℕ → Type 0
In xs x = elem x xs ≡ true

abbrev pub Has : (ℕ → Bool) → ℕ → Type 0
Has f x = f x ≡ true

abbrev pub Lacks : (ℕ → Bool) → ℕ → Type 0
Lacks f x = f x ≡ false

-- ---- tests

pub never_both : {b : Bool} → b ≡ true → b ≡ false → ⊥
never_both p q = let e : true ≡ false = sym p ∙ q in let z : ◌≡◌ {A = ℕ} 0 1 = cc in omega arith

pub either : (b : Bool) → (b ≡ true) ⊎ (b ≡ false)
either true = inl refl
either false = inr refl

pub refuted : (b : Bool) → (b ≡ true → ⊥) → b ≡ false
refuted true h = absurd (h refl)
refuted false h = refl

pub same_test : (a b : Bool) → (a ≡ true → b ≡ true) → (b ≡ true → a ≡ true) → a ≡ b
same_test true b f h = sym (f refl)
same_test false b f h = sym (refuted b (λ e. never_both (h e) refl))

or_true : (a b : Bool) → (a || b) ≡ true → (a ≡ true) ⊎ (b ≡ true)
or_true true b e = inl refl
or_true false b e = inr e

or_second : (a b : Bool) → b ≡ true → (a || b) ≡ true
or_second true b e = refl
or_second false b e = e

or_neither : (a b : Bool) → (a || b) ≡ false → b ≡ false
or_neither true b e = absurd (never_both refl e)
or_neither false b e = e

-- ---- lists

pub in_none : (x : ℕ) → In [] x → ⊥
unfolding elem
in_none x e = never_both e refl

pub in_head : (x : ℕ) (xs : List ℕ) → In (x ∷ xs) x
unfolding elem
in_head x xs = rw (eq-eqb x x refl)

pub in_tail : (x y : ℕ) (ys : List ℕ) → In ys x → In (y ∷ ys) x
unfolding elem
in_tail x y ys i = or_second (eqb x y) (elem x ys) i

pub in_cases : (x y : ℕ) (ys : List ℕ) → In (y ∷ ys) x → (x ≡ y) ⊎ In ys x
unfolding elem
in_cases x y ys i = ⊎_elim (λ e. inl (eqb-true x y e)) (λ j. inr j) (or_true (eqb x y) (elem x ys) i)

pub in_single : (x y : ℕ) → In (y ∷ []) x → x ≡ y
in_single x y i = ⊎_elim (λ e. e) (λ j. absurd (in_none x j)) (in_cases x y [] i)

pub in_left : (x : ℕ) (xs ys : List ℕ) → In xs x → In (xs ++ ys) x
in_left x [] ys i = absurd (in_none x i)
in_left x (y ∷ xs) ys i = ⊎_elim (λ e. rw e (in_head y (xs ++ ys))) (λ j. in_tail x y (xs ++ ys) (in_left x xs ys j)) (in_cases x y xs i)

pub in_right : (x : ℕ) (xs ys : List ℕ) → In ys x → In (xs ++ ys) x
in_right x [] ys i = i
in_right x (y ∷ xs) ys i = in_tail x y (xs ++ ys) (in_right x xs ys i)

pub in_either : (x : ℕ) (xs ys : List ℕ) → In (xs ++ ys) x → In xs x ⊎ In ys x
in_either x [] ys i = inr i
in_either x (y ∷ xs) ys i =
    ⊎_elim (λ e. inl (rw e (in_head y xs))) (λ j. ⊎_elim (λ a. inl (in_tail x y xs a)) (λ b. inr b) (in_either x xs ys j)) (in_cases x y (xs ++ ys) i)

-- ---- sets

pub none_lacks : (x : ℕ) → Lacks none x
unfolding none
none_lacks x = refl

pub with_new : (x : ℕ) (f : ℕ → Bool) → Has (with x f) x
unfolding with
with_new x f = rw (eq-eqb x x refl)

pub with_old : (x y : ℕ) (f : ℕ → Bool) → Has f x → Has (with y f) x
unfolding with
with_old x y f i = or_second (eqb x y) (f x) i

pub with_cases : (x y : ℕ) (f : ℕ → Bool) → Has (with y f) x → (x ≡ y) ⊎ Has f x
unfolding with
with_cases x y f i = ⊎_elim (λ e. inl (eqb-true x y e)) (λ j. inr j) (or_true (eqb x y) (f x) i)

pub without : (x y : ℕ) (f : ℕ → Bool) → Lacks (with y f) x → Lacks f x
unfolding with
without x y f o = or_neither (eqb x y) (f x) o

pub still_lacks : (x y : ℕ) (f : ℕ → Bool) → (x ≡ y → ⊥) → Lacks f x → Lacks (with y f) x
unfolding with
still_lacks x y f d o = rw (ne_eqb x y d, o)

-- ---- those that pass a test, and the numbers below n

pub in_those : (test : ℕ → Bool) (x : ℕ) (xs : List ℕ) → In xs x → test x ≡ true → In (those test xs) x
unfolding those
in_those test x [] i t = absurd (in_none x i)
in_those test x (y ∷ ys) i t = go (λ j. in_those test x ys j t) (test y) refl
  where
    go : (In ys x → In (those test ys) x) → (b : Bool) → test y ≡ b → In (those test (y ∷ ys)) x
    go f true e = rw (e, those) (⊎_elim (λ s. rw s (in_head y (those test ys))) (λ j. in_tail x y (those test ys) (f j)) (in_cases x y ys i))
    go f false e = rw (e, those) (⊎_elim (λ s. absurd (never_both (rw s at t) e)) f (in_cases x y ys i))

pub those_in : (test : ℕ → Bool) (x : ℕ) (xs : List ℕ) → In (those test xs) x → In xs x × (test x ≡ true)
unfolding those
those_in test x [] i = absurd (in_none x i)
those_in test x (y ∷ ys) i = go (those_in test x ys) (test y) refl
  where
    go : (In (those test ys) x → In ys x × (test x ≡ true)) → (b : Bool) → test y ≡ b → In (y ∷ ys) x × (test x ≡ true)
    go f true e =
        ⊎_elim (λ s. (rw s (in_head y ys), rw s e)) (λ j. (in_tail x y ys (f j).0, (f j).1)) (in_cases x y (those test ys) (rw (e, those) at i))
    go f false e = let r = f (rw (e, those) at i) in (in_tail x y ys r.0, r.1)

pub in_count : (x i n : ℕ) → i ≤ x → x < i + n → In (tabulate (λ u. u) i n) x
unfolding tabulate
in_count x i zero a b = absurd (omega arith)
in_count x i (suc n) a b = go (eqb x i) refl (in_count x (i + 1) n)
  where
    go : (t : Bool) → eqb x i ≡ t → (i + 1 ≤ x → x < i + 1 + n → In (tabulate (λ u. u) (i + 1) n) x) → In (i ∷ tabulate (λ u. u) (i + 1) n) x
    go true e f = rw (eqb-true x i e) (in_head i (tabulate (λ u. u) (i + 1) n))
    go false e f = let d = eqb-false x i e in in_tail x i (tabulate (λ u. u) (i + 1) n) (f (omega (arith, d)) (omega arith))

pub count_in : (x i n : ℕ) → In (tabulate (λ u. u) i n) x → (i ≤ x) × (x < i + n)
unfolding tabulate
count_in x i zero j = absurd (in_none x j)
count_in x i (suc n) j =
    ⊎_elim (λ e. (omega (arith, e), omega (arith, e))) (λ k. let r = count_in x (i + 1) n k in (omega (arith, r.0), omega (arith, r.1))) (in_cases x i (tabulate (λ u. u) (i + 1) n) j)
