-- Members of a list that a test filters, of a function's values, and of the pairs that begin with a number.
use Prim.Native.Nat.{ℕ, zero, suc, ◌+◌, ◌<◌, ◌≤◌}
use mathlib.Core.Path.{◌≡◌, refl, ap, ◌∙◌, sym, subst}
use mathlib.Core.Logic.{◌⊎◌, inl, inr}
use mathlib.Core.Bool.{Bool, true, false, false≢true}
use mathlib.Core.List.{List, [], ◌∷◌}
use native.Mathlib.Omega.{arith}
use lib.Dec.{eqb}
use borrow.Author.Tests.{eqb-true, eqb-false, eq-eqb}
use Rattle.determine_side_effects.specs.graph_access_crate.Words.{tabulate}
use Rattle.keep_record.specs.Lines.{elem}
use Rattle.rust_values.specs.Values.{Pair, pair, filter, In}
use Rattle.rust_values.proofs.Members.{elem_in, in_elem}
use Rattle.rust_effects.specs.DetermineSideEffects.{dependents_of, pending_below}

-- those that pass the test
module _ {A : Type 0} (test : A → Bool) where
  pub in_filter : (x : A) (xs : List A) → In x (filter test xs) → In x xs × (test x ≡ true)
  unfolding filter
  in_filter x [] h = absurd h
  in_filter x (y ∷ ys) h = go (test y) refl (λ r. in_filter x ys r)
    where
      last : (x ≡ y) ⊎ In x (filter test ys) → test y ≡ true → (In x (filter test ys) → In x ys × (test x ≡ true)) → In x (y ∷ ys) × (test x ≡ true)
      last (inl e) t more = (inl e, ap test e ∙ t)
      last (inr r) t more = let m = more r in (inr m.0, m.1)

      go : (b : Bool) → test y ≡ b → (In x (filter test ys) → In x ys × (test x ≡ true)) → In x (y ∷ ys) × (test x ≡ true)
      go true t more = last (rw (t, filter) at h) t more
      go false t more = let m = more (rw (t, filter) at h) in (inr m.0, m.1)

  pub filter_in : (x : A) (xs : List A) → In x xs → test x ≡ true → In x (filter test xs)
  unfolding filter
  filter_in x [] h e = absurd h
  filter_in x (y ∷ ys) (inl q) e = let t : test y ≡ true = ap test (sym q) ∙ e in rw (t, filter) (inl q)
  filter_in x (y ∷ ys) (inr h) e = go (test y) refl (filter_in x ys h e)
    where
      go : (b : Bool) → test y ≡ b → In x (filter test ys) → In x (filter test (y ∷ ys))
      go true t r = rw (t, filter) (inr r)
      go false t r = rw (t, filter) r

-- the numbers from i on, n of them
pub in_numbers : (x i n : ℕ) → In x (tabulate (λ m. m) i n) → x < i + n
unfolding tabulate
in_numbers x i zero h = absurd h
in_numbers x i (suc n) (inl e) = omega (arith, e)
in_numbers x i (suc n) (inr h) = omega (arith, in_numbers x (i + 1) n h)

pub numbers_in : (x i n : ℕ) → i ≤ x → x < i + n → In x (tabulate (λ m. m) i n)
unfolding tabulate
numbers_in x i zero l h = absurd (omega (arith, l, h))
numbers_in x i (suc n) l h = go (eqb x i) refl (λ b c. numbers_in x (i + 1) n b c)
  where
    go : (b : Bool) → eqb x i ≡ b → (i + 1 ≤ x → x < i + 1 + n → In x (tabulate (λ m. m) (i + 1) n)) → (x ≡ i) ⊎ In x (tabulate (λ m. m) (i + 1) n)
    go true e more = inl (eqb-true x i e)
    go false e more = inr (more (omega (arith, l, eqb-false x i e)) (omega (arith, h)))

-- the second numbers of the pairs that begin with m
pub in_dependents : (m x : ℕ) (ps : List Pair) → In x (dependents_of ps m) → In (pair m x) ps
unfolding dependents_of filter
in_dependents m x [] h = absurd h
in_dependents m x (p ∷ ps) h = go (eqb p.first m) refl (λ r. in_dependents m x ps r)
  where
    same : x ≡ p.second → p.first ≡ m → pair m x ≡ p
    same e f = λ i. record { first = sym f i; second = e i }

    last : (x ≡ p.second) ⊎ In x (dependents_of ps m) → p.first ≡ m → (In x (dependents_of ps m) → In (pair m x) ps) → In (pair m x) (p ∷ ps)
    last (inl e) f more = inl (same e f)
    last (inr r) f more = inr (more r)

    go : (b : Bool) → eqb p.first m ≡ b → (In x (dependents_of ps m) → In (pair m x) ps) → In (pair m x) (p ∷ ps)
    go true t more = last (rw (t, filter) at h) (eqb-true p.first m t) more
    go false t more = inr (more (rw (t, filter) at h))

pub dependents_in : (m x : ℕ) (ps : List Pair) → In (pair m x) ps → In x (dependents_of ps m)
unfolding dependents_of filter
dependents_in m x [] h = absurd h
dependents_in m x (p ∷ ps) (inl q) =
    let t : eqb p.first m ≡ true = eq-eqb p.first m (ap (λ o. o.first) (sym q)) in
    rw (t, filter) (inl (ap (λ (o : Pair). o.second) q))
dependents_in m x (p ∷ ps) (inr h) = go (eqb p.first m) refl (dependents_in m x ps h)
  where
    go : (b : Bool) → eqb p.first m ≡ b → In x (dependents_of ps m) → In x (dependents_of (p ∷ ps) m)
    go true t r = rw (t, filter) (inr r)
    go false t r = rw (t, filter) r

-- the modules below n whose bit is set
pub in_pending : (x n : ℕ) (xs : List ℕ) → In x (pending_below xs n) → In x xs
unfolding pending_below
in_pending x zero xs h = absurd h
in_pending x (suc n) xs h = go (elem n xs) refl (λ r. in_pending x n xs r)
  where
    last : (x ≡ n) ⊎ In x (pending_below xs n) → In n xs → (In x (pending_below xs n) → In x xs) → In x xs
    last (inl e) t more = subst (λ k. In k xs) (sym e) t
    last (inr r) t more = more r

    go : (b : Bool) → elem n xs ≡ b → (In x (pending_below xs n) → In x xs) → In x xs
    go true t more = last (rw (t, pending_below) at h) (elem_in n xs t) more
    go false t more = more (rw (t, pending_below) at h)

pub pending_in : (x n : ℕ) (xs : List ℕ) → In x xs → x < n → In x (pending_below xs n)
unfolding pending_below
pending_in x zero xs h l = absurd (omega (arith, l))
pending_in x (suc n) xs h l = go (elem n xs) refl (eqb x n) refl (λ b. pending_in x n xs h b)
  where
    go : (b : Bool) → elem n xs ≡ b → (c : Bool) → eqb x n ≡ c → (x < n → In x (pending_below xs n)) → In x (pending_below xs (suc n))
    go true t true e more = rw (t, pending_below) (inl (eqb-true x n e))
    go true t false e more = rw (t, pending_below) (inr (more (omega (arith, l, eqb-false x n e))))
    go false t true e more = absurd (false≢true (sym t ∙ in_elem n xs (subst (λ k. In k xs) (eqb-true x n e) h)))
    go false t false e more = rw (t, pending_below) (more (omega (arith, l, eqb-false x n e)))
