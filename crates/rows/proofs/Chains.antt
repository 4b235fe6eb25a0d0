-- Rows in chains: what the tables hold when a row is put in, and where going back along a chain leads.
-- Long lists are searched so: going back along a chain finds exactly the repeats.
use Prim.Native.Nat.{ℕ, zero, suc, ◌+◌, ◌-◌, ◌*◌, ◌%◌, ◌<◌, ◌≤◌}
use mathlib.Core.Path.{◌≡◌, refl, ap, ◌∙◌, sym}
use mathlib.Core.Logic.{◌≢◌}
use mathlib.Core.Bool.{Bool, true, false}
use mathlib.Core.List.{List}
use native.Mathlib.Omega.{arith}
use native.Mathlib.Nat.{mod-lt}
use native.Mathlib.Numerals.{add-one}
use borrow.Author.Tests.{eq-eqb, ne_eqb, eqb-true, eqb-false}
use lib.Dec.{eqb}
use lib.ListN.{length, get_or, set, replicate, length-replicate, get_or-replicate, length-set}
use lib.Seq.{get_or-set_same, get_or-set_other}
use Rattle.rows.specs.Walk.{elem, firsts_at, repeated}
use Rattle.rows.specs.Chain.{last_of, Linked, Chained}
use Rattle.rows.proofs.Distinct.{seen_miss, repeated_in}

module _ (numbers : List ℕ) (at width : ℕ) where
  last_hit : (h k : ℕ) → get_or numbers (at + width * k) 0 % 1024 ≡ h → last_of numbers at width h (suc k) ≡ suc k
  unfolding last_of
  last_hit h k e = rw (eq-eqb _ _ e, last_of)

  last_miss : (h k : ℕ) → get_or numbers (at + width * k) 0 % 1024 ≢ h → last_of numbers at width h (suc k) ≡ last_of numbers at width h k
  unfolding last_of
  last_miss h k d = rw (ne_eqb _ _ d, last_of)

  last_below : (h k : ℕ) → last_of numbers at width h k ≤ k
  unfolding last_of
  last_below h zero = omega arith
  last_below h (suc k) = go (eqb (get_or numbers (at + width * k) 0 % 1024) h) refl (last_below h k)
    where
      go : (b : Bool) → eqb (get_or numbers (at + width * k) 0 % 1024) h ≡ b → last_of numbers at width h k ≤ k → last_of numbers at width h (suc k) ≤ suc k
      go true e r = rw (last_hit h k (eqb-true _ _ e)) (omega arith)
      go false e r = rw (last_miss h k (eqb-false _ _ e)) (omega arith)

  pub link_below : (k : ℕ) (nexts : List ℕ) → Linked numbers at width k nexts → (j : ℕ) → j < k → get_or nexts j 0 ≤ j
  link_below k nexts l j h = rw (l j h) (last_below (get_or numbers (at + width * j) 0 % 1024) j)

  last_named : (h k : ℕ) → 0 < last_of numbers at width h k → get_or numbers (at + width * (last_of numbers at width h k - 1)) 0 % 1024 ≡ h
  unfolding last_of
  last_named h zero p = absurd (omega arith)
  last_named h (suc k) p = go (eqb (get_or numbers (at + width * k) 0 % 1024) h) refl (last_named h k)
    where
      go : (b : Bool) → eqb (get_or numbers (at + width * k) 0 % 1024) h ≡ b
          → (0 < last_of numbers at width h k → get_or numbers (at + width * (last_of numbers at width h k - 1)) 0 % 1024 ≡ h)
          → get_or numbers (at + width * (last_of numbers at width h (suc k) - 1)) 0 % 1024 ≡ h
      go true e r =
          let z : suc k - 1 ≡ k = omega arith in
          rw (last_hit h k (eqb-true _ _ e), z) (eqb-true _ _ e)
      go false e r =
          let m = last_miss h k (eqb-false _ _ e) in
          let l : 0 < last_of numbers at width h k = rw m at p in
          rw m (r l)

  -- the rows behind the latest of x's chain do not have x
  last_elem : (x k : ℕ) → elem x (firsts_at numbers at width (last_of numbers at width (x % 1024) k)) ≡ elem x (firsts_at numbers at width k)
  unfolding last_of
  last_elem x zero = refl
  last_elem x (suc k) = go (eqb (get_or numbers (at + width * k) 0 % 1024) (x % 1024)) refl (last_elem x k)
    where
      go : (b : Bool) → eqb (get_or numbers (at + width * k) 0 % 1024) (x % 1024) ≡ b
          → elem x (firsts_at numbers at width (last_of numbers at width (x % 1024) k)) ≡ elem x (firsts_at numbers at width k)
          → elem x (firsts_at numbers at width (last_of numbers at width (x % 1024) (suc k))) ≡ elem x (firsts_at numbers at width (suc k))
      go true e r = rw (last_hit (x % 1024) k (eqb-true _ _ e))
      go false e r =
          let z : suc k - 1 ≡ k = omega arith in
          let d : get_or numbers (at + width * (suc k - 1)) 0 ≢ x = λ f. eqb-false _ _ e (ap (λ y. y % 1024) (rw z at f)) in
          let s : elem x (firsts_at numbers at width k) ≡ elem x (firsts_at numbers at width (suc k)) = rw z at (seen_miss numbers at width x (suc k) (omega arith) d) in
          rw (last_miss (x % 1024) k (eqb-false _ _ e)) (r ∙ s)

  -- where the search for x among k rows stands: v is 1 more than a row of x's chain, or 0, and what is left is the whole answer
  pub record Back (k x v : ℕ) : Type 0 where
    pub low : v ≤ k
    pub named : 0 < v → get_or numbers (at + width * (v - 1)) 0 % 1024 ≡ x % 1024
    pub left : elem x (firsts_at numbers at width v) ≡ elem x (firsts_at numbers at width k)

  pub back_start : (k x v : ℕ) → v ≡ last_of numbers at width (x % 1024) k → Back k x v
  back_start k x v e = rw e (record { low = last_below (x % 1024) k; named = last_named (x % 1024) k; left = last_elem x k })

  pub back_step : {k x v w : ℕ} → Back k x v → 0 < v → get_or numbers (at + width * (v - 1)) 0 ≢ x
      → w ≡ last_of numbers at width (get_or numbers (at + width * (v - 1)) 0 % 1024) (v - 1) → Back k x w
  back_step {k} {x} {v} {w} s p d e =
      let b = back_start (v - 1) x w (rw (s.named p) at e) in
      record {
        low = omega (arith, b.low, s.low);
        named = b.named;
        left = b.left ∙ seen_miss numbers at width x v p d ∙ s.left;
      }

  pub repeated_at : (k q : ℕ) → q ≡ at + width * k → q < length numbers
      → elem (get_or numbers (at + width * k) 0) (firsts_at numbers at width k) ≡ repeated numbers (firsts_at numbers at width k) q
  repeated_at k q e h = rw (sym e) (sym (repeated_in numbers (firsts_at numbers at width k) q h))

  -- the tables with no row, and with one more
  pub chains_none : Chained numbers at width 0 (replicate 1024 0) (replicate 16384 0)
  unfolding last_of
  chains_none = record { wide = length-replicate {A = ℕ} 1024 0; long = length-replicate {A = ℕ} 16384 0; latest = λ h l. get_or-replicate 1024 h 0 0 l; linked = λ j l. absurd (omega arith) }

module _ (numbers : List ℕ) (at width k h : ℕ) (heads nexts : List ℕ) (is : h ≡ get_or numbers (at + width * k) 0 % 1024)
    (low : k < 16384) (c : Chained numbers at width k heads nexts) where
  short : h < 1024
  short = rw is (mod-lt (get_or numbers (at + width * k) 0) (omega arith))

  latest : (g : ℕ) → g < 1024 → get_or (set heads h (k + 1)) g 0 ≡ last_of numbers at width g (k + 1)
  latest g l = go (eqb g h) refl
    where
      go : (b : Bool) → eqb g h ≡ b → get_or (set heads h (k + 1)) g 0 ≡ last_of numbers at width g (k + 1)
      go true e =
          let f : g ≡ h = eqb-true g h e in
          rw (f, get_or-set_same heads h (k + 1) 0 (omega (arith, short, c.wide)), add-one k) (sym (last_hit numbers at width h k (sym is)))
      go false e =
          let d : g ≢ h = eqb-false g h e in
          rw (get_or-set_other heads h g (k + 1) 0 d, add-one k)
          (c.latest g l ∙ sym (last_miss numbers at width g k (λ f. d (sym (is ∙ f)))))

  linked : Linked numbers at width (k + 1) (set nexts k (get_or heads h 0))
  linked j l = go (eqb j k) refl
    where
      go : (b : Bool) → eqb j k ≡ b → get_or (set nexts k (get_or heads h 0)) j 0 ≡ last_of numbers at width (get_or numbers (at + width * j) 0 % 1024) j
      go true e =
          let f : j ≡ k = eqb-true j k e in
          rw (f, get_or-set_same nexts k (get_or heads h 0) 0 (omega (arith, low, c.long)), ← is) (c.latest h short)
      go false e =
          let d : j ≢ k = eqb-false j k e in
          rw (get_or-set_other nexts k j (get_or heads h 0) 0 d) (c.linked j (omega arith))

  pub chains_more : Chained numbers at width (k + 1) (set heads h (k + 1)) (set nexts k (get_or heads h 0))
  chains_more = record { wide = length-set heads h (k + 1) ∙ c.wide; long = length-set nexts k (get_or heads h 0) ∙ c.long; latest = latest; linked = linked }
