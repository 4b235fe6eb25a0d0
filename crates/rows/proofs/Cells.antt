-- What was read: the numbers that stand there, each as its rule asks.
use Prim.Native.Nat.{ℕ, zero, suc, ◌+◌, ◌<◌, ◌≤◌}
use mathlib.Core.Path.{◌≡◌, refl, ap, ◌∙◌, sym}
use mathlib.Core.Bool.{Bool, true, false}
use mathlib.Core.List.{List, [], ◌∷◌}
use native.Mathlib.Omega.{arith}
use native.Mathlib.Nat.{add-zero}
use borrow.Author.Tests.{ltb-true, ltb-false, leb-false}
use lib.Dec.{ltb, leb}
use lib.ListN.{length, get_or}
use Rattle.rows.specs.Walk.{Parsed, got, fault, and_then, Rule, value, count, within, obeys, number, cells}
use Rattle.refusal.specs.declared.Refusal.{Refusal}

pub no_fault : {A : Type 0} {a : A} {q : ℕ} {why : Refusal} → ◌≡◌ {A = Parsed A} (fault why) (got a q) → ⊥
no_fault e = let z : ◌≡◌ {A = ℕ} 0 1 = cc in omega arith

-- a walk of two parts that was not refused
pub then_got : {A B : Type 0} (x : Parsed A) (k : A → ℕ → Parsed B) {b : B} {q : ℕ} → and_then x k ≡ got b q → (a : A) × (p : ℕ) × (x ≡ got a p) × (k a p ≡ got b q)
unfolding and_then
then_got (got a p) k e = (a, p, refl, e)
then_got (fault why) k e = absurd (no_fault e)

-- what a rule asks of a number
abbrev pub Obeys : Rule → ℕ → Type 0
Obeys (value low limit) x = (low ≤ x) × (x < limit)
Obeys (count most low limit) x = (x ≤ most) × (low ≤ x) × (x < limit)

pub record Number (r : Rule) (numbers : List ℕ) (at x q : ℕ) : Type 0 where
  pub inside : at < length numbers
  pub same : x ≡ get_or numbers at 0
  pub next : q ≡ at + 1
  pub good : Obeys r x

got_same : {A : Type 0} {a b : A} {p q : ℕ} → ◌≡◌ {A = Parsed A} (got a p) (got b q) → (a ≡ b) × (p ≡ q)
got_same e = (cc, cc)

within_got : (low limit y at x q : ℕ) → within low limit y at ≡ got x q → (x ≡ y) × (q ≡ at + 1) × (low ≤ x) × (x < limit)
unfolding within
within_got low limit y at x q e = go (ltb y low) refl (leb limit y) refl
  where
    go : (a : Bool) → ltb y low ≡ a → (b : Bool) → leb limit y ≡ b → (x ≡ y) × (q ≡ at + 1) × (low ≤ x) × (x < limit)
    go true u b v = absurd (no_fault (rw (u, within) at e))
    go false u true v = absurd (no_fault (rw (u, v, within) at e))
    go false u false v =
        let s = got_same (rw (u, v, within) at e) in
        (sym s.0, sym s.1, omega (arith, s.0, ltb-false y low u), omega (arith, s.0, leb-false limit y v))

obeys_got : (r : Rule) (y at x q : ℕ) → obeys r y at ≡ got x q → (x ≡ y) × (q ≡ at + 1) × Obeys r x
unfolding obeys
obeys_got (value low limit) y at x q e = let w = within_got low limit y at x q e in (w.0, w.1, (w.2, w.3))
obeys_got (count most low limit) y at x q e = go (ltb most y) refl
  where
    go : (a : Bool) → ltb most y ≡ a → (x ≡ y) × (q ≡ at + 1) × Obeys (count most low limit) x
    go true u = absurd (no_fault (rw (u, obeys) at e))
    go false u =
        let w = within_got low limit y at x q (rw (u, obeys) at e) in
        (w.0, w.1, (omega (arith, w.0, ltb-false most y u), w.2, w.3))

pub number_got : (r : Rule) (numbers : List ℕ) (at : ℕ) {x q : ℕ} → number r numbers at ≡ got x q → Number r numbers at x q
unfolding number
number_got r numbers at {x} {q} e = go (ltb at (length numbers)) refl
  where
    go : (a : Bool) → ltb at (length numbers) ≡ a → Number r numbers at x q
    go true u =
        let o = obeys_got r (get_or numbers at 0) at x q (rw (u, number) at e) in
        record { inside = ltb-true _ _ u; same = o.0; next = o.1; good = o.2 }
    go false u = absurd (no_fault (rw (u, number) at e))

pub record Cells (rs : List Rule) (numbers : List ℕ) (at : ℕ) (xs : List ℕ) (q : ℕ) : Type 0 where
  pub long : length xs ≡ length rs
  pub next : q ≡ at + length rs
  pub inside : (i : ℕ) → i < length rs → at + i < length numbers
  pub same : (i : ℕ) → i < length rs → get_or xs i 0 ≡ get_or numbers (at + i) 0
  pub good : (i : ℕ) → i < length rs → Obeys (get_or rs i (value 0 0)) (get_or xs i 0)

-- a number, and the numbers behind it
module _ (r : Rule) (rs : List Rule) (numbers : List ℕ) (at x p q : ℕ) (ys : List ℕ) (n : Number r numbers at x p) (c : Cells rs numbers p ys q) where
  inside : (i : ℕ) → i < length (r ∷ rs) → at + i < length numbers
  inside zero h = omega (arith, n.inside)
  inside (suc i) h = omega (arith, c.inside i (omega arith), n.next)

  same : (i : ℕ) → i < length (r ∷ rs) → get_or (x ∷ ys) i 0 ≡ get_or numbers (at + i) 0
  same zero h = n.same ∙ ap (λ j. get_or numbers j 0) (sym (add-zero at))
  same (suc i) h = let e : p + i ≡ at + suc i = omega (arith, n.next) in c.same i (omega arith) ∙ ap (λ j. get_or numbers j 0) e

  good : (i : ℕ) → i < length (r ∷ rs) → Obeys (get_or (r ∷ rs) i (value 0 0)) (get_or (x ∷ ys) i 0)
  good zero h = n.good
  good (suc i) h = c.good i (omega arith)

  joined : Cells (r ∷ rs) numbers at (x ∷ ys) q
  joined = record { long = ap suc c.long; next = omega (arith, c.next, n.next); inside = inside; same = same; good = good }

pub cells_got : (rs : List Rule) (numbers : List ℕ) (at : ℕ) {xs : List ℕ} {q : ℕ} → cells rs numbers at ≡ got xs q → Cells rs numbers at xs q
unfolding cells
cells_got [] numbers at {xs} {q} e =
    let s = got_same e in
    record {
      long = sym (ap length s.0);
      next = sym s.1 ∙ sym (add-zero at);
      inside = λ i h. absurd (omega arith);
      same = λ i h. absurd (omega arith);
      good = λ i h. absurd (omega arith);
    }
cells_got (r ∷ rs) numbers at {xs} {q} e = go (λ p ys f. cells_got rs numbers p f) (then_got (number r numbers at) _ e)
  where
    go : ((p : ℕ) (ys : List ℕ) → cells rs numbers p ≡ got ys q → Cells rs numbers p ys q)
        → (x : ℕ) × (p : ℕ) × (number r numbers at ≡ got x p) × (and_then (cells rs numbers p) (λ ys o. got (x ∷ ys) o) ≡ got xs q) → Cells (r ∷ rs) numbers at xs q
    go rec t =
        let n = number_got r numbers at t.2 in
        let u = then_got (cells rs numbers t.1) _ t.3 in
        let s = got_same u.3 in
        let f : cells rs numbers t.1 ≡ got u.0 q = u.2 ∙ ap (got u.0) s.1 in
        let c = rec t.1 u.0 f in
        rw (sym s.0) (joined r rs numbers at t.0 t.1 q u.0 n c)
