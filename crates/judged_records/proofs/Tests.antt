-- Further tests, and what they say.
use Prim.Native.Nat.{ℕ, zero, suc, ◌<◌, ◌≤◌}
use mathlib.Core.Path.{◌≡◌, refl}
use mathlib.Core.Bool.{Bool, true, false, ◌&&◌, false≢true}
use mathlib.Core.List.{List, [], ◌∷◌}
use native.Mathlib.Omega.{arith}
use borrow.Author.Tests.{leb-true, le-leb, eqb-true}
use lib.Dec.{eqb, leb}
use lib.ListN.{length, get_or}
use Rattle.determine_side_effects.proofs.Lists.{both}
use Rattle.completeness.specs.Complete.{all}
use Rattle.rule_relation.proofs.Tests.{Says, says_as, denies}

pub says_at_most : (m n : ℕ) → Says (leb m n) (m ≤ n)
says_at_most m n = record { tells = leb-true m n; holds = le-leb m n }

-- a second test that counts where the first one is true
pub says_then : {a b : Bool} {A B : Type 0} → Says a A → (A → Says b B) → Says (a && b) (A × B)
says_then {a} {b} p q = record {
  tells = λ e. let x = p.tells (both a b e).0 in (x, (q x).tells (both a b e).1);
  holds = λ x. rw (p.holds x.0) ((q x.0).holds x.1);
}

pub says_where : {a b : Bool} {A B : Type 0} → Says a A → (A → Says b B) → Says (elim a [ true ↦ b | false ↦ true ]) (A → B)
says_where {a} {b} {A} {B} p q = go a refl
  where
    go : (c : Bool) → a ≡ c → Says (elim c [ true ↦ b | false ↦ true ]) (A → B)
    go true e = let x = p.tells e in record { tells = λ t y. (q x).tells t; holds = λ h. (q x).holds (h x) }
    go false e = record { tells = λ t y. absurd (denies p e y); holds = λ h. refl }

-- a fault that is none: a test before it, which has a fault of its own
pub says_faultless : {c : Bool} {C N : Type 0} (n m : ℕ) → Says c C → Says (eqb n 0) N → (m ≡ 0 → ⊥) → Says (eqb (elim c [ true ↦ n | false ↦ m ]) 0) (C × N)
says_faultless {c} {C} {N} n m p q h = go c refl
  where
    go : (b : Bool) → c ≡ b → Says (eqb (elim b [ true ↦ n | false ↦ m ]) 0) (C × N)
    go true e = says_as q (λ x. (p.tells e, x)) (λ x. x.1)
    go false e = record { tells = λ z. absurd (h (eqb-true m 0 z)); holds = λ x. absurd (denies p e x.0) }

-- every element passes a test
pub says_all : {A : Type 0} (P : A → Type 0) (test : A → Bool) (d : A) (xs : List A) → ((k : ℕ) → k < length xs → Says (test (get_or xs k d)) (P (get_or xs k d)))
    → Says (all test xs) ((k : ℕ) → k < length xs → P (get_or xs k d))
unfolding all
says_all P test d [] p = record { tells = λ e k u. absurd (omega arith); holds = λ h. refl }
says_all P test d (x ∷ xs) p = go (test x) (p 0 (omega arith)) (says_all P test d xs (λ k u. p (suc k) (omega (arith, u))))
  where
    go : (b : Bool) → Says b (P x) → Says (all test xs) ((k : ℕ) → k < length xs → P (get_or xs k d))
        → Says (elim b [ true ↦ all test xs | false ↦ false ]) ((k : ℕ) → k < suc (length xs) → P (get_or (x ∷ xs) k d))
    go true q r = record { tells = λ e. each (q.tells refl) (r.tells e); holds = λ h. r.holds (λ k u. h (suc k) (omega (arith, u))) }
      where
        each : P x → ((k : ℕ) → k < length xs → P (get_or xs k d)) → (k : ℕ) → k < suc (length xs) → P (get_or (x ∷ xs) k d)
        each y h zero u = y
        each y h (suc k) u = h k (omega arith)
    go false q r = record { tells = λ e. absurd (false≢true e); holds = λ h. absurd (denies q refl (h 0 (omega arith))) }
