-- What tests say: a test is true exactly where a statement holds.
use Prim.Native.Nat.{ℕ, ◌<◌}
use mathlib.Core.Path.{◌≡◌, refl, sym, ◌∙◌}
use mathlib.Core.Logic.{◌⊎◌, inl, inr, ⊎_elim}
use mathlib.Core.Bool.{Bool, true, false, ◌&&◌, ◌||◌, not, false≢true}
use mathlib.Core.List.{List}
use borrow.Author.Tests.{eqb-true, ltb-true, lt-ltb, eq-eqb}
use lib.Dec.{eqb, ltb}
use lib.ListN.{length, get_or}
use Rattle.determine_side_effects.specs.graph_access_crate.Words.{some}
use Rattle.determine_side_effects.proofs.Lists.{both, either, some_found, some_holds}

pub record Says (b : Bool) (A : Type 0) : Type 0 where
  pub tells : b ≡ true → A
  pub holds : A → b ≡ true

-- the same, said by another statement
pub says_as : {b : Bool} {A B : Type 0} → Says b A → (A → B) → (B → A) → Says b B
says_as p to of = record { tells = λ e. to (p.tells e); holds = λ x. p.holds (of x) }

-- what a test says that is false
pub denies : {b : Bool} {A : Type 0} → Says b A → b ≡ false → A → ⊥
denies p e x = false≢true (sym e ∙ p.holds x)

pub denied : {b : Bool} {A : Type 0} → Says b A → (A → ⊥) → b ≡ false
denied {b} p h = go b (λ e. h (p.tells e))
  where
    go : (b : Bool) → (b ≡ true → ⊥) → b ≡ false
    go true h = absurd (h refl)
    go false h = refl

-- the single tests
pub says_it : (b : Bool) → Says b (b ≡ true)
says_it b = record { tells = λ e. e; holds = λ e. e }

pub says_equal : (m n : ℕ) → Says (eqb m n) (m ≡ n)
says_equal m n = record { tells = eqb-true m n; holds = eq-eqb m n }

pub says_less : (m n : ℕ) → Says (ltb m n) (m < n)
says_less m n = record { tells = ltb-true m n; holds = lt-ltb m n }

pub says_false : (b : Bool) → Says (not b) (b ≡ false)
says_false true = record { tells = λ e. sym e; holds = λ e. sym e }
says_false false = record { tells = λ e. refl; holds = λ e. refl }

pub says_not : {a : Bool} {A : Type 0} → Says a A → Says (not a) (A → ⊥)
says_not {a} p = says_as (says_false a) (denies p) (denied p)

-- two tests
module _ {a b : Bool} {A B : Type 0} (p : Says a A) (q : Says b B) where
  pub says_both : Says (a && b) (A × B)
  says_both = record { tells = λ e. (p.tells (both a b e).0, q.tells (both a b e).1); holds = λ x. rw (p.holds x.0) (q.holds x.1) }

  pub says_either : Says (a || b) (A ⊎ B)
  says_either = record { tells = λ e. ⊎_elim (λ x. inl (p.tells x)) (λ x. inr (q.tells x)) (either a b e); holds = ⊎_elim (λ x. first a b (p.holds x)) (λ x. second a b (q.holds x)) }
    where
      first : (a b : Bool) → a ≡ true → (a || b) ≡ true
      first a b e = rw e

      second : (a b : Bool) → b ≡ true → (a || b) ≡ true
      second true b e = refl
      second false b e = e

-- one test wherever another one is true
pub says_if_or : {a b : Bool} {A B : Type 0} → Says a A → Says b B → Says (not a || b) (A → B)
says_if_or {a} {b} {A} {B} p q = says_as (says_either (says_not p) q) (λ c x. ⊎_elim (λ h. absurd (h x)) (λ y. y) c) (go a refl)
  where
    go : (c : Bool) → a ≡ c → (A → B) → (A → ⊥) ⊎ B
    go true e f = inr (f (p.tells e))
    go false e f = inl (denies p e)

pub says_if_and : {a b : Bool} {A B : Type 0} → Says a A → Says b B → Says (not (a && not b)) (A → B)
says_if_and {a} {b} p q = rw (← same a b) (says_if_or p q)
  where
    same : (a b : Bool) → (not a || b) ≡ not (a && not b)
    same true true = refl
    same true false = refl
    same false b = refl

-- one of two tests, as a third one decides
pub says_by : {c a b : Bool} {C A B : Type 0} → Says c C → Says a A → Says b B → Says (elim c [ true ↦ a | false ↦ b ]) ((C × A) ⊎ ((C → ⊥) × B))
says_by {c} {a} {b} {C} {A} {B} s p q = go c refl
  where
    go : (d : Bool) → c ≡ d → Says (elim d [ true ↦ a | false ↦ b ]) ((C × A) ⊎ ((C → ⊥) × B))
    go true e = says_as p (λ x. inl (s.tells e, x)) (⊎_elim (λ x. x.1) (λ x. absurd (x.0 (s.tells e))))
    go false e = says_as q (λ x. inr (denies s e, x)) (⊎_elim (λ x. absurd (denies s e x.0)) (λ x. x.1))

-- an element that passes a test
pub says_some : {A : Type 0} {P : A → Type 0} (test : A → Bool) (d : A) (xs : List A) → ((x : A) → Says (test x) (P x)) → Says (some test xs) ((k : ℕ) × (k < length xs) × P (get_or xs k d))
says_some test d xs p = record {
  tells = λ e. let f = some_found test d xs e in (f.0, f.1, (p (get_or xs f.0 d)).tells f.2);
  holds = λ f. some_holds test d xs f.0 f.1 ((p (get_or xs f.0 d)).holds f.2);
}
