-- What the lists of consequences hold, by their segments: each consequence is a candidate of a segment, and each candidate that gives a fact
-- is listed.
use Prim.Native.Nat.{ℕ, zero, suc, ◌+◌, ◌-◌, ◌<◌, ◌≤◌}
use mathlib.Core.Path.{◌≡◌, refl, ◌∙◌, ap, subst}
use mathlib.Core.Logic.{◌⊎◌, inl, inr, ⊎_elim}
use mathlib.Core.Bool.{Bool, true, false}
use mathlib.Core.List.{List, [], ◌∷◌, ◌++◌, map}
use native.Mathlib.Omega.{arith}
use borrow.Author.Tests.{eqb-false}
use lib.Dec.{eqb, eqb-suc-zero}
use lib.ListN.{length, get_or}
use Rattle.determine_side_effects.specs.facts_crate.declared.Fact.{Fact}
use Rattle.determine_side_effects.specs.facts_crate.Facts.{module_fact}
use Rattle.keep_rules.specs.declared.Candidate.{Candidate}
use Rattle.keep_rules.specs.declared.Candidate.TheVariants.{Gives, Nothing}
use Rattle.keep_rules.specs.Rules.{Segment, when, Given, picked, given_by}
use Rattle.rule_relation.specs.Same.{given, Listed}

-- a candidate that gives the fact
abbrev pub Picks : Candidate → Fact → Type 0
Picks p e = p ≡ Gives e

-- a candidate that gives only what P allows
pub record Only (P : Fact → Type 0) (p : Candidate) : Type 0 where
  pub known : (e : Fact) → Picks p e → P e

module _ {P : Fact → Type 0} where
  pub only_fact : {f : Fact} → P f → Only P (Gives f)
  only_fact {f} h = record { known = λ e q. let same : f ≡ e = cc in rw same at h }

  pub only_nothing : Only P Nothing
  only_nothing = record { known = λ e q. let z : ◌≡◌ {A = ℕ} 0 1 = cc in absurd (omega arith) }

  pub only_if : (b : Bool) {p q : Candidate} → (b ≡ true → Only P p) → (b ≡ false → Only P q) → Only P (elim b [ true ↦ p | false ↦ q ])
  only_if true p q = p refl
  only_if false p q = q refl

  pub only_when : (b : Bool) (f : Fact) → (b ≡ true → P f) → Only P (when b f)
  unfolding when
  only_when b f h = only_if b (λ e. only_fact (h e)) (λ e. only_nothing)

-- a candidate that is there if a number is not 0
pub only_there : {P : Fact → Type 0} (n : ℕ) {p : Candidate} → (n ≡ suc (n - 1) → Only P p) → Only P (elim (eqb n 0) [ true ↦ Nothing | false ↦ p ])
only_there n h = only_if (eqb n 0) (λ e. only_nothing) (λ e. h (omega (arith, eqb-false n 0 e)))

pub picks_there : {n k : ℕ} {p : Candidate} {e : Fact} → n ≡ suc k → Picks p e → Picks (elim (eqb n 0) [ true ↦ Nothing | false ↦ p ]) e
picks_there {k} q h = rw (q, eqb-suc-zero k) h

pub when_true : {b : Bool} (f : Fact) → b ≡ true → Picks (when b f) f
unfolding when
when_true f e = rw (e, when)

-- candidates that are there if a test is true
pub counted : (b : Bool) {n k : ℕ} → k < elim b [ true ↦ n | false ↦ 0 ] → (b ≡ true) × (k < n)
counted true u = (refl, u)
counted false u = absurd (omega (arith, u))

pub counts : {b : Bool} {n k : ℕ} → b ≡ true → k < n → k < elim b [ true ↦ n | false ↦ 0 ]
counts e u = rw e u

pub first : 0 < 1
first = omega arith

-- lists of consequences
module _ {r : ℕ} {e : Fact} where
  listed_here : {xs : List Given} → Listed r e (given r e ∷ xs)
  listed_here = record { number = 0; inside = omega arith; is = refl }

  listed_there : {x : Given} {xs : List Given} → Listed r e xs → Listed r e (x ∷ xs)
  listed_there l = record { number = suc l.number; inside = omega (arith, l.inside); is = l.is }

  listed_cases : (x : Given) (xs : List Given) → Listed r e (x ∷ xs) → (x ≡ given r e) ⊎ Listed r e xs
  listed_cases x xs l = go l.number l.inside l.is
    where
      go : (n : ℕ) → n < suc (length xs) → get_or (x ∷ xs) n (given 0 (module_fact 0)) ≡ given r e → (x ≡ given r e) ⊎ Listed r e xs
      go zero h q = inl q
      go (suc n) h q = inr (record { number = n; inside = omega (arith, h); is = q })

  listed_none : Listed r e [] → ⊥
  listed_none l = omega (arith, l.inside)

  listed_left : (xs ys : List Given) → Listed r e xs → Listed r e (xs ++ ys)
  listed_left [] ys l = absurd (listed_none l)
  listed_left (x ∷ xs) ys l = ⊎_elim (λ q. rw q listed_here) (λ m. listed_there (listed_left xs ys m)) (listed_cases x xs l)

  listed_right : (xs ys : List Given) → Listed r e ys → Listed r e (xs ++ ys)
  listed_right [] ys l = l
  listed_right (x ∷ xs) ys l = listed_there (listed_right xs ys l)

  listed_either : (xs ys : List Given) → Listed r e (xs ++ ys) → Listed r e xs ⊎ Listed r e ys
  listed_either [] ys l = inr l
  listed_either (x ∷ xs) ys l = ⊎_elim (λ q. inl (rw q listed_here)) (λ m. ⊎_elim (λ a. inl (listed_there a)) (λ b. inr b) (listed_either xs ys m)) (listed_cases x (xs ++ ys) l)

-- what n candidates from candidate i on give
picked_listed : (r : ℕ) (e : Fact) (pick : ℕ → Candidate) (i n k : ℕ) → k < n → Picks (pick (i + k)) e → Listed r e (picked r pick i n)
unfolding picked
picked_listed r e pick i zero k u q = absurd (omega arith)
picked_listed r e pick i (suc n) zero u q = let here : pick i ≡ Gives e = ap pick (omega arith) ∙ q in rw (here, picked) listed_here
picked_listed r e pick i (suc n) (suc k) u q = go (pick i) (picked_listed r e pick (i + 1) n k (omega arith) (ap pick (omega arith) ∙ q))
  where
    go : (p : Candidate) → Listed r e (picked r pick (i + 1) n) → Listed r e (elim p [ Gives f ↦ given r f ∷ picked r pick (i + 1) n | Nothing ↦ picked r pick (i + 1) n ])
    go (Gives f) l = listed_there l
    go Nothing l = l

picked_only : (P : ℕ → Fact → Type 0) (r : ℕ) (pick : ℕ → Candidate) (i n : ℕ) → ((k : ℕ) → i ≤ k → k < i + n → Only (P r) (pick k)) → (s : ℕ) (e : Fact) → Listed s e (picked r pick i n) → P s e
unfolding picked
picked_only P r pick i zero h s e l = absurd (listed_none l)
picked_only P r pick i (suc n) h s e l = go (pick i) refl l (picked_only P r pick (i + 1) n (λ k m u. h k (omega (arith, m)) (omega (arith, u))) s e)
  where
    same : (f : Fact) → given r f ≡ given s e → P r f → P s e
    same f q x = subst (λ y. P y.rule y.fact) q x

    go : (p : Candidate) → pick i ≡ p → Listed s e (elim p [ Gives f ↦ given r f ∷ picked r pick (i + 1) n | Nothing ↦ picked r pick (i + 1) n ])
        → (Listed s e (picked r pick (i + 1) n) → P s e) → P s e
    go (Gives f) q m rest = ⊎_elim (λ t. same f t ((h i (omega arith) (omega arith)).known f q)) rest (listed_cases (given r f) (picked r pick (i + 1) n) m)
    go Nothing q m rest = rest m

-- a segment whose candidates give only what P allows for its rule
abbrev pub OnlySegment : (ℕ → Fact → Type 0) → Segment → Type 0
OnlySegment P s = (k : ℕ) → k < s.count → Only (P s.rule) (s.candidate k)

abbrev pub OnlySegments : (ℕ → Fact → Type 0) → List Segment → Type 0
OnlySegments P [] = Unit {0}
OnlySegments P (s ∷ ss) = OnlySegment P s × OnlySegments P ss

pub given_only : (P : ℕ → Fact → Type 0) (ss : List Segment) → OnlySegments P ss → (r : ℕ) (e : Fact) → Listed r e (given_by ss 0) → P r e
unfolding given_by
given_only P [] h r e l = absurd (listed_none l)
given_only P (s ∷ ss) h r e l =
    ⊎_elim (picked_only P s.rule s.candidate 0 (s.count - 0) (λ k m u. h.0 k (omega (arith, u))) r e) (given_only P ss h.1 r e)
    (listed_either (picked s.rule s.candidate 0 (s.count - 0)) (given_by ss 0) l)

-- a fact that a candidate of the segments gives, by a rule
pub data Offered (r : ℕ) (e : Fact) : List Segment → Type 0 where
  here : {s : Segment} {ss : List Segment} → s.rule ≡ r → (k : ℕ) → k < s.count → Picks (s.candidate k) e → Offered r e (s ∷ ss)
  there : {s : Segment} {ss : List Segment} → Offered r e ss → Offered r e (s ∷ ss)

pub offered_given : {r : ℕ} {e : Fact} (ss : List Segment) → Offered r e ss → Listed r e (given_by ss 0)
unfolding given_by
offered_given {r = r} {e = e} [] x' = elim x' [ ]
offered_given {r} {e} (s ∷ ss) (here q k u is) =
    listed_left (picked s.rule s.candidate 0 (s.count - 0)) (given_by ss 0)
    (rw q (picked_listed r e s.candidate 0 (s.count - 0) k (omega arith) (ap s.candidate (omega arith) ∙ is)))
offered_given (s ∷ ss) (there o) = listed_right (picked s.rule s.candidate 0 (s.count - 0)) (given_by ss 0) (offered_given ss o)

-- segments that are made of the rows of a list
module _ {A : Type 0} (f : A → Segment) (d : A) where
  pub only-map : (P : ℕ → Fact → Type 0) (xs : List A) → ((k : ℕ) → k < length xs → OnlySegment P (f (get_or xs k d))) → OnlySegments P (map f xs)
  only-map P [] h = tt
  only-map P (x ∷ xs) h = (h 0 (omega arith), only-map P xs (λ k u. h (suc k) (omega (arith, u))))

  pub offered_map : {r : ℕ} {e : Fact} (xs : List A) (k : ℕ) → k < length xs → (f (get_or xs k d)).rule ≡ r → (j : ℕ) → j < (f (get_or xs k d)).count → Picks ((f (get_or xs k d)).candidate j) e
      → Offered r e (map f xs)
  offered_map [] k l q j u is = absurd (omega arith)
  offered_map (x ∷ xs) zero l q j u is = here q j u is
  offered_map (x ∷ xs) (suc k) l q j u is = there (offered_map xs k (omega arith) q j u is)
