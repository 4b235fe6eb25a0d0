-- How many lines there can be: their marks differ.
-- So beyond the base there are no more lines than marks (`lines_few`).
use Prim.Native.Nat.{ℕ, zero, suc, ◌+◌, ◌<◌, ◌≤◌}
use mathlib.Core.Path.{◌≡◌, refl, ap, ◌∙◌, sym}
use mathlib.Core.Bool.{Bool, true, false, ◌||◌, or-true, true≢false}
use mathlib.Core.List.{List, [], ◌∷◌}
use native.Mathlib.Decide.{ℕ_discrete}
use native.Mathlib.Omega.{arith}
use borrow.Author.Tests.{eq-eqb, eqb-true}
use lib.Dec.{eqb}
use lib.ListN.{length, get_or}
use Rattle.facts.specs.graph_crate.Check.{Graph, graph_in}
use Rattle.facts.specs.declared.Fact.{Fact}
use Rattle.facts.specs.Facts.{Good, mark_of, mark_count, module_fact}
use Rattle.facts.specs.graph_crate.Loaded.{Loaded}
use Rattle.facts.proofs.Marks.{mark_below}
use Rattle.keep_record.specs.declared.Line.{Line}
use Rattle.keep_record.specs.Lines.{elem, marks_of, stays, marks_from, has}
use Rattle.keep_record.specs.Held.{lines_of, Distinct, Held}
use Rattle.keep_record.proofs.Rows.{lines-length, lines_at}
use Rattle.keep_record.proofs.Adding.{elem_at, marks-length, marks_at, from_stays, from_goes, neither, left_false, right_false, eqb_turned}

-- the fact of a line is there, if the line is not of the base or its fact stays; of two such lines the facts differ
module _ (g : Graph) (d : Line) where
  line_there : (base : ℕ) (ls : List Line) (k : ℕ) → k < length ls → (k < base → stays (get_or ls k d).fact ≡ true) → has g base ls (get_or ls k d).fact ≡ true
  unfolding has marks_from elem
  line_there zero ls k h s = ap (λ x. elem x (marks_of g ls)) (sym (marks_at g ls k d h)) ∙ elem_at (marks_of g ls) k (omega (arith, h, marks-length g ls))
  line_there (suc base) [] k h s = absurd (omega arith)
  line_there (suc base) (l ∷ ls) zero h s = let m = mark_of g l.fact in rw (from_stays g base l ls (s (omega arith)), eq-eqb m m refl)
  line_there (suc base) (l ∷ ls) (suc k) h s = go (stays l.fact) refl (line_there base ls k (omega arith) (λ q. s (omega arith)))
    where
      m : ℕ
      m = mark_of g (get_or ls k d).fact

      go : (b : Bool) → stays l.fact ≡ b → elem m (marks_from g base ls) ≡ true → elem m (marks_from g (suc base) (l ∷ ls)) ≡ true
      go true e r = rw (from_stays g base l ls e) (ap (λ b. eqb m (mark_of g l.fact) || b) r ∙ or-true (eqb m (mark_of g l.fact)))
      go false e r = rw (from_goes g base l ls e) r

  later_distinct : (base : ℕ) (l : Line) (ls : List Line) → Distinct (marks_from g (suc base) (l ∷ ls)) → Distinct (marks_from g base ls)
  later_distinct base l ls a = go (stays l.fact) refl
    where
      go : (b : Bool) → stays l.fact ≡ b → Distinct (marks_from g base ls)
      go true e = (rw (from_stays g base l ls e) at a).1
      go false e = rw (from_goes g base l ls e) at a

  -- a later line of the same fact
  not_again : (base : ℕ) (f : Fact) (ls : List Line) (k : ℕ) → elem (mark_of g f) (marks_from g base ls) ≡ false → k < length ls → (k < base → stays f ≡ true) → f ≡ (get_or ls k d).fact → ⊥
  unfolding has
  not_again base f ls k n h s e =
      let there = line_there base ls k h (λ q. ap stays (sym e) ∙ s q) in
      let z : ◌≡◌ {A = Bool} true false = sym there ∙ ap (λ x. elem (mark_of g x) (marks_from g base ls)) (sym e) ∙ n in
      true≢false z

  pub lines_apart : (base : ℕ) (ls : List Line) → Distinct (marks_from g base ls) → (i k : ℕ) → i < k → k < length ls → (i < base → stays (get_or ls i d).fact ≡ true) → (get_or ls i d).fact ≡ (get_or ls k d).fact → ⊥
  unfolding marks_from marks_of
  lines_apart base [] a i k l h s e = omega (arith, h)
  lines_apart base (x ∷ xs) a i zero l h s e = omega (arith, l)
  lines_apart zero (x ∷ xs) a zero (suc k) l h s e = not_again 0 x.fact xs k a.0 (omega arith) (λ q. absurd (omega arith)) e
  lines_apart zero (x ∷ xs) a (suc i) (suc k) l h s e = lines_apart 0 xs a.1 i k (omega arith) (omega arith) (λ q. absurd (omega arith)) e
  lines_apart (suc base) (x ∷ xs) a zero (suc k) l h s e =
      let t = s (omega arith) in
      not_again base x.fact xs k (rw (from_stays g base x xs t) at a).0 (omega arith) (λ q. t) e
  lines_apart (suc base) (x ∷ xs) a (suc i) (suc k) l h s e = lines_apart base xs (later_distinct base x xs a) i k (omega arith) (omega arith) (λ q. s (omega arith)) e

-- a list without the number n
unfoldable without : ℕ → List ℕ → List ℕ
without n [] = []
without n (x ∷ xs) = elim (eqb x n) [ true ↦ xs | false ↦ x ∷ without n xs ]

module _ (n : ℕ) where
  without_here : (x : ℕ) (xs : List ℕ) → eqb x n ≡ true → without n (x ∷ xs) ≡ xs
  unfolding without
  without_here x xs e = rw (e, without)

  without_there : (x : ℕ) (xs : List ℕ) → eqb x n ≡ false → without n (x ∷ xs) ≡ x ∷ without n xs
  unfolding without
  without_there x xs e = rw (e, without)

  without-length : (xs : List ℕ) → length xs ≤ suc (length (without n xs))
  without-length [] = omega arith
  without-length (x ∷ xs) = go (eqb x n) refl (without-length xs)
    where
      go : (b : Bool) → eqb x n ≡ b → length xs ≤ suc (length (without n xs)) → length (x ∷ xs) ≤ suc (length (without n (x ∷ xs)))
      go true e _ = rw (without_here x xs e) (omega arith)
      go false e r = rw (without_there x xs e) (omega (arith, r))

  without_out : (y : ℕ) (xs : List ℕ) → elem y xs ≡ false → elem y (without n xs) ≡ false
  unfolding elem without
  without_out y [] h = refl
  without_out y (x ∷ xs) h = go (eqb x n) refl (without_out y xs (right_false (eqb y x) (elem y xs) h))
    where
      go : (b : Bool) → eqb x n ≡ b → elem y (without n xs) ≡ false → elem y (without n (x ∷ xs)) ≡ false
      go true e _ = rw (without_here x xs e) (right_false (eqb y x) (elem y xs) h)
      go false e r = rw (without_there x xs e) (neither (eqb y x) (elem y (without n xs)) (left_false (eqb y x) (elem y xs) h) r)

  without_in : (y : ℕ) (xs : List ℕ) → elem y (without n xs) ≡ true → elem y xs ≡ true
  without_in y xs h = go (elem y xs) refl
    where
      go : (b : Bool) → elem y xs ≡ b → elem y xs ≡ true
      go true e = e
      go false e = let z : ◌≡◌ {A = Bool} false true = sym (without_out y xs e) ∙ h in e ∙ z

  without_itself : (xs : List ℕ) → Distinct xs → elem n (without n xs) ≡ false
  unfolding elem without
  without_itself [] d = refl
  without_itself (x ∷ xs) d = go (eqb x n) refl (without_itself xs d.1)
    where
      go : (b : Bool) → eqb x n ≡ b → elem n (without n xs) ≡ false → elem n (without n (x ∷ xs)) ≡ false
      go true e _ = rw (without_here x xs e) (ap (λ y. elem y xs) (sym (eqb-true x n e)) ∙ d.0)
      go false e r = rw (without_there x xs e) (neither (eqb n x) (elem n (without n xs)) (eqb_turned x n e) r)

  without_distinct : (xs : List ℕ) → Distinct xs → Distinct (without n xs)
  unfolding without
  without_distinct [] d = _
  without_distinct (x ∷ xs) d = go (eqb x n) refl (without_distinct xs d.1)
    where
      go : (b : Bool) → eqb x n ≡ b → Distinct (without n xs) → Distinct (without n (x ∷ xs))
      go true e _ = rw (without_here x xs e) d.1
      go false e r = rw (without_there x xs e) (without_out x xs d.0, r)

few : (n : ℕ) (xs : List ℕ) → Distinct xs → ((y : ℕ) → elem y xs ≡ true → y < n) → length xs ≤ n
few zero [] d b = omega arith
few zero (x ∷ xs) d b = absurd (omega (arith, b x (elem_at (x ∷ xs) 0 (omega arith))))
few (suc n) xs d b = omega (arith, without-length n xs, few n (without n xs) (without_distinct n xs d) less)
  where
    less : (y : ℕ) → elem y (without n xs) ≡ true → y < n
    less y e = go (ℕ_discrete y n)
      where
        go : Dec (y ≡ n) → y < n
        go (yes q) = let z : ◌≡◌ {A = Bool} true false = sym e ∙ ap (λ k. elem k (without n xs)) q ∙ without_itself n xs d in absurd (true≢false z)
        go (no q) = omega (arith, b y (without_in n y xs e), q)

-- where a number of a list stands
pub elem_place : (y : ℕ) (xs : List ℕ) → elem y xs ≡ true → (k : ℕ) × (k < length xs) × (y ≡ get_or xs k 0)
unfolding elem
elem_place y [] e = absurd (true≢false (sym e))
elem_place y (x ∷ xs) e = go (eqb y x) refl e (λ r. elem_place y xs r)
  where
    go : (b : Bool) → eqb y x ≡ b → (b || elem y xs) ≡ true → (elem y xs ≡ true → (k : ℕ) × (k < length xs) × (y ≡ get_or xs k 0)) → (k : ℕ) × (k < length (x ∷ xs)) × (y ≡ get_or (x ∷ xs) k 0)
    go true q _ _ = (0, omega arith, eqb-true y x q)
    go false q r f = let p = f r in (suc p.0, omega (arith, p.1), p.2)

-- numbers below n that differ are no more than n
pub distinct_below : (n : ℕ) (xs : List ℕ) → Distinct xs → ((i : ℕ) → i < length xs → get_or xs i 0 < n) → length xs ≤ n
distinct_below n xs d b = few n xs d (λ y e. let p = elem_place y xs e in rw p.2 (b p.0 p.1))

-- every mark over a base is that of a line, and the lines are no more than the base and the marks
module _ (g : Graph) where
  from_below : (n base : ℕ) (ls : List Line) (d : Line) → ((k : ℕ) → k < length ls → mark_of g (get_or ls k d).fact < n) → (i : ℕ) → i < length (marks_from g base ls) → get_or (marks_from g base ls) i 0 < n
  unfolding marks_from
  from_below n zero ls d b i h =
      let l : i < length ls = omega (arith, h, marks-length g ls) in rw (marks_at g ls i d l) (b i l)
  from_below n (suc base) [] d b i h = absurd (omega arith)
  from_below n (suc base) (l ∷ ls) d b i h = go (stays l.fact) refl (λ j q. from_below n base ls d (λ k r. b (suc k) (omega (arith, r))) j q)
    where
      on : ((j : ℕ) → j < length (marks_from g base ls) → get_or (marks_from g base ls) j 0 < n) → (j : ℕ) → j < length (mark_of g l.fact ∷ marks_from g base ls) → get_or (mark_of g l.fact ∷ marks_from g base ls) j 0 < n
      on r zero q = b 0 (omega arith)
      on r (suc j) q = r j (omega (arith, q))

      go : (c : Bool) → stays l.fact ≡ c → ((j : ℕ) → j < length (marks_from g base ls) → get_or (marks_from g base ls) j 0 < n) → get_or (marks_from g (suc base) (l ∷ ls)) i 0 < n
      go true e r = rw (from_stays g base l ls e) (on r i (rw (from_stays g base l ls e) at h))
      go false e r = rw (from_goes g base l ls e) (r i (rw (from_goes g base l ls e) at h))

  from-length : (base : ℕ) (ls : List Line) → length ls ≤ base + length (marks_from g base ls)
  unfolding marks_from
  from-length zero ls = omega (arith, marks-length g ls)
  from-length (suc base) [] = omega arith
  from-length (suc base) (l ∷ ls) = go (stays l.fact) refl (from-length base ls)
    where
      go : (c : Bool) → stays l.fact ≡ c → length ls ≤ base + length (marks_from g base ls) → length (l ∷ ls) ≤ suc base + length (marks_from g (suc base) (l ∷ ls))
      go true e r = rw (from_stays g base l ls e) (omega (arith, r))
      go false e r = rw (from_goes g base l ls e) (omega (arith, r))

  pub lines_few : (base : ℕ) (lines : List Line) (d : Line) → ((f : Fact) → Good g f → mark_of g f < mark_count g) → Distinct (marks_from g base lines) → ((k : ℕ) → k < length lines → Good g (get_or lines k d).fact)
      → length lines ≤ base + mark_count g
  lines_few base lines d below apart good =
      let each = from_below (mark_count g) base lines d (λ k h. below (get_or lines k d).fact (good k h)) in
      omega (arith, from-length base lines, distinct_below (mark_count g) (marks_from g base lines) apart each)

module _ {numbers tables : List ℕ} (t : Loaded numbers tables) where
  pub held_few : (base : ℕ) (marks row : List ℕ) (count : ℕ) → Held (graph_in numbers) base marks row count → count ≤ base + mark_count (graph_in numbers)
  held_few base marks row count h =
      let d : Line = record { fact = module_fact 0; rule = 0; because = 0; and = 0 } in
      let size = lines-length count row in
      let good : (k : ℕ) → k < length (lines_of count row) → Good (graph_in numbers) (get_or (lines_of count row) k d).fact = λ k l. let q : k < count = omega (arith, size) in rw (lines_at count row k d q) (h.good k q) in
      omega (arith, size, lines_few (graph_in numbers) base (lines_of count row) d (λ f. mark_below t f) h.apart good)

  -- and few enough to be written
  pub marks_few : mark_count (graph_in numbers) ≤ 1050624
  unfolding mark_count graph_in
  marks_few = omega (arith, t.few_modules, t.few_symbols, t.few_statements)
