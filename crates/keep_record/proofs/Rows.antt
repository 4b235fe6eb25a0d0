-- Lines in a row of numbers.
use Prim.Native.Nat.{ℕ, zero, suc, ◌+◌, ◌*◌, ◌-◌, ◌<◌, ◌≤◌}
use mathlib.Core.Path.{◌≡◌, refl, ap, ◌∙◌, sym}
use mathlib.Core.List.{List, [], ◌∷◌, ◌++◌, append_assoc}
use native.Mathlib.Omega.{arith}
use lib.ListN.{length, get_or, take, replicate, length-replicate, drop_of_length-le}
use lib.Seq.{get_or-take, get_or-append-add}
use Rattle.bit_row.specs.Row.{cleared}
use Rattle.bit_row.proofs.Cleared.{zeros_unset}
use Rattle.facts.specs.graph_crate.Check.{Graph}
use Rattle.facts.specs.Facts.{kind_of, mark_count}
use Rattle.facts.specs.graph_access_crate.Words.{tabulate}
use Rattle.facts.proofs.Marks.{fact_back}
use Rattle.keep_record.specs.declared.Line.{Line}
use Rattle.keep_record.specs.Lines.{numbers_of, written, elem, marks_of, marks_from}
use Rattle.keep_record.specs.Held.{line_at, lines_of, Held}

-- lists by number
module _ {A : Type 0} (f : ℕ → A) where
  pub tabulate-length : (i n : ℕ) → length (tabulate f i n) ≡ n
  unfolding tabulate
  tabulate-length i zero = refl
  tabulate-length i (suc n) = ap suc (tabulate-length (i + 1) n)

  pub tabulate-at : (i n k : ℕ) (d : A) → k < n → get_or (tabulate f i n) k d ≡ f (i + k)
  unfolding tabulate
  tabulate-at i zero k d h = absurd (omega arith)
  tabulate-at i (suc n) zero d h = let e : i ≡ i + 0 = omega arith in ap f e
  tabulate-at i (suc n) (suc k) d h = let e : i + 1 + k ≡ i + suc k = omega arith in tabulate-at (i + 1) n k d (omega arith) ∙ ap f e

  pub tabulate-take : (i n k : ℕ) → k ≤ n → take k (tabulate f i n) ≡ tabulate f i k
  unfolding tabulate
  tabulate-take i n zero h = refl
  tabulate-take i zero (suc k) h = absurd (omega arith)
  tabulate-take i (suc n) (suc k) h = ap (λ l. f i ∷ l) (tabulate-take (i + 1) n k (omega arith))

  pub tabulate_more : (i n : ℕ) → tabulate f i (n + 1) ≡ tabulate f i n ++ (f (i + n) ∷ [])
  unfolding tabulate
  tabulate_more i zero = let e : i ≡ i + 0 = omega arith in ap (λ k. f k ∷ []) e
  tabulate_more i (suc n) =
      let e : i + 1 + n ≡ i + suc n = omega arith in
      let z : suc n + 1 ≡ suc (n + 1) = omega arith in
      rw z
      (ap (λ l. f i ∷ l) (tabulate_more (i + 1) n ∙ ap (λ k. tabulate f (i + 1) n ++ (f k ∷ [])) e))

pub tabulate-same : {A : Type 0} (f g : ℕ → A) (i n : ℕ) → ((k : ℕ) → k < n → f (i + k) ≡ g (i + k)) → tabulate f i n ≡ tabulate g i n
unfolding tabulate
tabulate-same f g i zero h = refl
tabulate-same f g i (suc n) h =
    let e : i + 0 ≡ i = omega arith in
    let first : f i ≡ g i = rw e at (h 0 (omega arith)) in
    let rest : (k : ℕ) → k < n → f (i + 1 + k) ≡ g (i + 1 + k) = λ k l. let q : i + suc k ≡ i + 1 + k = omega arith in rw q at (h (suc k) (omega arith)) in
    ap (λ x. x ∷ tabulate f (i + 1) n) first ∙ ap (λ l. g i ∷ l) (tabulate-same f g (i + 1) n rest)

-- the first lines of a row
module _ (c : ℕ) (row : List ℕ) where
  pub lines-length : length (lines_of c row) ≡ c
  unfolding lines_of
  lines-length = tabulate-length (line_at row) 0 c

  pub lines_at : (k : ℕ) (d : Line) → k < c → get_or (lines_of c row) k d ≡ line_at row k
  unfolding lines_of
  lines_at k d h = let z : 0 + k ≡ k = omega arith in tabulate-at (line_at row) 0 c k d h ∙ ap (line_at row) z

  pub lines-take : (k : ℕ) → k ≤ c → take k (lines_of c row) ≡ lines_of k row
  unfolding lines_of
  lines-take k h = tabulate-take (line_at row) 0 c k h

  pub lines_more : lines_of (c + 1) row ≡ lines_of c row ++ (line_at row c ∷ [])
  unfolding lines_of
  lines_more = let z : 0 + c ≡ c = omega arith in tabulate_more (line_at row) 0 c ∙ ap (λ k. lines_of c row ++ (line_at row k ∷ [])) z

pub no_lines : (row : List ℕ) → lines_of 0 row ≡ []
unfolding lines_of tabulate
no_lines row = refl

-- a line is six numbers of its row, the first c lines are 6 * c numbers
pub line_same : (row row' : List ℕ) (k : ℕ) → ((j : ℕ) → j < 6 → get_or row (6 * k + j) 0 ≡ get_or row' (6 * k + j) 0) → line_at row k ≡ line_at row' k
unfolding line_at
line_same row row' k h =
    let z : 6 * k + 0 ≡ 6 * k = omega arith in
    let first : get_or row (6 * k) 0 ≡ get_or row' (6 * k) 0 = rw z at (h 0 (omega arith)) in
    rw (first, h 1 (omega arith), h 2 (omega arith), h 3 (omega arith), h 4 (omega arith), h 5 (omega arith))

pub lines_same : (c : ℕ) (row row' : List ℕ) → ((j : ℕ) → j < 6 * c → get_or row j 0 ≡ get_or row' j 0) → lines_of c row ≡ lines_of c row'
unfolding lines_of
lines_same c row row' h = tabulate-same (line_at row) (line_at row') 0 c (λ k l. let z : 0 + k ≡ k = omega arith in rw z (line_same row row' k (λ j q. h (6 * k + j) (omega arith))))

pub lines_front : (c : ℕ) (row row' : List ℕ) → take (6 * c) row ≡ take (6 * c) row' → lines_of c row ≡ lines_of c row'
lines_front c row row' e =
    lines_same c row row' (λ j l. sym (get_or-take (6 * c) row j 0 l) ∙ ap (λ (xs : List ℕ). get_or xs j 0) e ∙ get_or-take (6 * c) row' j 0 l)

-- what is written of a line is that line again
pub line_back : (p q : List ℕ) (k : ℕ) (l : Line) → length p ≡ 6 * k → line_at (p ++ (numbers_of l ++ q)) k ≡ l
unfolding line_at numbers_of
line_back p q k l e =
    let z : 6 * k ≡ 6 * k + 0 = omega arith in
    let six : (j : ℕ) → get_or (p ++ (numbers_of l ++ q)) (6 * k + j) 0 ≡ get_or (numbers_of l ++ q) j 0 = λ j. rw e at (get_or-append-add p (numbers_of l ++ q) j 0) in
    let first : get_or (p ++ (numbers_of l ++ q)) (6 * k) 0 ≡ kind_of l.fact = ap (λ i. get_or (p ++ (numbers_of l ++ q)) i 0) z ∙ six 0 in
    rw (first, six 1, six 2, six 3, six 4, six 5, sym (fact_back l.fact))

-- the numbers of lines
pub written-length : (ls : List Line) → length (written ls) ≡ 6 * length ls
unfolding written numbers_of
written-length [] = refl
written-length (l ∷ ls) = omega (arith, written-length ls)

pub written-append : (xs ys : List Line) → written (xs ++ ys) ≡ written xs ++ written ys
unfolding written
written-append [] ys = refl
written-append (x ∷ xs) ys = ap (λ l. numbers_of x ++ l) (written-append xs ys) ∙ sym (append_assoc (numbers_of x) (written xs) (written ys))

-- no lines in rows of zeros
zeros_held : (g : Graph) (marks : List ℕ) (m n : ℕ) → mark_count g ≤ 8 * length marks → marks ≡ replicate m 0 → Held g 0 marks (replicate n 0) 0
unfolding lines_of tabulate marks_of marks_from elem written
zeros_held g marks m n w e =
    record {
      base_inside = omega arith;
      base_few = omega arith;
      room = omega arith;
      wide = w;
      marked = λ j. rw e (zeros_unset m j);
      good = λ k h. absurd (omega arith);
      apart = _;
      zero_behind = let z : n ≡ n - 6 * 0 = omega arith in rw (length-replicate {A = ℕ} n 0) (ap (λ i. replicate i 0) z);
    }

pub held_cleared : (g : Graph) (marks row : List ℕ) (m n : ℕ) → mark_count g ≤ 8 * length marks → marks ≡ replicate m 0 → row ≡ replicate n 0 → Held g 0 marks row 0
held_cleared g marks row m n w e z = rw z (zeros_held g marks m n w e)

-- a row that is cleared whole
pub cleared_whole : (n : ℕ) (row : List ℕ) → length row ≤ n → cleared n row ≡ replicate n 0
unfolding cleared
cleared_whole n row h = rw (drop_of_length-le row h) append-nothing
  where
    append-nothing : replicate {A = ℕ} n 0 ++ [] ≡ replicate n 0
    append-nothing = none n
      where
        none : (k : ℕ) → replicate {A = ℕ} k 0 ++ [] ≡ replicate k 0
        none zero = refl
        none (suc k) = ap (λ (l : List ℕ). 0 ∷ l) (none k)
