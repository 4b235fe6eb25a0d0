-- Lines added in turn.
-- Over a base of lines of an earlier stage: a fact gets one line in a stage, and no line is changed.
use Prim.Native.Nat.{ℕ, zero, suc, ◌-◌, ◌<◌, ◌≤◌}
use mathlib.Core.Path.{◌≡◌, refl, ap, ◌∙◌, sym}
use mathlib.Core.Bool.{Bool, true, false, ◌||◌, or-true, or_assoc}
use mathlib.Core.List.{List, [], ◌∷◌, ◌++◌, append-nil, append_assoc}
use native.Mathlib.Omega.{arith}
use borrow.Author.Tests.{eq-eqb, eqb-false, ne_eqb}
use lib.Dec.{eqb}
use lib.ListN.{length, get_or, length-append}
use Rattle.facts.specs.graph_crate.Check.{Graph}
use Rattle.facts.specs.declared.Fact.{Fact}
use Rattle.facts.specs.Facts.{mark_of}
use Rattle.keep_record.specs.declared.Line.{Line}
use Rattle.keep_record.specs.Lines.{elem, marks_of, stays, marks_from, has, added, adds}
use Rattle.keep_record.specs.Held.{Distinct}

-- numbers in a list
pub elem-append : (x : ℕ) (xs ys : List ℕ) → elem x (xs ++ ys) ≡ (elem x xs || elem x ys)
unfolding elem
elem-append x [] ys = refl
elem-append x (y ∷ xs) ys = ap (λ b. eqb x y || b) (elem-append x xs ys) ∙ sym (or_assoc (eqb x y) (elem x xs) (elem x ys))

pub elem_at : (xs : List ℕ) (k : ℕ) → k < length xs → elem (get_or xs k 0) xs ≡ true
unfolding elem
elem_at [] k h = absurd (omega arith)
elem_at (x ∷ xs) zero h = rw (eq-eqb x x refl)
elem_at (x ∷ xs) (suc k) h = ap (λ b. eqb (get_or xs k 0) x || b) (elem_at xs k (omega arith)) ∙ or-true (eqb (get_or xs k 0) x)

marks-append : (g : Graph) (xs ys : List Line) → marks_of g (xs ++ ys) ≡ marks_of g xs ++ marks_of g ys
unfolding marks_of
marks-append g [] ys = refl
marks-append g (x ∷ xs) ys = ap (λ l. mark_of g x.fact ∷ l) (marks-append g xs ys)

pub marks-length : (g : Graph) (ls : List Line) → length (marks_of g ls) ≡ length ls
unfolding marks_of
marks-length g [] = refl
marks-length g (l ∷ ls) = ap suc (marks-length g ls)

pub marks_at : (g : Graph) (ls : List Line) (k : ℕ) (d : Line) → k < length ls → get_or (marks_of g ls) k 0 ≡ mark_of g (get_or ls k d).fact
unfolding marks_of
marks_at g [] k d h = absurd (omega arith)
marks_at g (l ∷ ls) zero d h = refl
marks_at g (l ∷ ls) (suc k) d h = marks_at g ls k d (omega arith)

-- a further number, at the end
pub elem_more : (x y : ℕ) (xs : List ℕ) → elem x (xs ++ (y ∷ [])) ≡ (eqb x y || elem x xs)
unfolding elem
elem_more x y [] = refl
elem_more x y (z ∷ xs) = ap (λ b. eqb x z || b) (elem_more x y xs) ∙ swap (eqb x z) (eqb x y) (elem x xs)
  where
    swap : (a b d : Bool) → (a || (b || d)) ≡ (b || (a || d))
    swap true true d = refl
    swap true false d = refl
    swap false true d = refl
    swap false false d = refl

pub neither : (a b : Bool) → a ≡ false → b ≡ false → (a || b) ≡ false
neither a b p q = rw (p, q)

pub left_false : (a b : Bool) → (a || b) ≡ false → a ≡ false
left_false false b e = refl
left_false true b e = e

pub right_false : (a b : Bool) → (a || b) ≡ false → b ≡ false
right_false false b e = e
right_false true false e = refl
right_false true true e = e

pub eqb_turned : (a b : ℕ) → eqb a b ≡ false → eqb b a ≡ false
eqb_turned a b e = ne_eqb b a (λ q. eqb-false a b e (sym q))

pub distinct_more : (xs : List ℕ) (y : ℕ) → Distinct xs → elem y xs ≡ false → Distinct (xs ++ (y ∷ []))
unfolding elem
distinct_more [] y d e = (refl, _)
distinct_more (x ∷ xs) y d e =
    (elem_more x y xs ∙ neither (eqb x y) (elem x xs) (eqb_turned y x (left_false (eqb y x) (elem y xs) e)) d.0, distinct_more xs y d.1 (right_false (eqb y x) (elem y xs) e))

-- the marks over a base
module _ (g : Graph) where
  pub from_stays : (base : ℕ) (l : Line) (ls : List Line) → stays l.fact ≡ true → marks_from g (suc base) (l ∷ ls) ≡ mark_of g l.fact ∷ marks_from g base ls
  unfolding marks_from
  from_stays base l ls e = rw (e, marks_from)

  pub from_goes : (base : ℕ) (l : Line) (ls : List Line) → stays l.fact ≡ false → marks_from g (suc base) (l ∷ ls) ≡ marks_from g base ls
  unfolding marks_from
  from_goes base l ls e = rw (e, marks_from)

  from-append : (base : ℕ) (xs ys : List Line) → marks_from g base (xs ++ ys) ≡ marks_from g base xs ++ marks_from g (base - length xs) ys
  unfolding marks_from
  from-append zero xs ys = let z : 0 - length xs ≡ 0 = omega arith in rw z (marks-append g xs ys)
  from-append (suc base) [] ys = let z : suc base - 0 ≡ suc base = omega arith in rw z
  from-append (suc base) (x ∷ xs) ys = go (stays x.fact) refl (from-append base xs ys)
    where
      z : suc base - suc (length xs) ≡ base - length xs
      z = omega arith

      go : (b : Bool) → stays x.fact ≡ b → marks_from g base (xs ++ ys) ≡ marks_from g base xs ++ marks_from g (base - length xs) ys
          → marks_from g (suc base) (x ∷ (xs ++ ys)) ≡ marks_from g (suc base) (x ∷ xs) ++ marks_from g (suc base - suc (length xs)) ys
      go true e r = rw (z, from_stays base x (xs ++ ys) e, from_stays base x xs e) (ap (λ l. mark_of g x.fact ∷ l) r)
      go false e r = rw (z, from_goes base x (xs ++ ys) e, from_goes base x xs e) r

  -- of further lines all count
  pub own-append : (base : ℕ) (xs ys : List Line) → base ≤ length xs → marks_from g base (xs ++ ys) ≡ marks_from g base xs ++ marks_of g ys
  unfolding marks_from
  own-append base xs ys h = let z : base - length xs ≡ 0 = omega arith in from-append base xs ys ∙ ap (λ b. marks_from g base xs ++ marks_from g b ys) z

-- the facts that are there stay
module _ (g : Graph) (base : ℕ) where
  pub has-append : (lines rest : List Line) (f : Fact) → has g base lines f ≡ true → has g base (lines ++ rest) f ≡ true
  unfolding has
  has-append lines rest f h =
      let m = mark_of g f in
      let more = marks_from g (base - length lines) rest in
      ap (λ l. elem m l) (from-append g base lines rest) ∙ elem-append m (marks_from g base lines) more ∙ ap (λ b. b || elem m more) h

  has_last : (lines : List Line) (l : Line) → base ≤ length lines → has g base (lines ++ (l ∷ [])) l.fact ≡ true
  unfolding has marks_of
  has_last lines l h =
      let m = mark_of g l.fact in
      ap (λ xs. elem m xs) (own-append g base lines (l ∷ []) h) ∙ elem_more m m (marks_from g base lines) ∙ ap (λ b. b || elem m (marks_from g base lines)) (eq-eqb m m refl)

  pub added_old : (lines : List Line) (l : Line) → has g base lines l.fact ≡ true → added g base lines l ≡ lines
  unfolding added
  added_old lines l e = rw (e, added)

  pub added_new : (lines : List Line) (l : Line) → has g base lines l.fact ≡ false → added g base lines l ≡ lines ++ (l ∷ [])
  unfolding added
  added_new lines l e = rw (e, added)

  pub added_prefix : (lines : List Line) (l : Line) → (rest : List Line) × (added g base lines l ≡ lines ++ rest)
  added_prefix lines l = go (has g base lines l.fact) refl
    where
      go : (b : Bool) → has g base lines l.fact ≡ b → (rest : List Line) × (added g base lines l ≡ lines ++ rest)
      go true e = ([], added_old lines l e ∙ sym (append-nil lines))
      go false e = (l ∷ [], added_new lines l e)

  pub added_longer : (lines : List Line) (l : Line) → length lines ≤ length (added g base lines l)
  added_longer lines l = let p = added_prefix lines l in omega (arith, ap length p.1, length-append lines p.0)

  pub added_has : (lines : List Line) (l : Line) → base ≤ length lines → has g base (added g base lines l) l.fact ≡ true
  added_has lines l h = go (has g base lines l.fact) refl
    where
      go : (b : Bool) → has g base lines l.fact ≡ b → has g base (added g base lines l) l.fact ≡ true
      go true e = ap (λ ls. has g base ls l.fact) (added_old lines l e) ∙ e
      go false e = ap (λ ls. has g base ls l.fact) (added_new lines l e) ∙ has_last lines l h

  pub distinct_last : (lines : List Line) (l : Line) → base ≤ length lines → Distinct (marks_from g base lines) → has g base lines l.fact ≡ false → Distinct (marks_from g base (lines ++ (l ∷ [])))
  unfolding has marks_of
  distinct_last lines l h d e = rw (own-append g base lines (l ∷ []) h) (distinct_more (marks_from g base lines) (mark_of g l.fact) d e)

  pub added_distinct : (lines : List Line) (l : Line) → base ≤ length lines → Distinct (marks_from g base lines) → Distinct (marks_from g base (added g base lines l))
  added_distinct lines l h d = go (has g base lines l.fact) refl
    where
      go : (b : Bool) → has g base lines l.fact ≡ b → Distinct (marks_from g base (added g base lines l))
      go true e = rw (added_old lines l e) d
      go false e = rw (added_new lines l e) (distinct_last lines l h d e)

  pub adds_prefix : (lines ls : List Line) → (rest : List Line) × (adds g base lines ls ≡ lines ++ rest)
  unfolding adds
  adds_prefix lines [] = ([], sym (append-nil lines))
  adds_prefix lines (l ∷ ls) =
      let p = added_prefix lines l in
      let q = adds_prefix (added g base lines l) ls in
      (p.0 ++ q.0, q.1 ∙ ap (λ xs. xs ++ q.0) p.1 ∙ append_assoc lines p.0 q.0)

  pub adds_longer : (lines ls : List Line) → length lines ≤ length (adds g base lines ls)
  adds_longer lines ls = let p = adds_prefix lines ls in omega (arith, ap length p.1, length-append lines p.0)

  pub adds-append : (lines xs ys : List Line) → adds g base lines (xs ++ ys) ≡ adds g base (adds g base lines xs) ys
  unfolding adds
  adds-append lines [] ys = refl
  adds-append lines (x ∷ xs) ys = adds-append (added g base lines x) xs ys

  pub has_kept : (lines ls : List Line) (f : Fact) → has g base lines f ≡ true → has g base (adds g base lines ls) f ≡ true
  has_kept lines ls f h = let p = adds_prefix lines ls in ap (λ xs. has g base xs f) p.1 ∙ has-append lines p.0 f h

  pub has_after : (lines ls : List Line) (k : ℕ) (d : Line) → base ≤ length lines → k < length ls → has g base (adds g base lines ls) (get_or ls k d).fact ≡ true
  unfolding adds
  has_after lines [] k d b h = absurd (omega arith)
  has_after lines (l ∷ ls) zero d b h = has_kept (added g base lines l) ls l.fact (added_has lines l b)
  has_after lines (l ∷ ls) (suc k) d b h = has_after (added g base lines l) ls k d (omega (arith, added_longer lines l)) (omega arith)

  pub adds_distinct : (lines ls : List Line) → base ≤ length lines → Distinct (marks_from g base lines) → Distinct (marks_from g base (adds g base lines ls))
  unfolding adds
  adds_distinct lines [] b d = d
  adds_distinct lines (l ∷ ls) b d = adds_distinct (added g base lines l) ls (omega (arith, added_longer lines l)) (added_distinct lines l b d)
