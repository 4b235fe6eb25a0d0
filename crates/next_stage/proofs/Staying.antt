-- The facts that stay: which they are, their marks, and the rows that hold them and no others.
use Prim.Native.Nat.{ℕ, zero, suc, ◌+◌, ◌-◌, ◌<◌, ◌≤◌}
use mathlib.Core.Path.{◌≡◌, refl, ap, ◌∙◌, sym, subst}
use mathlib.Core.Bool.{Bool, true, false, ◌||◌, or-false}
use mathlib.Core.List.{List, [], ◌∷◌}
use native.Mathlib.Omega.{arith}
use borrow.Author.Tests.{eq-eqb, ne_eqb}
use lib.Dec.{eqb}
use lib.ListN.{length}
use Rattle.bit_row.specs.Row.{bit_at, cleared}
use Rattle.bit_row.proofs.Cleared.{zeros_unset}
use Rattle.facts.specs.graph_crate.Check.{Graph, graph_in}
use Rattle.facts.specs.graph_crate.Loaded.{Loaded}
use Rattle.facts.specs.graph_access_crate.Words.{tabulate}
use Rattle.facts.specs.declared.Fact.{Fact}
use Rattle.facts.specs.declared.Fact.TheVariants.{Module, Statement, Use, CheckedUse, Forward, Bailout}
use Rattle.facts.specs.Facts.{kind_of, Good, mark_of}
use Rattle.facts.proofs.Folds.{tabulate_next, tabulate-none}
use Rattle.keep_record.specs.declared.Line.{Line}
use Rattle.keep_record.specs.Lines.{elem, stays, marks_of, marks_from}
use Rattle.keep_record.specs.Held.{line_at, lines_of, Distinct, Held}
use Rattle.keep_record.proofs.Adding.{neither, left_false, right_false, from_stays, from_goes}
use Rattle.keep_record.proofs.Rows.{cleared_whole}
use Rattle.keep_record.proofs.Counting.{held_few}

-- by the fact's kind
either_stays : (f : Fact) → (eqb (kind_of f) 1 || eqb (kind_of f) 2) ≡ stays f
either_stays (Module m) = refl
either_stays (Statement m i) = refl
either_stays (Use s x) = refl
either_stays (CheckedUse s x) = refl
either_stays (Forward s) = refl
either_stays (Bailout m) = refl

pub stays_first : (f : Fact) (kind : ℕ) → kind ≡ kind_of f → kind ≡ 1 → true ≡ stays f
stays_first f kind e t = sym (ap (λ b. b || eqb (kind_of f) 2) (eq-eqb (kind_of f) 1 (sym e ∙ t))) ∙ either_stays f

pub stays_second : (f : Fact) (kind : ℕ) → kind ≡ kind_of f → (kind ≡ 1 → ⊥) → eqb kind 2 ≡ stays f
stays_second f kind e t = ap (λ k. eqb k 2) e ∙ sym (ap (λ b. b || eqb (kind_of f) 2) (ne_eqb (kind_of f) 1 (λ q. t (e ∙ q)))) ∙ either_stays f

-- the marks that are left to be set, from line k on
module _ (g : Graph) (row : List ℕ) (count : ℕ) where
  unfoldable pub left : ℕ → List ℕ
  left k = marks_from g (count - k) (tabulate (line_at row) k (count - k))

  left_all : left 0 ≡ marks_from g count (lines_of count row)
  unfolding left lines_of
  left_all = let z : count - 0 ≡ count = omega arith in ap (λ n. marks_from g n (tabulate (line_at row) 0 n)) z

  module _ (k : ℕ) where
    left-line : k < count → left k ≡ marks_from g (suc (count - (k + 1))) (line_at row k ∷ tabulate (line_at row) (k + 1) (count - (k + 1)))
    unfolding left
    left-line l =
        let z : count - k ≡ suc (count - (k + 1)) = omega arith in
        ap (λ (ls : List Line). marks_from g (count - k) ls) (tabulate_next (line_at row) count k l)
        ∙ ap (λ n. marks_from g n (line_at row k ∷ tabulate (line_at row) (k + 1) (count - (k + 1)))) z

    left-stays : k < count → stays (line_at row k).fact ≡ true → left k ≡ mark_of g (line_at row k).fact ∷ left (k + 1)
    unfolding left
    left-stays l e = left-line l ∙ from_stays g (count - (k + 1)) (line_at row k) (tabulate (line_at row) (k + 1) (count - (k + 1))) e

    left-goes : k < count → stays (line_at row k).fact ≡ false → left k ≡ left (k + 1)
    unfolding left
    left-goes l e = left-line l ∙ from_goes g (count - (k + 1)) (line_at row k) (tabulate (line_at row) (k + 1) (count - (k + 1))) e

    left_over : count ≤ k → left k ≡ []
    unfolding left marks_from marks_of
    left_over l =
        let z : count - k ≡ 0 = omega arith in
        ap (λ (ls : List Line). marks_from g (count - k) ls) (tabulate-none (line_at row) count k l) ∙ ap (λ n. marks_from g n []) z

-- In the loop: the marks that are set and those that are left are those of the lines that stay.
pub record Marking (g : Graph) (row : List ℕ) (count : ℕ) (marks₀ marks : List ℕ) (k : ℕ) : Type 0 where
  pub same_length : length marks ≡ length marks₀
  pub inside : k ≤ count
  pub on : (j : ℕ) → (elem j (left g row count k) || bit_at marks j) ≡ elem j (marks_from g count (lines_of count row))

module _ (g : Graph) (row : List ℕ) (count : ℕ) where
  swap : (a b d : Bool) → (a || (b || d)) ≡ ((b || a) || d)
  swap true true d = refl
  swap true false d = refl
  swap false true d = refl
  swap false false d = refl

  pub marking_none : (lent marks : List ℕ) (n : ℕ) → length lent ≤ n → marks ≡ cleared n lent → Marking g row count marks marks 0
  marking_none lent marks n whole cl =
      record {
        same_length = refl;
        inside = omega arith;
        on = λ j.
            let z : bit_at marks j ≡ false = ap (λ (r : List ℕ). bit_at r j) (cl ∙ cleared_whole n lent whole) ∙ zeros_unset n j in
            ap (λ b. elem j (left g row count 0) || b) z ∙ or-false (elem j (left g row count 0)) ∙ ap (λ (l : List ℕ). elem j l) (left_all g row count);
      }

  module _ (marks₀ marks : List ℕ) (k : ℕ) (m : Marking g row count marks₀ marks k) (l : k < count) (f : Fact) (is : f ≡ (line_at row k).fact) where
    -- its mark is set
    pub marking-set : (b : Bool) (n : ℕ) (set after : List ℕ) → b ≡ stays f → b ≡ true → n ≡ mark_of g f → length set ≡ length marks
        → ((j : ℕ) → bit_at set j ≡ (eqb j n || bit_at marks j)) → after ≡ set → Marking g row count marks₀ after (k + 1)
    unfolding elem
    marking-set b n set after s t e same bits now =
        let st : stays (line_at row k).fact ≡ true = ap stays (sym is) ∙ sym s ∙ t in
        let at : n ≡ mark_of g (line_at row k).fact = e ∙ ap (mark_of g) is in
        record {
          same_length = ap length now ∙ same ∙ m.same_length;
          inside = omega arith;
          on = λ j.
              let rest = elem j (left g row count (k + 1)) in
              ap (λ (r : List ℕ). rest || bit_at r j) now ∙ ap (λ x. rest || x) (bits j) ∙ swap rest (eqb j n) (bit_at marks j) ∙ ap (λ i. (eqb j i || rest) || bit_at marks j) at
              ∙ ap (λ (xs : List ℕ). elem j xs || bit_at marks j) (sym (left-stays g row count k l st)) ∙ m.on j;
        }

    -- the fact goes
    pub marking-passed : (b : Bool) (after : List ℕ) → b ≡ stays f → b ≡ false → after ≡ marks → Marking g row count marks₀ after (k + 1)
    marking-passed b after s t same =
        let st : stays (line_at row k).fact ≡ false = ap stays (sym is) ∙ sym s ∙ t in
        record {
          same_length = ap length same ∙ m.same_length;
          inside = omega arith;
          on = λ j.
              ap (λ (r : List ℕ). elem j (left g row count (k + 1)) || bit_at r j) same
              ∙ ap (λ (xs : List ℕ). elem j xs || bit_at marks j) (sym (left-goes g row count k l st)) ∙ m.on j;
        }

  pub marking_done : (marks₀ marks : List ℕ) (k : ℕ) → Marking g row count marks₀ marks k → count ≤ k
      → (j : ℕ) → bit_at marks j ≡ elem j (marks_from g count (lines_of count row))
  unfolding elem
  marking_done marks₀ marks k m l j = sym (ap (λ (xs : List ℕ). elem j xs || bit_at marks j) (left_over g row count k l)) ∙ m.on j

-- the marks that stay are some of those of all lines, so they differ
module _ (g : Graph) where
  not_among : (n : ℕ) (ls : List Line) (x : ℕ) → elem x (marks_of g ls) ≡ false → elem x (marks_from g n ls) ≡ false
  unfolding marks_from marks_of elem
  not_among zero ls x h = h
  not_among (suc n) [] x h = refl
  not_among (suc n) (l ∷ ls) x h = go (stays l.fact) refl (not_among n ls x (right_false (eqb x (mark_of g l.fact)) (elem x (marks_of g ls)) h))
    where
      go : (b : Bool) → stays l.fact ≡ b → elem x (marks_from g n ls) ≡ false → elem x (marks_from g (suc n) (l ∷ ls)) ≡ false
      go true e r = rw (from_stays g n l ls e) (neither (eqb x (mark_of g l.fact)) (elem x (marks_from g n ls)) (left_false (eqb x (mark_of g l.fact)) (elem x (marks_of g ls)) h) r)
      go false e r = rw (from_goes g n l ls e) r

  staying_apart : (n : ℕ) (ls : List Line) → Distinct (marks_of g ls) → Distinct (marks_from g n ls)
  unfolding marks_from marks_of
  staying_apart zero ls d = d
  staying_apart (suc n) [] d = _
  staying_apart (suc n) (l ∷ ls) d = go (stays l.fact) refl (staying_apart n ls d.1)
    where
      go : (b : Bool) → stays l.fact ≡ b → Distinct (marks_from g n ls) → Distinct (marks_from g (suc n) (l ∷ ls))
      go true e r = rw (from_stays g n l ls e) (not_among n ls (mark_of g l.fact) d.0, r)
      go false e r = rw (from_goes g n l ls e) r

-- the fact of a line is good
pub line_good : (g : Graph) (marks row : List ℕ) (count k : ℕ) (f : Fact) → Held g 0 marks row count → f ≡ (line_at row k).fact → k < count → Good g f
line_good g marks row count k f h e l = subst (λ (x : Fact). Good g x) (sym e) (h.good k l)

-- the rows of the new stage
pub stage_held : {numbers tables : List ℕ} (t : Loaded numbers tables) (lent marks row : List ℕ) (count : ℕ) → Held (graph_in numbers) 0 lent row count
    → length marks ≡ length lent → ((j : ℕ) → bit_at marks j ≡ elem j (marks_from (graph_in numbers) count (lines_of count row)))
    → Held (graph_in numbers) count marks row count
unfolding marks_from
stage_held {numbers} t lent marks row count h same bits =
    record {
      base_inside = omega arith;
      base_few = omega (arith, held_few t 0 lent row count h);
      room = h.room;
      wide = omega (arith, h.wide, same);
      marked = bits;
      good = h.good;
      apart = staying_apart (graph_in numbers) count (lines_of count row) h.apart;
      zero_behind = h.zero_behind;
    }
