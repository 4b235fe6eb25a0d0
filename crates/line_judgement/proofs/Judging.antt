-- Whether lines stand, one after another.
use Prim.Native.Nat.{ℕ, suc, ◌+◌, ◌*◌, ◌-◌, ◌/◌, ◌<◌, ◌≤◌}
use mathlib.Core.Path.{◌≡◌, refl, ap, ◌∙◌, sym}
use mathlib.Core.Bool.{Bool, true, false}
use mathlib.Core.List.{List, [], ◌∷◌, ◌++◌, map-map}
use native.Mathlib.Omega.{arith}
use borrow.Author.Count.{below_more}
use lib.ListN.{length}
use Rattle.determine_side_effects.specs.graph_crate.Check.{Graph, graph_in}
use Rattle.determine_side_effects.specs.facts_crate.declared.Fact.{Fact}
use Rattle.determine_side_effects.specs.facts_crate.Facts.{mark_of}
use Rattle.determine_side_effects.specs.Effects.{last_verdicts}
use Rattle.keep_record.specs.declared.Line.{Line}
use Rattle.keep_record.specs.Lines.{elem, has, marks_of, marks_from}
use Rattle.keep_record.specs.Held.{line_at, lines_of}
use Rattle.keep_record.proofs.Rows.{lines_more, no_lines}
use Rattle.marked.specs.Marked.{marked}
use Rattle.fact_marks.specs.Marks.{Marks, MarksOne}
use Rattle.record_form.specs.Form.{in_form}
use Rattle.line_judgement.specs.declared.Trail.{Trail}
use Rattle.line_judgement.specs.Stand.{is_justified, stands, first_bad}
use Rattle.line_judgement.specs.Steps.{facts_of, Trails, AllStand, Justifies, JudgesLine, JudgesLines}
use Rattle.line_judgement.proofs.Justifying.{same_trail, stands_bad}
use Rattle.std.specs.Prelude.{Option, Some, None}

-- the facts of lines and their marks
facts_append : (xs : List Line) (l : Line) → facts_of (xs ++ (l ∷ [])) ≡ facts_of xs ++ (l.fact ∷ [])
facts_append [] l = refl
facts_append (x ∷ xs) l = ap (λ fs. x.fact ∷ fs) (facts_append xs l)

facts_more : (k : ℕ) (row : List ℕ) → facts_of (lines_of (k + 1) row) ≡ facts_of (lines_of k row) ++ ((line_at row k).fact ∷ [])
facts_more k row = ap facts_of (lines_more k row) ∙ facts_append (lines_of k row) (line_at row k)

has_marked : (g : Graph) (lines : List Line) (marks : List ℕ) (f : Fact) → Marks g (facts_of lines) marks → has g 0 lines f ≡ marked g marks f
unfolding has marks_from marks_of marked
has_marked g lines marks f m = ap (elem (mark_of g f)) (sym (map-map (mark_of g) (λ (l : Line). l.fact) lines)) ∙ sym (m.marked (mark_of g f))

-- line k
module _ (numbers : List ℕ) (starts : List Fact) (row marks : List ℕ) (k : ℕ) where
  abbrev g : Graph
  g = graph_in numbers

  abbrev Is : Bool → Type 0
  Is b = stands g (last_verdicts g) starts row k ≡ b

  judges_bad : (after : List ℕ) → Is false → JudgesLine numbers starts row after k None
  judges_bad after e =
      record {
        good = λ t q. absurd (stands_bad (sym q));
        trails = λ t q. absurd (stands_bad (sym q));
        marks_are = λ t q. absurd (stands_bad (sym q));
        bad = λ q. e;
      }

  pub bad_form : (b : Bool) → b ≡ in_form g row k → b ≡ false → JudgesLine numbers starts row marks k None
  unfolding stands
  bad_form b e z = judges_bad marks (rw (sym e ∙ z))

  module _ (b : Bool) (e : b ≡ in_form g row k) (form : b ≡ true) (m : Marks g (facts_of (lines_of k row)) marks) (f : Fact) (is : f ≡ (line_at row k).fact) (d : Bool) (old : d ≡ marked g marks f) where
    has-it : has g 0 (lines_of k row) (line_at row k).fact ≡ d
    has-it = rw (sym is) (has_marked g (lines_of k row) marks f m ∙ sym old)

    pub bad-old : d ≡ true → JudgesLine numbers starts row marks k None
    unfolding stands
    bad-old z = judges_bad marks (rw (sym e ∙ form, has-it, z))

    module _ (new : d ≡ false) (r : Option Trail) (j : Justifies numbers starts row k r) where
      stands-when : stands g (last_verdicts g) starts row k ≡ is_justified g (last_verdicts g) starts row k
      unfolding stands
      stands-when = rw (sym e ∙ form, has-it, new)

      pub bad-unjustified : r ≡ None → JudgesLine numbers starts row marks k None
      bad-unjustified z = judges_bad marks (stands-when ∙ j.bad z)

      pub line-stands : (t : Trail) → r ≡ Some t → (after : List ℕ) → MarksOne g f marks after → JudgesLine numbers starts row after k (Some t)
      line-stands t z after o =
          record {
            good = λ u q. stands-when ∙ j.good t z;
            trails = λ u q. rw (sym (same_trail q)) (j.trails t z);
            marks_are = λ u q. rw (facts_more k row, sym is) (o.on (facts_of (lines_of k row)) m);
            bad = λ q. absurd (stands_bad q);
          }

-- the first bad line
module _ (good : ℕ → Bool) (k n : ℕ) where
  bad_on : k < n → good k ≡ true → first_bad good k (n - k) ≡ first_bad good (k + 1) (n - (k + 1))
  unfolding first_bad
  bad_on l e = let s : n - k ≡ suc (n - (k + 1)) = omega arith in rw (s, e, first_bad)

  bad_here : k < n → good k ≡ false → first_bad good k (n - k) ≡ k
  unfolding first_bad
  bad_here l e = let s : n - k ≡ suc (n - (k + 1)) = omega arith in rw (s, e, first_bad)

  bad_none : n ≤ k → first_bad good k (n - k) ≡ k
  unfolding first_bad
  bad_none l = let s : n - k ≡ 0 = omega arith in rw s

-- all lines
module _ (numbers : List ℕ) (starts : List Fact) (row : List ℕ) where
  abbrev is_good : ℕ → Bool
  is_good = stands (graph_in numbers) (last_verdicts (graph_in numbers)) starts row

  pub record Going (marks : List ℕ) (k : ℕ) (trail : Trail) : Type 0 where
    pub inside : k ≤ length row / 6
    pub all : AllStand (graph_in numbers) starts row k
    pub trails : Trails numbers row trail
    pub marks_are : Marks (graph_in numbers) (facts_of (lines_of k row)) marks
    pub whole : first_bad is_good k (length row / 6 - k) ≡ first_bad is_good 0 (length row / 6)

  pub going_start : (marks : List ℕ) (trail : Trail) → trail.rule ≡ 0 → Marks (graph_in numbers) [] marks → Going marks 0 trail
  going_start marks trail z m =
      record {
        inside = omega arith;
        all = λ i l. absurd (omega arith);
        trails = record { placed = λ n. absurd (n z) };
        marks_are = rw (no_lines row) m;
        whole = let s : length row / 6 - 0 ≡ length row / 6 = omega arith in ap (first_bad is_good 0) s;
      }

  module _ (before : List ℕ) (k : ℕ) (trail : Trail) (p : Going before k trail) where
    pub going-room : k < length row / 6 → 6 * k + 6 ≤ length row
    going-room l = omega arith

    module _ (l : k < length row / 6) (after : List ℕ) (r : Option Trail) (j : JudgesLine numbers starts row after k r) where
      pub going_on : (t : Trail) → r ≡ Some t → Going after (k + 1) t
      going_on t e =
          record {
            inside = omega arith;
            all = below_more _ k p.all (j.good t e);
            trails = j.trails t e;
            marks_are = j.marks_are t e;
            whole = sym (bad_on is_good k (length row / 6) l (j.good t e)) ∙ p.whole;
          }

      pub going-bad : r ≡ None → (k ≡ first_bad is_good 0 (length row / 6)) × JudgesLines (graph_in numbers) starts row after k
      going-bad e = (
        sym (bad_here is_good k (length row / 6) l (j.bad e)) ∙ p.whole,
        record { all_stand = λ z. absurd (omega arith); marks_are = λ z. absurd (omega arith) },
      )

    pub going_end : length row / 6 ≤ k → (k ≡ first_bad is_good 0 (length row / 6)) × JudgesLines (graph_in numbers) starts row before k
    going_end l = (
      sym (bad_none is_good k (length row / 6) l) ∙ p.whole,
      record { all_stand = λ z. rw z at p.all; marks_are = λ z. rw z at p.marks_are },
    )
