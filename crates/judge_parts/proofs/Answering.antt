-- The judge's answer over good starts: the first bad line, what is absent, or passed.
use Prim.Native.Nat.{ℕ, ◌/◌, ◌<◌}
use mathlib.Core.Path.{◌≡◌, refl, ap, ◌∙◌, sym}
use mathlib.Core.Bool.{Bool, true, false, ◌&&◌}
use mathlib.Core.List.{List, [], ◌∷◌, map}
use borrow.Author.Tests.{eq-eqb, ne_eqb}
use lib.ListN.{length}
use Rattle.determine_side_effects.specs.graph_crate.Check.{Graph}
use Rattle.determine_side_effects.specs.Effects.{last_verdicts}
use Rattle.determine_side_effects.proofs.Lists.{both}
use Rattle.determine_side_effects.specs.facts_crate.declared.Fact.{Fact}
use Rattle.determine_side_effects.specs.facts_crate.Facts.{mark_of, Good}
use Rattle.keep_record.specs.declared.Line.{Line}
use Rattle.keep_record.specs.Lines.{elem, marks_of, marks_from, has}
use Rattle.keep_record.specs.Held.{line_at, lines_of}
use Rattle.keep_record.proofs.Rows.{lines-length}
use Rattle.marked.specs.Marked.{marked}
use Rattle.fact_marks.specs.Marks.{Marks}
use Rattle.record_form.specs.Form.{in_form}
use Rattle.record_form.proofs.Forms.{form_good}
use Rattle.line_judgement.specs.Stand.{stands, first_bad}
use Rattle.line_judgement.specs.Steps.{facts_of, AllStand}
use Rattle.completeness.specs.Complete.{all, are_closed, is_complete}
use Rattle.judge_parts.specs.Operation.{judged_whole, judged_at, judged_lines}
use Rattle.std.specs.Prelude.{Ok, Err}
use Rattle.determine_side_effects.specs.refusal_crate.declared.Refusal.TheVariants.{Unjustified}

-- the marks of the lines' facts say which facts have a line
marks_are : (g : Graph) (lines : List Line) → map (mark_of g) (facts_of lines) ≡ marks_of g lines
unfolding marks_of
marks_are g [] = refl
marks_are g (l ∷ ls) = ap (λ xs. mark_of g l.fact ∷ xs) (marks_are g ls)

has_marked : (g : Graph) (lines : List Line) (marks : List ℕ) → Marks g (facts_of lines) marks → ◌≡◌ {A = Fact → Bool} (has g 0 lines) (marked g marks)
unfolding has marked marks_from
has_marked g lines marks m = λ i f. (ap (elem (mark_of g f)) (sym (marks_are g lines)) ∙ sym (m.marked (mark_of g f))) i

-- a line that stands has a good fact
pub lines_good : (g : Graph) (starts : List Fact) (row : List ℕ) (n : ℕ) → AllStand g starts row n → (k : ℕ) → k < n → Good g (line_at row k).fact
unfolding stands line_at
lines_good g starts row n stand k h = form_good g row k (both (in_form g row k) _ (stand k h)).0

module _ (g : Graph) (starts : List Fact) (row : List ℕ) (first : ℕ) (is : first ≡ first_bad (stands g (last_verdicts g) starts row) 0 (length row / 6)) where
  answer_is : judged_at g starts row (length row / 6) first ≡ judged_lines g starts row
  unfolding judged_lines
  answer_is = ap (judged_at g starts row (length row / 6)) is

  pub line_bad : (first ≡ length row / 6 → ⊥) → Err (Unjustified first) ≡ judged_lines g starts row
  unfolding judged_at
  line_bad n = let a : Err (Unjustified first) ≡ judged_at g starts row (length row / 6) first = rw (ne_eqb first (length row / 6) n, judged_at) in a ∙ answer_is

  module _ (none : first ≡ length row / 6) (marks : List ℕ) (m : Marks g (facts_of (lines_of (length row / 6) row)) marks) where
    abbrev whole : Bool
    whole = all (marked g marks) starts && are_closed g (last_verdicts g) (marked g marks) (lines_of (length row / 6) row)

    absent : whole ≡ false → Err (Unjustified (length row / 6)) ≡ judged_lines g starts row
    unfolding judged_at judged_whole is_complete
    absent e =
        let a : Err (Unjustified (length row / 6)) ≡ judged_at g starts row (length row / 6) first =
        rw (eq-eqb first (length row / 6) none, judged_at, has_marked g (lines_of (length row / 6) row) marks m, e, judged_whole, lines-length (length row / 6) row) in
        a ∙ answer_is

    module _ (t : Bool) (s : t ≡ all (marked g marks) starts) where
      pub start-absent : t ≡ false → Err (Unjustified (length row / 6)) ≡ judged_lines g starts row
      start-absent z = absent (rw (sym s ∙ z))

      module _ (y : t ≡ true) (u : Bool) (c : u ≡ are_closed g (last_verdicts g) (marked g marks) (lines_of (length row / 6) row)) where
        pub following-absent : u ≡ false → Err (Unjustified (length row / 6)) ≡ judged_lines g starts row
        following-absent z = absent (rw (sym s ∙ y, sym c ∙ z))

        pub all_there : u ≡ true → (Ok tt) ≡ judged_lines g starts row
        unfolding judged_at judged_whole is_complete
        all_there z =
            let e : whole ≡ true = rw (sym s ∙ y, sym c ∙ z) in
            let a : (Ok tt) ≡ judged_at g starts row (length row / 6) first =
            rw (eq-eqb first (length row / 6) none, judged_at, has_marked g (lines_of (length row / 6) row) marks m, e, judged_whole) in
            a ∙ answer_is
