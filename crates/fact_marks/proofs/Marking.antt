-- One more fact in a row of marks.
use Prim.Native.Nat.{ℕ}
use mathlib.Core.Path.{◌≡◌, refl, ap, ◌∙◌, sym}
use mathlib.Core.Bool.{◌||◌}
use mathlib.Core.List.{List, [], ◌∷◌, ◌++◌, map}
use lib.Dec.{eqb}
use lib.ListN.{length}
use Rattle.bit_row.specs.Row.{bit_at}
use Rattle.facts.specs.graph_crate.Check.{Graph}
use Rattle.facts.specs.declared.Fact.{Fact}
use Rattle.facts.specs.Facts.{mark_of}
use Rattle.keep_record.specs.Lines.{elem}
use Rattle.keep_record.proofs.Adding.{elem_more}
use Rattle.fact_marks.specs.Marks.{MarksOne}

map_more : {A B : Type 0} (f : A → B) (xs : List A) (x : A) → map f (xs ++ (x ∷ [])) ≡ map f xs ++ (f x ∷ [])
map_more f [] x = refl
map_more f (y ∷ xs) x = ap (λ l. f y ∷ l) (map_more f xs x)

pub marks_one : (g : Graph) (f : Fact) (before after : List ℕ) (m : ℕ) → m ≡ mark_of g f → length after ≡ length before
    → ((j : ℕ) → bit_at after j ≡ (eqb j m || bit_at before j)) → MarksOne g f before after
marks_one g f before after m is same set =
    record {
      same_length = same;
      on = λ facts had.
          record {
            wide = rw same had.wide;
            marked = λ j.
                set j
                ∙ ap (λ b. eqb j m || b) (had.marked j)
                ∙ ap (λ n. eqb j n || elem j (map (mark_of g) facts)) is
                ∙ sym (elem_more j (mark_of g f) (map (mark_of g) facts))
                ∙ ap (elem j) (sym (map_more (mark_of g) facts f));
          };
    }
