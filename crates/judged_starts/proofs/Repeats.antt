-- Starts, each once, are those starts without their repeats.
use Prim.Native.Nat.{ℕ, zero, suc, ◌<◌}
use mathlib.Core.Path.{◌≡◌, refl, ap, ◌∙◌, sym}
use mathlib.Core.Bool.{Bool, true, false, true≢false}
use mathlib.Core.List.{List, [], ◌∷◌, ◌++◌, map, map-append}
use native.Mathlib.Omega.{arith}
use lib.ListN.{length, get_or, length-map, get_or-map}
use Rattle.determine_side_effects.specs.graph_crate.Check.{Graph}
use Rattle.determine_side_effects.specs.facts_crate.declared.Fact.{Fact}
use Rattle.determine_side_effects.specs.facts_crate.Facts.{module_fact, mark_of}
use Rattle.keep_record.specs.Lines.{elem}
use Rattle.keep_record.specs.Held.{Distinct}
use Rattle.keep_record.proofs.Adding.{elem_at, distinct_more}
use Rattle.own_starts.specs.Once.{noted, notes, once}
use Rattle.closed_choices.proofs.Every.{Every, every_at}
use Rattle.judged_records.proofs.DrainLines.{Among}
use Rattle.judged_starts.specs.Operation.{Has, WithoutRepeats}

-- what is noted differs by its marks
module _ (g : Graph) where
  noted_apart : (facts : List Fact) (f : Fact) → Distinct (map (mark_of g) facts) → Distinct (map (mark_of g) (noted g facts f))
  unfolding noted
  noted_apart facts f d = go (elem (mark_of g f) (map (mark_of g) facts)) refl
    where
      go : (b : Bool) → elem (mark_of g f) (map (mark_of g) facts) ≡ b → Distinct (map (mark_of g) (elim b [ true ↦ facts | false ↦ facts ++ (f ∷ []) ]))
      go true e = d
      go false e = rw (map-append (mark_of g) facts (f ∷ [])) (distinct_more (map (mark_of g) facts) (mark_of g f) d e)

  notes_apart : (facts fs : List Fact) → Distinct (map (mark_of g) facts) → Distinct (map (mark_of g) (notes g facts fs))
  unfolding notes
  notes_apart facts [] d = d
  notes_apart facts (f ∷ fs) d = notes_apart (noted g facts f) fs (noted_apart facts f d)

  once_apart : (facts : List Fact) → Distinct (map (mark_of g) (once g facts))
  unfolding once
  once_apart facts = notes_apart [] facts tt

  -- so no fact is there twice
  mark_there : (facts : List Fact) (k : ℕ) → k < length facts → elem (mark_of g (get_or facts k (module_fact 0))) (map (mark_of g) facts) ≡ true
  unfolding mark_of
  mark_there facts k h =
      ap (λ x. elem x (map (mark_of g) facts)) (sym (get_or-map (mark_of g) facts k (module_fact 0)))
      ∙ elem_at (map (mark_of g) facts) k (omega (arith, length-map facts (mark_of g)))

  apart_once : (facts : List Fact) → Distinct (map (mark_of g) facts) → (i k : ℕ) → i < k → k < length facts → get_or facts i (module_fact 0) ≡ get_or facts k (module_fact 0) → ⊥
  apart_once [] d i k h u e = absurd (omega (arith, u))
  apart_once (f ∷ fs) d zero zero h u e = absurd (omega (arith, h))
  apart_once (f ∷ fs) d zero (suc k) h u e =
      let z : ◌≡◌ {A = Bool} true false = sym (mark_there fs k (omega (arith, u))) ∙ ap (λ x. elem (mark_of g x) (map (mark_of g) fs)) (sym e) ∙ d.0 in
      absurd (true≢false z)
  apart_once (f ∷ fs) d (suc i) zero h u e = absurd (omega (arith, h))
  apart_once (f ∷ fs) d (suc i) (suc k) h u e = apart_once fs d.1 i k (omega (arith, h)) (omega (arith, u)) e

-- each of some facts is among others
has_by : (xs ys : List Fact) → Every (Among ys) xs → (f : Fact) → Has xs f → Has ys f
has_by xs ys a f h =
    let x = every_at (Among ys) xs (module_fact 0) a h.number h.inside in
    record { number = x.number; inside = x.inside; is = x.is ∙ h.is }

-- the facts of one list, each once, are those of another that has the same facts without its repeats
pub once_without : (g : Graph) (all facts : List Fact) → Every (Among (once g facts)) all → Every (Among all) (once g facts) → WithoutRepeats all (once g facts)
once_without g all facts a b =
    record {
      each = has_by all (once g facts) a;
      no_other = has_by (once g facts) all b;
      no_repeat = apart_once g (once g facts) (once_apart g facts);
    }
