-- Starts, each once, are the same facts; a record of one list of starts is one of another that has the same facts.
use Prim.Native.Nat.{ℕ, zero, suc, ◌<◌}
use mathlib.Core.Path.{◌≡◌, refl, ◌∙◌, sym, subst}
use mathlib.Core.Bool.{Bool, true, false}
use mathlib.Core.List.{List, [], ◌∷◌, ◌++◌, map}
use native.Mathlib.Omega.{arith}
use lib.ListN.{length, get_or, length-append, length-map, get_or-append}
use lib.Seq.{get_or-append_seam}
use Rattle.determine_side_effects.specs.graph_crate.Check.{Graph, graph_in}
use Rattle.determine_side_effects.specs.graph_crate.Loaded.{Loaded}
use Rattle.determine_side_effects.specs.facts_crate.declared.Fact.{Fact}
use Rattle.determine_side_effects.specs.facts_crate.Facts.{module_fact, Good, mark_of}
use Rattle.determine_side_effects.proofs.facts_crate.Marks.{mark_injective}
use Rattle.keep_record.specs.declared.Line.{Line}
use Rattle.keep_record.specs.Lines.{elem}
use Rattle.keep_record.proofs.Counting.{elem_place}
use Rattle.own_starts.specs.Once.{noted, notes, once}
use Rattle.closed_choices.specs.Choice.{Choice, HoldsStarts}
use Rattle.closed_choices.proofs.Every.{Every, every_append, every_at, every_by}
use Rattle.judged_records.specs.Choice.{SmallestByRules}
use Rattle.judged_records.proofs.DrainLines.{Among, all_among, Stands, as_start, by-module, by-forward, by_one, AllStand}

-- what all facts have, those have that are noted
module _ (g : Graph) (P : Fact → Type 0) where
  noted_every : (facts : List Fact) (f : Fact) → Every P facts → P f → Every P (noted g facts f)
  unfolding noted
  noted_every facts f a h = go (elem (mark_of g f) (map (mark_of g) facts))
    where
      go : (b : Bool) → Every P (elim b [ true ↦ facts | false ↦ facts ++ (f ∷ []) ])
      go true = a
      go false = every_append P facts (f ∷ []) a (h, tt)

  notes_every : (facts fs : List Fact) → Every P facts → Every P fs → Every P (notes g facts fs)
  unfolding notes
  notes_every facts [] a b = a
  notes_every facts (f ∷ fs) a b = notes_every (noted g facts f) fs (noted_every facts f a b.0) b.1

  pub once_every : (facts : List Fact) → Every P facts → Every P (once g facts)
  unfolding once
  once_every facts a = notes_every [] facts tt a

-- a fact stays among them
among_more : (facts rest : List Fact) (f : Fact) → Among facts f → Among (facts ++ rest) f
among_more facts rest f a =
    record { number = a.number; inside = omega (arith, a.inside, length-append facts rest); is = get_or-append facts rest (module_fact 0) a.number a.inside ∙ a.is }

among_last : (facts : List Fact) (f : Fact) → Among (facts ++ (f ∷ [])) f
among_last facts f = record { number = length facts; inside = omega (arith, length-append facts (f ∷ [])); is = get_or-append_seam facts f [] (module_fact 0) }

module _ (g : Graph) where
  noted_kept : (facts : List Fact) (e f : Fact) → Among facts f → Among (noted g facts e) f
  unfolding noted
  noted_kept facts e f a = go (elem (mark_of g e) (map (mark_of g) facts))
    where
      go : (b : Bool) → Among (elim b [ true ↦ facts | false ↦ facts ++ (e ∷ []) ]) f
      go true = a
      go false = among_more facts (e ∷ []) f a

  notes_kept : (facts fs : List Fact) (f : Fact) → Among facts f → Among (notes g facts fs) f
  unfolding notes
  notes_kept facts [] f a = a
  notes_kept facts (e ∷ fs) f a = notes_kept (noted g facts e) fs f (noted_kept facts e f a)

  mark_at : (facts : List Fact) (k : ℕ) → k < length facts → get_or (map (mark_of g) facts) k 0 ≡ mark_of g (get_or facts k (module_fact 0))
  mark_at [] k h = absurd (omega arith)
  mark_at (f ∷ fs) zero h = refl
  mark_at (f ∷ fs) (suc k) h = mark_at fs k (omega arith)

-- where facts with one mark are one fact, each is among those that are noted
module _ {numbers tables : List ℕ} (t : Loaded numbers tables) where
  abbrev g : Graph
  g = graph_in numbers

  marked_among : (facts : List Fact) (f : Fact) → Every (Good g) facts → Good g f → elem (mark_of g f) (map (mark_of g) facts) ≡ true → Among facts f
  marked_among facts f a h e =
      let p = elem_place (mark_of g f) (map (mark_of g) facts) e in
      let u : p.0 < length facts = omega (arith, p.1, length-map facts (mark_of g)) in
      let same : mark_of g (get_or facts p.0 (module_fact 0)) ≡ mark_of g f = sym (p.2 ∙ mark_at g facts p.0 u) in
      record { number = p.0; inside = u; is = mark_injective t (get_or facts p.0 (module_fact 0)) f (every_at (Good g) facts (module_fact 0) a p.0 u) h same }

  noted_has : (facts : List Fact) (f : Fact) → Every (Good g) facts → Good g f → Among (noted g facts f) f
  unfolding noted
  noted_has facts f a h = go (elem (mark_of g f) (map (mark_of g) facts)) refl
    where
      go : (b : Bool) → elem (mark_of g f) (map (mark_of g) facts) ≡ b → Among (elim b [ true ↦ facts | false ↦ facts ++ (f ∷ []) ]) f
      go true e = marked_among facts f a h e
      go false e = among_last facts f

  notes_have : (facts fs : List Fact) → Every (Good g) facts → Every (Good g) fs → (k : ℕ) → k < length fs → Among (notes g facts fs) (get_or fs k (module_fact 0))
  unfolding notes
  notes_have facts [] a b k h = absurd (omega arith)
  notes_have facts (f ∷ fs) a b zero h = notes_kept g (noted g facts f) fs f (noted_has facts f a b.0)
  notes_have facts (f ∷ fs) a b (suc k) h = notes_have (noted g facts f) fs (noted_every g (Good g) facts f a b.0) b.1 k (omega arith)

  pub once_has : (facts : List Fact) → Every (Good g) facts → Every (Among (once g facts)) facts
  unfolding once
  once_has facts a = every_by (Among (once g facts)) facts (module_fact 0) (λ k u. notes_have [] facts tt a k u)

pub once_only : (g : Graph) (facts : List Fact) → Every (Among facts) (once g facts)
once_only g facts = once_every g (Among facts) facts (all_among facts)

-- starts with the same facts: the same choices hold them, and the same lines stand
module _ (a b : List Fact) (to : Every (Among b) a) (of : Every (Among a) b) where
  among_by : (xs ys : List Fact) → Every (Among ys) xs → (f : Fact) → Among xs f → Among ys f
  among_by xs ys h f x = subst (λ e. Among ys e) x.is (every_at (Among ys) xs (module_fact 0) h x.number x.inside)

  holds_by : (xs ys : List Fact) → Every (Among ys) xs → (C : Choice) → HoldsStarts ys C → HoldsStarts xs C
  holds_by xs ys h C holds i u = let x = every_at (Among ys) xs (module_fact 0) h i u in subst (λ e. C e) x.is (holds x.number x.inside)

  pub same_smallest : (g : Graph) (C : Choice) → SmallestByRules g a C → SmallestByRules g b C
  same_smallest g C s =
      record { holds_starts = holds_by b a of C s.holds_starts; closed = s.closed; inside_each = λ D h c f x. s.inside_each D (holds_by a b to D h) c f x }

  same_stands : (g : Graph) (v : List ℕ) (lines : List Line) (n : ℕ) (l : Line) → Stands g v a lines n l → Stands g v b lines n l
  same_stands g v lines n l (as_start f x) = as_start f (among_by a b to f x)
  same_stands g v lines n l (by-module f c d p q j) = by-module f c d p q j
  same_stands g v lines n l (by-forward f c d p q j) = by-forward f c d p q j
  same_stands g v lines n l (by_one f r c p j) = by_one f r c p j

  pub same_stand : (g : Graph) (v : List ℕ) (lines : List Line) → AllStand g v a lines → AllStand g v b lines
  same_stand g v lines h k u = same_stands g v lines k (get_or lines k _) (h k u)
