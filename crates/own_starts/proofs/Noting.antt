-- Facts noted one after another: what was noted so far, and what is still to be.
use Prim.Native.Nat.{ℕ, ◌+◌, ◌*◌, ◌<◌, ◌≤◌}
use mathlib.Core.Path.{◌≡◌, refl, ap, ◌∙◌, sym, subst}
use mathlib.Core.Bool.{true, false}
use mathlib.Core.List.{List, [], ◌∷◌, ◌++◌, map, map-append, append_assoc, append-nil}
use native.Mathlib.Omega.{arith}
use borrow.Author.Count.{below_more}
use lib.ListN.{length, get_or, replicate, length-append, length-replicate, length-map, get_or-append, get_or-map}
use lib.Seq.{get_or-append_seam}
use Rattle.facts.specs.graph_crate.Check.{Graph, graph_in}
use Rattle.facts.specs.graph_crate.Loaded.{Loaded}
use Rattle.facts.specs.declared.Fact.{Fact}
use Rattle.facts.specs.Facts.{first_part, second_part, module_fact, Good, mark_of, mark_count}
use Rattle.facts.proofs.Marks.{mark_below}
use Rattle.keep_record.specs.Lines.{elem}
use Rattle.keep_record.proofs.Adding.{distinct_more}
use Rattle.keep_record.proofs.Rows.{held_cleared}
use Rattle.keep_record.proofs.Counting.{distinct_below, marks_few}
use Rattle.keep_record.proofs.Growing.{line_small}
use Rattle.marked.specs.Marked.{marked}
use Rattle.fact_marks.specs.Marks.{MarksOne}
use Rattle.own_starts.specs.Once.{noted, notes}
use Rattle.own_starts.specs.Noting.{Noting, Noted, Notes, Writes}
use Rattle.own_starts.proofs.Writing.{triples_more}

marks_at : (g : Graph) (fs : List Fact) (i : ℕ) → get_or (map (mark_of g) fs) i 0 ≡ mark_of g (get_or fs i (module_fact 0))
unfolding mark_of
marks_at g fs i = get_or-map (mark_of g) fs i (module_fact 0)

-- what is noted is few, and its numbers are small
module _ {numbers tables : List ℕ} (t : Loaded numbers tables) where
  pub noted_few : (seen out : List ℕ) (n : ℕ) → Noted (graph_in numbers) seen out n → n ≤ 1050624
  noted_few seen out n h =
      let g = graph_in numbers in
      let marks = map (mark_of g) h.facts in
      let size : length marks ≡ length h.facts = length-map h.facts (mark_of g) in
      let below : (i : ℕ) → i < length marks → get_or marks i 0 < mark_count g = λ i l. let q : i < length h.facts = omega arith in rw (marks_at g h.facts i) (mark_below t (get_or h.facts i (module_fact 0)) (h.noting.good i q)) in
      omega (arith, size, h.noting.counted, marks_few t, distinct_below (mark_count g) marks h.noting.apart below)

  pub parts_small : (f : Fact) → Good (graph_in numbers) f → (first_part f < 4294967296) × (second_part f < 4294967296)
  parts_small f good =
      let room : mark_count (graph_in numbers) ≤ 8 * length (replicate {A = ℕ} (mark_count (graph_in numbers)) 0) = rw (length-replicate {A = ℕ} (mark_count (graph_in numbers)) 0) (omega arith) in
      let none = held_cleared (graph_in numbers) _ _ (mark_count (graph_in numbers)) 0 room refl refl in
      let p = line_small t 0 _ _ 0 (record { fact = f; rule = 0; because = 0; and = 0 }) none (record { good_fact = good; rule_small = omega arith; because_earlier = omega arith; and_earlier = omega arith }) in
      (p.0, p.1)

-- several facts in turn
module _ (g : Graph) where
  noted_hit : (facts : List Fact) (f : Fact) → elem (mark_of g f) (map (mark_of g) facts) ≡ true → noted g facts f ≡ facts
  unfolding noted
  noted_hit facts f e = rw (e, noted)

  noted_miss : (facts : List Fact) (f : Fact) → elem (mark_of g f) (map (mark_of g) facts) ≡ false → noted g facts f ≡ facts ++ (f ∷ [])
  unfolding noted
  noted_miss facts f e = rw (e, noted)

  notes-append : (facts xs ys : List Fact) → notes g facts (xs ++ ys) ≡ notes g (notes g facts xs) ys
  unfolding notes
  notes-append facts [] ys = refl
  notes-append facts (x ∷ xs) ys = notes-append (noted g facts x) xs ys

  -- one fact: it is there
  module _ (f : Fact) (seen out : List ℕ) (n : ℕ) where
    pub note-hit : marked g seen f ≡ true → Notes g (f ∷ []) seen out n seen out n
    unfolding marked notes
    note-hit e = record { on = λ facts lent h. rw (noted_hit facts f (sym (h.marks.marked (mark_of g f)) ∙ e)) h }

    -- or it comes behind the others
    module _ (seen' out' : List ℕ) (good : Good g f) (marks : MarksOne g f seen seen') (writes : Writes f n out out') (long : length out' ≡ length out) where
      noting-more : (facts : List Fact) (lent : List ℕ) → elem (mark_of g f) (map (mark_of g) facts) ≡ false → Noting g facts seen lent out n → Noting g (facts ++ (f ∷ [])) seen' lent out' (n + 1)
      noting-more facts lent e h =
          let size = length-append facts (f ∷ []) in
          let last : Good g (get_or (facts ++ (f ∷ [])) (length facts) (module_fact 0)) = rw (get_or-append_seam facts f [] (module_fact 0)) good in
          let all : (i : ℕ) → i < length facts + 1 → Good g (get_or (facts ++ (f ∷ [])) i (module_fact 0)) =
          below_more _ (length facts) (λ i l. rw (get_or-append facts (f ∷ []) (module_fact 0) i l) (h.good i l)) last in
          record {
            marks = marks.on facts h.marks;
            good = λ i l. all i (omega (arith, size, l));
            apart = rw (map-append (mark_of g) facts (f ∷ [])) (distinct_more (map (mark_of g) facts) (mark_of g f) h.apart e);
            counted = omega (arith, size, h.counted);
            long = long ∙ h.long;
            written = λ l. triples_more facts f n lent out out' h.counted h.long l (h.written (omega (arith, l))) writes;
          }

      pub note-miss : marked g seen f ≡ false → Notes g (f ∷ []) seen out n seen' out' (n + 1)
      unfolding marked notes
      note-miss e =
          record { on = λ facts lent h. (let q = sym (h.marks.marked (mark_of g f)) ∙ e in rw (noted_miss facts f q) (noting-more facts lent q h)) }

  -- none, and some before others
  pub notes_none : (more : List Fact) → more ≡ [] → (seen out : List ℕ) (n : ℕ) → Notes g more seen out n seen out n
  unfolding notes
  notes_none more e seen out n = rw e (record { on = λ facts lent h. h })

  pub notes_then : (xs ys : List Fact) (s o : List ℕ) (n : ℕ) (s' o' : List ℕ) (n' : ℕ) (s'' o'' : List ℕ) (n'' : ℕ) → Notes g xs s o n s' o' n' → Notes g ys s' o' n' s'' o'' n'' → Notes g (xs ++ ys) s o n s'' o'' n''
  notes_then xs ys s o n s' o' n' s'' o'' n'' a b = record { on = λ facts lent h. rw (notes-append facts xs ys) (b.on (notes g facts xs) lent (a.on facts lent h)) }

  pub notes_as : (xs ys : List Fact) → xs ≡ ys → (s o : List ℕ) (n : ℕ) (s' o' : List ℕ) (n' : ℕ) → Notes g xs s o n s' o' n' → Notes g ys s o n s' o' n'
  notes_as xs ys e s o n s' o' n' a = subst (λ (fs : List Fact). Notes g fs s o n s' o' n') e a

  pub noted_on : (more : List Fact) (s o : List ℕ) (n : ℕ) (s' o' : List ℕ) (n' : ℕ) → Noted g s o n → Notes g more s o n s' o' n' → Noted g s' o' n'
  noted_on more s o n s' o' n' h a = record { facts = notes g h.facts more; lent = h.lent; noting = a.on h.facts h.lent h.noting }

-- In a loop: some facts of the whole are noted, and these are left.
pub record Along (g : Graph) (whole left : List Fact) (s₀ o₀ : List ℕ) (n₀ : ℕ) (s o : List ℕ) (n : ℕ) : Type 0 where
  pub done : List Fact
  pub noted : Noted g s o n
  pub so : Notes g done s₀ o₀ n₀ s o n
  pub split : done ++ left ≡ whole

module _ (g : Graph) (whole : List Fact) (s₀ o₀ : List ℕ) (n₀ : ℕ) where
  pub along_start : (left : List Fact) → left ≡ whole → Noted g s₀ o₀ n₀ → Along g whole left s₀ o₀ n₀ s₀ o₀ n₀
  along_start left e h = record { done = []; noted = h; so = notes_none g [] refl s₀ o₀ n₀; split = e }

  module _ (s o : List ℕ) (n : ℕ) where
    -- what is left may be said in another way
    pub along_as : (xs ys : List Fact) → xs ≡ ys → Along g whole xs s₀ o₀ n₀ s o n → Along g whole ys s₀ o₀ n₀ s o n
    along_as xs ys e a = subst (λ (fs : List Fact). Along g whole fs s₀ o₀ n₀ s o n) e a

    pub along_same : (left : List Fact) → Along g whole left s₀ o₀ n₀ s o n → {s' o' : List ℕ} {n' : ℕ} → s' ≡ s → o' ≡ o → n' ≡ n → Along g whole left s₀ o₀ n₀ s' o' n'
    along_same left a p q r = rw (p, q, r) a

    pub along_done : (left : List Fact) → left ≡ [] → Along g whole left s₀ o₀ n₀ s o n → Notes g whole s₀ o₀ n₀ s o n
    along_done left e a = notes_as g _ _ (sym (append-nil a.done) ∙ ap (λ fs. a.done ++ fs) (sym e) ∙ a.split) s₀ o₀ n₀ s o n a.so

    -- the next ones, or all that are left
    pub along_step : (xs left all : List Fact) → all ≡ xs ++ left → Along g whole all s₀ o₀ n₀ s o n → (s' o' : List ℕ) (n' : ℕ) → Notes g xs s o n s' o' n' → Along g whole left s₀ o₀ n₀ s' o' n'
    along_step xs left all e a s' o' n' b =
        record {
          done = a.done ++ xs;
          noted = noted_on g xs s o n s' o' n' a.noted b;
          so = notes_then g a.done xs s₀ o₀ n₀ s o n s' o' n' a.so b;
          split = append_assoc a.done xs left ∙ ap (λ fs. a.done ++ fs) (sym e) ∙ a.split;
        }

    pub along_last : (xs left : List Fact) → left ≡ xs → Along g whole left s₀ o₀ n₀ s o n → (s' o' : List ℕ) (n' : ℕ) → Notes g xs s o n s' o' n' → Notes g whole s₀ o₀ n₀ s' o' n'
    along_last xs left e a s' o' n' b = notes_as g _ _ (ap (λ fs. a.done ++ fs) (sym e) ∙ a.split) s₀ o₀ n₀ s' o' n' (notes_then g a.done xs s₀ o₀ n₀ s o n s' o' n' a.so b)
