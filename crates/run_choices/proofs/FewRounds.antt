-- Without the option each round but the last has a module's line more, and there are at most as many of these as modules.
use Prim.Native.Nat.{ℕ, zero, suc, ◌+◌, ◌<◌, ◌≤◌}
use mathlib.Core.Path.{◌≡◌, refl, ap, ◌∙◌}
use mathlib.Core.Bool.{Bool, true, false, false≢true}
use mathlib.Core.List.{List, [], ◌∷◌, ◌++◌}
use native.Mathlib.Omega.{arith}
use lib.Dec.{eqb}
use lib.ListN.{length, drop}
use lib.Seq.{drop-append_seam}
use Rattle.determine_side_effects.specs.graph_crate.Check.{Graph, graph_in}
use Rattle.determine_side_effects.specs.graph_crate.Loaded.{Loaded}
use Rattle.determine_side_effects.specs.graph_access_crate.Words.{some, option}
use Rattle.determine_side_effects.specs.facts_crate.declared.Fact.{Fact}
use Rattle.determine_side_effects.specs.facts_crate.declared.Fact.TheVariants.{Module, Statement, Use, CheckedUse, Forward, Bailout}
use Rattle.determine_side_effects.specs.facts_crate.Facts.{kind_of, Good, mark_of}
use Rattle.determine_side_effects.specs.Effects.{last_verdicts}
use Rattle.keep_record.specs.declared.Line.{Line}
use Rattle.keep_record.specs.Lines.{elem, marks_of, marks_from}
use Rattle.keep_record.specs.Held.{Distinct}
use Rattle.keep_record.proofs.Adding.{neither, left_false, right_false}
use Rattle.keep_record.proofs.Counting.{distinct_below}
use Rattle.dynamic_entries.specs.Tries.{Progress}
use Rattle.tree_shaking.specs.Rounds.{round, kept_module, keeps_module, goes_on, rounds_fuel, Ended, ended_at, rounds_from, begun, main_part}
use Rattle.closed_choices.proofs.Every.{Every, every_at}
use Rattle.run_choices.proofs.Stages.{Whole}
use Rattle.run_choices.proofs.Growing.{round_whole, begun_whole}
use Rattle.run_choices.proofs.Further.{Goes, round_further}

-- the marks of the modules' lines
abbrev is_module_line : Line → Bool
is_module_line l = eqb (kind_of l.fact) 1

module _ (g : Graph) where
  unfoldable module_marks : List Line → List ℕ
  module_marks [] = []
  module_marks (l ∷ ls) = elim (is_module_line l) [ true ↦ mark_of g l.fact ∷ module_marks ls | false ↦ module_marks ls ]

  its_mark : (l : Line) (ls : List Line) → is_module_line l ≡ true → module_marks (l ∷ ls) ≡ mark_of g l.fact ∷ module_marks ls
  unfolding module_marks
  its_mark l ls e = rw (e, module_marks)

  no_mark : (l : Line) (ls : List Line) → is_module_line l ≡ false → module_marks (l ∷ ls) ≡ module_marks ls
  unfolding module_marks
  no_mark l ls e = rw (e, module_marks)

  not_among : (ls : List Line) (x : ℕ) → elem x (marks_of g ls) ≡ false → elem x (module_marks ls) ≡ false
  unfolding marks_of module_marks elem
  not_among [] x h = refl
  not_among (l ∷ ls) x h = go (is_module_line l) refl (not_among ls x (right_false (eqb x (mark_of g l.fact)) (elem x (marks_of g ls)) h))
    where
      go : (b : Bool) → is_module_line l ≡ b → elem x (module_marks ls) ≡ false → elem x (module_marks (l ∷ ls)) ≡ false
      go true e r = rw (its_mark l ls e) (neither (eqb x (mark_of g l.fact)) (elem x (module_marks ls)) (left_false (eqb x (mark_of g l.fact)) (elem x (marks_of g ls)) h) r)
      go false e r = rw (no_mark l ls e) r

  modules_apart : (ls : List Line) → Distinct (marks_of g ls) → Distinct (module_marks ls)
  unfolding marks_of module_marks
  modules_apart [] d = _
  modules_apart (l ∷ ls) d = go (is_module_line l) refl (modules_apart ls d.1)
    where
      go : (b : Bool) → is_module_line l ≡ b → Distinct (module_marks ls) → Distinct (module_marks (l ∷ ls))
      go true e r = rw (its_mark l ls e) (not_among ls (mark_of g l.fact) d.0, r)
      go false e r = rw (no_mark l ls e) r

  mark_small : (f : Fact) → Good g f → eqb (kind_of f) 1 ≡ true → mark_of g f < g.header.modules
  unfolding mark_of
  mark_small (Module m) h e = h.0
  mark_small (Statement m i) h e = absurd (false≢true e)
  mark_small (Use s x) h e = absurd (false≢true e)
  mark_small (CheckedUse s x) h e = absurd (false≢true e)
  mark_small (Forward s) h e = absurd (false≢true e)
  mark_small (Bailout m) h e = absurd (false≢true e)

  modules_below : (ls : List Line) → Every (λ l. Good g l.fact) ls → Every (λ j. j < g.header.modules) (module_marks ls)
  unfolding module_marks
  modules_below [] a = tt
  modules_below (l ∷ ls) a = go (is_module_line l) refl (modules_below ls a.1)
    where
      go : (b : Bool) → is_module_line l ≡ b → Every (λ j. j < g.header.modules) (module_marks ls) → Every (λ j. j < g.header.modules) (module_marks (l ∷ ls))
      go true e r = rw (its_mark l ls e) (mark_small l.fact a.0 e, r)
      go false e r = rw (no_mark l ls e) r

  modules_few : (ls : List Line) → Whole g 0 ls → length (module_marks ls) ≤ g.header.modules
  unfolding marks_from
  modules_few ls w =
      distinct_below g.header.modules (module_marks ls) (modules_apart ls w.sound.apart)
      (λ i h. every_at (λ j. j < g.header.modules) (module_marks ls) 0 (modules_below ls w.sound.good) i h)

  -- a module among further lines
  one_at_least : (ls : List Line) → some is_module_line ls ≡ true → 0 < length (module_marks ls)
  unfolding some module_marks
  one_at_least [] e = absurd (false≢true e)
  one_at_least (l ∷ ls) e = go (is_module_line l) refl (λ r. one_at_least ls r)
    where
      go : (b : Bool) → is_module_line l ≡ b → (some is_module_line ls ≡ true → 0 < length (module_marks ls)) → 0 < length (module_marks (l ∷ ls))
      go true q r = rw (its_mark l ls q) (omega arith)
      go false q r = rw (no_mark l ls q) (r (rw (q, some) at e))

  modules_more : (xs ys : List Line) → length (module_marks (xs ++ ys)) ≡ length (module_marks xs) + length (module_marks ys)
  unfolding module_marks
  modules_more [] ys = omega arith
  modules_more (l ∷ xs) ys = go (is_module_line l) refl (modules_more xs ys)
    where
      go : (b : Bool) → is_module_line l ≡ b → length (module_marks (xs ++ ys)) ≡ length (module_marks xs) + length (module_marks ys)
          → length (module_marks (l ∷ (xs ++ ys))) ≡ length (module_marks (l ∷ xs)) + length (module_marks ys)
      go true e r = rw (its_mark l (xs ++ ys) e, its_mark l xs e) (omega (arith, r))
      go false e r = rw (no_mark l (xs ++ ys) e, no_mark l xs e) r

  kept_more : (a b : List Line) → Goes a b → kept_module (length a) b ≡ true → length (module_marks a) < length (module_marks b)
  unfolding kept_module
  kept_more a b p e =
      let s : drop (length a) b ≡ p.rest = ap (λ (l : List Line). drop (length a) l) p.is ∙ drop-append_seam a p.rest in
      let o = one_at_least p.rest (rw s at e) in
      let m : length (module_marks b) ≡ length (module_marks a) + length (module_marks p.rest) = ap (λ (l : List Line). length (module_marks l)) p.is ∙ modules_more a p.rest in
      omega (arith, o, m)

-- a test by which a further round follows only one that kept a module
module _ {numbers tables : List ℕ} (t : Loaded numbers tables) (test : Progress → Progress → Bool) (keeps : (p q : Progress) → test p q ≡ true → keeps_module p q ≡ true) where
  abbrev g : Graph
  g = graph_in numbers

  abbrev v : List ℕ
  v = last_verdicts (graph_in numbers)

  -- by the modules that have a line before the round and those that have none
  few_from : (fuel made taken : ℕ) (p : Progress) → Whole g 0 p.lines → (rounds_from g v test fuel made taken p).rounds + length (module_marks g p.lines) ≤ made + g.header.modules + 1
  unfolding rounds_from keeps_module
  few_from zero made taken p w = omega (arith, modules_few g p.lines w)
  few_from (suc fuel) made taken p w = go (test p next) refl (few_from fuel (made + 1) (length p.lines) next (round_whole t taken p w))
    where
      next : Progress
      next = round g v taken p

      later : Ended
      later = rounds_from g v test fuel (made + 1) (length p.lines) next

      roundsOf : Ended → ℕ
      roundsOf e = e.rounds

      go : (b : Bool) → test p next ≡ b → later.rounds + length (module_marks g next.lines) ≤ made + 1 + g.header.modules + 1
          → roundsOf (elim b [ true ↦ later | false ↦ ended_at (made + 1) (length p.lines) next ]) + length (module_marks g p.lines) ≤ made + g.header.modules + 1
      go true e r = omega (arith, r, kept_more g p.lines next.lines (round_further g v taken p).lines_go (keeps p next e))
      go false e r = omega (arith, modules_few g p.lines w)

-- without the option a run makes at most one round more than there are modules
pub few_without : {numbers tables : List ℕ} → Loaded numbers tables → option (graph_in numbers) 7 ≡ false
    → (main_part (graph_in numbers) (last_verdicts (graph_in numbers))).rounds ≤ (graph_in numbers).header.modules + 1
unfolding main_part goes_on
few_without {numbers} t o =
    let g = graph_in numbers in
    let v = last_verdicts g in
    let keeps : (p q : Progress) → goes_on g p q ≡ true → keeps_module p q ≡ true = λ p q e. rw (o, goes_on) at e in
    omega (arith, few_from t (goes_on g) keeps (rounds_fuel g) 0 0 (begun g v) (begun_whole t))
