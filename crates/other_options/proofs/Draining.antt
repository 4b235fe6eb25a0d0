-- Drains read the options through the keep rules alone: with the same bits they give the same lines.
use Prim.Native.Nat.{ℕ, zero, suc, ◌+◌, ◌<◌}
use mathlib.Core.Path.{◌≡◌, refl, ap, ◌∙◌}
use mathlib.Core.Bool.{Bool, true, false}
use mathlib.Core.List.{List, [], ◌∷◌, ◌++◌, map}
use lib.Dec.{ltb}
use lib.ListN.{length, take, drop}
use Rattle.determine_side_effects.specs.graph_crate.Check.{Graph}
use Rattle.determine_side_effects.specs.graph_access_crate.Words.{symbol_of, option}
use Rattle.determine_side_effects.specs.facts_crate.declared.Fact.{Fact}
use Rattle.determine_side_effects.specs.facts_crate.declared.Fact.TheVariants.{Module, Statement, Use, CheckedUse, Forward, Bailout}
use Rattle.determine_side_effects.specs.facts_crate.Facts.{first_part, mark_of, mark_count}
use Rattle.keep_rules.specs.Rules.{Given}
use Rattle.keep_record.specs.declared.Line.{Line}
use Rattle.keep_record.specs.Lines.{elem, marks_of, stays, marks_from, has, added, adds}
use Rattle.worklist.specs.Drain.{line, fact_at, followed, joined, is_forward_of, forwards_to, joins_all, joined_to, joins, news, drained, started, drained_all}
use Rattle.on_demand.specs.Demand.{user_entry}
use Rattle.other_options.specs.Options.{with_options}
use Rattle.other_options.proofs.Cases.{same_first}
use Rattle.other_options.proofs.Rules.{gives_same}

-- what reads no options: the marks of facts, and the rule K1
module _ (g : Graph) (o : ℕ) where
  abbrev h : Graph
  h = with_options g o

  mark_same : (f : Fact) → mark_of h f ≡ mark_of g f
  unfolding mark_of
  mark_same (Module m) = refl
  mark_same (Statement m i) = refl
  mark_same (Use s x) = refl
  mark_same (CheckedUse s x) = refl
  mark_same (Forward s) = refl
  mark_same (Bailout m) = refl

  marks_same : (lines : List Line) → marks_of h lines ≡ marks_of g lines
  unfolding marks_of
  marks_same lines = ap (λ (f : Line → ℕ). map f lines) (λ j l. mark_same l.fact j)

  marks_from_same : (base : ℕ) (lines : List Line) → marks_from h base lines ≡ marks_from g base lines
  unfolding marks_from
  marks_from_same zero lines = marks_same lines
  marks_from_same (suc base) [] = refl
  marks_from_same (suc base) (l ∷ ls) =
      let rest = marks_from g base ls in
      ap (λ (xs : List ℕ). elim (stays l.fact) as (λ x. List ℕ) [ true ↦ mark_of h l.fact ∷ xs | false ↦ xs ]) (marks_from_same base ls)
      ∙ ap (λ (x : ℕ). elim (stays l.fact) as (λ x. List ℕ) [ true ↦ x ∷ rest | false ↦ rest ]) (mark_same l.fact)

  pub has_same : (base : ℕ) (lines : List Line) (f : Fact) → has h base lines f ≡ has g base lines f
  unfolding has
  has_same base lines f = ap (λ (x : ℕ). elem x (marks_from h base lines)) (mark_same f) ∙ ap (λ (xs : List ℕ). elem (mark_of g f) xs) (marks_from_same base lines)

  added_same : (base : ℕ) (lines : List Line) (l : Line) → added h base lines l ≡ added g base lines l
  unfolding added
  added_same base lines l = ap (λ (b : Bool). elim b as (λ x. List Line) [ true ↦ lines | false ↦ lines ++ (l ∷ []) ]) (has_same base lines l.fact)

  adds_same : (base : ℕ) (lines ls : List Line) → adds h base lines ls ≡ adds g base lines ls
  unfolding adds
  adds_same base lines [] = refl
  adds_same base lines (l ∷ ls) = ap (λ (x : List Line). adds h base x ls) (added_same base lines l) ∙ adds_same base (added g base lines l) ls

  forward_same : (m : ℕ) (f : Fact) → is_forward_of h m f ≡ is_forward_of g m f
  unfolding symbol_of
  forward_same m (Module n) = refl
  forward_same m (Statement n i) = refl
  forward_same m (Use s x) = refl
  forward_same m (CheckedUse s x) = refl
  forward_same m (Forward s) = refl
  forward_same m (Bailout n) = refl

  forwards_same : (m : ℕ) (l : Line) → forwards_to h m l ≡ forwards_to g m l
  unfolding forwards_to
  forwards_same m l = forward_same m l.fact

  joins_all_same : (m k i : ℕ) (lines : List Line) → joins_all h m k i lines ≡ joins_all g m k i lines
  unfolding joins_all joined symbol_of
  joins_all_same m k i [] = refl
  joins_all_same m k i (l ∷ ls) =
      let now = joined g (first_part l.fact) (k + 1) (i + 1) in
      ap (λ (b : Bool).
      elim b as (λ x. List Line) [ true ↦ now ++ joins_all h m k (i + 1) ls | false ↦ joins_all h m k (i + 1) ls ]) (forwards_same m l)
      ∙ ap (λ (xs : List Line). elim (forwards_to g m l) as (λ x. List Line) [ true ↦ now ++ xs | false ↦ xs ]) (joins_all_same m k (i + 1) ls)

  joins_same : (base : ℕ) (lines : List Line) (k : ℕ) (f : Fact) → joins h base lines k f ≡ joins g base lines k f
  unfolding joins joined_to joined symbol_of
  joins_same base lines k (Module m) = joins_all_same m.0 k base (drop base (take k lines))
  joins_same base lines k (Statement m i) = refl
  joins_same base lines k (Use s x) = refl
  joins_same base lines k (CheckedUse s x) = refl
  joins_same base lines k (Forward s) = refl
  joins_same base lines k (Bailout m) = refl

module _ (g : Graph) (o : ℕ) (same : (j : ℕ) → j < 6 → option (with_options g o) j ≡ option g j) where
  abbrev other : Graph
  other = with_options g o

  -- the entries are the same, so user-defined ones have the same modules
  users_same : (m : ℕ) → user_entry other m ≡ user_entry g m
  unfolding user_entry
  users_same m = refl

  followed_same : (v : List ℕ) (k : ℕ) (f : Fact) → followed other v k f ≡ followed g v k f
  unfolding followed
  followed_same v k f = ap (λ (xs : List Given). map (λ x. line x.fact x.rule (k + 1) 0) xs) (gives_same g o g.entries same users_same v f)

  news_same : (v : List ℕ) (base : ℕ) (lines : List Line) (k : ℕ) → news other v base lines k ≡ news g v base lines k
  unfolding news
  news_same v base lines k =
      let f = fact_at lines k in
      ap (λ (xs : List Line). xs ++ followed other v k f) (joins_same g o base lines k f)
      ∙ ap (λ (xs : List Line). joins g base lines k f ++ xs) (followed_same v k f)

  drained_same : (v : List ℕ) (base fuel k : ℕ) (lines : List Line) → drained other v base fuel k lines ≡ drained g v base fuel k lines
  unfolding drained
  drained_same v base zero k lines = refl
  drained_same v base (suc fuel) k lines =
      let there = news other v base lines k in
      let here = news g v base lines k in
      same_first (ltb k (length lines)) (drained other v base fuel (k + 1) (adds other base lines there)) (drained g v base fuel (k + 1) (adds g base lines here)) lines
      (ap (λ (x : List Line). drained other v base fuel (k + 1) (adds other base lines x)) (news_same v base lines k)
      ∙ ap (λ (x : List Line). drained other v base fuel (k + 1) x) (adds_same g o base lines here)
      ∙ drained_same v base fuel (k + 1) (adds g base lines here))

  started_same : (v : List ℕ) (base : ℕ) (lines : List Line) (f : Fact) → started other v base lines f ≡ started g v base lines f
  unfolding started mark_count
  started_same v base lines f =
      ap (λ (x : List Line). drained other v base (mark_count g) (length lines) x) (added_same g o base lines (line f 0 0 0))
      ∙ drained_same v base (mark_count g) (length lines) (added g base lines (line f 0 0 0))

  pub drained_all_same : (v : List ℕ) (base : ℕ) (fs : List Fact) (lines : List Line) → drained_all other v base fs lines ≡ drained_all g v base fs lines
  unfolding drained_all
  drained_all_same v base [] lines = refl
  drained_all_same v base (f ∷ fs) lines =
      ap (λ (x : List Line). drained_all other v base fs x) (started_same v base lines f) ∙ drained_all_same v base fs (started g v base lines f)
