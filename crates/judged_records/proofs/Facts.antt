-- The facts of a record's lines: a good fact is marked exactly if a line has it.
use Prim.Native.Nat.{ℕ, ◌<◌}
use mathlib.Core.Path.{◌≡◌, ap, ◌∙◌, sym, subst}
use mathlib.Core.Bool.{true, not}
use mathlib.Core.List.{List, map}
use native.Mathlib.Omega.{arith}
use lib.ListN.{length, get_or, length-map, get_or-map}
use Rattle.determine_side_effects.specs.graph_crate.Check.{Graph, graph_in}
use Rattle.determine_side_effects.specs.graph_crate.Loaded.{Loaded}
use Rattle.determine_side_effects.specs.facts_crate.declared.Fact.{Fact}
use Rattle.determine_side_effects.specs.facts_crate.Facts.{module_fact, Good, mark_of}
use Rattle.determine_side_effects.proofs.facts_crate.Marks.{mark_injective}
use Rattle.keep_record.specs.declared.Line.{Line}
use Rattle.keep_record.specs.Lines.{elem, marks_from, has}
use Rattle.keep_record.specs.Held.{line_at, lines_of}
use Rattle.keep_record.proofs.Adding.{elem_at}
use Rattle.keep_record.proofs.Counting.{elem_place}
use Rattle.keep_record.proofs.Rows.{lines-length, lines_at}
use Rattle.worklist.specs.Drain.{line, fact_at}
use Rattle.line_judgement.specs.Stand.{is_start}
use Rattle.closed_choices.specs.Choice.{HoldsStarts, HasLine}
use Rattle.closed_choices.proofs.Every.{Every, every_by}
use Rattle.closed_choices.proofs.Smallest.{line_marked, has_line}
use Rattle.rule_relation.proofs.Tests.{Says, says_as, says_not}
use Rattle.judged_records.specs.Sentence.{fact_in}

abbrev no_line : Line
no_line = line (module_fact 0) 0 0 0

module _ (row : List ℕ) (n : ℕ) where
  -- the fact of a line, by its number
  pub fact_at_lem : (k : ℕ) → k < n → fact_at (lines_of n row) k ≡ fact_in row k
  unfolding fact_at line_at
  fact_at_lem k u = ap (λ l. l.fact) (lines_at n row k no_line u)

  pub has_number : {f : Fact} (k : ℕ) → k < n → fact_in row k ≡ f → HasLine (lines_of n row) f
  has_number k u e = record { number = k; inside = omega (arith, lines-length n row); is = fact_at_lem k u ∙ e }

  pub number_has : {f : Fact} → HasLine (lines_of n row) f → (k : ℕ) × (k < n) × (fact_in row k ≡ f)
  number_has h = let u : h.number < n = omega (arith, h.inside, lines-length n row) in (h.number, u, sym (fact_at_lem h.number u) ∙ h.is)

-- a fact is one of the starts
abbrev pub Started : List Fact → Fact → Type 0
Started starts f = (i : ℕ) × (i < length starts) × (get_or starts i (module_fact 0) ≡ f)

module _ {numbers tables : List ℕ} (t : Loaded numbers tables) where
  abbrev g : Graph
  g = graph_in numbers

  module _ (row : List ℕ) (n : ℕ) (good : (k : ℕ) → k < n → Good g (fact_in row k)) where
    pub line_good : {f : Fact} → HasLine (lines_of n row) f → Good g f
    line_good h = let p = number_has row n h in subst (λ x. Good g x) p.2 (good p.0 p.1)

    all_good : Every (λ l. Good g l.fact) (lines_of n row)
    unfolding fact_at
    all_good =
        every_by (λ l. Good g l.fact) (lines_of n row) no_line
        (λ k u. let w : k < n = omega (arith, u, lines-length n row) in subst (λ x. Good g x) (sym (fact_at_lem row n k w)) (good k w))

    pub says-has : (f : Fact) → Good g f → Says (has g 0 (lines_of n row) f) (HasLine (lines_of n row) f)
    unfolding has marks_from
    says-has f h = record { tells = has_line t (lines_of n row) f all_good h; holds = line_marked g (lines_of n row) f }

    -- no line has the fact
    pub says-new : (f : Fact) → Good g f → Says (not (has g 0 (lines_of n row) f)) ((i : ℕ) → i < n → fact_in row i ≡ f → ⊥)
    says-new f h = says_as (says_not (says-has f h)) (λ x i u e. x (has_number row n i u e)) (λ x y. let p = number_has row n y in x p.0 p.1 p.2)

  -- a good fact is marked among good starts exactly if it is one of them
  module _ (starts : List Fact) (good : HoldsStarts starts (Good g)) where
    mark_at : (i : ℕ) → i < length starts → get_or (map (mark_of g) starts) i 0 ≡ mark_of g (get_or starts i (module_fact 0))
    unfolding mark_of
    mark_at i u = get_or-map (mark_of g) starts i (module_fact 0)

    pub says-start : (f : Fact) → Good g f → Says (is_start g starts f) (Started starts f)
    unfolding is_start
    says-start f h = record {
      tells =
          λ e.
          let p = elem_place (mark_of g f) (map (mark_of g) starts) e in
          let u : p.0 < length starts = omega (arith, p.1, length-map starts (mark_of g)) in
          (p.0, u, sym (mark_injective t f (get_or starts p.0 (module_fact 0)) h (good p.0 u) (p.2 ∙ mark_at p.0 u)));
      holds =
          λ x.
          let u : x.0 < length (map (mark_of g) starts) = omega (arith, x.1, length-map starts (mark_of g)) in
          subst (λ j. elem j (map (mark_of g) starts) ≡ true) (mark_at x.0 x.1 ∙ ap (λ y. mark_of g y) x.2) (elem_at (map (mark_of g) starts) x.0 u);
    }
