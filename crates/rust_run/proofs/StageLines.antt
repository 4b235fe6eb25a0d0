-- A drain over a base only appends, and what is there stays: its starts are there at the end.
use Rattle.std.proofs.Common.{◌≡◌, ℕ, zero, suc, ◌+◌, ◌<◌, ◌≤◌, Bool, true, false, ◌||◌, eqb, ◌⊎◌, List, [], ◌∷◌, ◌++◌, length, get_or, sym, refl, ap, ◌∙◌, subst, inl, inr, true≢false, append_assoc, append-nil, arith, eqb-true}
use native.Mathlib.Decide.{dec_lt}
use Rattle.determine_side_effects.specs.graph_crate.Check.{Graph}
use Rattle.determine_side_effects.specs.facts_crate.declared.Fact.{Fact}
use Rattle.determine_side_effects.specs.facts_crate.Facts.{module_fact, mark_of, mark_count}
use Rattle.keep_record.specs.declared.Line.{Line}
use Rattle.keep_record.specs.Lines.{elem, stays, marks_from, has, added, adds}
use Rattle.keep_record.proofs.Adding.{from_stays, from_goes, has-append, added_prefix, added_has, added_longer, adds_prefix}
use Rattle.worklist.specs.Drain.{line, fact_at, news, drained, started, drained_all}
use Rattle.worklist.proofs.Ends.{drained_stop, drained_next, started_longer}
use Rattle.closed_choices.proofs.Smallest.{marked_line}

-- lines before, and some behind them
abbrev pub Longer : List Line → List Line → Type 0
Longer lines more = (rest : List Line) × (more ≡ lines ++ rest)

longer_on : (a b c : List Line) → Longer a b → Longer b c → Longer a c
longer_on a b c p q = (p.0 ++ q.0, q.1 ∙ ap (λ (xs : List Line). xs ++ q.0) p.1 ∙ append_assoc a p.0 q.0)

module _ (g : Graph) (v : List ℕ) (base : ℕ) where
  drained_prefix : (fuel k : ℕ) (lines : List Line) → Longer lines (drained g v base fuel k lines)
  unfolding drained
  drained_prefix zero k lines = ([], sym (append-nil lines))
  drained_prefix (suc fuel) k lines = go (dec_lt k (length lines)) (drained_prefix fuel (k + 1) (adds g base lines (news g v base lines k)))
    where
      go : Dec (k < length lines) → Longer (adds g base lines (news g v base lines k)) (drained g v base fuel (k + 1) (adds g base lines (news g v base lines k)))
          → Longer lines (drained g v base (suc fuel) k lines)
      go (yes h) q =
          let p =
          longer_on lines (adds g base lines (news g v base lines k)) (drained g v base fuel (k + 1) (adds g base lines (news g v base lines k)))
          (adds_prefix g base lines (news g v base lines k)) q in
          (p.0, drained_next g v base fuel k lines h ∙ p.1)
      go (no h) q = let l : length lines ≤ k = omega arith in ([], drained_stop g v base (suc fuel) k lines l ∙ sym (append-nil lines))

  started_prefix : (lines : List Line) (f : Fact) → Longer (added g base lines (line f 0 0 0)) (started g v base lines f)
  unfolding started
  started_prefix lines f = drained_prefix (mark_count g) (length lines) (added g base lines (line f 0 0 0))

  pub all_prefix : (fs : List Fact) (lines : List Line) → Longer lines (drained_all g v base fs lines)
  unfolding drained_all
  all_prefix [] lines = ([], sym (append-nil lines))
  all_prefix (f ∷ fs) lines =
      longer_on lines (started g v base lines f) (drained_all g v base fs (started g v base lines f))
      (longer_on lines (added g base lines (line f 0 0 0)) (started g v base lines f) (added_prefix g base lines (line f 0 0 0)) (started_prefix lines f))
      (all_prefix fs (started g v base lines f))

  -- what is there stays
  has_longer : (lines more : List Line) (f : Fact) → Longer lines more → has g base lines f ≡ true → has g base more f ≡ true
  has_longer lines more f p h = ap (λ (xs : List Line). has g base xs f) p.1 ∙ has-append g base lines p.0 f h

  pub starts_there : (starts : List Fact) (lines : List Line) (i : ℕ) → base ≤ length lines → i < length starts
      → has g base (drained_all g v base starts lines) (get_or starts i (module_fact 0)) ≡ true
  unfolding drained_all
  starts_there [] lines i b u = absurd (omega arith)
  starts_there (f ∷ fs) lines zero b u =
      has_longer (started g v base lines f) (drained_all g v base fs (started g v base lines f)) f (all_prefix fs (started g v base lines f))
      (has_longer (added g base lines (line f 0 0 0)) (started g v base lines f) f (started_prefix lines f) (added_has g base lines (line f 0 0 0) b))
  starts_there (f ∷ fs) lines (suc i) b u =
      let longer : base ≤ length (started g v base lines f) = omega (arith, b, added_longer g base lines (line f 0 0 0), started_longer g v base lines f) in
      starts_there fs (started g v base lines f) i longer (omega (arith, u))

-- a mark of a stage is that of a line which counts: one from the base on, or of the base with a fact that stays
abbrev pub Counted : Graph → ℕ → List Line → ℕ → Type 0
Counted g base lines j = (k : ℕ) × (k < length lines) × ((base ≤ k) ⊎ (stays (fact_at lines k) ≡ true)) × (j ≡ mark_of g (fact_at lines k))

module _ (g : Graph) where
  counted_later : (base : ℕ) (l : Line) (ls : List Line) (j : ℕ) → Counted g base ls j → Counted g (suc base) (l ∷ ls) j
  unfolding fact_at
  counted_later base l ls j p = (suc p.0, omega (arith, p.1), more p.2, p.3)
    where
      more : (base ≤ p.0) ⊎ (stays (fact_at ls p.0) ≡ true) → (suc base ≤ suc p.0) ⊎ (stays (fact_at ls p.0) ≡ true)
      more (inl b) = inl (omega (arith, b))
      more (inr s) = inr s

  pub counted_line : (base : ℕ) (lines : List Line) (j : ℕ) → elem j (marks_from g base lines) ≡ true → Counted g base lines j
  unfolding marks_from elem fact_at
  counted_line zero lines j e = let p = marked_line g lines j e in (p.0, p.1, inl (omega arith), p.2)
  counted_line (suc base) [] j e = absurd (true≢false (sym e))
  counted_line (suc base) (l ∷ ls) j e = go (stays l.fact) refl (λ r. counted_line base ls j r)
    where
      here : stays l.fact ≡ true → (b : Bool) → eqb j (mark_of g l.fact) ≡ b → (b || elem j (marks_from g base ls)) ≡ true
          → (elem j (marks_from g base ls) ≡ true → Counted g base ls j) → Counted g (suc base) (l ∷ ls) j
      here s true q r f = (0, omega arith, inr s, eqb-true j (mark_of g l.fact) q)
      here s false q r f = counted_later base l ls j (f r)

      go : (b : Bool) → stays l.fact ≡ b → (elem j (marks_from g base ls) ≡ true → Counted g base ls j) → Counted g (suc base) (l ∷ ls) j
      go true s f = here s (eqb j (mark_of g l.fact)) refl (subst (λ (xs : List ℕ). elem j xs ≡ true) (from_stays g base l ls s) e) f
      go false s f = counted_later base l ls j (f (subst (λ (xs : List ℕ). elem j xs ≡ true) (from_goes g base l ls s) e))
