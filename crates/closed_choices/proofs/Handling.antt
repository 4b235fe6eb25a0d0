-- A drain handles every line: all that follows from its lines is there.
-- So the fuel by which a drain is defined never decides.
use Prim.Native.Nat.{ℕ, zero, suc, ◌+◌, ◌<◌, ◌≤◌}
use mathlib.Core.Path.{◌≡◌, refl, ap, ◌∙◌, sym, subst}
use mathlib.Core.Bool.{Bool, true, false}
use mathlib.Core.List.{List, [], ◌∷◌, ◌++◌}
use native.Mathlib.Decide.{dec_lt}
use native.Mathlib.Omega.{arith}
use borrow.Author.Tests.{ltb-true, ltb-false}
use lib.Dec.{ltb}
use lib.ListN.{length, get_or, take, drop, get_or-append}
use lib.Seq.{take-append-le}
use Rattle.determine_side_effects.specs.graph_crate.Check.{Graph}
use Rattle.determine_side_effects.specs.facts_crate.declared.Fact.{Fact}
use Rattle.determine_side_effects.specs.facts_crate.declared.Fact.TheVariants.{Module, Statement, Use, CheckedUse, Forward, Bailout}
use Rattle.determine_side_effects.specs.graph_access_crate.Names.{owner}
use Rattle.determine_side_effects.specs.graph_access_crate.Words.{symbol_of}
use Rattle.determine_side_effects.specs.facts_crate.Facts.{module_fact, Good, mark_of, mark_count}
use Rattle.keep_record.specs.declared.Line.{Line}
use Rattle.keep_record.specs.Lines.{marks_from, has, added, adds}
use Rattle.keep_record.specs.Held.{Distinct}
use Rattle.keep_record.proofs.Adding.{has-append, added_prefix, added_longer, added_distinct, adds_prefix, adds_longer, has_after, adds_distinct}
use Rattle.keep_record.proofs.Counting.{lines_few}
use Rattle.worklist.specs.Drain.{line, fact_at, joins, news, drained, started, drained_all, joins_all, joined_to, module_line}
use Rattle.worklist.proofs.Ends.{started_longer}
use Rattle.closed_choices.proofs.Every.{Every, every_append, every_at, every_by}

abbrev pub no_line : Line
no_line = line (module_fact 0) 0 0 0

-- what is in front of a list stays
pub fact_front : (lines rest : List Line) (k : ℕ) → k < length lines → fact_at (lines ++ rest) k ≡ fact_at lines k
unfolding fact_at
fact_front lines rest k h = ap (λ l. l.fact) (get_or-append lines rest no_line k h)

take-front : (lines rest : List Line) (k : ℕ) → k ≤ length lines → take k (lines ++ rest) ≡ take k lines
take-front lines rest k h = take-append-le k lines rest h

joins_front : (g : Graph) (base : ℕ) (lines rest : List Line) (k : ℕ) (f : Fact) → k ≤ length lines → joins g base (lines ++ rest) k f ≡ joins g base lines k f
unfolding joins
joins_front g base lines rest k (Module m) h = ap (λ x. joins_all g m.0 k base (drop base x)) (take-front lines rest k h)
joins_front g base lines rest k (Statement m i) h = refl
joins_front g base lines rest k (Use s x) h = refl
joins_front g base lines rest k (CheckedUse s x) h = refl
joins_front g base lines rest k (Forward s) h = ap (λ x. joined_to g base s.0 k (module_line (owner (symbol_of g s.0)) 0 x)) (take-front lines rest k h)
joins_front g base lines rest k (Bailout m) h = refl

-- what follows from a line looks at that line and those before it
pub news_front : (g : Graph) (v : List ℕ) (base : ℕ) (lines rest : List Line) (k : ℕ) → k < length lines → news g v base (lines ++ rest) k ≡ news g v base lines k
unfolding news
news_front g v base lines rest k h = rw (fact_front lines rest k h, joins_front g base lines rest k (fact_at lines k) (omega (arith, h))) refl

-- all that follows from the first k lines, those of the base apart, is there
abbrev pub Handled : Graph → List ℕ → ℕ → List Line → ℕ → Type 0
Handled g v base lines k = (i : ℕ) → base ≤ i → i < k → Every (λ l. has g base lines l.fact ≡ true) (news g v base lines i)

module _ (g : Graph) (v : List ℕ) (base : ℕ) where
  -- further lines change nothing of that
  handled_front : (lines rest : List Line) (k : ℕ) → k ≤ length lines → Handled g v base lines k → Handled g v base (lines ++ rest) k
  handled_front lines rest k h a i b u =
      let e = news_front g v base lines rest i (omega (arith, h, u)) in
      subst (λ x. Every (λ l. has g base (lines ++ rest) l.fact ≡ true) x) (sym e)
      (every_by (λ l. has g base (lines ++ rest) l.fact ≡ true) (news g v base lines i) no_line
      (λ j w. has-append g base lines rest (get_or (news g v base lines i) j no_line).fact (every_at (λ l. has g base lines l.fact ≡ true) (news g v base lines i) no_line (a i b u) j w)))

  handled_more : (lines more : List Line) (rest : List Line) (k : ℕ) → more ≡ lines ++ rest → k ≤ length lines → Handled g v base lines k → Handled g v base more k
  handled_more lines more rest k e h a = subst (λ x. Handled g v base x k) (sym e) (handled_front lines rest k h a)

  -- one more line
  handled_next : (lines : List Line) (k : ℕ) → k < length lines → Handled g v base lines k → Handled g v base (adds g base lines (news g v base lines k)) (k + 1)
  handled_next lines k h a i b u = go (dec_lt i k)
    where
      more : List Line
      more = adds g base lines (news g v base lines k)

      there : Every (λ l. has g base more l.fact ≡ true) (news g v base lines k)
      there = every_by (λ l. has g base more l.fact ≡ true) (news g v base lines k) no_line (λ j w. has_after g base lines (news g v base lines k) j no_line (omega (arith, b, u, h)) w)

      same : news g v base lines k ≡ news g v base more k
      same = let p = adds_prefix g base lines (news g v base lines k) in sym (ap (λ x. news g v base x k) p.1 ∙ news_front g v base lines p.0 k h)

      go : Dec (i < k) → Every (λ l. has g base more l.fact ≡ true) (news g v base more i)
      go (yes l) = handled_more lines more (adds_prefix g base lines (news g v base lines k)).0 k (adds_prefix g base lines (news g v base lines k)).1 (omega (arith, h)) a i b l
      go (no n) = let e : k ≡ i = omega arith in subst (λ x. Every (λ l. has g base more l.fact ≡ true) (news g v base more x)) e (subst (λ x. Every (λ l. has g base more l.fact ≡ true) x) same there)

  -- the lines are good and differ, so they are not more than the marks
  pub record Sound (lines : List Line) : Type 0 where
    pub good : Every (λ l. Good g l.fact) lines
    pub apart : Distinct (marks_from g base lines)

  module _ (below : (f : Fact) → Good g f → mark_of g f < mark_count g) (good-news : (lines : List Line) (k : ℕ) → k < length lines → Every (λ l. Good g l.fact) lines → Every (λ l. Good g l.fact) (adds g base lines (news g v base lines k))) where
    pub sound-few : (lines : List Line) → Sound lines → length lines ≤ base + mark_count g
    sound-few lines s = lines_few g base lines no_line below s.apart (λ k h. every_at (λ l. Good g l.fact) lines no_line s.good k h)

    sound-next : (lines : List Line) (k : ℕ) → base ≤ k → k < length lines → Sound lines → Sound (adds g base lines (news g v base lines k))
    sound-next lines k b h s = record { good = good-news lines k h s.good; apart = adds_distinct g base lines (news g v base lines k) (omega (arith, b, h)) s.apart }

    -- with as much fuel as there are marks every line is handled
    pub drained-handled : (fuel k : ℕ) (lines : List Line) → base + mark_count g ≤ fuel + k → base ≤ k → k ≤ length lines → Sound lines → Handled g v base lines k
        → Handled g v base (drained g v base fuel k lines) (length (drained g v base fuel k lines)) × Sound (drained g v base fuel k lines)
    unfolding drained
    drained-handled zero k lines m b h s a =
        let e : k ≡ length lines = omega (arith, m, h, sound-few lines s) in (subst (λ x. Handled g v base lines x) e a, s)
    drained-handled (suc fuel) k lines m b h s a =
        go (ltb k (length lines)) refl
        (λ u. drained-handled fuel (k + 1) (adds g base lines (news g v base lines k)) (omega (arith, m)) (omega (arith, b)) (omega (arith, u, adds_longer g base lines (news g v base lines k))) (sound-next lines k b u s) (handled_next lines k u a))
      where
        go : (b : Bool) → ltb k (length lines) ≡ b
            → (k < length lines → Handled g v base (drained g v base fuel (k + 1) (adds g base lines (news g v base lines k))) (length (drained g v base fuel (k + 1) (adds g base lines (news g v base lines k)))) × Sound (drained g v base fuel (k + 1) (adds g base lines (news g v base lines k))))
            → Handled g v base (elim b [ true ↦ drained g v base fuel (k + 1) (adds g base lines (news g v base lines k)) | false ↦ lines ]) (length {A = Line} (elim b [ true ↦ drained g v base fuel (k + 1) (adds g base lines (news g v base lines k)) | false ↦ lines ]))
            × Sound (elim b [ true ↦ drained g v base fuel (k + 1) (adds g base lines (news g v base lines k)) | false ↦ lines ])
        go true e r = r (ltb-true k (length lines) e)
        go false e r = let f : k ≡ length lines = omega (arith, h, ltb-false k (length lines) e) in (subst (λ x. Handled g v base lines x) f a, s)

    good-added : (lines : List Line) (l : Line) → Every (λ l. Good g l.fact) lines → Good g l.fact → Every (λ l. Good g l.fact) (added g base lines l)
    unfolding added
    good-added lines l h c = go (has g base lines l.fact)
      where
        go : (b : Bool) → Every {A = Line} (λ l. Good g l.fact) (elim b [ true ↦ lines | false ↦ lines ++ (l ∷ []) ])
        go true = h
        go false = every_append {A = Line} (λ l. Good g l.fact) lines (l ∷ []) h (c, tt)

    sound-added : (lines : List Line) (f : Fact) → base ≤ length lines → Good g f → Sound lines → Sound (added g base lines (line f 0 0 0))
    sound-added lines f b h s = record { good = one; apart = added_distinct g base lines (line f 0 0 0) b s.apart }
      where
        one : Every (λ l. Good g l.fact) (added g base lines (line f 0 0 0))
        one = good-added lines (line f 0 0 0) s.good h

    -- one start
    started-handled : (lines : List Line) (f : Fact) → base ≤ length lines → Good g f → Sound lines → Handled g v base lines (length lines)
        → Handled g v base (started g v base lines f) (length (started g v base lines f)) × Sound (started g v base lines f)
    unfolding started
    started-handled lines f b c s h =
        let more = added g base lines (line f 0 0 0) in
        let p = added_prefix g base lines (line f 0 0 0) in
        drained-handled (mark_count g) (length lines) more (omega (arith, b)) b (added_longer g base lines (line f 0 0 0)) (sound-added lines f b c s) (handled_more lines more p.0 (length lines) p.1 (omega arith) h)

    -- all starts in turn
    pub all-handled : (starts : List Fact) (lines : List Line) → base ≤ length lines → Every (Good g) starts → Sound lines → Handled g v base lines (length lines)
        → Handled g v base (drained_all g v base starts lines) (length (drained_all g v base starts lines)) × Sound (drained_all g v base starts lines)
    unfolding drained_all
    all-handled [] lines b a s h = (h, s)
    all-handled (f ∷ fs) lines b a s h =
        let d = started-handled lines f b a.0 s h in
        let longer : base ≤ length (started g v base lines f) = omega (arith, b, added_longer g base lines (line f 0 0 0), started_longer g v base lines f) in
        all-handled fs (started g v base lines f) longer a.1 d.1 d.0
