-- The searches for a fact among the candidates of a rule.
use Prim.Native.Nat.{ℕ, ◌+◌, ◌-◌, ◌<◌, ◌≤◌}
use mathlib.Core.Path.{◌≡◌, refl, ap, ◌∙◌, sym}
use mathlib.Core.Bool.{Bool, true, false}
use mathlib.Core.List.{List}
use native.Mathlib.Omega.{arith}
use borrow.Author.Tests.{eqb-true, eqb-false}
use lib.Dec.{eqb}
use Rattle.determine_side_effects.specs.facts_crate.declared.Fact.{Fact}
use Rattle.keep_rules.specs.declared.Candidate.{Candidate}
use Rattle.consequences.specs.declared.Cursor.{Cursor}
use Rattle.consequences.specs.Cursors.{segment_in, Placed}
use Rattle.justification.specs.declared.Span.{Span}
use Rattle.justification.specs.Search.{is_candidate, gives_at, RuleSpan, SegmentSearched, SpanSearched, Followed}
use Rattle.justification.proofs.Follow.{follows_true, follows_false}
use Rattle.std.specs.Prelude.{Option, Some, None}

-- results are what they are
pub same_at : {i k : ℕ} → Some i ≡ Some k → i ≡ k
same_at e = cc

pub at_nowhere : {i : ℕ} → Some i ≡ None → ⊥
at_nowhere e = let z : ◌≡◌ {A = ℕ} 0 1 = cc in omega arith

pub same_cursor : {c d : Cursor} → Some c ≡ Some d → c ≡ d
same_cursor e = cc

pub justified_not : {c : Cursor} → Some c ≡ None → ⊥
justified_not e = let z : ◌≡◌ {A = ℕ} 0 1 = cc in omega arith

-- candidate i of segment j
module _ (numbers : List ℕ) (premise f : Fact) (j : ℕ) where
  pub gives_read : (i : ℕ) (b t : Bool) (c : Candidate) → c ≡ (segment_in numbers premise j).candidate i → b ≡ is_candidate f c → b ≡ t → gives_at numbers premise f j i ≡ t
  unfolding gives_at
  gives_read i b t c e q z = rw (sym e) (sym q ∙ z)

-- one segment, from candidate k on
module _ (numbers : List ℕ) (premise f : Fact) (j k : ℕ) where
  pub record Passing (i : ℕ) : Type 0 where
    pub behind : k ≤ i
    pub none : (n : ℕ) → k ≤ n → n < i → gives_at numbers premise f j n ≡ false

  pub passing_start : Passing k
  passing_start = record { behind = omega arith; none = λ n a b. absurd (omega arith) }

  pub passing_on : (i : ℕ) → Passing i → gives_at numbers premise f j i ≡ false → Passing (i + 1)
  passing_on i p e = record { behind = omega (arith, p.behind); none = λ n a b. go n a b (eqb n i) refl }
    where
      go : (n : ℕ) → k ≤ n → n < i + 1 → (t : Bool) → eqb n i ≡ t → gives_at numbers premise f j n ≡ false
      go n a b true t = ap (λ x. gives_at numbers premise f j x) (eqb-true n i t) ∙ e
      go n a b false t = let z = eqb-false n i t in p.none n a (omega (arith, z))

  pub passing_found : (i : ℕ) → Passing i → i < (segment_in numbers premise j).count → gives_at numbers premise f j i ≡ true → i < 18446744073709551615 → SegmentSearched numbers premise f j k (Some i)
  passing_found i p l e u =
      record {
        at = λ i' q. let z : i ≡ i' = same_at q in (omega (arith, p.behind), omega arith, ap (λ x. gives_at numbers premise f j x) (sym z) ∙ e);
        fits = λ i' q. let z : i ≡ i' = same_at q in omega arith;
        nowhere = λ q. absurd (at_nowhere q);
      }

  pub passing_end : (i : ℕ) → Passing i → (segment_in numbers premise j).count ≤ i → SegmentSearched numbers premise f j k None
  passing_end i p l = record { at = λ i' q. absurd (at_nowhere (sym q)); fits = λ i' q. absurd (at_nowhere (sym q)); nowhere = λ q n a b. p.none n a (omega arith) }

-- segments, from the cursor on
module _ (numbers : List ℕ) (premise f : Fact) (c : Cursor) where
  pub record Crossing (j k place : ℕ) : Type 0 where
    pub behind : c.segment ≤ j
    pub reaches : (i : ℕ) → (j ≡ c.segment → c.index ≤ i) → k ≤ i
    pub placed : Placed numbers premise j place
    pub none : (n i : ℕ) → c.segment ≤ n → n < j → (n ≡ c.segment → c.index ≤ i) → i < (segment_in numbers premise n).count → gives_at numbers premise f n i ≡ false

  pub crossing_start : Placed numbers premise c.segment c.place → Crossing c.segment c.index c.place
  crossing_start p = record { behind = omega arith; reaches = λ i h. h refl; placed = p; none = λ n i a b h l. absurd (omega arith) }

  module _ (j k place : ℕ) (p : Crossing j k place) where
    pub crossing_on : (next : ℕ) (r : Option ℕ) → SegmentSearched numbers premise f j k r → r ≡ None → Placed numbers premise (j + 1) next → Crossing (j + 1) 0 next
    crossing_on next r s e q =
        record { behind = omega (arith, p.behind); reaches = λ i h. omega arith; placed = q; none = λ n i a b h l. go n i a b h l (eqb n j) refl }
      where
        go : (n i : ℕ) → c.segment ≤ n → n < j + 1 → (n ≡ c.segment → c.index ≤ i) → i < (segment_in numbers premise n).count → (t : Bool) → eqb n j ≡ t → gives_at numbers premise f n i ≡ false
        go n i a b h l true t =
            let z : n ≡ j = eqb-true n j t in
            rw z (s.nowhere e i (p.reaches i (λ w. h (z ∙ w))) (rw z at l))
        go n i a b h l false t = let z = eqb-false n j t in p.none n i a (omega (arith, z)) h l

    pub crossing-found : (to i : ℕ) (r : Option ℕ) → SegmentSearched numbers premise f j k r → r ≡ Some i → j < to
        → SpanSearched numbers premise f c to (Some (record { segment = j; index = i + 1; place = place }))
    crossing-found to i r s e l =
        record {
          segment_found = λ d q. rw (sym (same_cursor q)) (p.behind, l);
          candidate_found = λ d q.
              let z : i + 1 - 1 ≡ i = omega arith in
              rw (sym (same_cursor q)) (omega arith, omega (arith, (s.at i e).1), ap (λ x. gives_at numbers premise f j x) z ∙ (s.at i e).2);
          placed = λ d q. rw (sym (same_cursor q)) p.placed;
          absent = λ q. absurd (justified_not q);
        }

    pub crossing-end : (to : ℕ) → to ≤ j → SpanSearched numbers premise f c to None
    crossing-end to l =
        record {
          segment_found = λ d q. absurd (justified_not (sym q));
          candidate_found = λ d q. absurd (justified_not (sym q));
          placed = λ d q. absurd (justified_not (sym q));
          absent = λ q n i a b h m. p.none n i a (omega arith) h m;
        }

-- the segments of a rule
module _ (numbers : List ℕ) (premise : Fact) (rule : ℕ) (f : Fact) (span : Span) (s : RuleSpan numbers premise rule span) (c : Cursor) where
  pub span_found : (r : Option Cursor) → SpanSearched numbers premise f c span.to r → span.from ≤ c.segment → (d : Cursor) → r ≡ Some d → Followed numbers premise rule f (Some d)
  span_found r w b d e =
      record {
        found = λ d' q. follows_true numbers premise rule f d.segment (d.index - 1) (omega (arith, w.segment_found d e, s.inside))
            (s.of_rule d.segment (omega (arith, w.segment_found d e)) (w.segment_found d e).1) (omega (arith, (w.candidate_found d e).0, (w.candidate_found d e).1)) (w.candidate_found d e).2;
        placed = λ d' q. rw (sym (same_cursor q)) (w.placed d e);
        absent = λ q. absurd (justified_not q);
      }

  pub span_all : (r : Option Cursor) → SpanSearched numbers premise f c span.to r → span.from ≡ c.segment → c.index ≡ 0 → Followed numbers premise rule f r
  span_all (Some d) w b z = span_found (Some d) w (omega arith) d refl
  span_all None w b z =
      record {
        found = λ d q. absurd (justified_not (sym q));
        placed = λ d q. absurd (justified_not (sym q));
        absent = λ q. follows_false numbers premise rule f (λ j i l e m. w.absent q j i (omega (arith, (s.no_other j l e).0)) (s.no_other j l e).1 (λ x. omega arith) m);
      }
