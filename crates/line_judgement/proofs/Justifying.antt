-- Whether one line is justified.
use Prim.Native.Nat.{ℕ, ◌+◌, ◌*◌, ◌-◌}
use mathlib.Core.Path.{◌≡◌, ◌∙◌, sym}
use mathlib.Core.Bool.{Bool, true, false}
use mathlib.Core.List.{List}
use native.Mathlib.Omega.{arith}
use borrow.Author.Tests.{eq-eqb, ne_eqb}
use lib.ListN.{get_or}
use Rattle.determine_side_effects.specs.graph_crate.Check.{Graph, graph_in}
use Rattle.determine_side_effects.specs.facts_crate.declared.Fact.{Fact}
use Rattle.determine_side_effects.specs.facts_crate.Facts.{mark_of}
use Rattle.determine_side_effects.specs.Effects.{last_verdicts}
use Rattle.keep_record.specs.Held.{line_at}
use Rattle.consequences.specs.declared.Cursor.{Cursor}
use Rattle.consequences.specs.Cursors.{Placed}
use Rattle.marked.specs.Marked.{marked}
use Rattle.fact_marks.specs.Marks.{Marks}
use Rattle.justification.specs.Justify.{follows, joined_by_either}
use Rattle.justification.specs.Search.{Followed, Joined}
use Rattle.justification.proofs.Spans.{placed_begin}
use Rattle.line_judgement.specs.declared.Trail.{Trail}
use Rattle.line_judgement.specs.Stand.{named, is_start, is_justified}
use Rattle.line_judgement.specs.Steps.{Trails, Begins, Justifies}
use Rattle.std.specs.Prelude.{Option, Some, None}

-- where the search begins
module _ (numbers : List ℕ) (t : Trail) (rule because and : ℕ) (c : Cursor) where
  pub begins_fresh : c.segment ≡ 0 → Begins numbers t rule because and c
  begins_fresh z = record { placed = λ row h n. placed_begin numbers (named row because) c.segment c.place z }

  pub begins_on : t.rule ≡ rule → t.because ≡ because → c.segment ≡ t.segment → c.place ≡ t.place → Begins numbers t rule because and c
  begins_on r b s p = record { placed = λ row h n. rw (sym b, s, p) (h.placed (λ z. n (sym r ∙ z))) }

pub begins_placed : (numbers : List ℕ) (t : Trail) (rule because and : ℕ) (c : Cursor) (row : List ℕ) (premise : Fact) → Begins numbers t rule because and c → Trails numbers row t → (rule ≡ 0 → ⊥)
    → premise ≡ (line_at row (because - 1)).fact → Placed numbers premise c.segment c.place
unfolding named
begins_placed numbers t rule because and c row premise h s n e = rw e (h.placed row s n)

-- results
pub same_trail : {t u : Trail} → Some t ≡ Some u → t ≡ u
same_trail e = cc

pub stands_bad : {t : Trail} → Some t ≡ None → ⊥
stands_bad e = let z : ◌≡◌ {A = ℕ} 0 1 = cc in omega arith

module _ (numbers : List ℕ) (starts : List Fact) (row : List ℕ) (k : ℕ) where
  abbrev g : Graph
  g = graph_in numbers

  abbrev Is : Bool → Type 0
  Is b = is_justified g (last_verdicts g) starts row k ≡ b

  justifies_good : (t : Trail) → Is true → Trails numbers row t → Justifies numbers starts row k (Some t)
  justifies_good t e h = record { good = λ u q. e; trails = λ u q. rw (sym (same_trail q)) h; bad = λ q. absurd (stands_bad q) }

  justifies_bad : Is false → Justifies numbers starts row k None
  justifies_bad e = record { good = λ u q. absurd (stands_bad (sym q)); trails = λ u q. absurd (stands_bad (sym q)); bad = λ q. e }

  module _ (fact : Fact) (is : fact ≡ (line_at row k).fact) (rule : ℕ) (r : rule ≡ get_or row (6 * k + 3) 0) where
    rule-at : (line_at row k).rule ≡ rule
    unfolding line_at
    rule-at = sym r

    -- a start
    module _ (z : rule ≡ 0) (begun : List ℕ) (m : Marks g starts begun) (b : Bool) (e : b ≡ marked g begun fact) where
      start_is : (t : Bool) → b ≡ t → Is t
      unfolding is_justified is_start marked
      start_is t q = rw (rule-at, eq-eqb rule 0 z, is_justified, sym is) (sym (m.marked (mark_of g fact)) ∙ sym e ∙ q)

      pub start_good : (t : Trail) → Trails numbers row t → b ≡ true → Justifies numbers starts row k (Some t)
      start_good t h q = justifies_good t (start_is true q) h

      pub start-bad : b ≡ false → Justifies numbers starts row k None
      start-bad q = justifies_bad (start_is false q)

    module _ (n : rule ≡ 0 → ⊥) (because : ℕ) (a : because ≡ get_or row (6 * k + 4) 0) (premise : Fact) (p : premise ≡ (line_at row (because - 1)).fact) where
      because-at : named row (line_at row k).because ≡ premise
      unfolding line_at named
      because-at = rw (sym a) (sym p)

      premise-named : premise ≡ named row because
      unfolding named
      premise-named = p

      -- K1
      module _ (o : rule ≡ 1) (and : ℕ) (b : and ≡ get_or row (6 * k + 5) 0) (other : Fact) (q : other ≡ (line_at row (and - 1)).fact) where
        and_at : named row (line_at row k).and ≡ other
        unfolding line_at named
        and_at = rw (sym b) (sym q)

        two_is : is_justified g (last_verdicts g) starts row k ≡ joined_by_either g premise other fact
        unfolding is_justified
        two_is = rw (rule-at, ne_eqb rule 0 n, is_justified, rule-at, eq-eqb rule 1 o, is_justified, because-at, and_at, sym is)

        pub two_good : (f : Option ℕ) (i : ℕ) → Joined numbers premise other fact f → f ≡ Some i → (t : Trail) → t.segment ≡ 0 → Justifies numbers starts row k (Some t)
        two_good f i j e t z = justifies_good t (two_is ∙ j.at i e) (record { placed = λ w. placed_begin numbers (named row t.because) t.segment t.place z })

        pub two-bad : (f : Option ℕ) → Joined numbers premise other fact f → f ≡ None → Justifies numbers starts row k None
        two-bad f j e = justifies_bad (two_is ∙ j.nowhere e)

      -- K2 to K14
      module _ (o : rule ≡ 1 → ⊥) where
        one_is : is_justified g (last_verdicts g) starts row k ≡ follows g (last_verdicts g) premise rule fact
        unfolding is_justified
        one_is = rw (rule-at, ne_eqb rule 0 n, is_justified, rule-at, ne_eqb rule 1 o, is_justified, because-at, rule-at, sym is)

        pub one-good : (s : Option Cursor) (d : Cursor) → Followed numbers premise rule fact s → s ≡ Some d → (t : Trail) → t.because ≡ because → t.segment ≡ d.segment → t.place ≡ d.place
            → Justifies numbers starts row k (Some t)
        one-good s d f e t x y z = justifies_good t (one_is ∙ f.found d e) (record { placed = λ w. rw (x, y, z, sym premise-named) (f.placed d e) })

        pub one-bad : (s : Option Cursor) → Followed numbers premise rule fact s → s ≡ None → Justifies numbers starts row k None
        one-bad s f e = justifies_bad (one_is ∙ f.absent e)
