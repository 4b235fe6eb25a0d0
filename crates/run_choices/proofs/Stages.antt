-- The lines of a stage, with all that follows from them: good facts, each once, so no more than there are marks.
use Prim.Native.Nat.{ℕ, zero, suc, ◌+◌, ◌<◌, ◌≤◌}
use mathlib.Core.Path.{◌≡◌, refl, subst}
use mathlib.Core.Bool.{Bool, true, false}
use mathlib.Core.List.{List, [], ◌∷◌}
use native.Mathlib.Omega.{arith}
use lib.Dec.{eqb}
use lib.ListN.{length, get_or}
use Rattle.determine_side_effects.specs.graph_tables_crate.Tables.{header_in}
use Rattle.determine_side_effects.specs.graph_crate.Check.{Graph, graph_in}
use Rattle.determine_side_effects.specs.graph_crate.Loaded.{Loaded}
use Rattle.determine_side_effects.specs.graph_access_crate.Names.{owner, declaring_statements, only}
use Rattle.determine_side_effects.specs.graph_access_crate.Words.{symbol_of}
use Rattle.determine_side_effects.proofs.graph_access_crate.Indexes as index
use Rattle.determine_side_effects.specs.facts_crate.declared.Fact.{Fact}
use Rattle.determine_side_effects.specs.facts_crate.Facts.{statement_fact, forward_fact, Good, mark_of, mark_count}
use Rattle.determine_side_effects.proofs.facts_crate.Marks.{mark_below}
use Rattle.determine_side_effects.specs.Effects.{last_verdicts}
use Rattle.keep_rules.specs.Rules.{gives}
use Rattle.keep_record.specs.declared.Line.{Line}
use Rattle.keep_record.specs.Lines.{elem, stays, marks_of, marks_from, adds}
use Rattle.keep_record.specs.Held.{Distinct}
use Rattle.keep_record.proofs.Adding.{neither, left_false, right_false, from_stays, from_goes}
use Rattle.worklist.specs.Drain.{news, drained_all}
use Rattle.closed_choices.specs.Choice.{nothing_given, Closed}
use Rattle.closed_choices.proofs.Every.{Every, every_at}
use Rattle.closed_choices.proofs.GoodGives.{consequences_good, good_statement}
use Rattle.closed_choices.proofs.Reaching.{news-in, adds-in}
use Rattle.closed_choices.proofs.Handling.{Handled, Sound, sound-few, all-handled}

-- of the first lines those that stay, of the others all: some of the marks of all lines, so they differ
module _ (g : Graph) where
  pub not_among : (n : ℕ) (ls : List Line) (x : ℕ) → elem x (marks_of g ls) ≡ false → elem x (marks_from g n ls) ≡ false
  unfolding marks_from marks_of elem
  not_among zero ls x h = h
  not_among (suc n) [] x h = refl
  not_among (suc n) (l ∷ ls) x h = go (stays l.fact) refl (not_among n ls x (right_false (eqb x (mark_of g l.fact)) (elem x (marks_of g ls)) h))
    where
      go : (b : Bool) → stays l.fact ≡ b → elem x (marks_from g n ls) ≡ false → elem x (marks_from g (suc n) (l ∷ ls)) ≡ false
      go true e r = rw (from_stays g n l ls e) (neither (eqb x (mark_of g l.fact)) (elem x (marks_from g n ls)) (left_false (eqb x (mark_of g l.fact)) (elem x (marks_of g ls)) h) r)
      go false e r = rw (from_goes g n l ls e) r

  staying_apart : (n : ℕ) (ls : List Line) → Distinct (marks_of g ls) → Distinct (marks_from g n ls)
  unfolding marks_from marks_of
  staying_apart zero ls d = d
  staying_apart (suc n) [] d = _
  staying_apart (suc n) (l ∷ ls) d = go (stays l.fact) refl (staying_apart n ls d.1)
    where
      go : (b : Bool) → stays l.fact ≡ b → Distinct (marks_from g n ls) → Distinct (marks_from g (suc n) (l ∷ ls))
      go true e r = rw (from_stays g n l ls e) (not_among n ls (mark_of g l.fact) d.0, r)
      go false e r = rw (from_goes g n l ls e) r

-- the lines of a stage over its base
pub record Whole (g : Graph) (base : ℕ) (lines : List Line) : Type 0 where
  pub handled : Handled g (last_verdicts g) base lines (length lines)
  pub sound : Sound g (last_verdicts g) base lines

module _ {numbers tables : List ℕ} (t : Loaded numbers tables) where
  abbrev g : Graph
  g = graph_in numbers

  abbrev v : List ℕ
  v = last_verdicts (graph_in numbers)

  symbol_good : (s : ℕ) → Good g (forward_fact s) → s < (header_in numbers).symbols
  unfolding graph_in
  symbol_good s h = h

  -- the good facts are a closed choice
  good_closed : Closed g (Good g)
  good_closed =
      record {
        by_K1 = λ m s i hm hs e u. k1 m s i hs e u;
        by_K2_to_K14 = λ f k h u. every_at (λ x. Good g x.fact) (gives g v f) nothing_given (consequences_good t v f h) k u;
      }
    where
      k1 : (m s i : ℕ) → Good g (forward_fact s) → owner (symbol_of g s) ≡ m → i < length (declaring_statements (symbol_of g s)) → Good g (statement_fact m (only (get_or (declaring_statements (symbol_of g s)) i [])))
      k1 m s i hs e u =
          subst (λ o. Good g (statement_fact o (only (get_or (declaring_statements (symbol_of g s)) i [])))) e
          (good_statement numbers (owner (symbol_of g s)) (only (get_or (declaring_statements (symbol_of g s)) i [])) (index.owner_below t s (symbol_good s hs)) (index.declared_below t s i (symbol_good s hs) u))

  good_next : (base : ℕ) (ls : List Line) (k : ℕ) → k < length ls → Every (λ l. Good g l.fact) ls → Every (λ l. Good g l.fact) (adds g base ls (news g v base ls k))
  good_next base ls k u h = adds-in g (Good g) good_closed base ls (news g v base ls k) h (news-in g (Good g) good_closed base ls k u h)

  -- no lines
  pub whole_none : Whole g 0 []
  unfolding marks_from marks_of
  whole_none = record { handled = λ i b u. absurd (omega (arith, u)); sound = record { good = tt; apart = tt } }

  -- further starts
  pub whole_more : (base : ℕ) (starts : List Fact) (lines : List Line) → base ≤ length lines → Every (Good g) starts → Whole g base lines → Whole g base (drained_all g v base starts lines)
  whole_more base starts lines b a w =
      let d = all-handled g v base (λ f h. mark_below t f h) (good_next base) starts lines b a w.sound w.handled in
      record { handled = d.0; sound = d.1 }

  pub whole_few : (base : ℕ) (lines : List Line) → Whole g base lines → length lines ≤ base + mark_count g
  whole_few base lines w = sound-few g v base (λ f h. mark_below t f h) (good_next base) lines w.sound

  -- a stage over all lines of the one before
  pub whole_next : (lines : List Line) → Whole g 0 lines → Whole g (length lines) lines
  unfolding marks_from
  whole_next lines w =
      record {
        handled = λ i b u. absurd (omega (arith, b, u));
        sound = record { good = w.sound.good; apart = staying_apart g (length lines) lines w.sound.apart };
      }
