-- The lines of a stage, drained over a base, are the smallest choice that has the base and the starts and is closed but for the base.
use Rattle.std.proofs.Common.{◌≡◌, ℕ, ◌<◌, ◌≤◌, true, ◌⊎◌, ◌↔◌, List, [], length, get_or, sym, ap, ◌∙◌, subst, inl, inr, arith}
use mathlib.Core.Bool.{false≢true}
use native.Mathlib.Decide.{dec_lt}
use Rattle.determine_side_effects.specs.graph_crate.Check.{Graph, graph_in}
use Rattle.determine_side_effects.specs.graph_crate.Loaded.{Loaded}
use Rattle.determine_side_effects.specs.graph_access_crate.Names.{owner, declaring_statements, only}
use Rattle.determine_side_effects.specs.graph_access_crate.Words.{symbol_of}
use Rattle.determine_side_effects.specs.facts_crate.declared.Fact.{Fact}
use Rattle.determine_side_effects.specs.facts_crate.Facts.{module_fact, statement_fact, forward_fact, Good, mark_of}
use Rattle.determine_side_effects.proofs.facts_crate.Marks.{mark_injective}
use Rattle.determine_side_effects.specs.Effects.{last_verdicts}
use Rattle.keep_rules.specs.Rules.{gives}
use Rattle.keep_record.specs.declared.Line.{Line}
use Rattle.keep_record.specs.Lines.{stays, has}
use Rattle.worklist.specs.Drain.{fact_at, drained_all}
use Rattle.worklist.proofs.Ends.{all_longer}
use Rattle.closed_choices.specs.Choice.{Choice, nothing_given, HasLine, HoldsStarts}
use Rattle.closed_choices.proofs.Every.{Every, every_at, every_by}
use Rattle.closed_choices.proofs.Handling.{no_line, fact_front}
use Rattle.run_choices.proofs.Stages.{Whole, whole_more, whole_next}
use Rattle.rust_engine.specs.EntryPoints.{ClosedOver, SmallestOver}
use Rattle.rust_run.proofs.StageLines.{all_prefix, starts_there, counted_line}
use Rattle.rust_run.proofs.StageInside.{stage-inside}
use Rattle.rust_run.proofs.StageClosed.{declares, followed_there, k1_there, k1_good, gives_good}

-- the facts of a stage whose base is the first `base` lines: those of later lines, and of the base the modules and statements
pub record HasStage (base : ℕ) (lines : List Line) (f : Fact) : Type 0 where
  pub number : ℕ
  pub inside : number < length lines
  pub is : fact_at lines number ≡ f
  pub counts : (base ≤ number) ⊎ (stays f ≡ true)

-- the drain only appends: its first lines are those of the base
pub record Prefix (main lines : List Line) : Type 0 where
  pub longer : length main ≤ length lines
  pub same : (i : ℕ) → i < length main → fact_at lines i ≡ fact_at main i

pub stage_prefix : (g : Graph) (v : List ℕ) (base : ℕ) (fs : List Fact) (main : List Line) → Prefix main (drained_all g v base fs main)
stage_prefix g v base fs main =
    let p = all_prefix g v base fs main in
    record { longer = all_longer g v base fs main; same = λ i u. ap (λ (xs : List Line). fact_at xs i) p.1 ∙ fact_front main p.0 i u }

module _ {numbers tables : List ℕ} (t : Loaded numbers tables) where
  abbrev g : Graph
  g = graph_in numbers

  abbrev v : List ℕ
  v = last_verdicts (graph_in numbers)

  -- a good fact that is there is one of the stage
  pub has_stage : (base : ℕ) (lines : List Line) (f : Fact) → Every (λ l. Good (graph_in numbers) l.fact) lines → Good (graph_in numbers) f
      → has (graph_in numbers) base lines f ≡ true → HasStage base lines f
  unfolding has fact_at
  has_stage base lines f a h e =
      let p = counted_line g base lines (mark_of g f) e in
      let q : fact_at lines p.0 ≡ f = sym (mark_injective t f (fact_at lines p.0) h (every_at (λ l. Good g l.fact) lines no_line a p.0 p.1) p.3) in
      record { number = p.0; inside = p.1; is = q; counts = subst (λ (x : Fact). (base ≤ p.0) ⊎ (stays x ≡ true)) q p.2 }

  module _ (main : List Line) (w : Whole (graph_in numbers) 0 main) (fs : List Fact) (good : Every (Good (graph_in numbers)) fs)
      (B : Choice) (base-is : (f : Fact) → B f ↔ (HasLine main f × (stays f ≡ true))) where
    abbrev base : ℕ
    base = length main

    abbrev lines : List Line
    lines = drained_all g v (length main) fs main

    abbrev C : Choice
    C = HasStage (length main) (drained_all g v (length main) fs main)

    front : Prefix main lines
    front = stage_prefix g v base fs main

    whole : Whole g base lines
    whole = whole_more t base fs main (omega arith) good (whole_next t main w)

    good_fact : (f : Fact) → C f → Good g f
    unfolding fact_at
    good_fact f h = subst (λ (x : Fact). Good g x) h.is (every_at (λ l. Good g l.fact) lines no_line whole.sound.good h.number h.inside)

    -- a fact of the base that stays is one of B
    of-base : (f : Fact) (n : ℕ) → n < base → fact_at lines n ≡ f → stays f ≡ true → B f
    of-base f n u e s = (base-is f).1 (record { number = n; inside = u; is = sym (front.same n u) ∙ e }, s)

    has_base : (f : Fact) → B f → C f
    has_base f h =
        let p = (base-is f).0 h in
        record {
          number = p.0.number;
          inside = omega (arith, p.0.inside, front.longer);
          is = front.same p.0.number p.0.inside ∙ p.0.is;
          counts = inr p.1;
        }

    -- a fact of the stage that is not of the base has a line from the base on
    late : (f : Fact) → (B f → ⊥) → (h : C f) → base ≤ h.number
    late f n h = go (dec_lt h.number base) h.counts
      where
        go : Dec (h.number < base) → (base ≤ h.number) ⊎ (stays f ≡ true) → base ≤ h.number
        go d (inl b) = b
        go (yes u) (inr s) = absurd (n (of-base f h.number u h.is s))
        go (no u) (inr s) = omega (arith, u)

    late-forward : (s : ℕ) (h : C (forward_fact s)) → base ≤ h.number
    late-forward s h = late (forward_fact s) (λ b. false≢true ((base-is (forward_fact s)).0 b).1) h

    stage-closed : ClosedOver g B C
    stage-closed = record { by_K1 = k1; by_K2_to_K14 = others }
      where
        k1 : (m s i : ℕ) → C (module_fact m) → C (forward_fact s) → owner (symbol_of g s) ≡ m → i < length (declaring_statements (symbol_of g s))
            → C (statement_fact m (only (get_or (declaring_statements (symbol_of g s)) i [])))
        k1 m s i hm hs o u =
            has_stage base lines (declares g m s i) whole.sound.good (k1_good t m s i (good_fact (forward_fact s) hs) o u)
            (k1_there g v base lines whole.handled m s hm.number hs.number (late-forward s hs) hm.inside hs.inside hm.is hs.is o i u)

        others : (f : Fact) (k : ℕ) → C f → (B f → ⊥) → k < length (gives g v f) → C (get_or (gives g v f) k nothing_given).fact
        others f k h n u =
            has_stage base lines (get_or (gives g v f) k nothing_given).fact whole.sound.good (gives_good t f k (good_fact f h) u)
            (followed_there g v base lines whole.handled f h.number (late f n h) h.inside h.is k u)

    stage-each : (D : Choice) → ((f : Fact) → B f → D f) → HoldsStarts fs D → ClosedOver g B D → (f : Fact) → C f → D f
    stage-each D hb hs closed f h = go (dec_lt h.number base) h.counts
      where
        behind : base ≤ h.number → D f
        behind b =
            subst (λ (x : Fact). D x) h.is
            (stage-inside g B D closed main base-is hb fs (every_by D fs (module_fact 0) hs) (whole_next t main w).sound.apart h.number b h.inside)

        go : Dec (h.number < base) → (base ≤ h.number) ⊎ (stays f ≡ true) → D f
        go d (inl b) = behind b
        go (yes u) (inr s) = hb f (of-base f h.number u h.is s)
        go (no u) (inr s) = behind (omega (arith, u))

    stage-holds : HoldsStarts fs C
    stage-holds i u =
        has_stage base lines (get_or fs i (module_fact 0)) whole.sound.good (every_at (Good g) fs (module_fact 0) good i u)
        (starts_there g v base fs main i (omega arith) u)

    stage-is-smallest : SmallestOver g B fs C
    stage-is-smallest = record { holds_base = has_base; holds_starts = stage-holds; closed = stage-closed; inside_each = stage-each }

-- the theorem: `main` whole over no base, then good starts drained over all of it
pub stage_smallest : {numbers tables : List ℕ} (t : Loaded numbers tables) (main : List Line) → Whole (graph_in numbers) 0 main
    → (fs : List Fact) → Every (Good (graph_in numbers)) fs → (B : Choice) → ((f : Fact) → B f ↔ (HasLine main f × (stays f ≡ true)))
    → SmallestOver (graph_in numbers) B fs (HasStage (length main) (drained_all (graph_in numbers) (last_verdicts (graph_in numbers)) (length main) fs main))
stage_smallest t main w fs good B base-is = stage-is-smallest t main w fs good B base-is
