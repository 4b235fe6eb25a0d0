-- A round: the Rust takes the bailouts gathered since it took them last, the run those of the lines since then. What one of them starts beside the
-- other was started before.
use Rattle.std.proofs.Common.{◌≡◌, ℕ, zero, suc, ◌+◌, ◌-◌, ◌<◌, ◌≤◌, Bool, true, false, eqb, ◌⊎◌, ◌↔◌, List, [], ◌∷◌, ◌++◌, length, get_or, drop, sym, refl, ap, ◌∙◌, subst, inl, inr, arith, eqb-true}
use mathlib.Core.Bool.{false≢true}
use native.Mathlib.Decide.{dec_lt}
use Rattle.determine_side_effects.specs.graph_crate.Check.{Graph, graph_in, check_of, answer_of}
use Rattle.determine_side_effects.specs.graph_access_crate.Names.{resolved_exports}
use Rattle.determine_side_effects.specs.graph_access_crate.Words.{module_of}
use Rattle.determine_side_effects.specs.facts_crate.declared.Fact.{Fact}
use Rattle.determine_side_effects.specs.facts_crate.declared.Fact.TheVariants.{Module, Statement, Use, CheckedUse, Forward, Bailout}
use Rattle.determine_side_effects.specs.facts_crate.Facts.{module_fact, bailout_fact, kind_of, Good}
use Rattle.determine_side_effects.specs.Effects.{last_verdicts}
use Rattle.keep_record.specs.declared.Line.{Line}
use Rattle.worklist.specs.Drain.{fact_at, drained_all}
use Rattle.dynamic_entries.specs.Tries.{Progress, starting}
use Rattle.passes.specs.Bailouts.{export_starts, bailout_starts, bailouts_starts}
use Rattle.tree_shaking.specs.Rounds.{bailed}
use Rattle.closed_choices.specs.Choice.{Choice, Closed, HasLine}
use Rattle.closed_choices.proofs.Every.{Every, every_append, every_left, every_right, every_drop}
use Rattle.closed_choices.proofs.Handling.{no_line}
use Rattle.run_choices.proofs.GoodStarts.{bailouts_good}
use Rattle.rust_values.specs.Values.{Pair, In}
use Rattle.rust_values.proofs.Members.{in_append}
use Rattle.rust_engine.specs.Context.{Context, empty, take_bailouts, set_changed}
use Rattle.rust_engine.specs.EntryPoints.{Reached, takes, begins_round}
use Rattle.rust_run.specs.Passes.{IncludeCjsBailoutExports}
use Rattle.rust_run.specs.IncludeStatements.{Rounding, rounding}
use Rattle.rust_run.proofs.Starting.{ExportsOf, ByExports, bailouts_onward}
use Rattle.rust_run.proofs.Level.{Level, every_onto, loaded, level-whole, level-exactly, starts-hold, lines_stay, level-more}
use Rattle.rust_run.proofs.Tried.{Beside}
use Rattle.std.specs.Prelude.{Ok}

-- behind the first k
pub drop_at : (k j : ℕ) (xs : List Line) → get_or (drop k xs) j no_line ≡ get_or xs (k + j) no_line
drop_at zero j xs = let e : 0 + j ≡ j = omega arith in ap (λ n. get_or xs n no_line) (sym e)
drop_at (suc k) j [] = refl
drop_at (suc k) j (x ∷ xs) = let e : suc k + j ≡ suc (k + j) = omega arith in drop_at k j xs ∙ ap (λ n. get_or (x ∷ xs) n no_line) (sym e)

pub drop-long : (k j : ℕ) (xs : List Line) → j < length (drop k xs) → k + j < length xs
drop-long zero j xs h = omega (arith, h)
drop-long (suc k) j [] h = absurd (omega (arith, h))
drop-long (suc k) j (x ∷ xs) h = omega (arith, drop-long k j xs h)

pub long-drop : (k j : ℕ) (xs : List Line) → k + j < length xs → j < length (drop k xs)
long-drop zero j xs h = omega (arith, h)
long-drop (suc k) j [] h = absurd (omega (arith, h))
long-drop (suc k) j (x ∷ xs) h = long-drop k j xs (omega (arith, h))

module _ (g : Graph) where
  abbrev pub exports_of : ℕ → List Fact
  exports_of m = export_starts (resolved_exports (module_of g m))

  -- what holds of all that the bailouts of some lines start holds of each one's exports, and back
  from_bailouts : (P : Fact → Type 0) (ls : List Line) → Every P (bailouts_starts g ls) → (j m : ℕ) → j < length ls → fact_at ls j ≡ bailout_fact m → Every P (exports_of m)
  unfolding bailouts_starts fact_at bailout_starts
  from_bailouts P [] h j m u e = absurd (omega (arith, u))
  from_bailouts P (l ∷ ls) h zero m u e = subst (λ f. Every P (bailout_starts g f)) e (every_left P (bailout_starts g l.fact) (bailouts_starts g ls) h)
  from_bailouts P (l ∷ ls) h (suc j) m u e = from_bailouts P ls (every_right P (bailout_starts g l.fact) (bailouts_starts g ls) h) j m (omega (arith, u)) e

  one_bailout : (P : Fact → Type 0) (f : Fact) → ((m : ℕ) → f ≡ bailout_fact m → Every P (exports_of m)) → Every P (bailout_starts g f)
  unfolding bailout_starts
  one_bailout P (Module m) h = tt
  one_bailout P (Statement m i) h = tt
  one_bailout P (Use s x) h = tt
  one_bailout P (CheckedUse s x) h = tt
  one_bailout P (Forward s) h = tt
  one_bailout P (Bailout m) h = h m.0 refl

  to_bailouts : (P : Fact → Type 0) (ls : List Line) → ((j m : ℕ) → j < length ls → fact_at ls j ≡ bailout_fact m → Every P (exports_of m)) → Every P (bailouts_starts g ls)
  unfolding bailouts_starts fact_at
  to_bailouts P [] h = tt
  to_bailouts P (l ∷ ls) h =
      every_append P (bailout_starts g l.fact) (bailouts_starts g ls) (one_bailout P l.fact (λ m e. h 0 m (omega arith) e)) (to_bailouts P ls (λ j m u e. h (suc j) m (omega (arith, u)) e))

module _ (numbers : List ℕ) (ok : answer_of (check_of numbers) ≡ Ok tt) where
  abbrev g' : Graph
  g' = graph_in numbers

  abbrev v : List ℕ
  v = last_verdicts (graph_in numbers)

  -- the exports of the bailouts of the first k lines have lines
  abbrev pub Exported : ℕ → List Line → Type 0
  Exported k lines = (i m : ℕ) → i < k → i < length lines → fact_at lines i ≡ bailout_fact m → Every (HasLine lines) (exports_of g' m)

  module _ {c : Context} {lines : List Line} {taken : List ℕ} (l : Level numbers ok c lines taken) (k : ℕ) (before : Exported k lines) where
    abbrev pub news : List Fact
    news = bailouts_starts g' (drop k lines)

    news-good : Every (Good g') news
    news-good = bailouts_good (loaded numbers ok) (drop k lines) (every_drop (λ x. Good g' x.fact) k lines (level-whole numbers ok l).sound.good)

    abbrev pub after : List Line
    after = drained_all g' v 0 news lines

    -- after the round's bailouts the exports of all lines have lines
    pub exported-now : (i m : ℕ) → i < length lines → fact_at lines i ≡ bailout_fact m → Every (HasLine after) (exports_of g' m)
    unfolding fact_at
    exported-now i m u e = go (dec_lt i k)
      where
        go : Dec (i < k) → Every (HasLine after) (exports_of g' m)
        go (yes h) = every_onto (HasLine lines) (HasLine after) (lines_stay numbers ok l news news-good) (exports_of g' m) (before i m h u e)
        go (no h) =
            let s : k + (i - k) ≡ i = omega arith in
            from_bailouts g' (HasLine after) (drop k lines) (starts-hold numbers ok l news news-good) (i - k) m (long-drop k (i - k) lines (omega (arith, u, s)))
            (ap (λ x. x.fact) (drop_at k (i - k) lines) ∙ ap (λ n. (get_or lines n no_line).fact) s ∙ e)

    its-line : (m : ℕ) → In m c.bailouts ⊎ In m taken → HasLine lines (bailout_fact m)
    its-line m q = ((level-exactly numbers ok l).bailouts_are m).0 q

    its-bailout : (m : ℕ) → HasLine lines (bailout_fact m) → In m c.bailouts ⊎ In m taken
    its-bailout m h = ((level-exactly numbers ok l).bailouts_are m).1 h

    exports-held : ExportsOf g' v empty (HasLine after) c.bailouts
    unfolding ExportsOf
    exports-held m q = let h = its-line m (inl q) in exported-now h.number m h.inside h.is

    -- what the run starts was asked for by the Rust, now or before
    news-follow : (P : Fact → Type 0) → ExportsOf g' v empty P c.bailouts → ExportsOf g' v empty P taken → Every P news
    unfolding ExportsOf fact_at
    news-follow P now then =
        to_bailouts g' P (drop k lines)
        (λ j m u e. by m (its-bailout m (record { number = k + j; inside = drop-long k j lines u; is = ap (λ x. x.fact) (sym (drop_at k j lines)) ∙ e })))
      where
        by : (m : ℕ) → In m c.bailouts ⊎ In m taken → Every P (exports_of g' m)
        by m (inl q) = now m q
        by m (inr q) = then m q

    both-lists : (P : Fact → Type 0) → ExportsOf g' v empty P c.bailouts → ExportsOf g' v empty P taken → ExportsOf g' v empty P (c.bailouts ++ taken)
    unfolding ExportsOf
    both-lists P now then m q = by (in_append m c.bailouts taken q)
      where
        by : In m c.bailouts ⊎ In m taken → Every P (exports_of g' m)
        by (inl z) = now m z
        by (inr z) = then m z

    -- the Rust's bailouts are taken, and their exports included
    pub level-bailed : (d : Context) → IncludeCjsBailoutExports g' v c.bailouts (take_bailouts (set_changed false c)) d → Level numbers ok d after (c.bailouts ++ taken)
    unfolding set_changed
    level-bailed d x =
        let r = takes l.ss taken (set_changed false c) (begins_round l.ss taken c l.reached) in
        let o = bailouts_onward g' v empty c.bailouts (take_bailouts (set_changed false c)) d x l.ss (c.bailouts ++ taken) r in
        level-more numbers ok l news news-good o.gs (c.bailouts ++ taken) d o.reached (o.back (HasLine after) exports-held)
        (λ D cl a. news-follow D (o.there D (every_left D o.gs l.ss a)) (l.taken-done D (every_right D o.gs l.ss a)))
        (λ P a. both-lists P (o.there P (every_left P o.gs l.ss a)) (l.taken-done P (every_right P o.gs l.ss a)))
