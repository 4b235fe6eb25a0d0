-- The Rust's context beside the lines of a run: the course of entry points that led to it has started facts whose smallest closed choice is that
-- of the lines.
use Rattle.std.proofs.Common.{◌≡◌, ℕ, zero, suc, ◌<◌, List, [], ◌∷◌, ◌++◌, length, get_or, sym, refl, ap, ◌∙◌, subst, arith}
use Rattle.determine_side_effects.specs.graph_crate.Check.{Graph, graph_in, check_of, answer_of}
use Rattle.determine_side_effects.specs.graph_crate.Loaded.{Loaded}
use Rattle.determine_side_effects.specs.facts_crate.declared.Fact.{Fact}
use Rattle.determine_side_effects.specs.facts_crate.Facts.{module_fact, Good}
use Rattle.determine_side_effects.specs.Effects.{last_verdicts}
use Rattle.keep_record.specs.declared.Line.{Line}
use Rattle.worklist.specs.Drain.{drained_all, drain_of}
use Rattle.entry_starts.proofs.Together.{all_append}
use Rattle.closed_choices.specs.Choice.{Choice, Closed, HoldsStarts, Smallest, HasLine}
use Rattle.closed_choices.proofs.Accepting.{Tabled, accepted_tabled}
use Rattle.closed_choices.proofs.Every.{Every, every_append, every_left, every_right, every_at, every_by}
use Rattle.closed_choices.proofs.Smallest.{drain_smallest, good_fact}
use Rattle.run_choices.proofs.Stages.{Whole, whole_none, whole_more}
use Rattle.rust_engine.specs.Context.{Context, empty, new_context}
use Rattle.rust_engine.specs.EntryPoints.{Reached, at_first, Exactly}
use Rattle.rust_engine.proofs.Nothing.{not_in_empty, smallest_over_nothing}
use Rattle.rust_engine.proofs.OfAccepted.{engine_shows}
use Rattle.rust_run.proofs.Starting.{Alike, Onward, ExportsOf}
use Rattle.std.specs.Prelude.{Ok}

-- every one of a list, from those that are in all that holds the first
pub every_onto : (P Q : Fact → Type 0) → ((f : Fact) → P f → Q f) → (fs : List Fact) → Every P fs → Every Q fs
every_onto P Q h [] a = tt
every_onto P Q h (f ∷ fs) a = (h f a.0, every_onto P Q h fs a.1)

module _ (numbers : List ℕ) (ok : answer_of (check_of numbers) ≡ Ok tt) where
  abbrev g : Graph
  g = graph_in numbers

  abbrev v : List ℕ
  v = last_verdicts (graph_in numbers)

  pub tabled : Tabled numbers
  tabled = accepted_tabled numbers ok

  pub loaded : Loaded numbers tabled.tables
  loaded = tabled.holds

  smallest_of : (fs : List Fact) → Every (Good g) fs → Smallest g fs (HasLine (drain_of g v fs))
  smallest_of fs a = drain_smallest loaded fs (every_at (Good g) fs (module_fact 0) a)

  more_is : (own fs : List Fact) → drained_all g v 0 fs (drain_of g v own) ≡ drain_of g v (own ++ fs)
  unfolding drain_of
  more_is own fs = sym (all_append g v 0 own fs [])

  -- `own` are the run's starts so far, `ss` the Rust's
  pub record Level (c : Context) (lines : List Line) (taken : List ℕ) : Type 1 where
    pub own : List Fact
    pub own_good : Every (Good g) own
    pub lines_are : lines ≡ drain_of g v own
    pub ss : List Fact
    pub reached : Reached g v empty ss taken c
    pub holds : Every (HasLine lines) ss
    pub inside : (D : Choice) → Closed g D → Every D ss → (f : Fact) → HasLine lines f → D f
    -- the exports of the bailouts that rounds have taken are among the Rust's starts
    pub taken-done : (P : Fact → Type 0) → Every P ss → ExportsOf g v empty P taken

  module _ {c : Context} {lines : List Line} {taken : List ℕ} (l : Level c lines taken) where
    smallest-own : Smallest g l.own (HasLine lines)
    smallest-own = subst (λ (ls : List Line). Smallest g l.own (HasLine ls)) (sym l.lines_are) (smallest_of l.own l.own_good)

    pub level-good : (f : Fact) → HasLine lines f → Good g f
    level-good f h = good_fact loaded l.own (every_at (Good g) l.own (module_fact 0) l.own_good) f (subst (λ (ls : List Line). HasLine ls f) l.lines_are h)

    pub level-whole : Whole g 0 lines
    unfolding drain_of
    level-whole = subst (λ (ls : List Line). Whole g 0 ls) (sym l.lines_are) (whole_more loaded 0 l.own [] (omega arith) l.own_good (whole_none loaded))

    pub level-smallest : Smallest g l.ss (HasLine lines)
    level-smallest =
        record {
          holds_starts = every_at (HasLine lines) l.ss (module_fact 0) l.holds;
          closed = smallest-own.closed;
          inside_each = λ D h k f q. l.inside D k (every_by D l.ss (module_fact 0) h) f q;
        }

    -- the Rust's sets are what the lines show
    pub level-exactly : Exactly g empty (HasLine lines) taken c
    level-exactly =
        engine_shows numbers ok empty (λ f q. absurd (not_in_empty f q)) l.ss taken c l.reached
        (every_at (Good g) l.ss (module_fact 0) (every_onto (HasLine lines) (Good g) level-good l.ss l.holds))
        (HasLine lines) (smallest_over_nothing g l.ss (HasLine lines) level-smallest)

    -- further starts
    module _ (fs : List Fact) (good : Every (Good g) fs) where
      abbrev after : List Line
      after = drained_all g v 0 fs lines

      after_is : after ≡ drain_of g v (l.own ++ fs)
      after_is = ap (λ (ls : List Line). drained_all g v 0 fs ls) l.lines_are ∙ more_is l.own fs

      smallest-after : Smallest g (l.own ++ fs) (HasLine after)
      smallest-after = subst (λ (ls : List Line). Smallest g (l.own ++ fs) (HasLine ls)) (sym after_is) (smallest_of (l.own ++ fs) (every_append (Good g) l.own fs l.own_good good))

      all_after : Every (HasLine after) (l.own ++ fs)
      all_after = every_by (HasLine after) (l.own ++ fs) (module_fact 0) smallest-after.holds_starts

      pub starts-hold : Every (HasLine after) fs
      starts-hold = every_right (HasLine after) l.own fs all_after

      pub lines_stay : (f : Fact) → HasLine lines f → HasLine after f
      lines_stay f h = smallest-own.inside_each (HasLine after) (every_at (HasLine after) l.own (module_fact 0) (every_left (HasLine after) l.own fs all_after)) smallest-after.closed f h

      -- the Rust has started facts of the new lines, of which the run's follow
      pub level-more : (gs : List Fact) (taken' : List ℕ) (d : Context) → Reached g v empty (gs ++ l.ss) taken' d → Every (HasLine after) gs
          → ((D : Choice) → Closed g D → Every D (gs ++ l.ss) → Every D fs) → ((P : Fact → Type 0) → Every P (gs ++ l.ss) → ExportsOf g v empty P taken') → Level d after taken'
      level-more gs taken' d r h k done =
          record {
            own = l.own ++ fs;
            own_good = every_append (Good g) l.own fs l.own_good good;
            lines_are = after_is;
            ss = gs ++ l.ss;
            reached = r;
            holds = every_append (HasLine after) gs l.ss h (every_onto (HasLine lines) (HasLine after) lines_stay l.ss l.holds);
            inside = λ D cl a f q. smallest-after.inside_each D (every_at D (l.own ++ fs) (module_fact 0) (every_append D l.own fs (owns D cl a) (k D cl a))) cl f q;
            taken-done = done;
          }
        where
          owns : (D : Choice) → Closed g D → Every D (gs ++ l.ss) → Every D l.own
          owns D cl a =
              every_onto (HasLine lines) D (λ f q. l.inside D cl (every_right D gs l.ss a) f q) l.own
              (every_by (HasLine lines) l.own (module_fact 0) smallest-own.holds_starts)

      pub level-onward : (d : Context) → Onward g v empty l.ss taken d fs → Level d after taken
      level-onward d o =
          level-more o.gs taken d o.reached (o.alike.back (HasLine after) starts-hold) (λ D cl a. o.alike.there D (every_left D o.gs l.ss a))
          (λ P a. l.taken-done P (every_right P o.gs l.ss a))

  -- the first context, over no lines
  pub level_first : Level (new_context empty) [] []
  unfolding drain_of drained_all ExportsOf
  level_first =
      record {
        own = [];
        own_good = tt;
        lines_are = refl;
        ss = [];
        reached = at_first;
        holds = tt;
        inside = λ D k a f h. absurd (omega (arith, h.inside));
        taken-done = λ P a m q. absurd q;
      }
