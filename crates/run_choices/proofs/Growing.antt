-- From its beginning to the end of its main part a run grows by its own starts, which are good facts.
use Prim.Native.Nat.{ℕ, zero, suc, ◌+◌}
use mathlib.Core.Path.{◌≡◌, refl, ap, ◌∙◌, sym, subst}
use mathlib.Core.Bool.{Bool, true, false}
use mathlib.Core.List.{List, [], ◌∷◌, ◌++◌, map}
use native.Mathlib.Omega.{arith}
use lib.ListN.{length, drop}
use Rattle.determine_side_effects.specs.graph_crate.Check.{Graph, graph_in}
use Rattle.determine_side_effects.specs.graph_crate.Loaded.{Loaded}
use Rattle.determine_side_effects.specs.facts_crate.declared.Fact.{Fact}
use Rattle.determine_side_effects.specs.facts_crate.Facts.{Good, module_fact}
use Rattle.determine_side_effects.specs.Effects.{last_verdicts}
use Rattle.keep_record.specs.declared.Line.{Line}
use Rattle.worklist.specs.Drain.{drained_all, drain_of}
use Rattle.starts.specs.Starts.{StartsGood}
use Rattle.entry_order.specs.Order.{module_of_entry, user_entries}
use Rattle.entry_starts.specs.Starts.{module_starts, user_starts}
use Rattle.entry_starts.proofs.Together.{all_append}
use Rattle.dynamic_entries.specs.Sorted.{sorted_entries}
use Rattle.dynamic_entries.specs.Tries.{Progress, starting, lives, now_live, now_dead, tried, tries}
use Rattle.passes.specs.Bailouts.{bailouts_starts}
use Rattle.tree_shaking.specs.Rounds.{bailed, round, goes_on, rounds_fuel, Ended, ended_at, rounds_from, users_starts, begun, main_part}
use Rattle.tree_shaking.specs.Own.{Party, Start, entry, bailouts, by, of_users, of_try, of_tries, of_round, of_rounds, own_starts, run_starts}
use Rattle.closed_choices.proofs.Every.{Every, every_append, every_at, every_drop}
use Rattle.run_choices.proofs.GoodStarts.{module_starts_good, user_starts_good, bailouts_good}
use Rattle.run_choices.proofs.Stages.{Whole, whole_none, whole_more}

-- the facts of starts
unfoldable pub facts_of : List Start → List Fact
facts_of xs = map (λ s. s.fact) xs

pub facts_append : (xs ys : List Start) → facts_of (xs ++ ys) ≡ facts_of xs ++ facts_of ys
unfolding facts_of
facts_append [] ys = refl
facts_append (x ∷ xs) ys = ap (λ (l : List Fact). x.fact ∷ l) (facts_append xs ys)

pub facts_by : (party : Party) (facts : List Fact) → facts_of (by party facts) ≡ facts
unfolding facts_of by
facts_by party [] = refl
facts_by party (f ∷ fs) = ap (λ (l : List Fact). f ∷ l) (facts_by party fs)

abbrev lines_in : Progress → List Line
lines_in p = p.lines

abbrev end_of : Ended → List Line
end_of e = e.end.lines

-- these starts, all good, lead from the lines of one progress to those of another
record Grows (g : Graph) (xs : List Start) (before after : List Line) : Type 0 where
  good : Every (Good g) (facts_of xs)
  lines_are : after ≡ drained_all g (last_verdicts g) 0 (facts_of xs) before

module _ (g : Graph) where
  grows_none : (lines : List Line) → Grows g [] lines lines
  unfolding facts_of drained_all
  grows_none lines = record { good = tt; lines_are = refl }

  grows_by : (party : Party) (facts : List Fact) (lines : List Line) → Every (Good g) facts → Grows g (by party facts) lines (drained_all g (last_verdicts g) 0 facts lines)
  grows_by party facts lines a =
      record { good = rw (facts_by party facts) a; lines_are = ap (λ (l : List Fact). drained_all g (last_verdicts g) 0 l lines) (sym (facts_by party facts)) }

  grows_on : (xs ys : List Start) (a b c : List Line) → Grows g xs a b → Grows g ys b c → Grows g (xs ++ ys) a c
  grows_on xs ys a b c p q =
      record {
        good = rw (facts_append xs ys) (every_append (Good g) (facts_of xs) (facts_of ys) p.good q.good);
        lines_are =
            q.lines_are ∙ ap (λ (l : List Line). drained_all g (last_verdicts g) 0 (facts_of ys) l) p.lines_are
            ∙ sym (all_append g (last_verdicts g) 0 (facts_of xs) (facts_of ys) a)
            ∙ ap (λ (l : List Fact). drained_all g (last_verdicts g) 0 l a) (sym (facts_append xs ys));
      }

module _ {numbers tables : List ℕ} (t : Loaded numbers tables) where
  abbrev g : Graph
  g = graph_in numbers

  abbrev v : List ℕ
  v = last_verdicts (graph_in numbers)

  grows_whole : (xs : List Start) (a b : List Line) → Grows g xs a b → Whole g 0 a → Whole g 0 b
  grows_whole xs a b p w = subst (λ (l : List Line). Whole g 0 l) (sym p.lines_are) (whole_more t 0 (facts_of xs) a (omega arith) p.good w)

  -- the user-defined entries
  users_grow : (es : List ℕ) (lines : List Line) → Grows g (of_users g es) lines (drained_all g v 0 (users_starts g es) lines)
  unfolding of_users users_starts drained_all
  users_grow [] lines = grows_none g lines
  users_grow (e ∷ es) lines =
      let first = drained_all g v 0 (user_starts g (module_of_entry g e)) lines in
      rw (all_append g v 0 (user_starts g (module_of_entry g e)) (users_starts g es) lines)
      (grows_on g (by (entry e) (user_starts g (module_of_entry g e))) (of_users g es) lines first (drained_all g v 0 (users_starts g es) first)
      (grows_by g (entry e) (user_starts g (module_of_entry g e)) lines (user_starts_good t (module_of_entry g e))) (users_grow es first))

  -- the tries of dynamic entries
  try_grows : (e : ℕ) (p : Progress) → Grows g (of_try g v e p) p.lines (tried g v e p).lines
  unfolding of_try tried starting now_live now_dead
  try_grows e p = go (p.live (module_of_entry g e)) (lives g v p e)
    where
      go : (b c : Bool)
          → Grows g (elim b [ true ↦ [] | false ↦ elim c [ true ↦ by (entry e) (module_starts g (module_of_entry g e)) | false ↦ [] ] ]) p.lines
          (lines_in (elim b [ true ↦ p | false ↦ elim c [ true ↦ starting g v (module_starts g (module_of_entry g e)) (now_live g e p) | false ↦ now_dead e p ] ]))
      go true c = grows_none g p.lines
      go false true = grows_by g (entry e) (module_starts g (module_of_entry g e)) p.lines (module_starts_good t (module_of_entry g e))
      go false false = grows_none g p.lines

  tries_grow : (es : List ℕ) (p : Progress) → Grows g (of_tries g v es p) p.lines (tries g v es p).lines
  unfolding of_tries tries
  tries_grow [] p = grows_none g p.lines
  tries_grow (e ∷ es) p =
      grows_on g (of_try g v e p) (of_tries g v es (tried g v e p)) p.lines (tried g v e p).lines (tries g v es (tried g v e p)).lines
      (try_grows e p) (tries_grow es (tried g v e p))

  -- a round, and all of them
  bailed_grows : (taken : ℕ) (p : Progress) → Whole g 0 p.lines → Grows g (by bailouts (bailouts_starts g (drop taken p.lines))) p.lines (bailed g v taken p).lines
  unfolding bailed starting
  bailed_grows taken p w =
      grows_by g bailouts (bailouts_starts g (drop taken p.lines)) p.lines
      (bailouts_good t (drop taken p.lines) (every_drop (λ l. Good g l.fact) taken p.lines w.sound.good))

  round_grows : (taken : ℕ) (p : Progress) → Whole g 0 p.lines → Grows g (of_round g v taken p) p.lines (round g v taken p).lines
  unfolding of_round round
  round_grows taken p w =
      grows_on g (by bailouts (bailouts_starts g (drop taken p.lines))) (of_tries g v (sorted_entries g) (bailed g v taken p)) p.lines (bailed g v taken p).lines
      (tries g v (sorted_entries g) (bailed g v taken p)).lines (bailed_grows taken p w) (tries_grow (sorted_entries g) (bailed g v taken p))

  pub round_whole : (taken : ℕ) (p : Progress) → Whole g 0 p.lines → Whole g 0 (round g v taken p).lines
  round_whole taken p w = grows_whole (of_round g v taken p) p.lines (round g v taken p).lines (round_grows taken p w) w

  rounds_grow : (fuel made taken : ℕ) (p : Progress) → Whole g 0 p.lines → Grows g (of_rounds g v fuel taken p) p.lines (rounds_from g v (goes_on g) fuel made taken p).end.lines
  unfolding of_rounds rounds_from
  rounds_grow zero made taken p w = grows_none g p.lines
  rounds_grow (suc fuel) made taken p w =
      go (goes_on g p (round g v taken p)) (rounds_grow fuel (made + 1) (length p.lines) (round g v taken p) (round_whole taken p w))
    where
      next : Progress
      next = round g v taken p

      one : List Start
      one = of_round g v taken p

      go : (b : Bool) → Grows g (of_rounds g v fuel (length p.lines) next) next.lines (rounds_from g v (goes_on g) fuel (made + 1) (length p.lines) next).end.lines
          → Grows g (one ++ elim b [ true ↦ of_rounds g v fuel (length p.lines) next | false ↦ [] ]) p.lines
          (end_of (elim b [ true ↦ rounds_from g v (goes_on g) fuel (made + 1) (length p.lines) next | false ↦ ended_at (made + 1) (length p.lines) next ]))
      go true r = grows_on g one (of_rounds g v fuel (length p.lines) next) p.lines next.lines (rounds_from g v (goes_on g) fuel (made + 1) (length p.lines) next).end.lines (round_grows taken p w) r
      go false r = grows_on g one [] p.lines next.lines next.lines (round_grows taken p w) (grows_none g next.lines)

  begun_grows : Grows g (of_users g (user_entries g)) [] (begun g v).lines
  unfolding begun starting
  begun_grows = users_grow (user_entries g) []

  pub begun_whole : Whole g 0 (begun g v).lines
  begun_whole = grows_whole (of_users g (user_entries g)) [] (begun g v).lines begun_grows (whole_none t)

  main_grows : Grows g (own_starts g v) [] (main_part g v).end.lines
  unfolding own_starts main_part
  main_grows =
      grows_on g (of_users g (user_entries g)) (of_rounds g v (rounds_fuel g) 0 (begun g v)) [] (begun g v).lines (rounds_from g v (goes_on g) (rounds_fuel g) 0 0 (begun g v)).end.lines
      begun_grows (rounds_grow (rounds_fuel g) 0 0 (begun g v) begun_whole)

  -- the run's own starts are good facts, and the lines of its main part are those of a drain from them
  pub run_starts_good : StartsGood g (run_starts g v)
  unfolding run_starts facts_of
  run_starts_good = every_at (Good g) (run_starts g v) (module_fact 0) main_grows.good

  pub main_lines : (main_part g v).end.lines ≡ drain_of g v (run_starts g v)
  unfolding run_starts facts_of drain_of
  main_lines = main_grows.lines_are

  pub main_whole : Whole g 0 (main_part g v).end.lines
  main_whole = grows_whole (own_starts g v) [] (main_part g v).end.lines main_grows (whole_none t)
