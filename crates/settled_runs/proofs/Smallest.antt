-- With the option the facts and live modules of a run are the smallest settled choice.
use Prim.Native.Nat.{ℕ, zero, suc, ◌<◌, ◌≤◌}
use mathlib.Core.Path.{◌≡◌, refl, ap, ◌∙◌, sym, subst}
use mathlib.Core.Logic.{⊎_elim}
use mathlib.Core.Bool.{Bool, true, false, ◌||◌}
use mathlib.Core.List.{List, [], ◌∷◌}
use native.Mathlib.Omega.{arith}
use borrow.Author.Tests.{eq-eqb, ltb-false}
use lib.Dec.{ltb}
use lib.ListN.{length, get_or, take}
use Rattle.determine_side_effects.specs.graph_crate.Check.{Graph, graph_in}
use Rattle.determine_side_effects.specs.graph_crate.Loaded.{Loaded}
use Rattle.determine_side_effects.specs.graph_access_crate.Names.{related, related_module, related_statement, unreachable}
use Rattle.determine_side_effects.specs.graph_access_crate.Words.{some, entry_of, option}
use Rattle.determine_side_effects.specs.facts_crate.declared.Fact.{Fact}
use Rattle.determine_side_effects.specs.facts_crate.Facts.{module_fact, statement_fact, bailout_fact}
use Rattle.determine_side_effects.specs.Effects.{last_verdicts}
use Rattle.keep_record.specs.declared.Line.{Line}
use Rattle.keep_record.specs.Lines.{marks_from, has}
use Rattle.worklist.specs.Drain.{fact_at}
use Rattle.entry_order.specs.Order.{module_of_entry, is_dynamic, user_entries}
use Rattle.entry_starts.specs.Starts.{module_starts, user_starts}
use Rattle.cycles.proofs.Members.{In, in_none, in_cases, either, never_both}
use Rattle.dynamic_entries.specs.Sorted.{on_cycle, sorted_entries}
use Rattle.dynamic_entries.specs.Alive.{lets_live, is_alive}
use Rattle.dynamic_entries.specs.Tries.{Progress, lives, tried, tries}
use Rattle.passes.specs.Bailouts.{bailout_starts, bailouts_starts}
use Rattle.tree_shaking.specs.Rounds.{bailed, round, live_count, has_moved, goes_on, Ended, rounds_fuel, rounds_from, users_starts, begun, main_part}
use Rattle.closed_choices.specs.Choice.{Choice, HasLine}
use Rattle.closed_choices.proofs.Every.{Every, every_left, every_right, every_at}
use Rattle.closed_choices.proofs.Smallest.{line_marked}
use Rattle.settled_runs.specs.Choice.{LiveAgainst, Settled, SmallestSettled}
use Rattle.settled_runs.specs.Until.{always}
use Rattle.run_choices.proofs.Further.{goes_longer, goes_same, goes_front, lines_stay, try_live, Further, further_on, try_further, tries_further, bailed_further, round_further, rounds_further}
use Rattle.run_choices.proofs.Sorted.{user_listed, dynamic_sorted}
use Rattle.run_choices.proofs.EachTried.{live_after}
use Rattle.settled_runs.proofs.Running.{some_at, or_none, Within, lines_closed, fact_in_lem, round_run, round_taken, Taken, users_there}
use Rattle.settled_runs.proofs.Tests.{goes_with, goes_moves}
use Rattle.settled_runs.proofs.Ending.{Course, all-course, made_next, begun_within}

-- all facts and modules are such a choice
pub all_settled : (g : Graph) → Settled g (λ f. Unit {0}) (λ m. Unit {0})
all_settled g =
    record {
      users = λ e h d i u. tt;
      closed = record { by_K1 = λ m s i a b e u. tt; by_K2_to_K14 = λ f k a u. tt };
      bailouts = λ m a i u. tt;
      on_cycles = λ e h d c. tt;
      related_live = λ e k h d u l. tt;
      live_starts = λ m a i u. tt;
    }

-- parts of what several start
module _ (g : Graph) (P : Fact → Type 0) where
  pub user_part : (es : List ℕ) (e : ℕ) → In es e → Every P (users_starts g es) → Every P (user_starts g (module_of_entry g e))
  unfolding users_starts
  user_part [] e i a = absurd (in_none e i)
  user_part (x ∷ es) e i a =
      ⊎_elim (λ q. subst (λ y. Every P (user_starts g (module_of_entry g y))) (sym q) (every_left P (user_starts g (module_of_entry g x)) (users_starts g es) a))
      (λ j. user_part es e j (every_right P (user_starts g (module_of_entry g x)) (users_starts g es) a)) (in_cases e x es i)

  bailout_part : (ls : List Line) (k : ℕ) → k < length ls → Every P (bailouts_starts g ls) → Every P (bailout_starts g (fact_at ls k))
  unfolding bailouts_starts fact_at
  bailout_part [] k h a = absurd (omega (arith, h))
  bailout_part (l ∷ ls) zero h a = every_left P (bailout_starts g l.fact) (bailouts_starts g ls) a
  bailout_part (l ∷ ls) (suc k) h a = bailout_part ls k (omega (arith, h)) (every_right P (bailout_starts g l.fact) (bailouts_starts g ls) a)

-- whether an entry lives is asked of the lines alone
lives_by : (g : Graph) (v : List ℕ) (p q : Progress) (e : ℕ) → p.lines ≡ q.lines → lives g v p e ≡ lives g v q e
unfolding lives
lives_by g v p q e l = ap (λ (x : List Line). on_cycle g (module_of_entry g e) || is_alive g v (has g 0 x) e) l

-- tries that write no line: an entry whose module is not live after them has no reason to live
tries_done : (g : Graph) (v : List ℕ) (es : List ℕ) (p : Progress) → length (tries g v es p).lines ≤ length p.lines
    → (e : ℕ) → In es e → (tries g v es p).live (module_of_entry g e) ≡ false → lives g v (tries g v es p) e ≡ false
unfolding tries
tries_done g v [] p h e i o = absurd (in_none e i)
tries_done g v (x ∷ es) p h e i o =
    ⊎_elim (λ q. here q) (λ j. tries_done g v es now (omega (arith, h, goes_longer p.lines now.lines first.lines_go)) e j o) (in_cases e x es i)
  where
    now : Progress
    now = tried g v x p

    end : Progress
    end = tries g v es now

    first : Further p now
    first = try_further g v x p

    rest : Further now end
    rest = tries_further g v es now

    same : end.lines ≡ p.lines
    same = let w = further_on p now end first rest in goes_same p.lines end.lines w.lines_go h

    at : (b : Bool) → p.live (module_of_entry g x) ≡ b → (c : Bool) → lives g v p x ≡ c → end.live (module_of_entry g x) ≡ false → lives g v end x ≡ false
    at true a c l d = absurd (never_both (rest.live_stays (module_of_entry g x) (first.live_stays (module_of_entry g x) a)) d)
    at false a true l d =
        absurd (never_both (rest.live_stays (module_of_entry g x) (ap (λ (y : Progress). y.live (module_of_entry g x)) (try_live g v x p a l) ∙ live_after g v (module_starts g (module_of_entry g x)) x p)) d)
    at false a false l d = lives_by g v end p x same ∙ l

    here : e ≡ x → lives g v end e ≡ false
    here q =
        subst (λ y. lives g v end y ≡ false) (sym q)
        (at (p.live (module_of_entry g x)) refl (lives g v p x) refl (subst (λ y. end.live (module_of_entry g y) ≡ false) q o))

not_moved : (g : Graph) (p q : Progress) → has_moved g p q ≡ false → length q.lines ≤ length p.lines
unfolding has_moved
not_moved g p q e = ltb-false (length p.lines) (length q.lines) (or_none (ltb (length p.lines) (length q.lines)) (ltb (live_count g p.live) (live_count g q.live)) e).0

-- a related statement that is live against lines lets its entry live
lets_live_lem : (g : Graph) (lines : List Line) (m : ℕ) (row : List ℕ) → LiveAgainst g (HasLine lines) m row → lets_live g (last_verdicts g) (has g 0 lines) m row ≡ true
unfolding lets_live has marks_from
lets_live_lem g lines m row l =
    let u = eq-eqb (unreachable row) 0 l.reachable in
    let k = line_marked g lines (statement_fact (related_module row) (related_statement row)) l.chosen in
    let s = l.stays in
    rw (u, k, s, lets_live)

module _ {numbers tables : List ℕ} (t : Loaded numbers tables) where
  abbrev g : Graph
  g = graph_in numbers

  abbrev v : List ℕ
  v = last_verdicts (graph_in numbers)

  abbrev one : Settled (graph_in numbers) (λ f. Unit {0}) (λ m. Unit {0})
  one = all_settled (graph_in numbers)

  -- a round that writes no line
  module _ (taken : ℕ) (p : Progress) (r : Within t (λ f. Unit {0}) (λ m. Unit {0}) one p) (took : Taken t (λ f. Unit {0}) (λ m. Unit {0}) one taken p)
      (users : Every (HasLine (round g v taken p).lines) (users_starts g (user_entries g))) (still : length (round g v taken p).lines ≤ length p.lines) where
    abbrev end : Progress
    end = round g v taken p

    abbrev Facts : Choice
    Facts = HasLine end.lines

    end-run : Within t (λ f. Unit {0}) (λ m. Unit {0}) one end
    end-run = round_run t (λ f. Unit {0}) (λ m. Unit {0}) one taken p r

    all-taken : Every Facts (bailouts_starts g end.lines)
    all-taken =
        let go = (round_further g v taken p).lines_go in
        let e : take (length p.lines) end.lines ≡ end.lines = goes_front p.lines end.lines go ∙ sym (goes_same p.lines end.lines go still) in
        subst (λ (l : List Line). Every Facts (bailouts_starts g l)) e (round_taken t (λ f. Unit {0}) (λ m. Unit {0}) one taken p r took)

    bailout-starts : (m : ℕ) → Facts (bailout_fact m) → Every Facts (bailout_starts g (bailout_fact m))
    bailout-starts m h = subst (λ f. Every Facts (bailout_starts g f)) h.is (bailout_part g Facts end.lines h.number h.inside all-taken)

    pub no-reason : (e : ℕ) → e < g.header.entries → is_dynamic g e ≡ true → end.live (module_of_entry g e) ≡ false → lives g v end e ≡ false
    unfolding round
    no-reason e h d o =
        let q = bailed g v taken p in
        tries_done g v (sorted_entries g) q (omega (arith, still, goes_longer p.lines q.lines (bailed_further g v taken p).lines_go)) e (dynamic_sorted t e h d) o

    live-by : (e : ℕ) → e < g.header.entries → is_dynamic g e ≡ true → (lives g v end e ≡ false → ⊥) → end.live (module_of_entry g e) ≡ true
    live-by e h d n = ⊎_elim (λ q. q) (λ q. absurd (n (no-reason e h d q))) (either (end.live (module_of_entry g e)))

    on-cycle : (e : ℕ) → on_cycle g (module_of_entry g e) ≡ true → lives g v end e ≡ false → ⊥
    unfolding lives
    on-cycle e c n = never_both c (or_none (on_cycle g (module_of_entry g e)) (is_alive g v (has g 0 end.lines) e) n).0

    related_live : (e k : ℕ) → k < length (related (entry_of g e)) → LiveAgainst g Facts (module_of_entry g e) (get_or (related (entry_of g e)) k []) → lives g v end e ≡ false → ⊥
    unfolding lives is_alive
    related_live e k u l n =
        let a = some_at (lets_live g v (has g 0 end.lines) (module_of_entry g e)) (related (entry_of g e)) [] k u (lets_live_lem g end.lines (module_of_entry g e) (get_or (related (entry_of g e)) k []) l) in
        never_both a (or_none (on_cycle g (module_of_entry g e)) (some (lets_live g v (has g 0 end.lines) (module_of_entry g e)) (related (entry_of g e))) n).1

    pub round-settled : Settled g (HasLine (round g v taken p).lines) (λ m. (round g v taken p).live m ≡ true)
    round-settled =
        record {
          users = λ e h d. every_at Facts (user_starts g (module_of_entry g e)) (module_fact 0) (user_part g Facts (user_entries g) e (user_listed g e h d) users);
          closed = lines_closed t (λ f. Unit {0}) (λ m. Unit {0}) one end end-run;
          bailouts = λ m h. every_at Facts (bailout_starts g (bailout_fact m)) (module_fact 0) (bailout-starts m h);
          on_cycles = λ e h d c. live-by e h d (on-cycle e c);
          related_live = λ e k h d u l. live-by e h d (related_live e k u l);
          live_starts = λ m a. every_at Facts (module_starts g m) (module_fact 0) (end-run.begins m a);
        }

  -- the rounds of the run, whatever the option
  abbrev ran : Course t (λ f. Unit {0}) (λ m. Unit {0}) one (goes_on g) (goes_moves g) 0 0 (begun g v) (rounds_from g v (goes_on g) (rounds_fuel g) 0 0 (begun g v))
  ran = all-course t (λ f. Unit {0}) (λ m. Unit {0}) one (goes_on g) (goes_moves g)

  -- a run is inside every settled choice
  pub main_within : (D : Choice) (B : ℕ → Type 0) (s : Settled g D B) → Within t D B s (main_part g v).end
  unfolding main_part
  main_within D B s =
      let c = all-course t D B s (goes_on g) (goes_moves g) in
      subst (λ (p : Progress). Within t D B s p) (sym c.end_is) (begun_within t D B s (suc c.before)).0

  users_kept : Every (HasLine (main_part g v).end.lines) (users_starts g (user_entries g))
  unfolding main_part
  users_kept =
      lines_stay (begun g v).lines (main_part g v).end.lines (rounds_further g v (goes_on g) (rounds_fuel g) 0 0 (begun g v)).lines_go (users_starts g (user_entries g))
      (users_there t (λ f. Unit {0}) (λ m. Unit {0}) one)

  module _ (on : option g 7 ≡ true) where
    abbrev last : Ended
    last = rounds_from g v always ran.before 0 0 (begun g v)

    end_is : (main_part g v).end ≡ round g v last.taken last.end
    unfolding main_part
    end_is = ran.end_is ∙ made_next t (λ f. Unit {0}) (λ m. Unit {0}) one ran.before 0 0 (begun g v)

    last-still : length (round g v last.taken last.end).lines ≤ length last.end.lines
    last-still =
        let z = made_next t (λ f. Unit {0}) (λ m. Unit {0}) one ran.before 0 0 (begun g v) in
        not_moved g last.end (round g v last.taken last.end)
        (sym (λ i. goes_with g on i last.end (round g v last.taken last.end)) ∙ subst (λ (q : Progress). goes_on g last.end q ≡ false) z ran.says-no)

    last-users : Every (HasLine (round g v last.taken last.end).lines) (users_starts g (user_entries g))
    last-users = subst (λ (p : Progress). Every (HasLine p.lines) (users_starts g (user_entries g))) end_is users_kept

    last_within : Within t (λ f. Unit {0}) (λ m. Unit {0}) one last.end × Taken t (λ f. Unit {0}) (λ m. Unit {0}) one last.taken last.end
    last_within = begun_within t (λ f. Unit {0}) (λ m. Unit {0}) one ran.before

    main-settled : Settled g (HasLine (main_part g v).end.lines) (λ m. (main_part g v).end.live m ≡ true)
    main-settled =
        subst (λ (p : Progress). Settled g (HasLine p.lines) (λ m. p.live m ≡ true)) (sym end_is)
        (round-settled last.taken last.end last_within.0 last_within.1 last-users last-still)

    pub main_smallest : SmallestSettled g (HasLine (main_part g v).end.lines) (λ m. (main_part g v).end.live m ≡ true)
    main_smallest =
        record {
          settled = main-settled;
          facts_inside = λ D B s f h. fact_in_lem t D B s (main_part g v).end (main_within D B s) f h;
          live_inside = λ D B s m h. (main_within D B s).allowed m h;
        }

    -- an entry whose module is not live would not live by a further try
    pub others_dead : (e : ℕ) → e < g.header.entries → is_dynamic g e ≡ true → (main_part g v).end.live (module_of_entry g e) ≡ false → lives g v (main_part g v).end e ≡ false
    others_dead e h d o =
        subst (λ (p : Progress). p.live (module_of_entry g e) ≡ false → lives g v p e ≡ false) (sym end_is)
        (λ q. no-reason last.taken last.end last_within.0 last_within.1 last-users last-still e h d q) o
