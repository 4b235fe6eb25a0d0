-- A run stays inside every settled choice, and has what its live modules and its bailouts start.
use Prim.Native.Nat.{ℕ, zero, suc, ◌<◌}
use mathlib.Core.Path.{◌≡◌, refl, ap, ◌∙◌, sym, subst}
use mathlib.Core.Logic.{◌⊎◌, inl, inr, ⊎_elim}
use mathlib.Core.Bool.{Bool, true, false, not, ◌||◌, ◌&&◌}
use mathlib.Core.List.{List, [], ◌∷◌, ◌++◌}
use native.Mathlib.Omega.{arith}
use borrow.Author.Tests.{eqb-true}
use lib.Dec.{eqb}
use lib.ListN.{length, get_or, take, drop, take-append-drop}
use Rattle.determine_side_effects.specs.graph_crate.Check.{Graph, graph_in}
use Rattle.determine_side_effects.specs.graph_crate.Loaded.{Loaded}
use Rattle.determine_side_effects.specs.graph_access_crate.Names.{related, related_module, related_statement, unreachable}
use Rattle.determine_side_effects.specs.graph_access_crate.Words.{some, entry_of}
use Rattle.determine_side_effects.proofs.graph_access_crate.Indexes as index
use Rattle.determine_side_effects.specs.facts_crate.declared.Fact.{Fact}
use Rattle.determine_side_effects.specs.facts_crate.declared.Fact.TheVariants.{Module, Statement, Use, CheckedUse, Forward, Bailout}
use Rattle.determine_side_effects.specs.facts_crate.Facts.{module_fact, statement_fact, Good}
use Rattle.determine_side_effects.specs.Effects.{last_verdicts}
use Rattle.keep_record.specs.declared.Line.{Line}
use Rattle.keep_record.specs.Lines.{has}
use Rattle.worklist.specs.Drain.{fact_at, drained_all, drain_of}
use Rattle.entry_order.specs.Order.{module_of_entry, is_dynamic, is_user_defined, user_entries}
use Rattle.entry_starts.specs.Starts.{module_starts, user_starts}
use Rattle.entry_starts.proofs.Together.{all_append}
use Rattle.cycles.proofs.Members.{never_both}
use Rattle.dynamic_entries.specs.Sorted.{on_cycle, sorted_entries}
use Rattle.dynamic_entries.specs.Alive.{is_pure, uses_no_export, lets_live, is_alive}
use Rattle.dynamic_entries.specs.Tries.{Progress, starting, lives, now_live, now_dead, tried, tries}
use Rattle.passes.specs.Bailouts.{bailout_starts, bailouts_starts}
use Rattle.tree_shaking.specs.Rounds.{bailed, round, users_starts, no_one, begun}
use Rattle.closed_choices.specs.Choice.{Choice, Closed, HasLine}
use Rattle.closed_choices.proofs.Every.{Every, every_append, every_right, every_at, every_by, every_drop}
use Rattle.closed_choices.proofs.Handling.{no_line}
use Rattle.closed_choices.proofs.Reaching.{drain_in}
use Rattle.closed_choices.proofs.Smallest.{has_line, good-lines, drain_smallest}
use Rattle.run_choices.proofs.GoodStarts.{module_starts_good, users_starts_good, bailouts_good}
use Rattle.run_choices.proofs.ByKind.{bailouts-append}
use Rattle.settled_runs.specs.Choice.{Settled}
use Rattle.run_choices.proofs.Further.{goes_front, lines_stay, all_goes, try_old, try_live, try_dead, tries_further, round_further}
use Rattle.run_choices.proofs.Sorted.{every_listed, listed_user, sorted_dynamic}

-- one that passes a test
pub some_place : {A : Type 0} (test : A → Bool) (xs : List A) (d : A) → some test xs ≡ true → (k : ℕ) × (k < length xs) × (test (get_or xs k d) ≡ true)
unfolding some
some_place test [] d e = absurd (never_both e refl)
some_place test (x ∷ xs) d e = go (test x) refl (some_place test xs d)
  where
    go : (b : Bool) → test x ≡ b → (some test xs ≡ true → (k : ℕ) × (k < length xs) × (test (get_or xs k d) ≡ true)) → (k : ℕ) × (k < length (x ∷ xs)) × (test (get_or (x ∷ xs) k d) ≡ true)
    go true q r = (0, omega arith, q)
    go false q r = let s = r (rw (q, some) at e) in (suc s.0, omega (arith, s.1), s.2)

pub some_at : {A : Type 0} (test : A → Bool) (xs : List A) (d : A) (k : ℕ) → k < length xs → test (get_or xs k d) ≡ true → some test xs ≡ true
unfolding some
some_at test [] d k h e = absurd (omega (arith, h))
some_at test (x ∷ xs) d zero h e = rw (e, some)
some_at test (x ∷ xs) d (suc k) h e = go (test x) (some_at test xs d k (omega (arith, h)) e)
  where
    go : (b : Bool) → some test xs ≡ true → ◌≡◌ {A = Bool} (elim b [ true ↦ true | false ↦ some test xs ]) true
    go true r = refl
    go false r = r

and_first : (a b : Bool) → (a && b) ≡ true → a ≡ true
and_first true b e = refl
and_first false b e = e

and_second : (a b : Bool) → (a && b) ≡ true → b ≡ true
and_second true b e = e
and_second false b e = absurd (never_both e refl)

pub or_cases : (a b : Bool) → (a || b) ≡ true → (a ≡ true) ⊎ (b ≡ true)
or_cases true b e = inl refl
or_cases false b e = inr e

pub or_none : (a b : Bool) → (a || b) ≡ false → (a ≡ false) × (b ≡ false)
or_none true b e = absurd (never_both refl e)
or_none false b e = (refl, e)

-- what a related statement that lets live says, and the other way round
pub lets_live_parts : (g : Graph) (v : List ℕ) (kept : Fact → Bool) (m : ℕ) (row : List ℕ) → lets_live g v kept m row ≡ true
    → (unreachable row ≡ 0) × (kept (statement_fact (related_module row) (related_statement row)) ≡ true) × ((not (uses_no_export g m) || not (is_pure g v row)) ≡ true)
unfolding lets_live
lets_live_parts g v kept m row e = go (eqb (unreachable row) 0) refl
  where
    k : Bool
    k = kept (statement_fact (related_module row) (related_statement row))

    s : Bool
    s = not (uses_no_export g m) || not (is_pure g v row)

    go : (b : Bool) → eqb (unreachable row) 0 ≡ b → (unreachable row ≡ 0) × (k ≡ true) × (s ≡ true)
    go true q = let a : (k && s) ≡ true = rw (q, lets_live) at e in (eqb-true (unreachable row) 0 q, and_first k s a, and_second k s a)
    go false q = let a : false ≡ true = rw (q, lets_live) at e in absurd (never_both a refl)

pub entry_below : {numbers tables : List ℕ} → Loaded numbers tables → (e : ℕ) → e < (graph_in numbers).header.entries → module_of_entry (graph_in numbers) e < (graph_in numbers).header.modules
unfolding module_of_entry graph_in
entry_below t e h = index.entry_module_below t e h

module _ {numbers tables : List ℕ} (t : Loaded numbers tables) (D : Choice) (B : ℕ → Type 0) (s : Settled (graph_in numbers) D B) where
  abbrev g : Graph
  g = graph_in numbers

  abbrev v : List ℕ
  v = last_verdicts (graph_in numbers)

  -- what a run has come to: lines by starts that are good and of the choice; its live modules are of the choice, and their starts have lines
  pub record Within (p : Progress) : Type 0 where
    pub starts : List Fact
    pub good : Every (Good g) starts
    pub inside : Every D starts
    pub is : p.lines ≡ drain_of g v starts
    pub allowed : (m : ℕ) → p.live m ≡ true → B m
    pub begins : (m : ℕ) → p.live m ≡ true → Every (HasLine p.lines) (module_starts g m)

  pub lines_good : (p : Progress) → Within p → Every (λ l. Good g l.fact) p.lines
  lines_good p r = subst (λ (l : List Line). Every (λ x. Good g x.fact) l) (sym r.is) (good-lines t r.starts (every_at (Good g) r.starts (module_fact 0) r.good))

  pub lines_in : (p : Progress) → Within p → Every (λ l. D l.fact) p.lines
  lines_in p r = subst (λ (l : List Line). Every (λ x. D x.fact) l) (sym r.is) (drain_in g D s.closed r.starts (every_at D r.starts (module_fact 0) r.inside))

  pub fact_in_lem : (p : Progress) → Within p → (f : Fact) → HasLine p.lines f → D f
  unfolding fact_at
  fact_in_lem p r f h = subst (λ x. D x) h.is (every_at (λ l. D l.fact) p.lines no_line (lines_in p r) h.number h.inside)

  pub lines_closed : (p : Progress) → Within p → Closed g (HasLine p.lines)
  lines_closed p r =
      subst (λ (l : List Line). Closed g (HasLine l)) (sym r.is) (drain_smallest t r.starts (every_at (Good g) r.starts (module_fact 0) r.good)).closed

  starts_there : (p : Progress) (r : Within p) → Every (HasLine p.lines) r.starts
  starts_there p r =
      subst (λ (l : List Line). Every (HasLine l) r.starts) (sym r.is)
      (every_by (HasLine (drain_of g v r.starts)) r.starts (module_fact 0) (drain_smallest t r.starts (every_at (Good g) r.starts (module_fact 0) r.good)).holds_starts)

  -- further starts, which then have lines
  record More (fs : List Fact) (p : Progress) : Type 0 where
    run : Within (starting g v fs p)
    there : Every (HasLine (starting g v fs p).lines) fs

  more : (fs : List Fact) (p : Progress) → Every (Good g) fs → Every D fs → Within p → More fs p
  unfolding starting drain_of
  more fs p a b r = record { run = next; there = every_right (HasLine (starting g v fs p).lines) r.starts fs (starts_there (starting g v fs p) next) }
    where
      next : Within (starting g v fs p)
      next =
          record {
            starts = r.starts ++ fs;
            good = every_append (Good g) r.starts fs r.good a;
            inside = every_append D r.starts fs r.inside b;
            is = ap (λ (l : List Line). drained_all g v 0 fs l) r.is ∙ sym (all_append g v 0 r.starts fs []);
            allowed = r.allowed;
            begins = λ m h. lines_stay p.lines (drained_all g v 0 fs p.lines) (all_goes g v 0 fs p.lines) (module_starts g m) (r.begins m h);
          }

  -- an entry that lives is of the choice
  related_good : (e k : ℕ) → e < g.header.entries → k < length (related (entry_of g e))
      → Good g (statement_fact (related_module (get_or (related (entry_of g e)) k [])) (related_statement (get_or (related (entry_of g e)) k [])))
  unfolding graph_in
  related_good e k h u = let w = index.related_here t e k h u in (w.inside, w.statement_inside)

  alive_in : (p : Progress) → Within p → (e : ℕ) → e < g.header.entries → is_dynamic g e ≡ true → is_alive g v (has g 0 p.lines) e ≡ true → B (module_of_entry g e)
  unfolding is_alive
  alive_in p r e h d a =
      let k = some_place (lets_live g v (has g 0 p.lines) (module_of_entry g e)) (related (entry_of g e)) [] a in
      let row = get_or (related (entry_of g e)) k.0 [] in
      let w = lets_live_parts g v (has g 0 p.lines) (module_of_entry g e) row k.2 in
      let f = statement_fact (related_module row) (related_statement row) in
      s.related_live e k.0 h d k.1
      (record { reachable = w.0; chosen = fact_in_lem p r f (has_line t p.lines f (lines_good p r) (related_good e k.0 h k.1) w.1); stays = w.2 })

  lives_in : (p : Progress) → Within p → (e : ℕ) → e < g.header.entries → is_dynamic g e ≡ true → lives g v p e ≡ true → B (module_of_entry g e)
  unfolding lives
  lives_in p r e h d a =
      ⊎_elim (λ c. s.on_cycles e h d c) (λ c. alive_in p r e h d c) (or_cases (on_cycle g (module_of_entry g e)) (is_alive g v (has g 0 p.lines) e) a)

  -- a try
  live_run : (e : ℕ) (p : Progress) → B (module_of_entry g e) → More (module_starts g (module_of_entry g e)) p → Within (starting g v (module_starts g (module_of_entry g e)) (now_live g e p))
  unfolding starting now_live
  live_run e p b q =
      let r = q.run in
      record {
        starts = r.starts;
        good = r.good;
        inside = r.inside;
        is = r.is;
        allowed = λ x h. ⊎_elim (λ c. subst (λ y. B y) (sym (eqb-true x m c)) b) (λ c. r.allowed x c) (or_cases (eqb x m) (p.live x) h);
        begins = λ x h. ⊎_elim (λ c. subst (λ y. Every (HasLine now) (module_starts g y)) (sym (eqb-true x m c)) q.there) (λ c. r.begins x c) (or_cases (eqb x m) (p.live x) h);
      }
    where
      m : ℕ
      m = module_of_entry g e

      now : List Line
      now = drained_all g v 0 (module_starts g m) p.lines

  dead_run : (e : ℕ) (p : Progress) → Within p → Within (now_dead e p)
  unfolding now_dead
  dead_run e p r = record { starts = r.starts; good = r.good; inside = r.inside; is = r.is; allowed = r.allowed; begins = r.begins }

  try_run : (e : ℕ) (p : Progress) → e < g.header.entries → is_dynamic g e ≡ true → Within p → Within (tried g v e p)
  try_run e p h d r = go (p.live m) refl (lives g v p e) refl
    where
      m : ℕ
      m = module_of_entry g e

      go : (a : Bool) → p.live m ≡ a → (c : Bool) → lives g v p e ≡ c → Within (tried g v e p)
      go true a c l = subst (λ (q : Progress). Within q) (sym (try_old g v e p a)) r
      go false a true l =
          let b = lives_in p r e h d l in
          subst (λ (q : Progress). Within q) (sym (try_live g v e p a l))
          (live_run e p b (more (module_starts g m) p (module_starts_good t m) (every_by D (module_starts g m) (module_fact 0) (s.live_starts m b)) r))
      go false a false l = subst (λ (q : Progress). Within q) (sym (try_dead g v e p a l)) (dead_run e p r)

  tries_run : (es : List ℕ) (p : Progress) → Every (λ e. (e < g.header.entries) × (is_dynamic g e ≡ true)) es → Within p → Within (tries g v es p)
  unfolding tries
  tries_run [] p a r = r
  tries_run (e ∷ es) p a r = tries_run es (tried g v e p) a.1 (try_run e p a.0.0 a.0.1 r)

  -- bailouts
  bailout_in : (f : Fact) → D f → Every D (bailout_starts g f)
  unfolding bailout_starts
  bailout_in (Module m) h = tt
  bailout_in (Statement m i) h = tt
  bailout_in (Use a x) h = tt
  bailout_in (CheckedUse a x) h = tt
  bailout_in (Forward a) h = tt
  bailout_in (Bailout m) h = every_by D (bailout_starts g (Bailout m)) (module_fact 0) (s.bailouts m.0 h)

  bailouts_in : (ls : List Line) → Every (λ l. D l.fact) ls → Every D (bailouts_starts g ls)
  unfolding bailouts_starts
  bailouts_in [] a = tt
  bailouts_in (l ∷ ls) a = every_append D (bailout_starts g l.fact) (bailouts_starts g ls) (bailout_in l.fact a.0) (bailouts_in ls a.1)

  bailed_more : (taken : ℕ) (p : Progress) → Within p → More (bailouts_starts g (drop taken p.lines)) p
  bailed_more taken p r =
      more (bailouts_starts g (drop taken p.lines)) p (bailouts_good t (drop taken p.lines) (every_drop (λ l. Good g l.fact) taken p.lines (lines_good p r)))
      (bailouts_in (drop taken p.lines) (every_drop (λ l. D l.fact) taken p.lines (lines_in p r))) r

  pub bailed_run : (taken : ℕ) (p : Progress) → Within p → Within (bailed g v taken p)
  unfolding bailed
  bailed_run taken p r = (bailed_more taken p r).run

  pub bailed_there : (taken : ℕ) (p : Progress) → Within p → Every (HasLine (bailed g v taken p).lines) (bailouts_starts g (drop taken p.lines))
  unfolding bailed
  bailed_there taken p r = (bailed_more taken p r).there

  pub round_run : (taken : ℕ) (p : Progress) → Within p → Within (round g v taken p)
  unfolding round
  round_run taken p r =
      tries_run (sorted_entries g) (bailed g v taken p) (every_listed (λ e. (e < g.header.entries) × (is_dynamic g e ≡ true)) (sorted_entries g) (sorted_dynamic g)) (bailed_run taken p r)

  -- the bailouts of the first `taken` lines are taken
  abbrev pub Taken : ℕ → Progress → Type 0
  Taken taken p = Every (HasLine p.lines) (bailouts_starts g (take taken p.lines))

  pub round_taken : (taken : ℕ) (p : Progress) → Within p → Taken taken p → Taken (length p.lines) (round g v taken p)
  unfolding round
  round_taken taken p r h =
      let q = bailed g v taken p in
      let z = tries g v (sorted_entries g) q in
      let a = lines_stay p.lines z.lines (round_further g v taken p).lines_go (bailouts_starts g (take taken p.lines)) h in
      let b = lines_stay q.lines z.lines (tries_further g v (sorted_entries g) q).lines_go (bailouts_starts g (drop taken p.lines)) (bailed_there taken p r) in
      let c = every_append (HasLine z.lines) (bailouts_starts g (take taken p.lines)) (bailouts_starts g (drop taken p.lines)) a b in
      let e : bailouts_starts g (take taken p.lines) ++ bailouts_starts g (drop taken p.lines) ≡ bailouts_starts g (take (length p.lines) z.lines) =
      sym (bailouts-append g (take taken p.lines) (drop taken p.lines)) ∙ ap (λ (l : List Line). bailouts_starts g l) (take-append-drop taken p.lines ∙ sym (goes_front p.lines z.lines (round_further g v taken p).lines_go)) in
      subst (λ (l : List Fact). Every (HasLine z.lines) l) e c

  -- the beginning
  no_lines : Within (record { lines = []; live = no_one; dead = no_one })
  unfolding drain_of drained_all no_one
  no_lines = record { starts = []; good = tt; inside = tt; is = refl; allowed = λ m h. absurd (never_both h refl); begins = λ m h. absurd (never_both h refl) }

  users_in : (es : List ℕ) → Every (λ e. (e < g.header.entries) × (is_user_defined g e ≡ true)) es → Every D (users_starts g es)
  unfolding users_starts
  users_in [] a = tt
  users_in (e ∷ es) a =
      every_append D (user_starts g (module_of_entry g e)) (users_starts g es) (every_by D (user_starts g (module_of_entry g e)) (module_fact 0) (s.users e a.0.0 a.0.1)) (users_in es a.1)

  begun_more : More (users_starts g (user_entries g)) (record { lines = []; live = no_one; dead = no_one })
  begun_more =
      more (users_starts g (user_entries g)) (record { lines = []; live = no_one; dead = no_one }) (users_starts_good t (user_entries g))
      (users_in (user_entries g) (every_listed (λ e. (e < g.header.entries) × (is_user_defined g e ≡ true)) (user_entries g) (listed_user g))) no_lines

  pub begun_run : Within (begun g v)
  unfolding begun
  begun_run = begun_more.run

  pub users_there : Every (HasLine (begun g v).lines) (users_starts g (user_entries g))
  unfolding begun
  users_there = begun_more.there
