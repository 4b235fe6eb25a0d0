-- The dynamic entries of a plan, tried one after another.
use Prim.Native.Nat.{ℕ, ◌+◌, ◌<◌, ◌≤◌}
use mathlib.Core.Path.{◌≡◌, refl, ap, ◌∙◌, sym, subst}
use mathlib.Core.Bool.{true, false, ◌||◌}
use mathlib.Core.List.{List}
use native.Mathlib.Omega.{arith}
use lib.Dec.{eqb}
use lib.ListN.{length, get_or, take, drop, set, drop_of_length-le}
use lib.Seq.{drop_at, length-take-le}
use Rattle.determine_side_effects.specs.graph_format_crate.declared.Header.{Header}
use Rattle.determine_side_effects.specs.graph_crate.Check.{Graph}
use Rattle.determine_side_effects.specs.facts_crate.declared.Fact.{Fact}
use Rattle.determine_side_effects.specs.Effects.{last_verdicts}
use Rattle.keep_record.specs.declared.Line.{Line}
use Rattle.keep_record.specs.Held.{lines_of}
use Rattle.marked.specs.Marked.{marked}
use Rattle.marked.proofs.ByLines.{marked_has}
use Rattle.entry_order.specs.Order.{module_of_entry, user_entries}
use Rattle.entry_order.specs.Plan.{is_set, live_in, dead_in, live_at, dead_at, cycled_at, plan_size, Untouched}
use Rattle.entry_starts.specs.Starts.{module_starts}
use Rattle.entry_starts.specs.Working.{Working, Started}
use Rattle.entry_starts.proofs.Together.{working_after, lines_after}
use Rattle.dynamic_entries.specs.Sorted.{on_cycle, sorted_entries}
use Rattle.dynamic_entries.specs.Alive.{is_alive}
use Rattle.dynamic_entries.specs.Tries.{Progress, progress_in, starting, now_live, tried, tries, Planned, PassedOver}
use Rattle.entry_liveness.proofs.Plans.{untouched_none, untouched_set, planned_kept, order_kept, set_elsewhere, set_there}
use Rattle.entry_liveness.proofs.Passing.{tried_lives, tries_next, progress_live, progress_lives}
use Rattle.tree_shaking.specs.Parts.{Progressed}
use Rattle.tree_shaking.proofs.Longer.{tries_longer}
use Rattle.std.specs.Prelude.{Result, Ok}
use Rattle.keep_record.specs.declared.Full.{Full}
use Rattle.keep_record.specs.Held.{no_room}

-- the progress of a plan in which an entry's module was set live
pub progress_alive : (g : Graph) (plan : List ℕ) → plan_size g.header ≤ length plan → (lines : List Line) (e : ℕ) → module_of_entry g e < g.header.modules
    → progress_in g.header lines (set plan (g.header.entries + module_of_entry g e) 1) ≡ now_live g e (progress_in g.header lines plan)
unfolding progress_in now_live live_in dead_in
progress_alive g plan long lines e k = λ i. record { lines = lines; live = λ m. live_more m i; dead = λ x. dead_same x i }
  where
    live_more : (m : ℕ) → is_set (live_at g.header) g.header.modules (set plan (g.header.entries + module_of_entry g e) 1) m ≡ (eqb m (module_of_entry g e) || is_set (live_at g.header) g.header.modules plan m)
    live_more m = set_there (live_at g.header) g.header.modules plan m (module_of_entry g e) k (omega (arith, long, k))

    dead_same : (x : ℕ) → is_set (dead_at g.header) g.header.entries (set plan (g.header.entries + module_of_entry g e) 1) x ≡ is_set (dead_at g.header) g.header.entries plan x
    dead_same x = set_elsewhere (dead_at g.header) g.header.entries plan x (g.header.entries + module_of_entry g e) 1 (λ a b. omega (arith, k))

-- facts started over the lines of a progress
pub progress_started : (g : Graph) (facts : List Fact) (before : List Line) (plan partners marks row : List ℕ) (d : ℕ) → Started g 0 facts before partners marks row (Ok d)
    → progress_in g.header (lines_of d row) plan ≡ starting g (last_verdicts g) facts (progress_in g.header before plan)
unfolding progress_in starting
progress_started g facts before plan partners marks row d s = λ i. record { lines = lines_after g 0 facts before partners marks row d s i; live = live_in g.header plan; dead = dead_in g.header plan }

-- an entry whose module is u was set live and started, as the code says it
pub live_entry : (g : Graph) (h : Header) → h ≡ g.header → (plan : List ℕ) (i u : ℕ) → u ≡ module_of_entry g (get_or plan i 0) → u < g.header.modules
    → (before : List Line) (partners marks row : List ℕ) (r : Result ℕ Full) → Started g 0 (module_starts g u) before partners marks row r
    → Started g 0 (module_starts g (module_of_entry g (get_or plan i 0))) before partners marks row r
    × (set plan (h.entries + u) 1 ≡ set plan (g.header.entries + module_of_entry g (get_or plan i 0)) 1)
    × (module_of_entry g (get_or plan i 0) < g.header.modules)
live_entry g h same plan i u is k before partners marks row r s = rw (← is) (s, rw same, k)

-- the dynamic entries of a plan
pub dynamic_order : (g : Graph) (plan : List ℕ) (users : ℕ) → Planned g plan users → drop users (take g.header.entries plan) ≡ sorted_entries g
dynamic_order g plan users p = ap (drop users) p.order ∙ drop_at (user_entries g) (sorted_entries g) users (sym p.users_are)

-- In the loop, at place i, whose entry is live now if there is one: what is left comes to the whole.
pub record Trying (g : Graph) (users : ℕ) (out : Progress) (partners marks row plan : List ℕ) (c i : ℕ) : Type 0 where
  pub working : Working g 0 partners marks row c
  pub planned : Planned g plan users
  pub inside : i ≤ g.header.entries
  pub on : tries g (last_verdicts g) (drop i (take g.header.entries plan)) (progress_in g.header (lines_of c row) plan) ≡ out
  pub found : i < g.header.entries
      → (live_in g.header plan (module_of_entry g (get_or plan i 0)) ≡ false)
      × ((on_cycle g (module_of_entry g (get_or plan i 0)) || is_alive g (last_verdicts g) (marked g marks) (get_or plan i 0)) ≡ true)

-- what is left after a search
abbrev pub left_at : Graph → ℕ → List ℕ → List ℕ → ℕ → Progress
left_at g i row plan c = tries g (last_verdicts g) (drop i (take g.header.entries plan)) (progress_in g.header (lines_of c row) plan)

module _ (g : Graph) (users : ℕ) (partners marks row plan : List ℕ) (c i : ℕ) (w : Working g 0 partners marks row c) (plan₀ : List ℕ) (p : Planned g plan₀ users) where
  search_planned : (from : ℕ) → PassedOver g marks plan₀ plan from i → Planned g plan users
  search_planned from s = planned_kept g plan₀ plan (dead_at g.header) (cycled_at g.header) s.written (omega arith) (omega arith) users p

  search_on : (from : ℕ) → PassedOver g marks plan₀ plan from i → left_at g from row plan₀ c ≡ left_at g i row plan c
  search_on from s = s.on (lines_of c row) (sym (marked_has g 0 marks row c w.held))

  pub trying_begin : PassedOver g marks plan₀ plan users i → Trying g users (left_at g i row plan c) partners marks row plan c i
  trying_begin s = record { working = w; planned = search_planned users s; inside = s.inside; on = refl; found = s.found }

  -- the search before the loop
  pub trying_whole : PassedOver g marks plan₀ plan users i → left_at g i row plan c ≡ tries g (last_verdicts g) (sorted_entries g) (progress_in g.header (lines_of c row) plan₀)
  trying_whole s = sym (search_on users s) ∙ ap (λ (es : List ℕ). tries g (last_verdicts g) es (progress_in g.header (lines_of c row) plan₀)) (dynamic_order g plan₀ users p)

  -- the search after a turn
  pub trying_on : (from : ℕ) (out : Progress) → PassedOver g marks plan₀ plan from i → left_at g from row plan₀ c ≡ out → Trying g users out partners marks row plan c i
  trying_on from out s e = record { working = w; planned = search_planned from s; inside = s.inside; on = sym (search_on from s) ∙ e; found = s.found }

-- a turn: the entry's module was set live, and started
module _ (g : Graph) (users : ℕ) (out : Progress) (partners marks row plan : List ℕ) (c i : ℕ) (t : Trying g users out partners marks row plan c i) (h : i < g.header.entries) (k : module_of_entry g (get_or plan i 0) < g.header.modules)
    (plan' : List ℕ) (e : plan' ≡ set plan (g.header.entries + module_of_entry g (get_or plan i 0)) 1) where
  live_written : Untouched (live_at g.header) (dead_at g.header) plan (set plan (g.header.entries + module_of_entry g (get_or plan i 0)) 1)
  live_written = untouched_set (live_at g.header) (dead_at g.header) plan plan (g.header.entries + module_of_entry g (get_or plan i 0)) 1 (untouched_none _ _ plan) (omega arith) (omega (arith, k))

  pub turn_planned : Planned g plan' users
  turn_planned = rw e (planned_kept g plan (set plan (g.header.entries + module_of_entry g (get_or plan i 0)) 1) (live_at g.header) (dead_at g.header) live_written (omega arith) (omega arith) users t.planned)

  turn_tried : tried g (last_verdicts g) (get_or plan i 0) (progress_in g.header (lines_of c row) plan) ≡ starting g (last_verdicts g) (module_starts g (module_of_entry g (get_or plan i 0))) (progress_in g.header (lines_of c row) plan')
  turn_tried =
      tried_lives g (last_verdicts g) (get_or plan i 0) (progress_in g.header (lines_of c row) plan)
      (progress_live g (lines_of c row) plan (get_or plan i 0) false (t.found h).0)
      (progress_lives g marks (lines_of c row) plan (get_or plan i 0) true (sym (marked_has g 0 marks row c t.working.held)) (t.found h).1)
      ∙ ap (starting g (last_verdicts g) (module_starts g (module_of_entry g (get_or plan i 0)))) (sym (progress_alive g plan t.planned.long (lines_of c row) (get_or plan i 0) k) ∙ ap (progress_in g.header (lines_of c row)) (sym e))

  turn_order : take g.header.entries plan' ≡ take g.header.entries plan
  turn_order = rw e (order_kept g plan (set plan (g.header.entries + module_of_entry g (get_or plan i 0)) 1) (live_at g.header) (dead_at g.header) live_written (omega arith) (omega arith) t.planned.long)

  -- what is left behind the entry
  turn_out : tries g (last_verdicts g) (drop (i + 1) (take g.header.entries plan)) (starting g (last_verdicts g) (module_starts g (module_of_entry g (get_or plan i 0))) (progress_in g.header (lines_of c row) plan')) ≡ out
  turn_out =
      ap (tries g (last_verdicts g) (drop (i + 1) (take g.header.entries plan))) (sym turn_tried)
      ∙ sym (tries_next g (last_verdicts g) plan i (progress_in g.header (lines_of c row) plan) t.planned.are_entries.long h)
      ∙ t.on

  module _ (pa ma row' : List ℕ) where
    pub turn-working : (d : ℕ) → Started g 0 (module_starts g (module_of_entry g (get_or plan i 0))) (lines_of c row) pa ma row' (Ok d) → Working g 0 pa ma row' d
    turn-working d s = working_after g 0 _ (lines_of c row) pa ma row' d s

    pub turn_on : (d : ℕ) → Started g 0 (module_starts g (module_of_entry g (get_or plan i 0))) (lines_of c row) pa ma row' (Ok d) → left_at g (i + 1) row' plan' d ≡ out
    turn_on d s =
        ap (λ (es : List ℕ). tries g (last_verdicts g) (drop (i + 1) es) (progress_in g.header (lines_of d row') plan')) turn_order
        ∙ ap (tries g (last_verdicts g) (drop (i + 1) (take g.header.entries plan))) (progress_started g _ (lines_of c row) plan' pa ma row' d s)
        ∙ turn_out

    pub turn-full : (plan'' : List ℕ) → Started g 0 (module_starts g (module_of_entry g (get_or plan i 0))) (lines_of c row) pa ma row' no_room → Progressed g users out pa ma row' plan'' no_room
    unfolding starting progress_in
    turn-full plan'' s =
        record {
          working = λ d q. let z : ◌≡◌ {A = ℕ} 0 1 = cc in absurd (omega arith);
          is = λ d q. let z : ◌≡◌ {A = ℕ} 0 1 = cc in absurd (omega arith);
          planned = λ d q. let z : ◌≡◌ {A = ℕ} 0 1 = cc in absurd (omega arith);
          full = λ q. omega (arith, s.grown.full refl, tries_longer g (last_verdicts g) (drop (i + 1) (take g.header.entries plan)) (starting g (last_verdicts g) (module_starts g (module_of_entry g (get_or plan i 0))) (progress_in g.header (lines_of c row) plan')), ap (λ (p : Progress). length p.lines) turn_out);
        }

-- rows that hold a progress
pub progressed_as : (g : Graph) (users : ℕ) (out : Progress) (partners marks row plan : List ℕ) (c : ℕ) → Working g 0 partners marks row c → Planned g plan users → progress_in g.header (lines_of c row) plan ≡ out
    → Progressed g users out partners marks row plan (Ok c)
progressed_as g users out partners marks row plan c w p e =
    record {
      working = λ d q. (let z : c ≡ d = cc in rw (sym z) w);
      is = λ d q. (let z : c ≡ d = cc in rw (sym z) e);
      planned = λ d q. p;
      full = λ q. let z : ◌≡◌ {A = ℕ} 0 1 = cc in absurd (omega arith);
    }

-- the same of another progress, which is equal
pub progressed_same : (g : Graph) (users : ℕ) (p q : Progress) → p ≡ q → (partners marks row plan : List ℕ) (r : Result ℕ Full) → Progressed g users p partners marks row plan r → Progressed g users q partners marks row plan r
progressed_same g users p q e partners marks row plan r s = subst (λ (x : Progress). Progressed g users x partners marks row plan r) e s

-- no entry is left
pub trying_done : (g : Graph) (users : ℕ) (out : Progress) (partners marks row plan : List ℕ) (c i : ℕ) → Trying g users out partners marks row plan c i → g.header.entries ≤ i → Progressed g users out partners marks row plan (Ok c)
unfolding tries
trying_done g users out partners marks row plan c i t h =
    let l : length (take g.header.entries plan) ≤ i = omega (arith, length-take-le g.header.entries plan t.planned.are_entries.long) in
    progressed_as g users out partners marks row plan c t.working t.planned (rw (drop_of_length-le (take g.header.entries plan) l) at t.on)
