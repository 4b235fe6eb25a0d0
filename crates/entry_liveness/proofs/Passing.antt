-- The search for the next live entry: each entry that is passed over is one try that starts nothing.
use Prim.Native.Nat.{ℕ, ◌+◌, ◌*◌, ◌<◌, ◌≤◌}
use mathlib.Core.Path.{◌≡◌, refl, ap, ◌∙◌, sym}
use mathlib.Core.Bool.{Bool, true, false, ◌||◌}
use mathlib.Core.List.{List}
use native.Mathlib.Omega.{arith}
use borrow.Author.Tests.{eq-eqb, ne_eqb}
use lib.ListN.{length, get_or, take, drop, set}
use lib.Seq.{take-set-le}
use Rattle.determine_side_effects.specs.graph_format_crate.declared.Header.{Header}
use Rattle.determine_side_effects.specs.graph_crate.Check.{Graph}
use Rattle.determine_side_effects.specs.facts_crate.declared.Fact.{Fact}
use Rattle.determine_side_effects.specs.Effects.{last_verdicts}
use Rattle.keep_record.specs.declared.Line.{Line}
use Rattle.keep_record.specs.Lines.{has}
use Rattle.marked.specs.Marked.{marked}
use Rattle.entry_order.specs.Order.{module_of_entry}
use Rattle.entry_order.specs.Plan.{live_in, live_at, dead_at, cycled_at, plan_size, Untouched}
use Rattle.entry_starts.specs.Starts.{module_starts}
use Rattle.dynamic_entries.specs.Sorted.{on_cycle}
use Rattle.dynamic_entries.specs.Alive.{is_alive}
use Rattle.dynamic_entries.specs.Tries.{Progress, progress_in, starting, lives, now_live, now_dead, tried, tries, Planned, PassedOver}
use Rattle.entry_liveness.proofs.Plans.{order_next, untouched_none, untouched_set, planned_kept, set_is, set_not, progress_dead}

-- a try, by what it finds
module _ (g : Graph) (v : List ℕ) (e : ℕ) (p : Progress) where
  pub tried_live : p.live (module_of_entry g e) ≡ true → tried g v e p ≡ p
  unfolding tried
  tried_live l = rw (l, tried)

  pub tried_dead : p.live (module_of_entry g e) ≡ false → lives g v p e ≡ false → tried g v e p ≡ now_dead e p
  unfolding tried
  tried_dead l d = rw (l, tried, d, tried)

  pub tried_lives : p.live (module_of_entry g e) ≡ false → lives g v p e ≡ true → tried g v e p ≡ starting g v (module_starts g (module_of_entry g e)) (now_live g e p)
  unfolding tried
  tried_lives l d = rw (l, tried, d, tried)

-- the tries from place i of a plan on: the entry there first
pub tries_next : (g : Graph) (v : List ℕ) (plan : List ℕ) (i : ℕ) (p : Progress) → g.header.entries ≤ length plan → i < g.header.entries
    → tries g v (drop i (take g.header.entries plan)) p ≡ tries g v (drop (i + 1) (take g.header.entries plan)) (tried g v (get_or plan i 0) p)
unfolding tries
tries_next g v plan i p l h = rw (order_next g.header.entries plan i l h)

-- the marks of a plan, by its words
module _ (g : Graph) (plan : List ℕ) (e u : ℕ) (is : u ≡ module_of_entry g e) where
  pub live_by_word : u < g.header.modules → get_or plan (g.header.entries + u) 0 ≡ 1 → live_in g.header plan (module_of_entry g e) ≡ true
  unfolding live_in
  live_by_word h q = rw (← is) (set_is (live_at g.header) g.header.modules plan u h q)

  pub unlive_by_word : (get_or plan (g.header.entries + u) 0 ≡ 1 → ⊥) → live_in g.header plan (module_of_entry g e) ≡ false
  unfolding live_in
  unlive_by_word n = rw (← is) (set_not (live_at g.header) g.header.modules plan u n)

  module _ (users : ℕ) (p : Planned g plan users) (h : u < g.header.modules) where
    pub cycle-by-word : get_or plan (2 * g.header.entries + g.header.modules + u) 0 ≡ 1 → on_cycle g (module_of_entry g e) ≡ true
    cycle-by-word q = rw (← is) (sym (p.cycles u h) ∙ eq-eqb _ _ q)

    pub no-cycle-by-word : (get_or plan (2 * g.header.entries + g.header.modules + u) 0 ≡ 1 → ⊥) → on_cycle g (module_of_entry g e) ≡ false
    no-cycle-by-word n = rw (← is) (sym (p.cycles u h) ∙ ne_eqb _ _ n)

-- the same of the progress that lines and a plan hold, by marks
pub progress_live : (g : Graph) (lines : List Line) (plan : List ℕ) (e : ℕ) (b : Bool) → live_in g.header plan (module_of_entry g e) ≡ b → (progress_in g.header lines plan).live (module_of_entry g e) ≡ b
unfolding progress_in
progress_live g lines plan e b l = l

pub progress_lives : (g : Graph) (marks : List ℕ) (lines : List Line) (plan : List ℕ) (e : ℕ) (b : Bool) → ◌≡◌ {A = Fact → Bool} (has g 0 lines) (marked g marks)
    → (on_cycle g (module_of_entry g e) || is_alive g (last_verdicts g) (marked g marks) e) ≡ b → lives g (last_verdicts g) (progress_in g.header lines plan) e ≡ b
unfolding progress_in lives
progress_lives g marks lines plan e b q l = rw q l

-- In the loop, at place i: what is left comes to the whole.
pub record Passing (g : Graph) (marks plan₀ plan : List ℕ) (users from i : ℕ) : Type 0 where
  pub forward : from ≤ i
  pub inside : i ≤ g.header.entries
  pub written : Untouched (dead_at g.header) (cycled_at g.header) plan₀ plan
  pub planned : Planned g plan users
  pub on : (lines : List Line) → ◌≡◌ {A = Fact → Bool} (has g 0 lines) (marked g marks)
      → tries g (last_verdicts g) (drop from (take g.header.entries plan₀)) (progress_in g.header lines plan₀)
      ≡ tries g (last_verdicts g) (drop i (take g.header.entries plan)) (progress_in g.header lines plan)

module _ (g : Graph) (marks : List ℕ) where
  pub passing_start : (plan : List ℕ) (users from : ℕ) → Planned g plan users → from ≤ g.header.entries → Passing g marks plan plan users from from
  passing_start plan users from p h =
      record {
        forward = omega arith;
        inside = h;
        written = untouched_none (dead_at g.header) (cycled_at g.header) plan;
        planned = p;
        on = λ lines q. refl;
      }

  module _ (plan₀ plan : List ℕ) (users from i : ℕ) (s : Passing g marks plan₀ plan users from i) where
    pub passed-end : g.header.entries ≤ i → PassedOver g marks plan₀ plan from i
    passed-end h = record { forward = s.forward; inside = s.inside; written = s.written; on = s.on; found = λ l. absurd (omega arith) }

    module _ (h : i < g.header.entries) (e : ℕ) (is : e ≡ get_or plan i 0) where
      pub entry-inside : e < g.header.entries
      entry-inside = rw is (s.planned.are_entries.below i h)

      pub passed-found : live_in g.header plan (module_of_entry g e) ≡ false → (on_cycle g (module_of_entry g e) || is_alive g (last_verdicts g) (marked g marks) e) ≡ true → PassedOver g marks plan₀ plan from i
      passed-found a b = record { forward = s.forward; inside = s.inside; written = s.written; on = s.on; found = λ l. rw (← is) (a, b) }

      pub passing-live : live_in g.header plan (module_of_entry g e) ≡ true → Passing g marks plan₀ plan users from (i + 1)
      passing-live l =
          record {
            forward = omega (arith, s.forward);
            inside = omega arith;
            written = s.written;
            planned = s.planned;
            on = λ lines q.
                s.on lines q
                ∙ tries_next g (last_verdicts g) plan i (progress_in g.header lines plan) s.planned.are_entries.long h
                ∙ ap (tries g (last_verdicts g) (drop (i + 1) (take g.header.entries plan))) (tried_live g (last_verdicts g) (get_or plan i 0) (progress_in g.header lines plan) (progress_live g lines plan (get_or plan i 0) true (rw is at l)));
          }

      pub passing-dead : live_in g.header plan (module_of_entry g e) ≡ false → on_cycle g (module_of_entry g e) ≡ false → is_alive g (last_verdicts g) (marked g marks) e ≡ false
          → Passing g marks plan₀ (set plan (g.header.entries + g.header.modules + e) 1) users from (i + 1)
      passing-dead l c a =
          let w : Untouched (dead_at g.header) (cycled_at g.header) plan (set plan (g.header.entries + g.header.modules + e) 1) =
          untouched_set (dead_at g.header) (cycled_at g.header) plan plan (g.header.entries + g.header.modules + e) 1 (untouched_none _ _ plan) (omega arith) (omega (arith, entry-inside)) in
          record {
            forward = omega (arith, s.forward);
            inside = omega arith;
            written = untouched_set (dead_at g.header) (cycled_at g.header) plan₀ plan (g.header.entries + g.header.modules + e) 1 s.written (omega arith) (omega (arith, entry-inside));
            planned = planned_kept g plan (set plan (g.header.entries + g.header.modules + e) 1) (dead_at g.header) (cycled_at g.header) w (omega arith) (omega arith) users s.planned;
            on = λ lines q.
                s.on lines q
                ∙ tries_next g (last_verdicts g) plan i (progress_in g.header lines plan) s.planned.are_entries.long h
                ∙ ap (tries g (last_verdicts g) (drop (i + 1) (take g.header.entries plan))) (step lines q)
                ∙ ap (λ (xs : List ℕ). tries g (last_verdicts g) (drop (i + 1) xs) (progress_in g.header lines (set plan (g.header.entries + g.header.modules + e) 1))) (sym (take-set-le g.header.entries plan (g.header.entries + g.header.modules + e) 1 (omega arith)));
          }
        where
          step : (lines : List Line) → ◌≡◌ {A = Fact → Bool} (has g 0 lines) (marked g marks)
              → tried g (last_verdicts g) (get_or plan i 0) (progress_in g.header lines plan) ≡ progress_in g.header lines (set plan (g.header.entries + g.header.modules + e) 1)
          step lines q =
              rw (← is)
              (tried_dead g (last_verdicts g) e (progress_in g.header lines plan) (progress_live g lines plan e false l) (progress_lives g marks lines plan e false q (rw (c, a)))
              ∙ sym (progress_dead g.header plan s.planned.long lines e entry-inside))

-- the plan has room for what is read and written at place i
pub record Room (h : Header) (plan : List ℕ) (i : ℕ) : Type 0 where
  pub place : i < h.entries
  pub long : plan_size h ≤ length plan
  pub entry : get_or plan i 0 < h.entries
  pub few_entries : h.entries ≤ 1024
  pub few_modules : h.modules ≤ 1024

-- at the entry of place i, by the plan's words
module _ (g : Graph) (marks plan₀ plan : List ℕ) (users from i : ℕ) (s : Passing g marks plan₀ plan users from i) (h : Header) (same : h ≡ g.header) (k : i < h.entries) where
  at_entry : i < g.header.entries
  at_entry = rw same at k

  pub room : g.header.entries ≤ 1024 → g.header.modules ≤ 1024 → Room h plan i
  room es ms =
      record {
        place = k;
        long = rw same s.planned.long;
        entry = rw same (entry-inside g marks plan₀ plan users from i s at_entry _ refl);
        few_entries = rw same es;
        few_modules = rw same ms;
      }

  module _ (u : ℕ) (is : u ≡ module_of_entry g (get_or plan i 0)) (v : u < g.header.modules) where
    pub step-live : (get_or plan (h.entries + u) 0 ≡ 1) → Passing g marks plan₀ plan users from (i + 1)
    step-live q = passing-live g marks plan₀ plan users from i s at_entry _ refl (live_by_word g plan _ u is v (rw same at q))

    module _ (n : get_or plan (h.entries + u) 0 ≡ 1 → ⊥) where
      unlive : live_in g.header plan (module_of_entry g (get_or plan i 0)) ≡ false
      unlive = unlive_by_word g plan _ u is (rw same at n)

      pub found-on-cycle : get_or plan (2 * h.entries + h.modules + u) 0 ≡ 1 → PassedOver g marks plan₀ plan from i
      found-on-cycle q =
          let c : on_cycle g (module_of_entry g (get_or plan i 0)) ≡ true = cycle-by-word g plan _ u is users s.planned v (rw same at q) in
          passed-found g marks plan₀ plan users from i s at_entry _ refl unlive (rw c)

      module _ (o : get_or plan (2 * h.entries + h.modules + u) 0 ≡ 1 → ⊥) where
        no_cycle : on_cycle g (module_of_entry g (get_or plan i 0)) ≡ false
        no_cycle = no-cycle-by-word g plan _ u is users s.planned v (rw same at o)

        pub found-alive : is_alive g (last_verdicts g) (marked g marks) (get_or plan i 0) ≡ true → PassedOver g marks plan₀ plan from i
        found-alive a = let c = no_cycle in passed-found g marks plan₀ plan users from i s at_entry _ refl unlive (rw (c, a))

        pub step-dead : is_alive g (last_verdicts g) (marked g marks) (get_or plan i 0) ≡ false → (plan' : List ℕ) → plan' ≡ set plan (h.entries + h.modules + get_or plan i 0) 1 → Passing g marks plan₀ plan' users from (i + 1)
        step-dead a plan' e = rw (e, same) (passing-dead g marks plan₀ plan users from i s at_entry _ refl unlive no_cycle a)
