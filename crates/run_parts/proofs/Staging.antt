-- The stages of a part, by their ends.
use Prim.Native.Nat.{ℕ, ◌+◌, ◌*◌, ◌<◌, ◌≤◌}
use mathlib.Core.Path.{◌≡◌, ap, ◌∙◌, sym, subst}
use mathlib.Core.Bool.{Bool}
use mathlib.Core.List.{List}
use native.Mathlib.Decide.{dec_lt}
use native.Mathlib.Omega.{arith}
use borrow.Author.Tests.{le-ltb}
use lib.Dec.{eqb}
use lib.ListN.{length, get_or, take}
use lib.Seq.{take_all, get_or-take, length-take-le, ext_get_or}
use Rattle.determine_side_effects.specs.graph_crate.Check.{Graph}
use Rattle.determine_side_effects.specs.Effects.{last_verdicts}
use Rattle.keep_record.specs.declared.Line.{Line}
use Rattle.keep_record.specs.Lines.{has}
use Rattle.keep_record.specs.Held.{lines_of, Held}
use Rattle.keep_record.proofs.Rows.{lines-length, lines-take}
use Rattle.worklist.specs.Drain.{drained_all}
use Rattle.worklist.proofs.Ends.{all_longer}
use Rattle.entry_order.specs.Plan.{is_set, live_in, dead_in, live_at, dead_at, cycled_at, words_at, plan_size, Untouched}
use Rattle.dynamic_entries.specs.Tries.{progress_in, Planned}
use Rattle.passes.specs.Helpers.{helper_word, helper_union, runtime_starts}
use Rattle.passes.proofs.Staying.{take-drained_all}
use Rattle.tree_shaking.specs.declared.Reached.{Reached}
use Rattle.tree_shaking.specs.Rounds.{main_part, runtime_stage}
use Rattle.tree_shaking.specs.Parts.{MainEnds, StageEnds}
use Rattle.tree_shaking.proofs.Longer.{main_taken}
use Rattle.run_rows.specs.Run.{run_of, with_runtime}
use Rattle.run_parts.specs.declared.Part.{Part}
use Rattle.run_parts.specs.declared.Part.TheVariants.{Whole, Main}
use Rattle.run_parts.specs.Parts.{lines_of_part, Leaves, Holds, StagesEnd}
use Rattle.std.specs.Prelude.{Result, Ok}
use Rattle.keep_record.specs.declared.Full.{Full}
use Rattle.keep_record.specs.Held.{no_room}

-- a part of the plan that was not written
same_part : (at count : ℕ) (before after : List ℕ) → ((i : ℕ) → i < count → get_or after (at + i) 0 ≡ get_or before (at + i) 0) → (m : ℕ) → is_set at count after m ≡ is_set at count before m
unfolding is_set
same_part at count before after same m = go (dec_lt m count)
  where
    go : Dec (m < count) → is_set at count after m ≡ is_set at count before m
    go (yes h) = rw (same m h)
    go (no h) = let l : count ≤ m = omega arith in rw (le-ltb m count l)

-- the words of the helpers are behind all that a plan says
module _ (g : Graph) (before after : List ℕ) (u : Untouched (words_at g.header) (plan_size g.header) before after) where
  word_kept : (i : ℕ) → i < words_at g.header → get_or after i 0 ≡ get_or before i 0
  word_kept i h = u.same i (λ a b. omega arith)

  pub live_kept : ◌≡◌ {A = ℕ → Bool} (live_in g.header after) (live_in g.header before)
  unfolding live_in
  live_kept = λ i m. same_part (live_at g.header) g.header.modules before after (λ j h. word_kept (live_at g.header + j) (omega arith)) m i

  pub dead_kept : ◌≡◌ {A = ℕ → Bool} (dead_in g.header after) (dead_in g.header before)
  unfolding dead_in
  dead_kept = λ i m. same_part (dead_at g.header) g.header.entries before after (λ j h. word_kept (dead_at g.header + j) (omega arith)) m i

  order_kept : plan_size g.header ≤ length before → take g.header.entries after ≡ take g.header.entries before
  order_kept l =
      let n = g.header.entries in
      let l₀ : length (take n before) ≡ n = length-take-le n before (omega arith) in
      let l₁ : length (take n after) ≡ n = length-take-le n after (omega (arith, u.same_length)) in
      ext_get_or 0 (take n after) (take n before) (l₁ ∙ sym l₀)
      (λ i h. (let j : i < n = omega arith in get_or-take n after i 0 j ∙ word_kept i (omega arith) ∙ sym (get_or-take n before i 0 j)))

  pub planned_kept : {users : ℕ} → Planned g before users → Planned g after users
  planned_kept p =
      record {
        long = omega (arith, u.same_length, p.long);
        few = omega (arith, u.same_length, p.few);
        users_are = p.users_are;
        all = p.all;
        order = order_kept p.long ∙ p.order;
        are_entries = record {
          long = omega (arith, u.same_length, p.are_entries.long);
          below = λ i h. rw (word_kept i (omega arith)) (p.are_entries.below i h);
        };
        cycles = λ m h. ap (λ (x : ℕ). eqb x 1) (word_kept (cycled_at g.header + m) (omega arith)) ∙ p.cycles m h;
      }

-- a record that is too short
pub stages_short : (g : Graph) (part : Part) (marks row plan : List ℕ) → length row < 6 * length (lines_of_part part (run_of g)) → StagesEnd g part marks row plan no_room
stages_short g part marks row plan h =
    record {
      holds = λ x e. let z : ◌≡◌ {A = ℕ} 0 1 = cc in absurd (omega arith);
      too_long = λ e. h;
    }

pub stages_held : (g : Graph) (part : Part) (marks row plan : List ℕ) (x : Reached) → Holds g part marks row plan x → StagesEnd g part marks row plan (Ok x)
stages_held g part marks row plan x h =
    record {
      holds = λ y e. let z : x ≡ y = cc in subst (λ (w : Reached). Holds g part marks row plan w) z h;
      too_long = λ e. let z : ◌≡◌ {A = ℕ} 0 1 = cc in absurd (omega arith);
    }

-- the part that is asked for
pub stages_of : {g : Graph} {part asked : Part} {marks row plan : List ℕ} {r : Result Reached Full} → asked ≡ part → StagesEnd g part marks row plan r → StagesEnd g asked marks row plan r
stages_of {g} {part} {asked} {marks} {row} {plan} {r} e s = subst (λ (p : Part). StagesEnd g p marks row plan r) (sym e) s

-- the main part is the front of the run
pub run_longer : (g : Graph) → length (run_of g).main ≤ length (run_of g).lines
unfolding run_of with_runtime runtime_stage
run_longer g =
    let main = (main_part g (last_verdicts g)).end.lines in
    all_longer g (last_verdicts g) (length main) (runtime_starts g (last_verdicts g) (helper_union g (has g 0 main))) main

run_taken : (g : Graph) → (run_of g).taken ≤ length (run_of g).main
unfolding run_of with_runtime
run_taken g = main_taken g (last_verdicts g)

module _ (g : Graph) (users : ℕ) (partners₁ marks₁ row₁ plan₁ : List ℕ) (r : Result Reached Full) (m : MainEnds g users (main_part g (last_verdicts g)) partners₁ marks₁ row₁ plan₁ r) where
  pub main_short : (part : Part) → r ≡ no_room → StagesEnd g part marks₁ row₁ plan₁ no_room
  unfolding run_of with_runtime
  main_short Whole e = stages_short g Whole marks₁ row₁ plan₁ (omega (arith, m.full e, run_longer g))
  main_short Main e = stages_short g Main marks₁ row₁ plan₁ (m.full e)

  module _ {x : Reached} (e : r ≡ Ok x) where
    main_is : lines_of x.main row₁ ≡ (run_of g).main
    unfolding progress_in run_of with_runtime
    main_is = ap (λ p. p.lines) (m.is x e)

    users_are : users ≡ x.users
    users_are = ap (λ (y : Reached). y.users) (sym (m.reached x e))

    rounds-is : x.rounds ≡ (run_of g).rounds
    unfolding run_of with_runtime
    rounds-is = ap (λ (y : Reached). y.rounds) (m.reached x e)

    taken_is : x.taken ≡ (run_of g).taken
    unfolding run_of with_runtime
    taken_is = ap (λ (y : Reached). y.taken) (m.reached x e)

    taken_in : x.taken ≤ x.main
    taken_in = omega (arith, taken_is, run_taken g, ap length main_is, lines-length x.main row₁)

    leaves₁ : Leaves g plan₁ x.users
    unfolding progress_in run_of with_runtime
    leaves₁ =
        record {
          planned = subst (λ (u : ℕ). Planned g plan₁ u) users_are (m.planned x e);
          live_are = ap (λ p. p.live) (m.is x e);
          dead_are = ap (λ p. p.dead) (m.is x e);
        }

    total_is : x.main ≡ x.total
    total_is = ap (λ (y : Reached). y.main) (m.reached x e) ∙ sym (ap (λ (y : Reached). y.total) (m.reached x e))

    pub main-done : StagesEnd g Main marks₁ row₁ plan₁ (Ok x)
    main-done =
        stages_held g Main marks₁ row₁ plan₁ x
        (record {
          main_lines = main_is;
          all_lines = subst (λ (k : ℕ). lines_of k row₁ ≡ (run_of g).main) total_is main_is;
          held = subst (λ (k : ℕ). Held g 0 marks₁ row₁ k) total_is (m.working x e).held;
          rounds_are = rounds-is;
          taken_are = taken_is;
          taken_inside = taken_in;
          leaves = leaves₁;
          words = λ q. let z : ◌≡◌ {A = ℕ} 0 1 = cc in absurd (omega arith);
        })

    module _ (partners₂ marks₂ row₂ plan₂ : List ℕ) (q : Result ℕ Full) (s : StageEnds g (lines_of x.main row₁) plan₁ partners₂ marks₂ row₂ plan₂ q) where
      staged : List Line
      staged = drained_all g (last_verdicts g) (length (lines_of x.main row₁)) (runtime_starts g (last_verdicts g) (helper_union g (has g 0 (lines_of x.main row₁)))) (lines_of x.main row₁)

      staged-is : staged ≡ (run_of g).lines
      unfolding staged run_of with_runtime runtime_stage
      staged-is = ap (λ ls. runtime_stage g (last_verdicts g) ls (helper_union g (has g 0 ls))) main_is

      pub stage-short : q ≡ no_room → StagesEnd g Whole marks₂ row₂ plan₂ no_room
      unfolding staged
      stage-short f = stages_short g Whole marks₂ row₂ plan₂ (omega (arith, s.started.grown.full f, ap length staged-is))

      module _ {total : ℕ} (f : q ≡ Ok total) where
        held₂ : Held g x.main marks₂ row₂ total
        held₂ = rw (lines-length x.main row₁) at (s.started.grown.held total f).1

        front : lines_of x.main row₂ ≡ lines_of x.main row₁
        unfolding staged
        front =
            let n : x.main ≤ length (lines_of x.main row₁) = omega (arith, lines-length x.main row₁) in
            let k : length (lines_of x.main row₁) ≤ x.main = omega (arith, lines-length x.main row₁) in
            sym (lines-take total row₂ x.main held₂.base_inside)
            ∙ ap (take x.main) (s.started.grown.held total f).0
            ∙ take-drained_all g (last_verdicts g) (length (lines_of x.main row₁)) (runtime_starts g (last_verdicts g) (helper_union g (has g 0 (lines_of x.main row₁)))) (lines_of x.main row₁) x.main n
            ∙ take_all x.main (lines_of x.main row₁) k

        pub stages-done : StagesEnd g Whole marks₂ row₂ plan₂ (Ok (record { users = x.users; rounds = x.rounds; taken = x.taken; main = x.main; total = total }))
        unfolding staged
        stages-done =
            stages_held g Whole marks₂ row₂ plan₂ (record { users = x.users; rounds = x.rounds; taken = x.taken; main = x.main; total = total })
            (record {
              main_lines = front ∙ main_is;
              all_lines = (s.started.grown.held total f).0 ∙ staged-is;
              held = held₂;
              rounds_are = rounds-is;
              taken_are = taken_is;
              taken_inside = taken_in;
              leaves = record {
                planned = planned_kept g plan₁ plan₂ s.others leaves₁.planned;
                live_are = live_kept g plan₁ plan₂ s.others ∙ leaves₁.live_are;
                dead_are = dead_kept g plan₁ plan₂ s.others ∙ leaves₁.dead_are;
              };
              words = λ w k h. ((s.words k h).0 ∙ ap (λ ls. helper_word g (has g 0 ls) k) main_is, (s.words k h).1);
            })
