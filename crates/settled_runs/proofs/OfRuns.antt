-- T16 over the operation: for every run that is not refused.
use Prim.Native.Nat.{ℕ, suc, ◌+◌, ◌<◌}
use mathlib.Core.Path.{◌≡◌, ap, ◌∙◌, sym, subst}
use mathlib.Core.Logic.{◌↔◌}
use mathlib.Core.Bool.{Bool, true, false}
use mathlib.Core.List.{List}
use native.Mathlib.Omega.{arith}
use Rattle.determine_side_effects.specs.graph_crate.Check.{Graph, graph_in}
use Rattle.determine_side_effects.specs.graph_crate.Loaded.{Loaded}
use Rattle.determine_side_effects.specs.graph_access_crate.Words.{option}
use Rattle.determine_side_effects.specs.Effects.{last_verdicts}
use Rattle.cycles.proofs.Members.{never_both}
use Rattle.dynamic_entries.specs.Tries.{Progress}
use Rattle.tree_shaking.specs.Rounds.{round, keeps_module, has_moved, goes_on, Ended, rounds_fuel, rounds_from, begun, main_part}
use Rattle.run_rows.specs.Run.{Run, with_runtime, run_of}
use Rattle.closed_choices.proofs.Accepting.{accepted_tabled}
use Rattle.other_options.specs.Options.{with_options, SameButBit}
use Rattle.run_choices.proofs.Further.{Further, try_dead}
use Rattle.run_choices.proofs.Done.{run_done}
use Rattle.settled_runs.specs.Until.{Idle, NoModule, rounds_made, Until}
use Rattle.settled_runs.specs.Order.{SameButOrder, SameCycles, SameChoice}
use Rattle.settled_runs.specs.Operation.{Settles, EverySettles, EveryUntil, FuelNever, Begins, EveryBegins, EveryOrder}
use Rattle.settled_runs.proofs.Tests.{goes_with, goes_without, goes_moves}
use Rattle.settled_runs.proofs.Ending.{all-course, all-fuel-never, made_next, begun_within}
use Rattle.settled_runs.proofs.Smallest.{all_settled, main_smallest, others_dead}
use Rattle.settled_runs.proofs.Idling.{below_settled, idle-exactly, module-exactly}
use Rattle.settled_runs.proofs.Beginning.{further_with}
use Rattle.settled_runs.proofs.Order.{facts-same, live_same}

module _ {numbers tables : List ℕ} (t : Loaded numbers tables) where
  abbrev g : Graph
  g = graph_in numbers

  abbrev v : List ℕ
  v = last_verdicts (graph_in numbers)

  settles : option g 7 ≡ true → Settles g (run_of g)
  unfolding run_of with_runtime
  settles on =
      record {
        smallest = main_smallest t on;
        others_dead = λ e h d o. try_dead g v e (main_part g v).end o (others_dead t on e h d o);
      }

  -- the rounds end at the first that the test refuses, and the test refuses those that end them
  module _ (test : Progress → Progress → Bool) (goes : goes_on g ≡ test) (Ends : Progress → Progress → Type 0)
      (exactly : (n : ℕ) → (test (rounds_made g n).end (rounds_made g (suc n)).end ≡ false) ↔ Ends (rounds_made g n).end (rounds_made g (suc n)).end) where
    until : Until g Ends (run_of g)
    unfolding run_of with_runtime main_part rounds_made
    until =
        let c = all-course t (λ f. Unit {0}) (λ m. Unit {0}) (all_settled g) (goes_on g) (goes_moves g) in
        record {
          before = c.before;
          rounds_are = omega (arith, c.rounds_are);
          lines_are = ap (λ (p : Progress). p.lines) c.end_is;
          live_are = ap (λ (p : Progress). p.live) c.end_is;
          ends = (exactly c.before).0 (sym (λ i. goes i (rounds_made g c.before).end (rounds_made g (suc c.before)).end) ∙ c.says-no);
          others_not = λ n h e.
              never_both (c.says-yes n h) ((λ i. goes i (rounds_made g n).end (rounds_made g (suc n)).end) ∙ (exactly n).1 e);
        }

  -- each of these rounds is one from what a run comes to
  module _ (n : ℕ) where
    abbrev last : Ended
    last = rounds_made g n

    next-is : (rounds_made g (suc n)).end ≡ round g v last.taken last.end
    unfolding rounds_made
    next-is = made_next t (λ f. Unit {0}) (λ m. m < (graph_in numbers).header.modules) (below_settled t) n 0 0 (begun g v)

    idle-here : (has_moved g (rounds_made g n).end (rounds_made g (suc n)).end ≡ false) ↔ Idle (rounds_made g n).end (rounds_made g (suc n)).end
    unfolding rounds_made
    idle-here =
        subst (λ (q : Progress). (has_moved g last.end q ≡ false) ↔ Idle last.end q) (sym next-is)
        (idle-exactly t last.taken last.end (begun_within t (λ f. Unit {0}) (λ m. m < (graph_in numbers).header.modules) (below_settled t) n).0)

    module_here : (keeps_module (rounds_made g n).end (rounds_made g (suc n)).end ≡ false) ↔ NoModule (rounds_made g n).end (rounds_made g (suc n)).end
    unfolding rounds_made
    module_here =
        subst (λ (q : Progress). (keeps_module last.end q ≡ false) ↔ NoModule last.end q) (sym next-is)
        (module-exactly t last.taken last.end (begun_within t (λ f. Unit {0}) (λ m. m < (graph_in numbers).header.modules) (below_settled t) n).0)

  until_idle : option g 7 ≡ true → Until g Idle (run_of g)
  until_idle o = until (has_moved g) (goes_with g o) Idle idle-here

  until_no_module : option g 7 ≡ false → Until g NoModule (run_of g)
  until_no_module o = until keeps_module (goes_without g o) NoModule module_here

  fuel : (more : ℕ) → rounds_from g v (goes_on g) (rounds_fuel g + more) 0 0 (begun g v) ≡ main_part g v
  unfolding main_part
  fuel more = all-fuel-never t (λ f. Unit {0}) (λ m. Unit {0}) (all_settled g) (goes_on g) (goes_moves g) more

  -- so the main part without the option is any number of rounds that suffices, by its test
  pub rounds_without : option (graph_in numbers) 7 ≡ false → (more : ℕ)
      → rounds_from (graph_in numbers) (last_verdicts (graph_in numbers)) keeps_module (rounds_fuel (graph_in numbers) + more) 0 0 (begun (graph_in numbers) (last_verdicts (graph_in numbers)))
      ≡ main_part (graph_in numbers) (last_verdicts (graph_in numbers))
  rounds_without o more =
      ap (λ (test : Progress → Progress → Bool). rounds_from g v test (rounds_fuel g + more) 0 0 (begun g v)) (sym (goes_without g o)) ∙ fuel more

-- the run over a graph that differs in the bit alone
begins : (g h : Graph) → SameButBit 7 g h → option g 7 ≡ false → option h 7 ≡ true → Begins (run_of g) (run_of h)
unfolding run_of with_runtime
begins g h b off on =
    let o = h.header.options in
    let same : (j : ℕ) → j < 6 → option (with_options g o) j ≡ option g j = λ j u. subst (λ (x : Graph). option x j ≡ option g j) b.rest_is (b.same_bits j (λ e. omega (arith, u, e))) in
    let on-there : option (with_options g o) 7 ≡ true = subst (λ (x : Graph). option x 7 ≡ true) b.rest_is on in
    let f : Further (main_part g (last_verdicts g)).end (main_part h (last_verdicts h)).end =
    subst (λ (x : Graph). Further (main_part g (last_verdicts g)).end (main_part x (last_verdicts x)).end) (sym b.rest_is) (further_with g o same off on-there) in
    record { rest = f.lines_go.rest; lines_are = f.lines_go.is; live_stays = f.live_stays }

-- what holds of the run of accepted numbers holds of each that is not refused
pub every_settles : EverySettles
every_settles numbers room g r e o =
    let d = run_done numbers room g r e in
    let t = (accepted_tabled numbers d.accepted).holds in
    let on : option (graph_in numbers) 7 ≡ true = ap (λ (x : Graph). option x 7) (sym d.graph_is) ∙ o in
    subst (λ (x : Graph). Settles x r) (sym d.graph_is) (subst (λ (x : Run). Settles (graph_in numbers) x) (sym d.run_is) (settles t on))

pub every_until : EveryUntil
every_until numbers room g r e =
    let d = run_done numbers room g r e in
    let t = (accepted_tabled numbers d.accepted).holds in
    subst (λ (x : Graph). (option x 7 ≡ true → Until x Idle r) × (option x 7 ≡ false → Until x NoModule r)) (sym d.graph_is)
    (subst (λ (x : Run). (option (graph_in numbers) 7 ≡ true → Until (graph_in numbers) Idle x) × (option (graph_in numbers) 7 ≡ false → Until (graph_in numbers) NoModule x)) (sym d.run_is)
    (until_idle t, until_no_module t))

pub fuel_never : FuelNever
fuel_never numbers ok more = fuel (accepted_tabled numbers ok).holds more

pub every_begins : EveryBegins
every_begins numbers others room space g h r s e f b off on =
    let c = run_done numbers room g r e in
    let d = run_done others space h s f in
    let r-is : r ≡ run_of g = c.run_is ∙ ap run_of (sym c.graph_is) in
    let s-is : s ≡ run_of h = d.run_is ∙ ap run_of (sym d.graph_is) in
    subst (λ (x : Run). Begins x s) (sym r-is) (subst (λ (x : Run). Begins (run_of g) x) (sym s-is) (begins g h b off on))

-- two graphs in another order
same_choice : {numbers tables others places : List ℕ} → Loaded numbers tables → Loaded others places → option (graph_in numbers) 7 ≡ true → SameButOrder (graph_in numbers) (graph_in others)
    → SameCycles (graph_in numbers) (graph_in others) → SameChoice (run_of (graph_in numbers)) (run_of (graph_in others))
unfolding run_of with_runtime
same_choice t u on o c = record { same_facts = facts-same t u on o c; same_live = live_same t u on o c }

pub every_order : EveryOrder
every_order numbers others room space g h r s e f =
    let a = run_done numbers room g r e in
    let b = run_done others space h s f in
    subst (λ (x : Graph). option x 7 ≡ true → SameButOrder x h → SameCycles x h → SameChoice r s) (sym a.graph_is)
    (subst (λ (x : Graph). option (graph_in numbers) 7 ≡ true → SameButOrder (graph_in numbers) x → SameCycles (graph_in numbers) x → SameChoice r s) (sym b.graph_is)
    (λ on o c.
    subst (λ (x : Run). SameChoice x s) (sym a.run_is)
    (subst (λ (x : Run). SameChoice (run_of (graph_in numbers)) x) (sym b.run_is) (same_choice (accepted_tabled numbers a.accepted).holds (accepted_tabled others b.accepted).holds on o c))))
