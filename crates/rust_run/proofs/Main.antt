-- The main part: as many rounds as the Rust makes, and its context beside the run's lines when it leaves the loop.
use Rattle.std.proofs.Common.{◌≡◌, ℕ, zero, suc, ◌+◌, ◌≤◌, true, false, List, [], length, sym, refl, ◌∙◌, subst, arith}
use mathlib.Core.Bool.{false≢true}
use Rattle.determine_side_effects.specs.graph_crate.Check.{Graph, graph_in, check_of, answer_of}
use Rattle.determine_side_effects.specs.Effects.{last_verdicts}
use Rattle.keep_record.specs.Lines.{elem}
use Rattle.entry_order.specs.Order.{user_entries}
use Rattle.dynamic_entries.specs.Sorted.{on_cycle, sorted_entries}
use Rattle.dynamic_entries.specs.Tries.{Progress, starting}
use Rattle.tree_shaking.specs.Rounds.{round, kept_module, keeps_module, Ended, ended_at, rounds_fuel, rounds_from, users_starts, no_one, begun, main_part}
use Rattle.closed_choices.proofs.Every.{Every}
use Rattle.run_choices.proofs.Sorted.{every_listed}
use Rattle.run_choices.proofs.Sorted as sorted
use Rattle.run_choices.proofs.GoodStarts.{users_starts_good}
use Rattle.settled_runs.proofs.OfRuns.{rounds_without}
use Rattle.rust_engine.specs.Context.{Context, empty, new_context}
use Rattle.rust_run.specs.IncludeStatements.{Rounding, rounding, Rounds, breaks, goes_on, IncludesUserDefined}
use Rattle.rust_run.specs.Agreement.{AsRust}
use Rattle.rust_run.proofs.Starting.{users_onward}
use Rattle.rust_run.proofs.Level.{loaded, level_first, level-onward}
use Rattle.rust_run.proofs.Tried.{Beside, Dynamic}
use Rattle.rust_run.proofs.Round.{AtRound, round-on, changed_is}
use Rattle.std.specs.Prelude.{Ok}

module _ (numbers : List ℕ) (ok : answer_of (check_of numbers) ≡ Ok tt) where
  abbrev g : Graph
  g = graph_in numbers

  abbrev v : List ℕ
  v = last_verdicts (graph_in numbers)

  -- the sorted entries are dynamic ones
  pub sorted_dynamic : Every (Dynamic numbers ok) (sorted_entries g)
  sorted_dynamic = every_listed (Dynamic numbers ok) (sorted_entries g) (λ e i. let d = sorted.sorted_dynamic g e i in record { inside = d.0; is_dynamic_lem = d.1 })

  -- n rounds of the Rust are n rounds of the run
  pub record RoundsEnd (n : ℕ) (z : Rounding) (made : ℕ) (e : Ended) : Type 1 where
    pub rounds_are : e.rounds ≡ made + n
    pub taken : List ℕ
    pub beside : Beside numbers ok z e.end taken

  pub stops : (fuel made k : ℕ) (p : Progress) → kept_module (length p.lines) (round g v k p).lines ≡ false → rounds_from g v keeps_module (suc fuel) made k p ≡ ended_at (made + 1) (length p.lines) (round g v k p)
  unfolding rounds_from keeps_module
  stops fuel made k p e = rw (e, rounds_from)

  pub goes : (fuel made k : ℕ) (p : Progress) → kept_module (length p.lines) (round g v k p).lines ≡ true
      → rounds_from g v keeps_module (suc fuel) made k p ≡ rounds_from g v keeps_module fuel (made + 1) (length p.lines) (round g v k p)
  unfolding rounds_from keeps_module
  goes fuel made k p e = rw (e, rounds_from)

  module _ (cycled : List ℕ) (cycles : (m : ℕ) → elem m cycled ≡ on_cycle g m) where
    rounds-beside : (n : ℕ) (r z : Rounding) → Rounds g v cycled (sorted_entries g) n r z → (p : Progress) (k made fuel : ℕ) → AtRound numbers ok r p k → n ≤ fuel → RoundsEnd n z made (rounds_from g v keeps_module fuel made k p)
    rounds-beside n r z (breaks _ _ x c) p k made zero a h = absurd (omega (arith, h))
    rounds-beside n r z (breaks _ _ x c) p k made (suc fuel) a h =
        let b = round-on numbers ok cycled cycles sorted_dynamic r z p k a x in
        subst (λ e. RoundsEnd 1 z made e) (sym (stops fuel made k p (changed_is numbers ok cycled cycles sorted_dynamic r z p k a x ∙ c))) (record { rounds_are = refl; taken = b.taken; beside = b.beside })
    rounds-beside n r z (goes_on n' _ y _ x c more) p k made zero a h = absurd (omega (arith, h))
    rounds-beside n r z (goes_on n' _ y _ x c more) p k made (suc fuel) a h =
        let b = round-on numbers ok cycled cycles sorted_dynamic r y p k a x in
        let m = rounds-beside n' y z more (round g v k p) (length p.lines) (made + 1) fuel b (omega (arith, h)) in
        subst (λ e. RoundsEnd (suc n') z made e) (sym (goes fuel made k p (changed_is numbers ok cycled cycles sorted_dynamic r y p k a x ∙ c)))
        (record { rounds_are = omega (arith, m.rounds_are); taken = m.taken; beside = m.beside })

    -- the user-defined entries
    pub at-first-round : (users : Context) → IncludesUserDefined g v (user_entries g) empty users → AtRound numbers ok (rounding users [] []) (begun g v) 0
    unfolding begun starting new_context no_one elem
    at-first-round users x =
        let l = level_first numbers ok in
        record {
          taken = [];
          beside =
              record {
                level = level-onward numbers ok l (users_starts g (user_entries g)) (users_starts_good (loaded numbers ok) (user_entries g)) users (users_onward g v empty (user_entries g) empty users x l.ss [] l.reached);
                live_same = λ m. refl;
                dead_same = λ m k. (λ q. absurd q, λ q. absurd (false≢true q.2));
              };
          exported = λ i m h u e. absurd (omega (arith, h));
        }

    pub main-beside : AsRust g → (users : Context) (n : ℕ) (z : Rounding) → IncludesUserDefined g v (user_entries g) empty users → Rounds g v cycled (sorted_entries g) n (rounding users [] []) z → RoundsEnd n z 0 (main_part g v)
    main-beside a users n z x y =
        subst (λ e. RoundsEnd n z 0 e) (rounds_without (loaded numbers ok) a.no_settling n)
        (rounds-beside n (rounding users [] []) z y (begun g v) 0 0 (rounds_fuel g + n) (at-first-round users x) (omega arith))
