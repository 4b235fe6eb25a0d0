-- On every accepted graph the Rust returns, or there is a circle among the lines of its run.
use Prim.Native.Nat.{ℕ, ◌-◌, ◌<◌}
use mathlib.Core.Path.{◌≡◌, refl, ◌∙◌, sym, subst}
use mathlib.Core.Logic.{◌⊎◌, inl, inr, ◌↔◌}
use mathlib.Core.Bool.{true, false, false≢true}
use mathlib.Core.List.{List, [], map}
use native.Mathlib.Omega.{arith}
use native.Mathlib.Decide.{dec_lt}
use lib.ListN.{length}
use Rattle.determine_side_effects.specs.graph_crate.Check.{Graph, graph_in, check_of, answer_of}
use Rattle.determine_side_effects.specs.facts_crate.declared.Fact.{Fact}
use Rattle.determine_side_effects.specs.facts_crate.Facts.{module_fact, statement_fact, use_fact, Good}
use Rattle.determine_side_effects.specs.Effects.{last_verdicts}
use Rattle.keep_record.specs.declared.Line.{Line}
use Rattle.keep_record.specs.Lines.{elem, has, stays}
use Rattle.worklist.specs.Drain.{drained_all}
use Rattle.entry_order.specs.Order.{user_entries}
use Rattle.dynamic_entries.specs.Sorted.{on_cycle, sorted_entries}
use Rattle.dynamic_entries.specs.Tries.{starting}
use Rattle.passes.specs.Helpers.{helper_union, runtime_starts}
use Rattle.tree_shaking.specs.Rounds.{users_starts, begun, main_part, runtime_stage}
use Rattle.tree_shaking.specs.Own.{run_starts}
use Rattle.run_rows.specs.Run.{with_runtime, run_of}
use Rattle.closed_choices.specs.Choice.{Choice, Closed, Smallest, HasLine}
use Rattle.closed_choices.proofs.Every.{Every, every_by}
use Rattle.closed_choices.proofs.Smallest.{drain_smallest}
use Rattle.run_choices.proofs.GoodStarts.{users_starts_good, runtime_starts_good}
use Rattle.run_choices.proofs.Growing.{run_starts_good, main_lines, main_whole}
use Rattle.rust_effects.proofs.Returns.{effects_return}
use Rattle.rust_engine.specs.Context.{Context, empty, new_context}
use Rattle.rust_engine.specs.EntryPoints.{InRows, SmallestOver}
use Rattle.rust_engine.proofs.Theorem.{Over, closed_over}
use Rattle.rust_order.specs.DynamicEntries.{SortDynamicEntriesByTopologicalOrder}
use Rattle.rust_order.proofs.SameOrder.{rust_order}
use Rattle.rust_run.specs.Passes.{IncludeRuntimeSymbol, collect_depended_runtime_helpers}
use Rattle.rust_run.specs.IncludeStatements.{Outcome, Returns, rounding, Rounds, live_entries, depended_runtime_helper, IncludesUserDefined, user_defined_entries}
use Rattle.rust_run.specs.Agreement.{AsRust}
use Rattle.rust_run.proofs.Stage.{HasStage, stage_prefix, stage_smallest}
use Rattle.rust_run.proofs.Grouping.{users_same, dynamics_same}
use Rattle.rust_run.proofs.Helping.{union_same}
use Rattle.rust_run.proofs.Level.{Level, loaded, level_first, starts-hold}
use Rattle.rust_run.proofs.Tried.{statement_bit}
use Rattle.rust_run.proofs.Round.{prefix_line}
use Rattle.rust_run.proofs.Main.{RoundsEnd, main-beside}
use Rattle.rust_run.proofs.Runtime.{module_bit, base-is}
use Rattle.rust_returns.specs.Following.{Choosing, UsersBy, RoundsBy, RuntimeBy, Follows}
use Rattle.rust_returns.specs.Circle.{GivesUse, CircleIn, Circle, ReturnsBy, ReturnsUnlessCircles}
use Rattle.rust_returns.proofs.Ending.{Ends}
use Rattle.rust_returns.proofs.Uses.{Place, placed}
use Rattle.rust_returns.proofs.Searching.{search, uses_of, uses_lined, lined_uses, lined_in}
use Rattle.rust_returns.proofs.Loops as loops
use Rattle.rust_returns.proofs.Loops.{Tame, Ready}
use Rattle.rust_returns.proofs.MainPart.{main_over, Made, made}
use Rattle.std.specs.Prelude.{Ok}

module _ (numbers : List ℕ) (ok : answer_of (check_of numbers) ≡ Ok tt) where
  abbrev g : Graph
  g = graph_in numbers

  abbrev v : List ℕ
  v = last_verdicts (graph_in numbers)

  abbrev pub main : List Line
  main = (main_part (graph_in numbers) (last_verdicts (graph_in numbers))).end.lines

  abbrev pub word : ℕ
  word = helper_union (graph_in numbers) (has (graph_in numbers) 0 main)

  abbrev pub fs : List Fact
  fs = runtime_starts (graph_in numbers) (last_verdicts (graph_in numbers)) word

  abbrev pub all : List Line
  all = drained_all (graph_in numbers) (last_verdicts (graph_in numbers)) (length main) fs main

  pub lines_are : (run_of (graph_in numbers)).lines ≡ all
  unfolding run_of with_runtime runtime_stage
  lines_are = refl

  pub main_in : (f : Fact) → HasLine main f → HasLine all f
  main_in f h = prefix_line main all (stage_prefix g v (length main) fs main) f h

  pub main_closed : Closed (graph_in numbers) (HasLine main)
  main_closed =
      (subst (λ (l : List Line). Smallest g (run_starts g v) (HasLine l)) (sym (main_lines (loaded numbers ok)))
      (drain_smallest (loaded numbers ok) (run_starts g v) (run_starts_good (loaded numbers ok)))).closed

  fs_good : Every (Good g) fs
  fs_good = runtime_starts_good (loaded numbers ok) v word

  -- the second stage, over any base that is the modules and statements of the first
  pub stage : (B : Choice) → ((f : Fact) → B f ↔ (HasLine main f × (stays f ≡ true))) → SmallestOver (graph_in numbers) B fs (HasStage (length main) all)
  stage B is = stage_smallest (loaded numbers ok) main (main_whole (loaded numbers ok)) fs fs_good B is

  pub stage_line : (f : Fact) → HasStage (length main) all f → HasLine all f
  stage_line f h = record { number = h.number; inside = h.inside; is = h.is }

  -- a line is of the first stage or of the second
  pub of_stage : (f : Fact) → HasLine all f → HasLine main f ⊎ HasStage (length main) all f
  of_stage f h = go (dec_lt h.number (length main))
    where
      go : Dec (h.number < length main) → HasLine main f ⊎ HasStage (length main) all f
      go (yes l) = inl (record { number = h.number; inside = l; is = sym ((stage_prefix g v (length main) fs main).same h.number l) ∙ h.is })
      go (no l) = inr (record { number = h.number; inside = h.inside; is = h.is; counts = inl (omega (arith, l)) })

  -- the uses that uses of the run give have lines
  onward : (s x t y : ℕ) → HasLine all (use_fact s x) → GivesUse g s x t y → HasLine all (use_fact t y)
  onward s x t y h given = go (of_stage (use_fact s x) h)
    where
      k : Place g s x t y
      k = placed g s x t y given

      staying : Fact → Type 0
      staying f = HasLine main f × (stays f ≡ true)

      go : HasLine main (use_fact s x) ⊎ HasStage (length main) all (use_fact s x) → HasLine all (use_fact t y)
      go (inl q) = main_in (use_fact t y) (subst (λ f. HasLine main f) k.is (main_closed.by_K2_to_K14 (use_fact s x) k.place q k.inside))
      go (inr q) =
          stage_line (use_fact t y)
          (subst (λ f. HasStage (length main) all f) k.is ((stage staying (λ f. (λ z. z, λ z. z))).closed.by_K2_to_K14 (use_fact s x) k.place q (λ z. uses-go z.1) k.inside))
        where
          uses-go : stays (use_fact s x) ≡ true → ⊥
          uses-go e = false≢true e

  -- where each use of the lines ends
  module _ (off : AsRust (graph_in numbers)) (all_end : (s x : ℕ) → HasLine all (use_fact s x) → Ends (graph_in numbers) s x) (ch : Choosing (graph_in numbers)) where
    main-tame : Tame g (main_over g)
    main-tame =
        record {
          closed = closed_over g (InRows empty) (HasLine main) main_closed;
          facts = map (λ l. l.fact) main;
          finite = λ f h. lined_in main f h;
          all_end = λ s x h. all_end s x (main_in (use_fact s x) h);
        }

    sorting : (ch.sorted ≡ sorted_entries g) × ((m : ℕ) → elem m ch.cycled ≡ on_cycle g m)
    sorting =
        rust_order numbers ok ch.sorted ch.cycled
        (subst (λ (l : List ℕ). SortDynamicEntriesByTopologicalOrder g l ch.sorted ch.cycled) (dynamics_same numbers ok) ch.sorts)

    cycles : (m : ℕ) → elem m ch.cycled ≡ on_cycle g m
    cycles = sorting.1

    users-lined : Every (HasLine (begun g v).lines) (users_starts g (user_entries g))
    unfolding begun starting
    users-lined = starts-hold numbers ok (level_first numbers ok) (users_starts g (user_entries g)) (users_starts_good (loaded numbers ok) (user_entries g))

    first : Made numbers ok main-tame ch ch.cycled cycles
    first = made numbers ok main-tame ch ch.cycled cycles off users-lined

    abbrev c : Context
    c = first.end.context

    ended : RoundsEnd numbers ok first.rounds first.end 0 (main_part g v)
    ended = main-beside numbers ok ch.cycled cycles off first.users first.rounds first.end first.includes_users first.makes_rounds

    level : Level numbers ok c main ended.taken
    level = ended.beside.level

    abbrev over : Over
    over = record { base = c; choice = HasStage (length main) all }

    second : SmallestOver g (InRows c) fs (HasStage (length main) all)
    second = stage (InRows c) (base-is numbers ok level)

    stage-tame : Tame g over
    stage-tame =
        record {
          closed = second.closed;
          facts = map (λ l. l.fact) all;
          finite = λ f h. lined_in all f (stage_line f h);
          all_end = λ s x h. all_end s x (stage_line (use_fact s x) h);
        }

    ready : Ready (loaded numbers ok) over stage-tame ch (new_context c)
    unfolding new_context
    ready =
        record {
          rows = record { has_modules = λ m h. h; has_statements = λ p h. h; has_used = λ s h. h; has_external = λ s h. h; has_reasons = λ p h. h };
          within =
              record {
                queued = λ i h. absurd h;
                of_modules = λ m h. second.holds_base (module_fact m) h;
                of_statements = λ m i h. second.holds_base (statement_fact m i) h;
                of_deferred = λ s h. absurd h;
                of_bailouts = λ m h. absurd h;
                of_used = λ s h. inl h;
                of_external = λ s h. inl h;
                of_json = λ m s h. absurd h;
                of_reasons = λ m b h. inl h;
              };
        }

    last : loops.Runtime (loaded numbers ok) over stage-tame ch word (new_context c)
    last = loops.runtime (loaded numbers ok) over stage-tame ch word (new_context c) ready (every_by (HasStage (length main) all) fs (module_fact 0) second.holds_starts)

    union_is : collect_depended_runtime_helpers g c (depended_runtime_helper g c) ≡ word
    union_is = union_same numbers ok c (has g 0 main) (module_bit numbers ok level) (statement_bit numbers ok level)

    abbrev outcome : Outcome
    outcome =
        record {
          verdicts = v;
          rounds = first.rounds;
          main = c;
          included = first.end.included;
          dead = first.end.dead;
          entries = live_entries g ch.sorted first.end.included;
          helpers = depended_runtime_helper g c;
          context = last.end;
        }

    with-users : (x : IncludesUserDefined g v (user_defined_entries g) empty first.users) × UsersBy g v ch (user_defined_entries g) empty first.users x
    with-users =
        subst (λ (l : List ℕ). (x : IncludesUserDefined g v l empty first.users) × UsersBy g v ch l empty first.users x) (sym (users_same numbers ok))
        (first.includes_users, first.users-follow)

    with-rounds : (x : Rounds g v ch.cycled ch.sorted first.rounds (rounding first.users [] []) first.end)
        × RoundsBy g v ch ch.cycled ch.sorted first.rounds (rounding first.users [] []) first.end x
    with-rounds =
        subst (λ (l : List ℕ). (x : Rounds g v ch.cycled l first.rounds (rounding first.users [] []) first.end)
        × RoundsBy g v ch ch.cycled l first.rounds (rounding first.users [] []) first.end x) (sym sorting.0) (first.makes_rounds, first.rounds-follow)

    abbrev RuntimeDone : ℕ → Type 0
    RuntimeDone w = (x : IncludeRuntimeSymbol g v w (new_context c) last.end) × RuntimeBy g v ch w (new_context c) last.end x

    with_runtime_lem : RuntimeDone (collect_depended_runtime_helpers g c (depended_runtime_helper g c))
    with_runtime_lem = subst (λ w. RuntimeDone w) (sym union_is) (last.done, last.follows)

    returned : Returns g outcome
    returned =
        record {
          side_effects = effects_return g;
          include_statements =
              record {
                users = first.users;
                cycled = ch.cycled;
                sorted = ch.sorted;
                includes_users = with-users.0;
                sorts = ch.sorts;
                makes_rounds = with-rounds.0;
                entries_are = refl;
                helpers_are = refl;
                includes_runtime = with_runtime_lem.0;
              };
        }

    pub it-returns : (o : Outcome) × (r : Returns (graph_in numbers) o) × Follows (graph_in numbers) ch o r
    unfolding returned
    it-returns = (outcome, returned, ((refl, refl), (with-users.1, (with-rounds.1, with_runtime_lem.1))))

  pub either_way : AsRust (graph_in numbers) → ReturnsBy (graph_in numbers) ⊎ Circle (graph_in numbers)
  either_way off = go (search g (HasLine all) onward (uses_of all) (λ p h. uses_lined all p h) (λ p h. lined_uses all p h))
    where
      go : ((s x : ℕ) → HasLine all (use_fact s x) → Ends g s x) ⊎ CircleIn g (HasLine all) → ReturnsBy g ⊎ Circle g
      go (inl e) = inl (λ ch. it-returns off e ch)
      go (inr c) = inr (subst (λ (l : List Line). CircleIn g (HasLine l)) (sym lines_are) c)

pub returns_unless_circles : ReturnsUnlessCircles
returns_unless_circles numbers ok off = either_way numbers ok off
