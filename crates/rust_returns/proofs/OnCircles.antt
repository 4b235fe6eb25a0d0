-- Where the Rust returns, every use of the run's lines was passed by a drain that returned, so it ends: there is no circle among them.
use Prim.Native.Nat.{ℕ}
use mathlib.Core.Path.{◌≡◌, refl, sym, subst}
use mathlib.Core.Logic.{◌⊎◌, inl, inr}
use mathlib.Core.List.{List, [], ◌∷◌, ◌++◌}
use lib.ListN.{length}
use Rattle.determine_side_effects.specs.graph_crate.Check.{Graph, graph_in, check_of, answer_of}
use Rattle.determine_side_effects.specs.graph_access_crate.Names.{resolved_exports}
use Rattle.determine_side_effects.specs.graph_access_crate.Words.{flag, tabulate, module_of}
use Rattle.determine_side_effects.specs.facts_crate.declared.Fact.{Fact}
use Rattle.determine_side_effects.specs.facts_crate.declared.Fact.TheVariants.{Module, Statement, Use, CheckedUse, Forward, Bailout}
use Rattle.determine_side_effects.specs.facts_crate.Facts.{module_fact, use_fact}
use Rattle.determine_side_effects.specs.Effects.{last_verdicts}
use Rattle.keep_record.specs.declared.Line.{Line}
use Rattle.keep_record.specs.Lines.{elem}
use Rattle.dynamic_entries.specs.Sorted.{on_cycle, sorted_entries}
use Rattle.tree_shaking.specs.Rounds.{main_part}
use Rattle.run_rows.specs.Run.{run_of}
use Rattle.closed_choices.specs.Choice.{Choice, HasLine}
use Rattle.closed_choices.proofs.Every.{Every, every_left, every_at, every_by}
use Rattle.rust_values.specs.Values.{Pair, In, filter}
use Rattle.rust_effects.proofs.SameVerdicts.{rust_effects}
use Rattle.rust_engine.specs.Context.{empty, new_context}
use Rattle.rust_engine.specs.Engine.{listed}
use Rattle.rust_engine.specs.EntryPoints.{InRows, SmallestOver, Exactly}
use Rattle.rust_engine.proofs.Theorem.{closed_over}
use Rattle.rust_engine.proofs.Nothing.{closed_nothing}
use Rattle.rust_order.specs.DynamicEntries.{SortDynamicEntriesByTopologicalOrder}
use Rattle.rust_order.proofs.SameOrder.{rust_order}
use Rattle.rust_order.proofs.Exists.{rust_order_exists}
use Rattle.rust_run.specs.Passes.{IncludeRuntimeSymbol, collect_depended_runtime_helpers}
use Rattle.rust_run.specs.IncludeStatements.{Outcome, IncludeStatements, Returns, rounding, IncludesUserDefined, Rounds}
use Rattle.rust_run.proofs.Stage.{HasStage}
use Rattle.rust_run.proofs.Grouping.{users_same, dynamics_same}
use Rattle.rust_run.proofs.Starting.{Onward}
use Rattle.rust_run.proofs.Level.{Level, level-exactly}
use Rattle.rust_run.proofs.Main.{RoundsEnd, main-beside}
use Rattle.rust_run.proofs.Runtime.{base-is, runtime_onward, runtime-exactly}
use Rattle.rust_run.specs.Agreement.{AsRust, Agrees}
use Rattle.rust_run.proofs.OfRuns as agree
use Rattle.rust_returns.specs.Following.{Follows}
use Rattle.rust_returns.specs.Circle.{GivesUse, CircleIn, Circle, HasChoices, ReturnsBy, NeverOnCircles, ReturnsExactly, ReturnsAndAgrees}
use Rattle.rust_returns.proofs.Ending.{Ends, ends}
use Rattle.rust_returns.proofs.Passing.{Safe, passed_ends, Fine, reached_fine, safe_closed}
use Rattle.rust_returns.proofs.OfRuns.{main, word, fs, all, lines_are, main_closed, stage, of_stage, returns_unless_circles}
use Rattle.std.specs.Prelude.{Ok}

both_every : (P Q : Fact → Type 0) (xs : List Fact) → Every P xs → Every Q xs → Every (λ f. P f × Q f) xs
both_every P Q [] a b = tt
both_every P Q (x ∷ xs) a b = ((a.0, b.0), both_every P Q xs a.1 b.1)

-- a use of a circle does not end
no_end : (g : Graph) (C : Choice) (k : CircleIn g C) (s x : ℕ) → Ends g s x → (p : Pair) → p.first ≡ s → p.second ≡ x → In p k.uses → ⊥
no_end g C k s x (ends _ _ on) p a b h =
    let q = k.leads_on p h in
    no_end g C k q.0.first q.0.second (on q.0.first q.0.second (subst (λ y. GivesUse g s y q.0.first q.0.second) b
    (subst (λ t. GivesUse g t p.second q.0.first q.0.second) a q.2))) q.0 refl refl q.1

module _ (numbers : List ℕ) (ok : answer_of (check_of numbers) ≡ Ok tt) where
  abbrev g : Graph
  g = graph_in numbers

  abbrev v : List ℕ
  v = last_verdicts (graph_in numbers)

  module _ (off : AsRust (graph_in numbers)) (o : Outcome) (x : IncludeStatements (graph_in numbers) (last_verdicts (graph_in numbers)) o) where
    order : (x.sorted ≡ sorted_entries g) × ((m : ℕ) → elem m x.cycled ≡ on_cycle g m)
    order = rust_order numbers ok x.sorted x.cycled (subst (λ (l : List ℕ). SortDynamicEntriesByTopologicalOrder g l x.sorted x.cycled) (dynamics_same numbers ok) x.sorts)

    e : RoundsEnd numbers ok o.rounds (rounding o.main o.included o.dead) 0 (main_part g v)
    e =
        main-beside numbers ok x.cycled order.1 off x.users o.rounds (rounding o.main o.included o.dead)
        (subst (λ (l : List ℕ). IncludesUserDefined g v l empty x.users) (users_same numbers ok) x.includes_users)
        (subst (λ (l : List ℕ). Rounds g v x.cycled l o.rounds (rounding x.users [] []) (rounding o.main o.included o.dead)) order.0 x.makes_rounds)

    level : Level numbers ok o.main (main numbers ok) e.taken
    level = e.beside.level

    -- the main part
    fine : Fine g empty level.ss o.main
    fine = reached_fine g empty level.ss e.taken o.main level.reached

    main-safe : (f : Fact) → HasLine (main numbers ok) f → Safe g f
    main-safe f h =
        let D : Choice = λ f. HasLine (main numbers ok) f × Safe g f in
        let a = level-exactly numbers ok level in
        let k = safe_closed g empty o.main (HasLine (main numbers ok)) (closed_over g (InRows empty) (HasLine (main numbers ok)) (main_closed numbers ok))
        (λ m q. (a.modules_are m).1 q) (λ m i q. (a.statements_are m i).1 q) fine.followed in
        (level.inside D (closed_nothing g D k) (both_every (HasLine (main numbers ok)) (Safe g) level.ss level.holds fine.starts-safe) f h).1

    -- the runtime stage
    includes : IncludeRuntimeSymbol g v (word numbers ok) (new_context o.main) o.context
    includes =
        subst (λ w. IncludeRuntimeSymbol g v w (new_context o.main) o.context) (agree.union_is numbers ok o e)
        (subst (λ (f : ℕ → ℕ). IncludeRuntimeSymbol g v (collect_depended_runtime_helpers g o.main f) (new_context o.main) o.context) x.helpers_are x.includes_runtime)

    abbrev C : Choice
    C = HasStage (length (main numbers ok)) (all numbers ok)

    exactly : Exactly g o.main C [] o.context
    exactly = runtime-exactly numbers ok level (word numbers ok) o.context includes

    second : SmallestOver g (InRows o.main) (fs numbers ok) C
    second = stage numbers ok (InRows o.main) (base-is numbers ok level)

    onward : Onward g v o.main [] [] o.context (fs numbers ok)
    onward = runtime_onward g v o.main (word numbers ok) o.context includes

    fine-then : Fine g o.main (onward.gs ++ []) o.context
    fine-then = reached_fine g o.main (onward.gs ++ []) [] o.context onward.reached

    base-safe : (f : Fact) → InRows o.main f → Safe g f
    base-safe (Module m) q = tt
    base-safe (Statement m i) q = tt
    base-safe (Use s y) q = absurd q
    base-safe (CheckedUse s y) q = absurd q
    base-safe (Forward s) q = tt
    base-safe (Bailout m) q = tt

    stage-safe : (f : Fact) → C f → Safe g f
    stage-safe f h =
        let D : Choice = λ f. C f × Safe g f in
        let k = safe_closed g o.main o.context C second.closed (λ m q. (exactly.modules_are m).1 q) (λ m i q. (exactly.statements_are m i).1 q) fine-then.followed in
        let starts = both_every C (Safe g) (fs numbers ok) (every_by C (fs numbers ok) (module_fact 0) second.holds_starts)
        (onward.alike.there (Safe g) (every_left (Safe g) onward.gs [] fine-then.starts-safe)) in
        (second.inside_each D (λ f q. (second.holds_base f q, base-safe f q)) (every_at D (fs numbers ok) (module_fact 0) starts) k f h).1

    all_end : (s y : ℕ) → HasLine (all numbers ok) (use_fact s y) → Ends g s y
    all_end s y h = go (of_stage numbers ok (use_fact s y) h)
      where
        go : HasLine (main numbers ok) (use_fact s y) ⊎ C (use_fact s y) → Ends g s y
        go (inl q) = passed_ends g s y (main-safe (use_fact s y) q)
        go (inr q) = passed_ends g s y (stage-safe (use_fact s y) q)

    pub no-circle : Circle (graph_in numbers) → ⊥
    no-circle k =
        let p = k.one in
        no_end g (HasLine (run_of g).lines) k p.first p.second
        (all_end p.first p.second (subst (λ (l : List Line). HasLine l (use_fact p.first p.second)) (lines_are numbers ok) (k.chosen p k.is_in))) p refl refl k.is_in

pub never_on_circles : NeverOnCircles
never_on_circles numbers ok off k o x =
    let w = rust_effects (graph_in numbers) o.verdicts x.side_effects in
    no-circle numbers ok off o (subst (λ (l : List ℕ). IncludeStatements (graph_in numbers) l o) w x.include_statements) k

-- the lists' own orders, and the sorted entries of the run
pub has_choices : HasChoices
has_choices numbers ok =
    let z = rust_order_exists numbers ok in
    record {
      at_pop = λ c i. listed;
      at_pop_any = λ c i. record { from_imports = λ xs y h. h; back_imports = λ xs y h. h; from_exports = λ xs y h. h; back_exports = λ xs y h. h };
      exports = λ c m. resolved_exports (module_of (graph_in numbers) m);
      exports_any = λ c m. record { from = λ y h. h; back = λ y h. h };
      bailouts = λ c ms. ms;
      bailouts_any = λ c ms. record { from = λ y h. h; back = λ y h. h };
      helpers = λ w. filter (λ h. flag h w) (tabulate (λ h. h) 0 (graph_in numbers).header.helpers);
      helpers_any = λ w. record { from = λ y h. h; back = λ y h. h };
      sorted = sorted_entries (graph_in numbers);
      cycled = z.0;
      sorts =
          subst (λ (l : List ℕ). SortDynamicEntriesByTopologicalOrder (graph_in numbers) l (sorted_entries (graph_in numbers)) z.0) (sym (dynamics_same numbers ok)) z.1;
    }

pub returns_exactly : ReturnsExactly
returns_exactly numbers ok off = (λ r k. never_on_circles numbers ok off k r.0 r.1, λ n. go n (returns_unless_circles numbers ok off))
  where
    go : (Circle (graph_in numbers) → ⊥) → ReturnsBy (graph_in numbers) ⊎ Circle (graph_in numbers) → (o : Outcome) × Returns (graph_in numbers) o
    go n (inl r) = let z = r (has_choices numbers ok) in (z.0, z.1)
    go n (inr k) = absurd (n k)

pub returns_and_agrees : ReturnsAndAgrees
returns_and_agrees numbers ok off n ch = go (returns_unless_circles numbers ok off)
  where
    go : ReturnsBy (graph_in numbers) ⊎ Circle (graph_in numbers)
        → (o : Outcome) × (r : Returns (graph_in numbers) o) × Follows (graph_in numbers) ch o r × Agrees (graph_in numbers) o (run_of (graph_in numbers))
    go (inl r) = let z = r ch in (z.0, z.1, z.2, agree.rust_agrees numbers ok off z.0 z.1)
    go (inr k) = absurd (n k)
