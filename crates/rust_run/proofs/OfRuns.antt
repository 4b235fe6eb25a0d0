-- T11: where the Rust returns on an accepted graph, its outcome is the run's.
use Rattle.std.proofs.Common.{◌≡◌, ℕ, zero, suc, ◌+◌, ◌*◌, ◌<◌, ◌≤◌, Bool, true, false, ◌⊎◌, ◌↔◌, List, [], ◌∷◌, ◌++◌, length, sym, refl, ap, ◌∙◌, subst, inl, inr, arith}
use mathlib.Core.Bool.{false≢true}
use native.Mathlib.Decide.{dec_lt}
use Rattle.determine_side_effects.specs.graph_crate.Check.{Graph, graph_in, check_of, answer_of}
use Rattle.determine_side_effects.specs.graph_access_crate.Names.{owner, import_records}
use Rattle.determine_side_effects.specs.graph_access_crate.Words.{symbol_of, module_of}
use Rattle.determine_side_effects.specs.facts_crate.declared.Fact.{Fact}
use Rattle.determine_side_effects.specs.facts_crate.declared.Fact.TheVariants.{Module, Statement, Use, CheckedUse, Forward, Bailout}
use Rattle.determine_side_effects.specs.facts_crate.Facts.{module_fact, statement_fact}
use Rattle.determine_side_effects.specs.Effects.{last_verdicts}
use Rattle.keep_record.specs.declared.Line.{Line}
use Rattle.keep_record.specs.Lines.{elem, has, stays}
use Rattle.worklist.specs.Drain.{fact_at, drained_all}
use Rattle.answer_rows.specs.declared.Row.{Row}
use Rattle.answer_rows.specs.declared.Row.TheVariants.{Modules, Statements, Used, External, Json, NamespaceReason}
use Rattle.answer_rows.specs.Shown.{shows}
use Rattle.dynamic_entries.specs.Alive.{records_before}
use Rattle.dynamic_entries.specs.Sorted.{on_cycle, sorted_entries}
use Rattle.passes.specs.Helpers.{helper_word, helper_union, runtime_starts}
use Rattle.tree_shaking.specs.Rounds.{main_part, runtime_stage}
use Rattle.dead_records.specs.Dead.{is_dead_record}
use Rattle.run_rows.specs.Run.{Run, with_runtime, run_of}
use Rattle.run_parts.specs.Operation.{Rooms, outcome_of, done}
use Rattle.closed_choices.specs.Choice.{Choice, HasLine}
use Rattle.run_choices.proofs.Done.{run_done}
use Rattle.run_choices.proofs.OfRuns.{run_enough}
use Rattle.rust_values.specs.Values.{pair, In}
use Rattle.rust_effects.proofs.SameVerdicts.{rust_effects}
use Rattle.rust_engine.specs.Context.{Context, empty, new_context}
use Rattle.rust_engine.specs.EntryPoints.{InRows, Beyond, ShownBy, ReasonBy, Exactly}
use Rattle.rust_engine.proofs.Nothing.{not_in_empty}
use Rattle.rust_order.specs.DynamicEntries.{SortDynamicEntriesByTopologicalOrder}
use Rattle.rust_order.proofs.SameOrder.{rust_order}
use Rattle.rust_run.specs.Passes.{IncludeRuntimeSymbol, collect_depended_runtime_helpers}
use Rattle.rust_run.specs.IncludeStatements.{Outcome, IncludeStatements, Returns, rounding, live_entries, depended_runtime_helper, IncludesUserDefined, Rounds}
use Rattle.rust_run.specs.Agreement.{Agrees, AsRust, RustAgrees, EveryRunAgrees, RunAnswers}
use Rattle.rust_run.proofs.Stage.{HasStage, Prefix, stage_prefix}
use Rattle.rust_run.proofs.Grouping.{users_same, dynamics_same, final_same}
use Rattle.rust_run.proofs.Helping.{helpers_same, union_same}
use Rattle.rust_run.proofs.Dead.{record_dead}
use Rattle.rust_run.proofs.Level.{Level, level-exactly}
use Rattle.rust_run.proofs.Tried.{Beside, statement_bit}
use Rattle.rust_run.proofs.Round.{prefix_line}
use Rattle.rust_run.proofs.Main.{RoundsEnd, main-beside}
use Rattle.rust_run.proofs.Runtime.{module_bit, runtime-exactly}
use Rattle.std.specs.Prelude.{Ok}

-- with nothing in the base every fact is beyond it
beyond_nothing : (g : Graph) (C : Choice) (row : Row) (j : ℕ) → ShownBy g (Beyond (InRows empty) C) row j → ShownBy g C row j
beyond_nothing g C row j q = (q.0, q.1.0, q.2)

nothing_beyond : (g : Graph) (C : Choice) (row : Row) (j : ℕ) → ShownBy g C row j → ShownBy g (Beyond (InRows empty) C) row j
nothing_beyond g C row j q = (q.0, (q.1, not_in_empty q.0), q.2)

-- only uses show used and external symbols
uses_only : (g : Graph) (b : Context) (row : Row) → (row ≡ Used) ⊎ (row ≡ External) → (f : Fact) (j : ℕ) → elem j (shows g row f) ≡ true → InRows b f → ⊥
unfolding shows elem
uses_only g b row (inl e) (Module m) j h q = false≢true (rw (e) at h)
uses_only g b row (inl e) (Statement m i) j h q = false≢true (rw (e) at h)
uses_only g b row (inr e) (Module m) j h q = false≢true (rw (e) at h)
uses_only g b row (inr e) (Statement m i) j h q = false≢true (rw (e) at h)
uses_only g b row e (Use s x) j h q = q
uses_only g b row e (CheckedUse s x) j h q = q
uses_only g b row e (Forward s) j h q = q
uses_only g b row e (Bailout m) j h q = q

module _ (numbers : List ℕ) (ok : answer_of (check_of numbers) ≡ Ok tt) where
  abbrev g : Graph
  g = graph_in numbers

  abbrev v : List ℕ
  v = last_verdicts (graph_in numbers)

  abbrev main : List Line
  main = (main_part g v).end.lines

  abbrev all : List Line
  all = runtime_stage g v main (helper_union g (has g 0 main))

  module _ (o : Outcome) (e : RoundsEnd numbers ok o.rounds (rounding o.main o.included o.dead) 0 (main_part g v)) where
    level : Level numbers ok o.main main e.taken
    level = e.beside.level

    exactly : Exactly g empty (HasLine main) e.taken o.main
    exactly = level-exactly numbers ok level

    pub json_are : (m s : ℕ) → In (pair m s) o.main.json ↔ ((m ≡ owner (symbol_of g s)) × ShownBy g (HasLine main) Json s)
    json_are m s =
        let j = exactly.json_are m s in
        (λ q. let z = j.0 q in (z.0, beyond_nothing g (HasLine main) Json s z.1), λ q. j.1 (q.0, nothing_beyond g (HasLine main) Json s q.1))

    to-reason : (m b : ℕ) → ReasonBy g (Beyond (InRows empty) (HasLine main)) m b → ReasonBy g (HasLine main) m b
    to-reason m b (inl q) = inl (q.0, beyond_nothing g (HasLine main) NamespaceReason (8 * m) q.1)
    to-reason m b (inr q) = inr (q.0, beyond_nothing g (HasLine main) NamespaceReason (8 * m + 1) q.1)

    from-reason : (m b : ℕ) → ReasonBy g (HasLine main) m b → ReasonBy g (Beyond (InRows empty) (HasLine main)) m b
    from-reason m b (inl q) = inl (q.0, nothing_beyond g (HasLine main) NamespaceReason (8 * m) q.1)
    from-reason m b (inr q) = inr (q.0, nothing_beyond g (HasLine main) NamespaceReason (8 * m + 1) q.1)

    pub reasons_are : (m b : ℕ) → In (pair m b) o.main.reasons ↔ ReasonBy g (HasLine main) m b
    reasons_are m b = (λ q. there ((exactly.reasons_are m b).0 q), λ q. (exactly.reasons_are m b).1 (inr (from-reason m b q)))
      where
        there : In (pair m b) empty.reasons ⊎ ReasonBy g (Beyond (InRows empty) (HasLine main)) m b → ReasonBy g (HasLine main) m b
        there (inl q) = absurd q
        there (inr q) = to-reason m b q

    -- the rows of symbols after both stages
    module _ (d : Context) (x : Exactly g o.main (HasStage (length main) all) [] d) where
      grown : Prefix main all
      unfolding runtime_stage
      grown = stage_prefix g v (length main) (runtime_starts g v (helper_union g (has g 0 main))) main

      pub modules_are : (m : ℕ) → In m d.modules ↔ HasLine all (module_fact m)
      modules_are m = (
        λ q. (let h = (x.modules_are m).0 q in record { number = h.number; inside = h.inside; is = h.is }),
        λ h. (x.modules_are m).1 (record { number = h.number; inside = h.inside; is = h.is; counts = inr refl }),
      )

      pub statements_are : (m i : ℕ) → In (pair m i) d.statements ↔ HasLine all (statement_fact m i)
      statements_are m i = (
        λ q. (let h = (x.statements_are m i).0 q in record { number = h.number; inside = h.inside; is = h.is }),
        λ h. (x.statements_are m i).1 (record { number = h.number; inside = h.inside; is = h.is; counts = inr refl }),
      )

      -- what the first context shows, or a new fact, both are lines
      to-all : (row : Row) (j : ℕ) → ShownBy g (Beyond (InRows empty) (HasLine main)) row j ⊎ ShownBy g (Beyond (InRows o.main) (HasStage (length main) all)) row j → ShownBy g (HasLine all) row j
      to-all row j (inl q) = (q.0, prefix_line main all grown q.0 q.1.0, q.2)
      to-all row j (inr q) = (q.0, record { number = q.1.0.number; inside = q.1.0.inside; is = q.1.0.is }, q.2)

      from_all : (row : Row) → (row ≡ Used) ⊎ (row ≡ External) → (j : ℕ) → ShownBy g (HasLine all) row j
          → ShownBy g (Beyond (InRows empty) (HasLine main)) row j ⊎ ShownBy g (Beyond (InRows o.main) (HasStage (length main) all)) row j
      from_all row r j q = go (dec_lt q.1.number (length main))
        where
          f : Fact
          f = q.0

          go : Dec (q.1.number < length main) → ShownBy g (Beyond (InRows empty) (HasLine main)) row j ⊎ ShownBy g (Beyond (InRows o.main) (HasStage (length main) all)) row j
          go (yes l) = inl (f, (record { number = q.1.number; inside = l; is = sym (grown.same q.1.number l) ∙ q.1.is }, not_in_empty f), q.2)
          go (no l) = inr (f, (record { number = q.1.number; inside = q.1.inside; is = q.1.is; counts = inl (omega (arith, l)) }, uses_only g o.main row r f j q.2), q.2)

      -- a row that both contexts show
      symbols_are : (row : Row) → (row ≡ Used) ⊎ (row ≡ External) → (j : ℕ) (M D : Type 0) → M ↔ (⊥ ⊎ ShownBy g (Beyond (InRows empty) (HasLine main)) row j)
          → D ↔ (M ⊎ ShownBy g (Beyond (InRows o.main) (HasStage (length main) all)) row j) → D ↔ ShownBy g (HasLine all) row j
      symbols_are row r j M D a b = (λ q. to-all row j (there (b.0 q)), λ q. b.1 (back (from_all row r j q)))
        where
          first : ⊥ ⊎ ShownBy g (Beyond (InRows empty) (HasLine main)) row j → ShownBy g (Beyond (InRows empty) (HasLine main)) row j
          first (inl z) = absurd z
          first (inr z) = z

          there : M ⊎ ShownBy g (Beyond (InRows o.main) (HasStage (length main) all)) row j
              → ShownBy g (Beyond (InRows empty) (HasLine main)) row j ⊎ ShownBy g (Beyond (InRows o.main) (HasStage (length main) all)) row j
          there (inl q) = inl (first (a.0 q))
          there (inr q) = inr q

          back : ShownBy g (Beyond (InRows empty) (HasLine main)) row j ⊎ ShownBy g (Beyond (InRows o.main) (HasStage (length main) all)) row j
              → M ⊎ ShownBy g (Beyond (InRows o.main) (HasStage (length main) all)) row j
          back (inl q) = inl (a.1 (inr q))
          back (inr q) = inr q

      pub used_are : (s : ℕ) → In s d.used ↔ ShownBy g (HasLine all) Used s
      used_are s = symbols_are Used (inl refl) s (In s o.main.used) (In s d.used) (exactly.used_are s) (x.used_are s)

      pub external_are : (s : ℕ) → In s d.external ↔ ShownBy g (HasLine all) External s
      external_are s = symbols_are External (inr refl) s (In s o.main.external) (In s d.external) (exactly.external_are s) (x.external_are s)

    -- the helpers
    kept-modules : (m : ℕ) → m < g.header.modules → elem m o.main.modules ≡ has g 0 main (module_fact m)
    kept-modules m h = module_bit numbers ok level m h

    pub helpers_are : (m : ℕ) → m < g.header.modules → depended_runtime_helper g o.main m ≡ helper_word g (has g 0 main) m
    helpers_are m h = helpers_same numbers ok o.main (has g 0 main) kept-modules (statement_bit numbers ok level) m h

    pub union_is : collect_depended_runtime_helpers g o.main (depended_runtime_helper g o.main) ≡ helper_union g (has g 0 main)
    union_is = union_same numbers ok o.main (has g 0 main) kept-modules (statement_bit numbers ok level)

    pub final-exactly : IncludeRuntimeSymbol g v (collect_depended_runtime_helpers g o.main (depended_runtime_helper g o.main)) (new_context o.main) o.context
        → Exactly g o.main (HasStage (length main) all) [] o.context
    unfolding runtime_stage
    final-exactly x = runtime-exactly numbers ok level (helper_union g (has g 0 main)) o.context (subst (λ w. IncludeRuntimeSymbol g v w (new_context o.main) o.context) union_is x)

    -- the dead records
    pub dead_are : (m k : ℕ) → m < g.header.modules → k < length (import_records (module_of g m))
        → In (pair m k) o.dead ↔ (is_dead_record g (main_part g v).end.dead (records_before g.modules m + k) ≡ true)
    dead_are m k a b =
        let d = e.beside.dead_same m k in
        let r = record_dead numbers ok (main_part g v).end.dead m k a b in
        (λ q. r.1 (d.0 q), λ q. d.1 (r.0 q))

  -- all of it
  agrees : AsRust g → (o : Outcome) → o.verdicts ≡ v → IncludeStatements g v o → Agrees g o (run_of g)
  unfolding run_of with_runtime
  agrees a o w x =
      record {
        verdicts_are = w;
        rounds_are = sym (e.rounds_are ∙ (let z : 0 + o.rounds ≡ o.rounds = omega arith in z));
        entries_are = x.entries_are ∙ ap (λ (l : List ℕ). live_entries g l o.included) order.0 ∙ final_same numbers ok o.included (main_part g v).end.live e.beside.live_same;
        modules_are = modules_are o e o.context last;
        statements_are = statements_are o e o.context last;
        used_are = used_are o e o.context last;
        external_are = external_are o e o.context last;
        json_are = json_are o e;
        reasons_are = reasons_are o e;
        dead_are = dead_are o e;
        helpers_are = λ m h. ap (λ (f : ℕ → ℕ). f m) x.helpers_are ∙ helpers_are o e m h;
      }
    where
      order : (x.sorted ≡ sorted_entries g) × ((m : ℕ) → elem m x.cycled ≡ on_cycle g m)
      order = rust_order numbers ok x.sorted x.cycled (subst (λ (l : List ℕ). SortDynamicEntriesByTopologicalOrder g l x.sorted x.cycled) (dynamics_same numbers ok) x.sorts)

      e : RoundsEnd numbers ok o.rounds (rounding o.main o.included o.dead) 0 (main_part g v)
      e =
          main-beside numbers ok x.cycled order.1 a x.users o.rounds (rounding o.main o.included o.dead)
          (subst (λ (l : List ℕ). IncludesUserDefined g v l empty x.users) (users_same numbers ok) x.includes_users)
          (subst (λ (l : List ℕ). Rounds g v x.cycled l o.rounds (rounding x.users [] []) (rounding o.main o.included o.dead)) order.0 x.makes_rounds)

      last : Exactly g o.main (HasStage (length main) all) [] o.context
      last =
          final-exactly o e
          (subst (λ (f : ℕ → ℕ). IncludeRuntimeSymbol g v (collect_depended_runtime_helpers g o.main f) (new_context o.main) o.context) x.helpers_are x.includes_runtime)

-- T11
pub rust_agrees : RustAgrees
rust_agrees numbers ok a o x =
    let w = rust_effects (graph_in numbers) o.verdicts x.side_effects in
    agrees numbers ok a o w (subst (λ (l : List ℕ). IncludeStatements (graph_in numbers) l o) w x.include_statements)

pub every_run_agrees : EveryRunAgrees
every_run_agrees numbers room g r e a o x =
    let d = run_done numbers room g r e in
    rw (d.graph_is, d.run_is) (rust_agrees numbers d.accepted (subst (λ (h : Graph). AsRust h) d.graph_is a) o (subst (λ (h : Graph). Returns h o) d.graph_is x))

pub run_answers : RunAnswers
run_answers numbers room ok long l =
    let a = run_enough numbers room ok long l in
    let d = run_done numbers room (graph_in numbers) a.0 a.1 in
    a.1 ∙ ap (λ (r : Run). done (graph_in numbers) r) d.run_is
