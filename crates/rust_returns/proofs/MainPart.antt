-- The main part returns where the uses of its lines end: beside the run's definition, which starts the same facts, and as many rounds as it makes.
use Prim.Native.Nat.{ℕ, zero, suc, ◌+◌, ◌*◌, ◌<◌}
use mathlib.Core.Path.{◌≡◌, refl, ap, ◌∙◌, sym, subst}
use mathlib.Core.Logic.{inl}
use mathlib.Core.Bool.{Bool, true, false, ◌||◌, false≢true}
use mathlib.Core.List.{List, [], ◌∷◌, ◌++◌}
use native.Mathlib.Omega.{arith}
use lib.ListN.{length, drop}
use Rattle.determine_side_effects.specs.graph_crate.Check.{Graph, graph_in, check_of, answer_of}
use Rattle.determine_side_effects.specs.graph_access_crate.Words.{normal}
use Rattle.determine_side_effects.specs.facts_crate.declared.Fact.{Fact}
use Rattle.determine_side_effects.specs.facts_crate.Facts.{module_fact}
use Rattle.determine_side_effects.specs.Effects.{last_verdicts}
use Rattle.keep_record.specs.declared.Line.{Line}
use Rattle.keep_record.specs.Lines.{elem}
use Rattle.worklist.specs.Drain.{drained_all}
use Rattle.entry_order.specs.Order.{module_of_entry, user_entries}
use Rattle.entry_starts.specs.Starts.{module_starts}
use Rattle.dynamic_entries.specs.Sorted.{on_cycle, sorted_entries}
use Rattle.dynamic_entries.specs.Tries.{Progress, starting, now_live, tried, tries}
use Rattle.passes.specs.Bailouts.{bailouts_starts}
use Rattle.tree_shaking.specs.Rounds.{bailed, round, kept_module, keeps_module, Ended, rounds_fuel, rounds_from, users_starts, begun, main_part}
use Rattle.closed_choices.specs.Choice.{HasLine}
use Rattle.closed_choices.proofs.Every.{Every}
use Rattle.run_choices.proofs.GoodStarts.{module_starts_good}
use Rattle.settled_runs.proofs.OfRuns.{rounds_without}
use Rattle.rust_values.specs.Values.{Pair}
use Rattle.rust_engine.specs.Context.{Context, empty, take_bailouts, set_changed}
use Rattle.rust_engine.proofs.Theorem.{Over}
use Rattle.rust_engine.proofs.Changed.{Counted}
use Rattle.rust_order.specs.DynamicEntries.{entry_idx}
use Rattle.rust_run.specs.DynamicEntries.{Unused, alive, unused, is_alive, is_dynamic_entry_alive, passes, ProcessAndRetainDynamicEntry, is_dead, is_external, includes}
use Rattle.rust_run.specs.Passes.{IncludeCjsBailoutExports}
use Rattle.rust_run.specs.IncludeStatements.{IncludesUserDefined, Rounding, rounding, insert_if, ProcessesDynamic, no_more, was_included, processes, Round, Rounds, breaks, goes_on}
use Rattle.rust_run.specs.Agreement.{AsRust}
use Rattle.rust_run.proofs.Stage.{Prefix, stage_prefix}
use Rattle.rust_run.proofs.Level.{every_onto, loaded, level-exactly, starts-hold}
use Rattle.rust_run.proofs.Tried.{Beside, Dynamic, lives_same, tried_live, tried-starts, try-beside}
use Rattle.rust_run.proofs.Rounding.{exports_of, exported-now, level-bailed}
use Rattle.rust_run.proofs.Round.{AtRound, round-on, changed_is, prefix_refl, prefix_trans, prefix_line, tries_prefix}
use Rattle.rust_run.proofs.Counting.{round_counted}
use Rattle.rust_run.proofs.Main.{sorted_dynamic, stops, goes, at-first-round}
use Rattle.rust_returns.specs.Following.{Choosing, UsersBy, TryBy, TriesBy, RoundBy, RoundsBy}
use Rattle.rust_returns.proofs.Left.{modules_left, modules_lt}
use Rattle.rust_returns.proofs.Loops as loops
use Rattle.rust_returns.proofs.Loops.{Tame, Ready}
use Rattle.std.specs.Prelude.{Ok}

-- the facts of the main part's lines, over nothing
abbrev pub main_over : Graph → Over
main_over g = record { base = empty; choice = HasLine (main_part g (last_verdicts g)).end.lines }

either : (a b : Bool) → b ≡ true → (a || b) ≡ true
either true b e = refl
either false b e = e

left_one : (a b : Bool) → a ≡ true → (a || b) ≡ true
left_one true b e = refl
left_one false b e = absurd (false≢true e)

module _ (numbers : List ℕ) (ok : answer_of (check_of numbers) ≡ Ok tt) (T : Tame (graph_in numbers) (main_over (graph_in numbers))) (ch : Choosing (graph_in numbers)) where
  abbrev g : Graph
  g = graph_in numbers

  abbrev v : List ℕ
  v = last_verdicts (graph_in numbers)

  abbrev main : List Line
  main = (main_part (graph_in numbers) (last_verdicts (graph_in numbers))).end.lines

  abbrev pub Fine : Context → Type 0
  Fine c = Ready (loaded numbers ok) (main_over (graph_in numbers)) T ch c

  abbrev Lined : List Line → Type 0
  Lined ls = (f : Fact) → HasLine ls f → HasLine main f

  module _ (cycled : List ℕ) (cycles : (m : ℕ) → elem m cycled ≡ on_cycle (graph_in numbers) m) where
    -- one try
    record Try (e : ℕ) (c : Context) (dead : List Pair) : Type 0 where
      end : Context
      dead-after : List Pair
      retained : Bool
      done : ProcessAndRetainDynamicEntry g v cycled e c dead end dead-after retained
      follows : TryBy g v ch cycled e c dead end dead-after retained done
      ready : Fine end

    try : (e : ℕ) (c : Context) (dead : List Pair) → Fine c → (passes g v cycled c e ≡ true → Every (HasLine main) (module_starts g (entry_idx g e))) → Try e c dead
    unfolding passes is_alive
    try e c dead r a = go (elem (entry_idx g e) cycled) refl (is_dynamic_entry_alive g v c e) refl
      where
        live : passes g v cycled c e ≡ true → (n : Bool) → normal g (entry_idx g e) ≡ n → Try e c dead
        live p true n =
            let x = loops.entry (loaded numbers ok) (main_over g) T ch (entry_idx g e) c n r (a p) in
            record { end = x.end; dead-after = dead; retained = true; done = includes x.end p n x.done; follows = x.follows; ready = x.ready }
        live p false n = record { end = c; dead-after = dead; retained = true; done = is_external p n; follows = tt; ready = r }

        go : (b : Bool) → elem (entry_idx g e) cycled ≡ b → (u : Unused) → is_dynamic_entry_alive g v c e ≡ u → Try e c dead
        go true q u p = live (left_one (elem (entry_idx g e) cycled) (is_alive (is_dynamic_entry_alive g v c e)) q) (normal g (entry_idx g e)) refl
        go false q alive p = live (either (elem (entry_idx g e) cycled) (is_alive (is_dynamic_entry_alive g v c e)) (ap is_alive p)) (normal g (entry_idx g e)) refl
        go false q (unused ret) p = record { end = c; dead-after = dead ++ ret; retained = false; done = is_dead ret q p; follows = tt; ready = r }

    -- all of them
    record Tries (es : List ℕ) (r : Rounding) : Type 0 where
      end : Rounding
      done : ProcessesDynamic g v cycled es r end
      follows : TriesBy g v ch cycled es r end done
      ready : Fine end.context

    all-tries : (es : List ℕ) → Every (Dynamic numbers ok) es → (r : Rounding) (p : Progress) (taken : List ℕ) → Beside numbers ok r p taken → Fine r.context → Lined (tries g v es p).lines
        → Tries es r
    unfolding tries entry_idx module_of_entry starting now_live
    all-tries [] d r p taken b f l = record { end = r; done = no_more r; follows = tt; ready = f }
    all-tries (e ∷ es) d r p taken b f l = go (elem (entry_idx g e) r.included) refl (λ s q c h. all-tries es d.1 s (tried g v e p) taken c h q)
      where
        starts-lined : elem (entry_idx g e) r.included ≡ false → passes g v cycled r.context e ≡ true → Every (HasLine main) (module_starts g (entry_idx g e))
        starts-lined n a =
            let fs = module_starts g (module_of_entry g e) in
            let is = tried-starts numbers ok cycled cycles e p (sym (b.live_same (entry_idx g e)) ∙ n) (sym (lives_same numbers ok cycled cycles e d.0 r p taken b) ∙ a) in
            every_onto (HasLine (drained_all g v 0 fs p.lines)) (HasLine main)
            (λ x h. l x (prefix_line (tried g v e p).lines (tries g v es (tried g v e p)).lines (tries_prefix g v es (tried g v e p)) x
            (subst (λ (q : Progress). HasLine q.lines x) (sym is) h))) fs
            (starts-hold numbers ok b.level fs (module_starts_good (loaded numbers ok) (module_of_entry g e)))

        go : (q : Bool) → elem (entry_idx g e) r.included ≡ q
            → ((s : Rounding) → Lined (tries g v es (tried g v e p)).lines → Beside numbers ok s (tried g v e p) taken → Fine s.context → Tries es s) → Tries (e ∷ es) r
        go true n more =
            let z = more r l (subst (λ q. Beside numbers ok r q taken) (sym (tried_live numbers ok cycled cycles e p (sym (b.live_same (entry_idx g e)) ∙ n))) b) f in
            record { end = z.end; done = was_included e es r z.end n z.done; follows = z.follows; ready = z.ready }
        go false n more =
            let x = try e r.context r.dead f (starts-lined n) in
            let s = rounding x.end (insert_if x.retained (entry_idx g e) r.included) x.dead-after in
            let z = more s l (try-beside numbers ok cycled cycles e d.0 r p taken b n x.end x.dead-after x.retained x.done) x.ready in
            record { end = z.end; done = processes e es r z.end x.end x.dead-after x.retained n x.done z.done; follows = (x.follows, z.follows); ready = z.ready }

    -- one round
    record OneRound (r : Rounding) : Type 0 where
      end : Rounding
      done : Round g v cycled (sorted_entries g) r end
      follows : RoundBy g v ch cycled (sorted_entries g) r end done
      ready : Fine end.context

    one-round : (r : Rounding) (p : Progress) (k : ℕ) → AtRound numbers ok r p k → Fine r.context → Lined (round g v k p).lines → OneRound r
    unfolding round bailed starting
    one-round r p k a f l =
        let c = r.context in
        let level = a.beside.level in
        let begun-fine = loops.begun (loaded numbers ok) (main_over g) T ch c f in
        let bailed-lines = (bailed g v k p).lines in
        let on : Prefix bailed-lines (round g v k p).lines = tries_prefix g v (sorted_entries g) (bailed g v k p) in
        let x = loops.bailouts (loaded numbers ok) (main_over g) T ch (ch.bailouts c c.bailouts) (take_bailouts (set_changed false c)) begun-fine
        (λ m q. let h = ((level-exactly numbers ok level).bailouts_are m).0 (inl ((ch.bailouts_any c c.bailouts).from m q)) in
        every_onto (HasLine bailed-lines) (HasLine main) (λ y w. l y (prefix_line bailed-lines (round g v k p).lines on y w)) (exports_of g m)
        (exported-now numbers ok level k a.exported h.number m h.inside h.is)) in
        let included : IncludeCjsBailoutExports g v c.bailouts (take_bailouts (set_changed false c)) x.end =
        record { order = ch.bailouts c c.bailouts; same = ch.bailouts_any c c.bailouts; includes = x.done } in
        let b : Beside numbers ok (rounding x.end r.included r.dead) (bailed g v k p) (c.bailouts ++ a.taken) =
        record { level = level-bailed numbers ok level k a.exported x.end included; live_same = a.beside.live_same; dead_same = a.beside.dead_same } in
        let z = all-tries (sorted_entries g) (sorted_dynamic numbers ok) (rounding x.end r.included r.dead) (bailed g v k p) (c.bailouts ++ a.taken) b x.ready l in
        record { end = z.end; done = record { context = x.end; includes = included; processes = z.done }; follows = (refl, (x.follows, z.follows)); ready = z.ready }

    -- the lines of a run so far are lines of its end
    round-prefix : (k : ℕ) (p : Progress) → Prefix p.lines (round g v k p).lines
    unfolding round bailed starting
    round-prefix k p =
        prefix_trans p.lines (bailed g v k p).lines (round g v k p).lines (stage_prefix g v 0 (bailouts_starts g (drop k p.lines)) p.lines)
        (tries_prefix g v (sorted_entries g) (bailed g v k p))

    rounds-prefix : (fuel made k : ℕ) (p : Progress) → Prefix p.lines (rounds_from g v keeps_module fuel made k p).end.lines
    unfolding rounds_from
    rounds-prefix zero made k p = prefix_refl p.lines
    rounds-prefix (suc fuel) made k p = go (kept_module (length p.lines) (round g v k p).lines) refl (rounds-prefix fuel (made + 1) (length p.lines) (round g v k p))
      where
        go : (b : Bool) → kept_module (length p.lines) (round g v k p).lines ≡ b
            → Prefix (round g v k p).lines (rounds_from g v keeps_module fuel (made + 1) (length p.lines) (round g v k p)).end.lines → Prefix p.lines (rounds_from g v keeps_module (suc fuel) made k p).end.lines
        go true e more =
            subst (λ (x : Ended). Prefix p.lines x.end.lines) (sym (goes numbers ok fuel made k p e))
            (prefix_trans p.lines (round g v k p).lines _ (round-prefix k p) more)
        go false e more = subst (λ (x : Ended). Prefix p.lines x.end.lines) (sym (stops numbers ok fuel made k p e)) (round-prefix k p)

    round-in : (fuel made k : ℕ) (p : Progress) → Prefix (round g v k p).lines (rounds_from g v keeps_module (suc fuel) made k p).end.lines
    round-in fuel made k p = go (kept_module (length p.lines) (round g v k p).lines) refl
      where
        go : (b : Bool) → kept_module (length p.lines) (round g v k p).lines ≡ b → Prefix (round g v k p).lines (rounds_from g v keeps_module (suc fuel) made k p).end.lines
        go true e =
            subst (λ (x : Ended). Prefix (round g v k p).lines x.end.lines) (sym (goes numbers ok fuel made k p e))
            (rounds-prefix fuel (made + 1) (length p.lines) (round g v k p))
        go false e = subst (λ (x : Ended). Prefix (round g v k p).lines x.end.lines) (sym (stops numbers ok fuel made k p e)) (prefix_refl (round g v k p).lines)

    -- all rounds
    record AllRounds (r : Rounding) : Type 0 where
      count : ℕ
      end : Rounding
      done : Rounds g v cycled (sorted_entries g) count r end
      follows : RoundsBy g v ch cycled (sorted_entries g) count r end done

    all-rounds : (fuel made k : ℕ) (r : Rounding) (p : Progress) → AtRound numbers ok r p k → Fine r.context → modules_left T.facts r.context < fuel
        → Lined (rounds_from g v keeps_module fuel made k p).end.lines → AllRounds r
    unfolding take_bailouts set_changed
    all-rounds zero made k r p a f u l = absurd (omega (arith, u))
    all-rounds (suc fuel) made k r p a f u l =
        go x.end.context.changed refl (λ b w. all-rounds fuel (made + 1) (length p.lines) x.end (round g v k p) (round-on numbers ok cycled cycles (sorted_dynamic numbers ok) r x.end p k a x.done) x.ready b w)
      where
        x : OneRound r
        x = one-round r p k a f (λ y h. l y (prefix_line (round g v k p).lines (rounds_from g v keeps_module (suc fuel) made k p).end.lines (round-in fuel made k p) y h))

        first : Context
        first = take_bailouts (set_changed false r.context)

        counted : Counted first x.end.context
        counted = round_counted g cycled (sorted_entries g) r.context.bailouts first x.done.context r.included r.dead x.end x.done.includes x.done.processes

        kept : kept_module (length p.lines) (round g v k p).lines ≡ x.end.context.changed
        kept = changed_is numbers ok cycled cycles (sorted_dynamic numbers ok) r x.end p k a x.done

        less : x.end.context.changed ≡ true → modules_left T.facts x.end.context < modules_left T.facts r.context
        less e =
            let s = counted.set refl e in
            modules_lt r.context x.end.context counted.stays T.facts s.0 (T.finite (module_fact s.0) (x.ready.within.of_modules s.0 s.1)) s.1 s.2

        go : (b : Bool) → x.end.context.changed ≡ b
            → (modules_left T.facts x.end.context < fuel → Lined (rounds_from g v keeps_module fuel (made + 1) (length p.lines) (round g v k p)).end.lines → AllRounds x.end) → AllRounds r
        go true e more =
            let z = more (omega (arith, u, less e)) (subst (λ (y : Ended). Lined y.end.lines) (goes numbers ok fuel made k p (kept ∙ e)) l) in
            record { count = suc z.count; end = z.end; done = goes_on z.count r x.end z.end x.done e z.done; follows = (x.follows, z.follows) }
        go false e more = record { count = 1; end = x.end; done = breaks r x.end x.done e; follows = x.follows }

    -- the main part
    pub record Made : Type 0 where
      pub users : Context
      pub includes_users : IncludesUserDefined (graph_in numbers) (last_verdicts (graph_in numbers)) (user_entries (graph_in numbers)) empty users
      pub users-follow : UsersBy (graph_in numbers) (last_verdicts (graph_in numbers)) ch (user_entries (graph_in numbers)) empty users includes_users
      pub rounds : ℕ
      pub end : Rounding
      pub makes_rounds : Rounds (graph_in numbers) (last_verdicts (graph_in numbers)) cycled (sorted_entries (graph_in numbers)) rounds (rounding users [] []) end
      pub rounds-follow : RoundsBy (graph_in numbers) (last_verdicts (graph_in numbers)) ch cycled (sorted_entries (graph_in numbers)) rounds (rounding users [] []) end makes_rounds

    first_fine : Fine empty
    first_fine =
        record {
          rows = record { has_modules = λ m h. h; has_statements = λ p h. h; has_used = λ s h. h; has_external = λ s h. h; has_reasons = λ p h. h };
          within =
              record {
                queued = λ i h. absurd h;
                of_modules = λ m h. absurd h;
                of_statements = λ m i h. absurd h;
                of_deferred = λ s h. absurd h;
                of_bailouts = λ m h. absurd h;
                of_used = λ s h. absurd h;
                of_external = λ s h. absurd h;
                of_json = λ m s h. absurd h;
                of_reasons = λ m b h. absurd h;
              };
        }

    begun-lined : AsRust g → Lined (begun g v).lines
    begun-lined off f h =
        prefix_line (begun g v).lines main
        (subst (λ (x : Ended). Prefix (begun g v).lines x.end.lines) (rounds_without (loaded numbers ok) off.no_settling 0) (rounds-prefix (rounds_fuel g + 0) 0 0 (begun g v))) f h

    pub made : AsRust (graph_in numbers) → Every (HasLine (begun (graph_in numbers) (last_verdicts (graph_in numbers))).lines) (users_starts (graph_in numbers) (user_entries (graph_in numbers))) → Made
    made off a =
        let u = loops.users (loaded numbers ok) (main_over g) T ch (user_entries g) empty first_fine
        (every_onto (HasLine (begun g v).lines) (HasLine main) (begun-lined off) (users_starts g (user_entries g)) a) in
        let n = suc (modules_left T.facts u.end) in
        let z = all-rounds (rounds_fuel g + n) 0 0 (rounding u.end [] []) (begun g v) (at-first-round numbers ok cycled cycles u.end u.done) u.ready (omega arith)
        (λ f h. subst (λ (x : Ended). HasLine x.end.lines f) (rounds_without (loaded numbers ok) off.no_settling n) h) in
        record { users = u.end; includes_users = u.done; users-follow = u.follows; rounds = z.count; end = z.end; makes_rounds = z.done; rounds-follow = z.follows }
