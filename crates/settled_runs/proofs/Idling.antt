-- A round brings nothing exactly if it does not pass the test: lines are only appended and have each fact once, and live modules stay so.
use Prim.Native.Nat.{ℕ, ◌+◌, ◌-◌, ◌<◌, ◌≤◌}
use mathlib.Core.Path.{◌≡◌, refl, ap, ◌∙◌, sym, subst}
use mathlib.Core.Logic.{◌↔◌, ⊎_elim}
use mathlib.Core.Bool.{Bool, true, false}
use mathlib.Core.List.{List, [], ◌∷◌}
use native.Mathlib.Omega.{arith}
use borrow.Author.Tests.{ltb-true, ltb-false}
use lib.Dec.{eqb, ltb}
use lib.ListN.{length, get_or, drop, length-drop}
use lib.Seq.{get_or-drop}
use Rattle.determine_side_effects.specs.graph_crate.Check.{Graph, graph_in}
use Rattle.determine_side_effects.specs.graph_crate.Loaded.{Loaded}
use Rattle.determine_side_effects.specs.graph_access_crate.Words.{tabulate}
use Rattle.determine_side_effects.specs.facts_crate.declared.Fact.{Fact}
use Rattle.determine_side_effects.specs.facts_crate.declared.Fact.TheVariants.{Module, Statement, Use, CheckedUse, Forward, Bailout}
use Rattle.determine_side_effects.specs.facts_crate.Facts.{module_fact, kind_of, first_part}
use Rattle.determine_side_effects.specs.Effects.{last_verdicts}
use Rattle.keep_record.specs.declared.Line.{Line}
use Rattle.keep_record.specs.Lines.{marks_from}
use Rattle.keep_record.proofs.Counting.{lines_apart}
use Rattle.worklist.specs.Drain.{fact_at}
use Rattle.entry_order.specs.Order.{those}
use Rattle.entry_order.proofs.Those.{those_here, those_not}
use Rattle.cycles.proofs.Members.{In, in_none, in_cases, in_count, either, never_both, refuted}
use Rattle.dynamic_entries.specs.Tries.{Progress}
use Rattle.tree_shaking.specs.Rounds.{round, kept_module, keeps_module, live_count, has_moved}
use Rattle.closed_choices.specs.Choice.{Choice, HasLine}
use Rattle.closed_choices.proofs.Handling.{no_line, fact_front}
use Rattle.run_choices.proofs.Further.{Goes, goes_same, round_further}
use Rattle.settled_runs.specs.Choice.{Settled}
use Rattle.settled_runs.specs.Until.{Idle, NoModule}
use Rattle.settled_runs.proofs.Running.{some_place, some_at, or_cases, or_none, entry_below, Within, round_run}
use Rattle.settled_runs.proofs.Ending.{newly_found, no_false, whole}

-- of those that pass one test, more pass a wider one that one of them passes newly
those_more : (P Q : ℕ → Bool) → ((x : ℕ) → P x ≡ true → Q x ≡ true) → (xs : List ℕ) → length (those P xs) ≤ length (those Q xs)
unfolding those
those_more P Q w [] = omega arith
those_more P Q w (x ∷ xs) = go (P x) refl (Q x) refl (those_more P Q w xs)
  where
    go : (a : Bool) → P x ≡ a → (b : Bool) → Q x ≡ b → length (those P xs) ≤ length (those Q xs) → length (those P (x ∷ xs)) ≤ length (those Q (x ∷ xs))
    go true a true b r = rw (those_here P x xs a, those_here Q x xs b) (omega (arith, r))
    go true a false b r = absurd (never_both (w x a) b)
    go false a true b r = rw (those_not P x xs a, those_here Q x xs b) (omega (arith, r))
    go false a false b r = rw (those_not P x xs a, those_not Q x xs b) r

those_one_more : (P Q : ℕ → Bool) → ((x : ℕ) → P x ≡ true → Q x ≡ true) → (xs : List ℕ) (m : ℕ) → In xs m → P m ≡ false → Q m ≡ true → length (those P xs) < length (those Q xs)
unfolding those
those_one_more P Q w [] m i a b = absurd (in_none m i)
those_one_more P Q w (x ∷ xs) m i a b =
    ⊎_elim (λ e. here (subst (λ y. P y ≡ false) e a) (subst (λ y. Q y ≡ true) e b)) (λ j. later (those_one_more P Q w xs m j a b) (P x) refl (Q x) refl) (in_cases m x xs i)
  where
    here : P x ≡ false → Q x ≡ true → length (those P (x ∷ xs)) < length (those Q (x ∷ xs))
    here c d = rw (those_not P x xs c, those_here Q x xs d) (omega (arith, those_more P Q w xs))

    later : length (those P xs) < length (those Q xs) → (c : Bool) → P x ≡ c → (d : Bool) → Q x ≡ d → length (those P (x ∷ xs)) < length (those Q (x ∷ xs))
    later r true c true d = rw (those_here P x xs c, those_here Q x xs d) (omega (arith, r))
    later r true c false d = absurd (never_both (w x c) d)
    later r false c true d = rw (those_not P x xs c, those_here Q x xs d) (omega (arith, r))
    later r false c false d = rw (those_not P x xs c, those_not Q x xs d) r

module_is : (f : Fact) → eqb (kind_of f) 1 ≡ true → f ≡ module_fact (first_part f)
module_is (Module m) e = refl
module_is (Statement m i) e = no_false e
module_is (Use s x) e = no_false e
module_is (CheckedUse s x) e = no_false e
module_is (Forward s) e = no_false e
module_is (Bailout m) e = no_false e

-- all facts, and the modules that there are
pub below_settled : {numbers tables : List ℕ} → Loaded numbers tables → Settled (graph_in numbers) (λ f. Unit {0}) (λ m. m < (graph_in numbers).header.modules)
below_settled t =
    record {
      users = λ e h d i u. tt;
      closed = record { by_K1 = λ m s i a b e u. tt; by_K2_to_K14 = λ f k a u. tt };
      bailouts = λ m a i u. tt;
      on_cycles = λ e h d c. entry_below t e h;
      related_live = λ e k h d u l. entry_below t e h;
      live_starts = λ m a i u. tt;
    }

module _ {numbers tables : List ℕ} (t : Loaded numbers tables) where
  abbrev g : Graph
  g = graph_in numbers

  abbrev v : List ℕ
  v = last_verdicts (graph_in numbers)

  abbrev All : Choice
  All = λ f. Unit {0}

  abbrev Below : ℕ → Type 0
  Below = λ m. m < (graph_in numbers).header.modules

  abbrev some_choice : Settled (graph_in numbers) (λ f. Unit {0}) (λ m. m < (graph_in numbers).header.modules)
  some_choice = below_settled t

  -- a round from what a run comes to
  module _ (taken : ℕ) (p : Progress) (r : Within t (λ f. Unit {0}) (λ m. m < (graph_in numbers).header.modules) (below_settled t) p) where
    abbrev q : Progress
    q = round g v taken p

    goes : Goes p.lines q.lines
    goes = (round_further g v taken p).lines_go

    q-within : Within t (λ f. Unit {0}) (λ m. m < (graph_in numbers).header.modules) (below_settled t) q
    q-within = round_run t All Below some_choice taken p r

    -- a line behind the old ones has a new fact
    new-fact : (k : ℕ) → length p.lines ≤ k → k < length q.lines → HasLine p.lines (fact_at q.lines k) → ⊥
    unfolding fact_at marks_from
    new-fact k a b w =
        let old : (get_or q.lines w.number no_line).fact ≡ (get_or p.lines w.number no_line).fact =
        ap (λ (l : List Line). (get_or l w.number no_line).fact) goes.is ∙ fact_front p.lines goes.rest w.number w.inside in
        lines_apart g no_line 0 q.lines (whole t All Below some_choice q q-within).sound.apart w.number k (omega (arith, w.inside, a)) b (λ z. absurd (omega (arith, z))) (old ∙ w.is)

    here : (k : ℕ) → k < length q.lines → HasLine q.lines (fact_at q.lines k)
    here k h = record { number = k; inside = h; is = refl }

    -- nothing moved: idle
    still-idle : has_moved g p q ≡ false → Idle p q
    unfolding has_moved live_count
    still-idle e = record { no_fact = λ f h. subst (λ (l : List Line). HasLine l f) same h; no_live = no_live; none_untaken = λ k m a b c. omega (arith, few, a, b) }
      where
        parts : (ltb (length p.lines) (length q.lines) ≡ false) × (ltb (live_count g p.live) (live_count g q.live) ≡ false)
        parts = or_none (ltb (length p.lines) (length q.lines)) (ltb (live_count g p.live) (live_count g q.live)) e

        few : length q.lines ≤ length p.lines
        few = ltb-false (length p.lines) (length q.lines) parts.0

        same : q.lines ≡ p.lines
        same = goes_same p.lines q.lines goes few

        no_live : (m : ℕ) → q.live m ≡ true → p.live m ≡ true
        no_live m h = ⊎_elim (λ a. a) (λ a. absurd (more a)) (either (p.live m))
          where
            more : p.live m ≡ false → ⊥
            more a =
                let all = tabulate (λ (x : ℕ). x) 0 g.header.modules in
                let i : In all m = in_count m 0 g.header.modules (omega arith) (omega (arith, q-within.allowed m h)) in
                let l = those_one_more p.live q.live (round_further g v taken p).live_stays all m i a h in
                omega (arith, l, ltb-false (length (those p.live all)) (length (those q.live all)) parts.1)

    idle-still : Idle p q → has_moved g p q ≡ false
    unfolding has_moved
    idle-still i =
        refuted (has_moved g p q)
        (λ e. ⊎_elim lines live (or_cases (ltb (length p.lines) (length q.lines)) (ltb (live_count g p.live) (live_count g q.live)) e))
      where
        lines : ltb (length p.lines) (length q.lines) ≡ true → ⊥
        lines e =
            let h = ltb-true (length p.lines) (length q.lines) e in
            new-fact (length p.lines) (omega arith) h (i.no_fact (fact_at q.lines (length p.lines)) (here (length p.lines) h))

        live : ltb (live_count g p.live) (live_count g q.live) ≡ true → ⊥
        live e = let n = newly_found g p q e in never_both (i.no_live n.which n.is_now) n.was_not

    pub idle-exactly : (has_moved g p (round g v taken p) ≡ false) ↔ Idle p (round g v taken p)
    idle-exactly = (still-idle, idle-still)

    -- no module became kept
    none-keeps : NoModule p q → keeps_module p q ≡ false
    unfolding keeps_module kept_module fact_at
    none-keeps n = refuted (keeps_module p q) no
      where
        no : keeps_module p q ≡ true → ⊥
        no e =
            let k = some_place (λ (l : Line). eqb (kind_of l.fact) 1) (drop (length p.lines) q.lines) no_line e in
            let at = length p.lines + k.0 in
            let u : at < length q.lines = omega (arith, k.1, length-drop (length p.lines) q.lines) in
            let f = ap (λ (x : Line). x.fact) (get_or-drop (length p.lines) q.lines k.0 no_line) in
            let m = module_is (get_or (drop (length p.lines) q.lines) k.0 no_line).fact k.2 in
            let is : fact_at q.lines at ≡ module_fact (first_part (get_or (drop (length p.lines) q.lines) k.0 no_line).fact) = sym f ∙ m in
            new-fact at (omega arith) u
            (subst (λ (x : Fact). HasLine p.lines x) (sym is) (n (first_part (get_or (drop (length p.lines) q.lines) k.0 no_line).fact) (record { number = at; inside = u; is = is })))

    keeps-none : keeps_module p q ≡ false → NoModule p q
    unfolding keeps_module kept_module fact_at
    keeps-none e m w = ⊎_elim old new (either (ltb w.number (length p.lines)))
      where
        old : ltb w.number (length p.lines) ≡ true → HasLine p.lines (module_fact m)
        old l =
            let u = ltb-true w.number (length p.lines) l in
            let same = ap (λ (x : List Line). (get_or x w.number no_line).fact) goes.is ∙ fact_front p.lines goes.rest w.number u in
            record { number = w.number; inside = u; is = sym same ∙ w.is }

        new : ltb w.number (length p.lines) ≡ false → HasLine p.lines (module_fact m)
        new l =
            let h = ltb-false w.number (length p.lines) l in
            let k = w.number - length p.lines in
            let u : k < length (drop (length p.lines) q.lines) = omega (arith, h, w.inside, length-drop (length p.lines) q.lines) in
            let z : length p.lines + k ≡ w.number = omega (arith, h) in
            let f = get_or-drop (length p.lines) q.lines k no_line ∙ ap (λ (x : ℕ). get_or q.lines x no_line) z in
            let one : eqb (kind_of (get_or (drop (length p.lines) q.lines) k no_line).fact) 1 ≡ true = ap (λ (x : Line). eqb (kind_of x.fact) 1) f ∙ ap (λ (x : Fact). eqb (kind_of x) 1) w.is in
            absurd (never_both (some_at (λ (x : Line). eqb (kind_of x.fact) 1) (drop (length p.lines) q.lines) no_line k u one) e)

    pub module-exactly : (keeps_module p (round g v taken p) ≡ false) ↔ NoModule p (round g v taken p)
    module-exactly = (keeps-none, none-keeps)
