-- Each round that moves takes a bailout for the first time or makes a module live, so the rounds end in one that moves nothing.
use Prim.Native.Nat.{ℕ, zero, suc, ◌+◌, ◌<◌}
use mathlib.Core.Path.{◌≡◌, refl, ap, ◌∙◌, sym, subst}
use mathlib.Core.Logic.{⊎_elim}
use mathlib.Core.Bool.{Bool, true, false, not}
use mathlib.Core.List.{List, [], ◌∷◌, ◌++◌}
use native.Mathlib.Omega.{arith}
use borrow.Author.Tests.{ltb-true}
use lib.Dec.{eqb, ltb}
use lib.ListN.{length, get_or, take, drop, take-append-drop, length-drop}
use lib.Seq.{get_or-take, get_or-drop, length-take-le}
use Rattle.determine_side_effects.specs.graph_crate.Check.{Graph, graph_in}
use Rattle.determine_side_effects.specs.graph_crate.Loaded.{Loaded}
use Rattle.determine_side_effects.specs.graph_access_crate.Words.{some, tabulate}
use Rattle.determine_side_effects.specs.facts_crate.declared.Fact.{Fact}
use Rattle.determine_side_effects.specs.facts_crate.declared.Fact.TheVariants.{Module, Statement, Use, CheckedUse, Forward, Bailout}
use Rattle.determine_side_effects.specs.facts_crate.Facts.{bailout_fact, kind_of, first_part, Good}
use Rattle.determine_side_effects.specs.Effects.{last_verdicts}
use Rattle.keep_record.specs.declared.Line.{Line}
use Rattle.keep_record.specs.Lines.{marks_from, has}
use Rattle.keep_record.proofs.Adding.{has-append}
use Rattle.keep_record.proofs.Counting.{lines_apart}
use Rattle.keep_record.proofs.Rows.{tabulate-length, tabulate-at}
use Rattle.worklist.specs.Drain.{fact_at, drained_all, drain_of}
use Rattle.entry_order.specs.Order.{those, module_of_entry, is_dynamic}
use Rattle.entry_order.proofs.Those.{those_here, those_not}
use Rattle.entry_starts.specs.Starts.{module_starts}
use Rattle.cycles.specs.Search.{with}
use Rattle.cycles.specs.Walked.{fresh}
use Rattle.cycles.proofs.Walks.{fresh_few, fresh_falls, fresh_with}
use Rattle.cycles.proofs.Members.{with_cases, either, never_both, refuted}
use Rattle.dynamic_entries.specs.Sorted.{sorted_entries}
use Rattle.dynamic_entries.specs.Tries.{Progress, starting, lives, now_dead, tried, tries}
use Rattle.passes.specs.Bailouts.{bailout_starts, bailouts_starts}
use Rattle.tree_shaking.specs.Rounds.{bailed, round, live_count, has_moved, Ended, ended_at, rounds_fuel, rounds_from, begun}
use Rattle.closed_choices.specs.Choice.{Choice}
use Rattle.closed_choices.proofs.Every.{Every, every_at, every_take}
use Rattle.closed_choices.proofs.Handling.{no_line}
use Rattle.closed_choices.proofs.Smallest.{has_line, line_marked}
use Rattle.run_choices.proofs.Stages.{Whole, whole_none, whole_more}
use Rattle.run_choices.proofs.EachTried.{live_after}
use Rattle.settled_runs.specs.Choice.{Settled}
use Rattle.settled_runs.specs.Until.{always}
use Rattle.run_choices.proofs.Further.{goes_front, try_old, try_live, try_dead, tries_further, round_further}
use Rattle.run_choices.proofs.Sorted.{every_listed, sorted_dynamic}
use Rattle.settled_runs.proofs.Running.{some_place, or_cases, entry_below, Within, lines_good, round_run, round_taken, Taken, begun_run}

-- a set that has one more has fewer outside
pub fresh_less : (k m : ℕ) (f h : ℕ → Bool) → ((x : ℕ) → f x ≡ true → h x ≡ true) → m < k → f m ≡ false → h m ≡ true → fresh k h < fresh k f
fresh_less k m f h more u a b =
    let l = fresh_falls k (with m f) h (λ x i. ⊎_elim (λ q. subst (λ y. h y ≡ true) (sym q) b) (λ j. more x j) (with_cases x m f i)) in
    let s = fresh_with k m f u a in
    omega (arith, l, s)

-- a module came alive
pub record Newly (n : ℕ) (p q : Progress) : Type 0 where
  pub which : ℕ
  pub below : which < n
  pub was_not : p.live which ≡ false
  pub is_now : q.live which ≡ true

-- more that pass a test: one that did not pass the other
those_new : (P Q : ℕ → Bool) (xs : List ℕ) → length (those P xs) < length (those Q xs) → (k : ℕ) × (k < length xs) × (P (get_or xs k 0) ≡ false) × (Q (get_or xs k 0) ≡ true)
unfolding those
those_new P Q [] h = absurd (omega (arith, h))
those_new P Q (x ∷ xs) h = go (P x) refl (Q x) refl (those_new P Q xs)
  where
    Found : List ℕ → Type 0
    Found ys = (k : ℕ) × (k < length ys) × (P (get_or ys k 0) ≡ false) × (Q (get_or ys k 0) ≡ true)

    later : Found xs → Found (x ∷ xs)
    later r = (suc r.0, omega (arith, r.1), r.2, r.3)

    go : (a : Bool) → P x ≡ a → (b : Bool) → Q x ≡ b → (length (those P xs) < length (those Q xs) → Found xs) → Found (x ∷ xs)
    go false a true b r = (0, omega arith, a, b)
    go true a true b r = later (r (let l = rw (those_here P x xs a, those_here Q x xs b) at h in omega (arith, l)))
    go true a false b r = later (r (let l = rw (those_here P x xs a, those_not Q x xs b) at h in omega (arith, l)))
    go false a false b r = later (r (rw (those_not P x xs a, those_not Q x xs b) at h))

pub newly_found : (g : Graph) (p q : Progress) → ltb (live_count g p.live) (live_count g q.live) ≡ true → Newly g.header.modules p q
unfolding live_count
newly_found g p q e =
    let all = tabulate (λ (m : ℕ). m) 0 g.header.modules in
    let k = those_new p.live q.live all (ltb-true (length (those p.live all)) (length (those q.live all)) e) in
    let u : k.0 < g.header.modules = omega (arith, k.1, tabulate-length (λ (j : ℕ). j) 0 g.header.modules) in
    let at : get_or all k.0 0 ≡ k.0 = let a = tabulate-at (λ (j : ℕ). j) 0 g.header.modules k.0 0 u in omega (arith, a) in
    record { which = k.0; below = u; was_not = ap (λ (m : ℕ). p.live m) (sym at) ∙ k.2; is_now = ap (λ (m : ℕ). q.live m) (sym at) ∙ k.3 }

-- a bailout's line
abbrev is_bailout : Line → Bool
is_bailout l = eqb (kind_of l.fact) 6

pub no_false : {A : Type 0} → false ≡ true → A
no_false e = absurd (never_both e refl)

bailout_is : (f : Fact) → eqb (kind_of f) 6 ≡ true → f ≡ bailout_fact (first_part f)
bailout_is (Module m) e = no_false e
bailout_is (Statement m i) e = no_false e
bailout_is (Use s x) e = no_false e
bailout_is (CheckedUse s x) e = no_false e
bailout_is (Forward s) e = no_false e
bailout_is (Bailout m) e = refl

no_bailout : (g : Graph) (f : Fact) → eqb (kind_of f) 6 ≡ false → bailout_starts g f ≡ []
unfolding bailout_starts
no_bailout g (Module m) e = refl
no_bailout g (Statement m i) e = refl
no_bailout g (Use s x) e = refl
no_bailout g (CheckedUse s x) e = refl
no_bailout g (Forward s) e = refl
no_bailout g (Bailout m) e = absurd (never_both refl e)

no_bailouts : (g : Graph) (ls : List Line) → some is_bailout ls ≡ false → bailouts_starts g ls ≡ []
unfolding some bailouts_starts
no_bailouts g [] e = refl
no_bailouts g (l ∷ ls) e = go (is_bailout l) refl (λ r. no_bailouts g ls r)
  where
    go : (b : Bool) → is_bailout l ≡ b → (some is_bailout ls ≡ false → bailouts_starts g ls ≡ []) → bailout_starts g l.fact ++ bailouts_starts g ls ≡ []
    go true q r = let z : true ≡ false = rw (q, some) at e in absurd (never_both refl z)
    go false q r = ap (λ (x : List Fact). x ++ bailouts_starts g ls) (no_bailout g l.fact q) ∙ r (rw (q, some) at e)

module _ {numbers tables : List ℕ} (t : Loaded numbers tables) (D : Choice) (B : ℕ → Type 0) (s : Settled (graph_in numbers) D B) where
  abbrev g : Graph
  g = graph_in numbers

  abbrev v : List ℕ
  v = last_verdicts (graph_in numbers)

  abbrev M : ℕ
  M = (graph_in numbers).header.modules

  -- tries that write a line make a module live
  dead_same : (e : ℕ) (p q : Progress) → Newly M (now_dead e p) q → Newly M p q
  unfolding now_dead
  dead_same e p q n = record { which = n.which; below = n.below; was_not = n.was_not; is_now = n.is_now }

  dead_lines : (e : ℕ) (p : Progress) → (now_dead e p).lines ≡ p.lines
  unfolding now_dead
  dead_lines e p = refl

  tries_newly : (es : List ℕ) (p : Progress) → Every (λ e. (e < g.header.entries) × (is_dynamic g e ≡ true)) es → length p.lines < length (tries g v es p).lines → Newly M p (tries g v es p)
  unfolding tries
  tries_newly [] p a h = absurd (omega (arith, h))
  tries_newly (e ∷ es) p a h = go (p.live m) refl (lives g v p e) refl (tries_newly es (tried g v e p) a.1)
    where
      m : ℕ
      m = module_of_entry g e

      end : Progress
      end = tries g v es (tried g v e p)

      go : (b : Bool) → p.live m ≡ b → (c : Bool) → lives g v p e ≡ c → (length (tried g v e p).lines < length end.lines → Newly M (tried g v e p) end) → Newly M p end
      go true b c l r =
          let q = try_old g v e p b in
          subst (λ (x : Progress). Newly M x end) q (r (subst (λ (x : Progress). length x.lines < length end.lines) (sym q) h))
      go false b true l r =
          let q = try_live g v e p b l in
          record {
            which = m;
            below = entry_below t e a.0.0;
            was_not = b;
            is_now = (tries_further g v es (tried g v e p)).live_stays m (ap (λ (x : Progress). x.live m) q ∙ live_after g v (module_starts g m) e p);
          }
      go false b false l r =
          let q = try_dead g v e p b l in
          let k : length (tried g v e p).lines ≡ length p.lines = ap (λ (x : Progress). length x.lines) q ∙ ap (λ (x : List Line). length x) (dead_lines e p) in
          dead_same e p end (subst (λ (x : Progress). Newly M x end) q (r (omega (arith, k, h))))

  -- the bailouts that were taken, and how much is left
  unfoldable pub took_bailout : ℕ → Progress → ℕ → Bool
  took_bailout taken p m = has g 0 (take taken p.lines) (bailout_fact m)

  unfoldable pub left : ℕ → Progress → ℕ
  left taken p = fresh M p.live + fresh M (took_bailout taken p)

  pub whole : (p : Progress) → Within t D B s p → Whole g 0 p.lines
  unfolding drain_of
  whole p r = subst (λ (l : List Line). Whole g 0 l) (sym r.is) (whole_more t 0 r.starts [] (omega arith) r.good (whole_none t))

  took_more : (taken : ℕ) (p : Progress) (m : ℕ) → took_bailout taken p m ≡ true → has g 0 p.lines (bailout_fact m) ≡ true
  unfolding took_bailout
  took_more taken p m h =
      subst (λ (l : List Line). has g 0 l (bailout_fact m) ≡ true) (take-append-drop taken p.lines) (has-append g 0 (take taken p.lines) (drop taken p.lines) (bailout_fact m) h)

  -- a bailout behind the first `taken` lines was not taken
  module _ (taken : ℕ) (p : Progress) (r : Within t D B s p) (k : ℕ) (u : taken + k < length p.lines) (m : ℕ) (e : fact_at p.lines (taken + k) ≡ bailout_fact m) where
    bailout_below : Good g (bailout_fact m)
    unfolding fact_at
    bailout_below = subst (λ f. Good g f) e (every_at (λ l. Good g l.fact) p.lines no_line (lines_good t D B s p r) (taken + k) u)

    not_taken : took_bailout taken p m ≡ false
    unfolding took_bailout fact_at marks_from
    not_taken = refuted (has g 0 (take taken p.lines) (bailout_fact m)) no
      where
        no : has g 0 (take taken p.lines) (bailout_fact m) ≡ true → ⊥
        no h =
            let w = has_line t (take taken p.lines) (bailout_fact m) (every_take (λ l. Good g l.fact) taken p.lines (lines_good t D B s p r)) bailout_below h in
            let l : w.number < taken = omega (arith, w.inside, length-take-le taken p.lines (omega (arith, u))) in
            let q : (get_or p.lines w.number no_line).fact ≡ bailout_fact m = ap (λ x. x.fact) (sym (get_or-take taken p.lines w.number no_line l)) ∙ w.is in
            lines_apart g no_line 0 p.lines (whole p r).sound.apart w.number (taken + k) (omega (arith, l)) u (λ z. absurd (omega (arith, z))) (q ∙ sym e)

    here-now : has g 0 p.lines (bailout_fact m) ≡ true
    unfolding has marks_from
    here-now = line_marked g p.lines (bailout_fact m) (record { number = taken + k; inside = u; is = e })

  -- a round never leaves more, and less where a module came alive or a bailout was taken for the first time
  module _ (taken : ℕ) (p : Progress) where
    abbrev next : Progress
    next = round g v taken p

    took-next : (m : ℕ) → has g 0 p.lines (bailout_fact m) ≡ true → took_bailout (length p.lines) next m ≡ true
    unfolding took_bailout
    took-next m h = subst (λ (l : List Line). has g 0 l (bailout_fact m) ≡ true) (sym (goes_front p.lines next.lines (round_further g v taken p).lines_go)) h

    took-kept : (m : ℕ) → took_bailout taken p m ≡ true → took_bailout (length p.lines) next m ≡ true
    took-kept m h = took-next m (took_more taken p m h)

    live-less : Newly M p next → left (length p.lines) next < left taken p
    unfolding left
    live-less n =
        let a = fresh_less M n.which p.live next.live (round_further g v taken p).live_stays n.below n.was_not n.is_now in
        let b = fresh_falls M (took_bailout taken p) (took_bailout (length p.lines) next) took-kept in
        omega (arith, a, b)

    bailout-less : Within t D B s p → (k : ℕ) → taken + k < length p.lines → (m : ℕ) → fact_at p.lines (taken + k) ≡ bailout_fact m → left (length p.lines) next < left taken p
    unfolding left
    bailout-less r k u m e =
        let a = fresh_falls M p.live next.live (round_further g v taken p).live_stays in
        let b = fresh_less M m (took_bailout taken p) (took_bailout (length p.lines) next) took-kept (bailout_below taken p r k u m e) (not_taken taken p r k u m e) (took-next m (here-now taken p r k u m e)) in
        omega (arith, a, b)

    -- a new line: of a bailout, or else of a try
    bailed-none : bailouts_starts g (drop taken p.lines) ≡ [] → (bailed g v taken p).lines ≡ p.lines
    unfolding bailed starting drained_all
    bailed-none e = ap (λ (fs : List Fact). drained_all g v 0 fs p.lines) e

    bailed-live : (m : ℕ) → (bailed g v taken p).live m ≡ p.live m
    unfolding bailed starting
    bailed-live m = refl

    tries-live : bailouts_starts g (drop taken p.lines) ≡ [] → length p.lines < length next.lines → Newly M p next
    unfolding round
    tries-live e h =
        let l = ap (λ (x : List Line). length x) (bailed-none e) in
        let n =
        tries_newly (sorted_entries g) (bailed g v taken p) (every_listed (λ e. (e < g.header.entries) × (is_dynamic g e ≡ true)) (sorted_entries g) (sorted_dynamic g)) (omega (arith, l, h)) in
        record { which = n.which; below = n.below; was_not = sym (bailed-live n.which) ∙ n.was_not; is_now = n.is_now }

    line-less : Within t D B s p → length p.lines < length next.lines → left (length p.lines) next < left taken p
    unfolding fact_at
    line-less r h = ⊎_elim one none (either (some is_bailout (drop taken p.lines)))
      where
        one : some is_bailout (drop taken p.lines) ≡ true → left (length p.lines) next < left taken p
        one e =
            let k = some_place is_bailout (drop taken p.lines) no_line e in
            let u : taken + k.0 < length p.lines = omega (arith, k.1, length-drop taken p.lines) in
            let f = get_or-drop taken p.lines k.0 no_line in
            let q = bailout_is (get_or (drop taken p.lines) k.0 no_line).fact k.2 in
            bailout-less r k.0 u (first_part (get_or (drop taken p.lines) k.0 no_line).fact) (ap (λ (x : Line). x.fact) (sym f) ∙ q)

        none : some is_bailout (drop taken p.lines) ≡ false → left (length p.lines) next < left taken p
        none e = live-less (tries-live (no_bailouts g (drop taken p.lines) e) h)

    pub moved-less : Within t D B s p → has_moved g p next ≡ true → left (length p.lines) next < left taken p
    unfolding has_moved
    moved-less r e =
        ⊎_elim (λ q. line-less r (ltb-true (length p.lines) (length next.lines) q)) (λ q. live-less (newly_found g p next q))
        (or_cases (ltb (length p.lines) (length next.lines)) (ltb (live_count g p.live) (live_count g next.live)) e)

  module _ (test : Progress → Progress → Bool) (moves : (p q : Progress) → test p q ≡ true → has_moved g p q ≡ true) where
    -- From `made` rounds on: how many more there are before the last one, after which the test says no, and what all of them come to. It says yes after each
    -- of the others.
    pub record Course (made taken : ℕ) (p : Progress) (e : Ended) : Type 0 where
      pub before : ℕ
      pub rounds_are : e.rounds ≡ made + suc before
      pub end_is : e.end ≡ (rounds_from g v always (suc before) made taken p).end
      pub says-no : test (rounds_from g v always before made taken p).end (rounds_from g v always (suc before) made taken p).end ≡ false
      pub says-yes : (n : ℕ) → n < before → test (rounds_from g v always n made taken p).end (rounds_from g v always (suc n) made taken p).end ≡ true

    one_more : (made taken : ℕ) (p : Progress) (e : Ended) → test p (round g v taken p) ≡ true → Course (made + 1) (length p.lines) (round g v taken p) e → Course made taken p e
    unfolding rounds_from
    one_more made taken p e y c =
        record {
          before = suc c.before;
          rounds_are = omega (arith, c.rounds_are);
          end_is = c.end_is;
          says-no = c.says-no;
          says-yes = earlier;
        }
      where
        earlier : (n : ℕ) → n < suc c.before → test (rounds_from g v always n made taken p).end (rounds_from g v always (suc n) made taken p).end ≡ true
        earlier zero h = y
        earlier (suc n) h = c.says-yes n (omega (arith, h))

    pub course : (fuel made taken : ℕ) (p : Progress) → Within t D B s p → left taken p < fuel → Course made taken p (rounds_from g v test fuel made taken p)
    unfolding rounds_from
    course zero made taken p r h = absurd (omega (arith, h))
    course (suc fuel) made taken p r h =
        go (test p next) refl (λ e. course fuel (made + 1) (length p.lines) next (round_run t D B s taken p r) (omega (arith, h, moved-less taken p r (moves p next e))))
      where
        next : Progress
        next = round g v taken p

        later : Ended
        later = rounds_from g v test fuel (made + 1) (length p.lines) next

        go : (b : Bool) → test p next ≡ b → (test p next ≡ true → Course (made + 1) (length p.lines) next later)
            → Course made taken p (elim b [ true ↦ later | false ↦ ended_at (made + 1) (length p.lines) next ])
        go true e q = one_more made taken p later e (q e)
        go false e q = record { before = 0; rounds_are = omega arith; end_is = refl; says-no = e; says-yes = λ n u. absurd (omega (arith, u)) }

    -- more fuel changes nothing
    pub fuel_never : (fuel more made taken : ℕ) (p : Progress) → Within t D B s p → left taken p < fuel → rounds_from g v test (fuel + more) made taken p ≡ rounds_from g v test fuel made taken p
    unfolding rounds_from
    fuel_never zero more made taken p r h = absurd (omega (arith, h))
    fuel_never (suc fuel) more made taken p r h =
        let y : suc fuel + more ≡ suc (fuel + more) = omega arith in
        ap (λ k. rounds_from g v test k made taken p) y
        ∙ go (test p z) refl (λ e. fuel_never fuel more (made + 1) (length p.lines) z (round_run t D B s taken p r) (omega (arith, h, moved-less taken p r (moves p z e))))
      where
        z : Progress
        z = round g v taken p

        next-by : ℕ → Ended
        next-by k = rounds_from g v test k (made + 1) (length p.lines) z

        go : (b : Bool) → test p z ≡ b → (test p z ≡ true → next-by (fuel + more) ≡ next-by fuel)
            → ◌≡◌ {A = Ended} (elim b [ true ↦ next-by (fuel + more) | false ↦ ended_at (made + 1) (length p.lines) z ])
            (elim b [ true ↦ next-by fuel | false ↦ ended_at (made + 1) (length p.lines) z ])
        go true e q = q e
        go false e q = refl

    left_few : left 0 (begun g v) < rounds_fuel g
    unfolding left
    left_few = omega (arith, fresh_few M (begun g v).live, fresh_few M (took_bailout 0 (begun g v)))

    pub all-course : Course 0 0 (begun g v) (rounds_from g v test (rounds_fuel g) 0 0 (begun g v))
    all-course = course (rounds_fuel g) 0 0 (begun g v) (begun_run t D B s) left_few

    pub all-fuel-never : (more : ℕ) → rounds_from g v test (rounds_fuel g + more) 0 0 (begun g v) ≡ rounds_from g v test (rounds_fuel g) 0 0 (begun g v)
    all-fuel-never more = fuel_never (rounds_fuel g) more 0 0 (begun g v) (begun_run t D B s) left_few

  -- rounds whatever they bring: what each comes to, from the one before it
  pub made_next : (n made taken : ℕ) (p : Progress) → (rounds_from g v always (suc n) made taken p).end ≡ round g v (rounds_from g v always n made taken p).taken (rounds_from g v always n made taken p).end
  unfolding rounds_from
  made_next zero made taken p = refl
  made_next (suc n) made taken p = made_next n (made + 1) (length p.lines) (round g v taken p)

  pub made_within : (n made taken : ℕ) (p : Progress) → Within t D B s p → Taken t D B s taken p
      → Within t D B s (rounds_from g v always n made taken p).end × Taken t D B s (rounds_from g v always n made taken p).taken (rounds_from g v always n made taken p).end
  unfolding rounds_from
  made_within zero made taken p r a = (r, a)
  made_within (suc n) made taken p r a = made_within n (made + 1) (length p.lines) (round g v taken p) (round_run t D B s taken p r) (round_taken t D B s taken p r a)

  none_taken : Taken t D B s 0 (begun g v)
  unfolding bailouts_starts
  none_taken = tt

  pub begun_within : (n : ℕ) → Within t D B s (rounds_from g v always n 0 0 (begun g v)).end × Taken t D B s (rounds_from g v always n 0 0 (begun g v)).taken (rounds_from g v always n 0 0 (begun g v)).end
  begun_within n = made_within n 0 0 (begun g v) (begun_run t D B s) none_taken
