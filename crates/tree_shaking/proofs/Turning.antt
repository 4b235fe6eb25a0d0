-- A round, and rounds one after another.
use Prim.Native.Nat.{ℕ, suc, ◌+◌, ◌*◌, ◌-◌, ◌<◌, ◌≤◌}
use mathlib.Core.Path.{◌≡◌, refl, ap, ◌∙◌, sym, subst}
use mathlib.Core.Bool.{Bool, true, false}
use mathlib.Core.List.{List, []}
use native.Mathlib.Decide.{dec_lt}
use native.Mathlib.Omega.{arith}
use borrow.Author.Tests.{le-ltb}
use lib.ListN.{length, get_or, drop}
use Rattle.determine_side_effects.specs.graph_crate.Check.{Graph}
use Rattle.determine_side_effects.specs.Effects.{last_verdicts}
use Rattle.keep_record.specs.Held.{lines_of}
use Rattle.keep_record.proofs.Rows.{lines-length}
use Rattle.entry_order.specs.Order.{user_entries}
use Rattle.entry_order.specs.Plan.{is_set, live_in, dead_in, live_at, dead_at, cycled_at}
use Rattle.entry_starts.specs.Working.{Working, Started}
use Rattle.entry_starts.proofs.Together.{lines_after}
use Rattle.dynamic_entries.specs.Sorted.{sorted_entries}
use Rattle.dynamic_entries.specs.Tries.{Progress, progress_in, starting, tries, Planned, Unlived}
use Rattle.entry_liveness.proofs.Plans.{set_not}
use Rattle.passes.specs.Bailouts.{bailouts_starts}
use Rattle.tree_shaking.specs.declared.Reached.{Reached}
use Rattle.tree_shaking.specs.Rounds.{bailed, round, goes_on, Ended, ended_at, rounds_from, users_starts, no_one, begun, main_part}
use Rattle.tree_shaking.specs.Parts.{Progressed, CountsLive, TellsFurther, reached_by, MainEnds}
use Rattle.tree_shaking.proofs.Longer.{bailed_longer, round_longer, rounds-longer, first-longer, rounds-next, rounds-last}
use Rattle.tree_shaking.proofs.Trying.{progress_started}
use Rattle.std.specs.Prelude.{Result, Ok}
use Rattle.keep_record.specs.declared.Full.{Full}
use Rattle.keep_record.specs.Held.{no_room}

-- a round: its bailouts were started
module _ (g : Graph) (users taken : ℕ) (row : List ℕ) (c : ℕ) (plan : List ℕ) (partners marks row' : List ℕ) where
  pub bailed_is : (d : ℕ) → Started g 0 (bailouts_starts g (drop taken (lines_of c row))) (lines_of c row) partners marks row' (Ok d)
      → progress_in g.header (lines_of d row') plan ≡ bailed g (last_verdicts g) taken (progress_in g.header (lines_of c row) plan)
  unfolding bailed progress_in
  bailed_is d s = progress_started g (bailouts_starts g (drop taken (lines_of c row))) (lines_of c row) plan partners marks row' d s

  pub round_is : (d : ℕ) → Started g 0 (bailouts_starts g (drop taken (lines_of c row))) (lines_of c row) partners marks row' (Ok d)
      → tries g (last_verdicts g) (sorted_entries g) (progress_in g.header (lines_of d row') plan) ≡ round g (last_verdicts g) taken (progress_in g.header (lines_of c row) plan)
  unfolding round
  round_is d s = ap (tries g (last_verdicts g) (sorted_entries g)) (bailed_is d s)

  pub round_full : (plan' : List ℕ) → Started g 0 (bailouts_starts g (drop taken (lines_of c row))) (lines_of c row) partners marks row' no_room
      → Progressed g users (round g (last_verdicts g) taken (progress_in g.header (lines_of c row) plan)) partners marks row' plan' no_room
  unfolding bailed starting progress_in
  round_full plan' s =
      record {
        working = λ d q. let z : ◌≡◌ {A = ℕ} 0 1 = cc in absurd (omega arith);
        is = λ d q. let z : ◌≡◌ {A = ℕ} 0 1 = cc in absurd (omega arith);
        planned = λ d q. let z : ◌≡◌ {A = ℕ} 0 1 = cc in absurd (omega arith);
        full = λ q. omega (arith, s.grown.full refl, round_longer g (last_verdicts g) taken (progress_in g.header (lines_of c row) plan));
      }

-- In the loop, after `made` rounds: what is left comes to the whole.
pub record Turning (g : Graph) (users : ℕ) (out : Ended) (partners marks row plan : List ℕ) (c taken made : ℕ) : Type 0 where
  pub working : Working g 0 partners marks row c
  pub planned : Planned g plan users
  pub taken_inside : taken ≤ c
  pub few : made ≤ 2 * g.header.modules + 1
  pub on : rounds_from g (last_verdicts g) (goes_on g) (2 * g.header.modules + 1 - made) made taken (progress_in g.header (lines_of c row) plan) ≡ out

pub turning_start : (g : Graph) (users : ℕ) (partners marks row plan : List ℕ) (c : ℕ) → Working g 0 partners marks row c → Planned g plan users
    → Turning g users (rounds_from g (last_verdicts g) (goes_on g) (2 * g.header.modules + 1) 0 0 (progress_in g.header (lines_of c row) plan)) partners marks row plan c 0 0
turning_start g users partners marks row plan c w p =
    let e : 2 * g.header.modules + 1 - 0 ≡ 2 * g.header.modules + 1 = omega arith in
    record { working = w; planned = p; taken_inside = omega arith; few = omega arith; on = rw e }

-- rows that hold what the main part comes to
pub ended_as : (g : Graph) (users : ℕ) (out : Ended) (partners marks row plan : List ℕ) (n taken c : ℕ) → Working g 0 partners marks row c → Planned g plan users
    → ended_at n taken (progress_in g.header (lines_of c row) plan) ≡ out
    → {x : Reached} → x ≡ record { users = users; rounds = n; taken = taken; main = c; total = c } → MainEnds g users out partners marks row plan (Ok x)
unfolding progress_in
ended_as g users out partners marks row plan n taken c w p e {x} i =
    record {
      reached = λ y q. sym (the y q) ∙ i ∙ as-reached;
      working = λ y q. subst (λ (k : ℕ). Working g 0 partners marks row k) (count y q) w;
      is = λ y q. subst (λ (k : ℕ). progress_in g.header (lines_of k row) plan ≡ out.end) (count y q) (ap (λ (o : Ended). o.end) e);
      planned = λ y q. p;
      full = λ q. let z : ◌≡◌ {A = ℕ} 0 1 = cc in absurd (omega arith);
    }
  where
    the : (y : Reached) → ◌≡◌ {A = Result Reached Full} (Ok x) (Ok y) → x ≡ y
    the y q = cc

    count : (y : Reached) → ◌≡◌ {A = Result Reached Full} (Ok x) (Ok y) → c ≡ y.main
    count y q = sym (ap (λ (k : Reached). k.main) i) ∙ ap (λ (k : Reached). k.main) (the y q)

    lines_are : c ≡ length out.end.lines
    lines_are = sym (lines-length c row) ∙ ap (λ (o : Ended). length o.end.lines) e

    as-reached : ◌≡◌ {A = Reached} (record { users = users; rounds = n; taken = taken; main = c; total = c }) (reached_by users out)
    as-reached = λ k. record { users = users; rounds = (e k).rounds; taken = (e k).taken; main = lines_are k; total = lines_are k }

pub too_short : (g : Graph) (users : ℕ) (out : Ended) (partners marks row plan : List ℕ) → length row < 6 * length out.end.lines → MainEnds g users out partners marks row plan no_room
too_short g users out partners marks row plan l =
    record {
      reached = λ x q. let z : ◌≡◌ {A = ℕ} 0 1 = cc in absurd (omega arith);
      working = λ x q. let z : ◌≡◌ {A = ℕ} 0 1 = cc in absurd (omega arith);
      is = λ x q. let z : ◌≡◌ {A = ℕ} 0 1 = cc in absurd (omega arith);
      planned = λ x q. let z : ◌≡◌ {A = ℕ} 0 1 = cc in absurd (omega arith);
      full = λ q. l;
    }

module _ (g : Graph) (users : ℕ) (out : Ended) (partners marks row plan : List ℕ) (c taken made : ℕ) (t : Turning g users out partners marks row plan c taken made) where
  -- all rounds were made that may be
  pub turning_end : 2 * g.header.modules < made → {x : Reached} → x ≡ record { users = users; rounds = made; taken = taken; main = c; total = c } → MainEnds g users out partners marks row plan (Ok x)
  unfolding rounds_from
  turning_end h i = let e : 2 * g.header.modules + 1 - made ≡ 0 = omega arith in ended_as g users out partners marks row plan made taken c t.working t.planned (rw e at t.on) i

  -- one more
  module _ (h : made ≤ 2 * g.header.modules) (partners' marks' row' plan' : List ℕ) where
    one_less : rounds_from g (last_verdicts g) (goes_on g) (suc (2 * g.header.modules + 1 - (made + 1))) made taken (progress_in g.header (lines_of c row) plan) ≡ out
    one_less = let e : suc (2 * g.header.modules + 1 - (made + 1)) ≡ 2 * g.header.modules + 1 - made = omega arith in rw e t.on

    pub turn-short : Progressed g users (round g (last_verdicts g) taken (progress_in g.header (lines_of c row) plan)) partners' marks' row' plan' no_room → MainEnds g users out partners' marks' row' plan' no_room
    turn-short s =
        too_short g users out partners' marks' row' plan'
        (omega (arith, s.full refl, first-longer g (last_verdicts g) (goes_on g) (2 * g.header.modules + 1 - (made + 1)) made taken (progress_in g.header (lines_of c row) plan), ap (λ (x : Ended). length x.end.lines) one_less))

    module _ (n : ℕ) (s : Progressed g users (round g (last_verdicts g) taken (progress_in g.header (lines_of c row) plan)) partners' marks' row' plan' (Ok n)) where
      lines_are : lines_of n row' ≡ (round g (last_verdicts g) taken (progress_in g.header (lines_of c row) plan)).lines
      unfolding progress_in
      lines_are = ap (λ (p : Progress). p.lines) (s.is n refl)

      count_is : length (progress_in g.header (lines_of c row) plan).lines ≡ c
      unfolding progress_in
      count_is = lines-length c row

      pub turn_more : c ≤ n
      turn_more =
          omega (arith, count_is, bailed_longer g (last_verdicts g) taken (progress_in g.header (lines_of c row) plan), round_longer g (last_verdicts g) taken (progress_in g.header (lines_of c row) plan), ap length lines_are, lines-length n row')

      module _ (live : ℕ) (count : CountsLive g (live_in g.header plan) live) where
        goes-is : (b : Bool) → TellsFurther g c live (progress_in g.header (lines_of n row') plan') b
            → goes_on g (progress_in g.header (lines_of c row) plan) (round g (last_verdicts g) taken (progress_in g.header (lines_of c row) plan)) ≡ b
        unfolding progress_in
        goes-is b e =
            let p = progress_in g.header (lines_of c row) plan in
            ap (λ (q : Progress). goes_on g p q) (sym (s.is n refl)) ∙ sym (e p count_is count)

        pub turn_last : (b : Bool) → TellsFurther g c live (progress_in g.header (lines_of n row') plan') b → b ≡ false
            → {x : Reached} → x ≡ record { users = users; rounds = made + 1; taken = c; main = n; total = n } → MainEnds g users out partners' marks' row' plan' (Ok x)
        turn_last b e f i =
            ended_as g users out partners' marks' row' plan' (made + 1) c n (s.working n refl) (s.planned n refl)
            ((λ k. ended_at (made + 1) (sym count_is k) (s.is n refl k))
            ∙ sym (rounds-last g (last_verdicts g) (goes_on g) (2 * g.header.modules + 1 - (made + 1)) made taken (progress_in g.header (lines_of c row) plan) (goes-is b e ∙ f))
            ∙ one_less) i

        pub turn_next : (b : Bool) → TellsFurther g c live (progress_in g.header (lines_of n row') plan') b → b ≡ true → Turning g users out partners' marks' row' plan' n c (made + 1)
        turn_next b e f =
            record {
              working = s.working n refl;
              planned = s.planned n refl;
              taken_inside = turn_more;
              few = omega arith;
              on =
                  ap (rounds_from g (last_verdicts g) (goes_on g) (2 * g.header.modules + 1 - (made + 1)) (made + 1) c) (s.is n refl)
                  ∙ ap (λ (k : ℕ). rounds_from g (last_verdicts g) (goes_on g) (2 * g.header.modules + 1 - (made + 1)) (made + 1) k (round g (last_verdicts g) taken (progress_in g.header (lines_of c row) plan))) (sym count_is)
                  ∙ sym (rounds-next g (last_verdicts g) (goes_on g) (2 * g.header.modules + 1 - (made + 1)) made taken (progress_in g.header (lines_of c row) plan) (goes-is b e ∙ f))
                  ∙ one_less;
            }

-- a place beyond a part of the plan is not set
set_beyond : (at count : ℕ) (plan : List ℕ) (i : ℕ) → count ≤ i → is_set at count plan i ≡ false
unfolding is_set
set_beyond at count plan i h = rw (le-ltb i count h)

-- the main part: the user-defined entries were started
module _ (g : Graph) (users : ℕ) (partners marks row plan : List ℕ) where
  pub begun_is : (d : ℕ) → Unlived g plan → Started g 0 (users_starts g (user_entries g)) [] partners marks row (Ok d) → progress_in g.header (lines_of d row) plan ≡ begun g (last_verdicts g)
  unfolding progress_in begun starting live_in dead_in no_one
  begun_is d u s = λ i. record { lines = lines_after g 0 (users_starts g (user_entries g)) [] partners marks row d s i; live = λ m. unlive m i; dead = λ x. undead x i }
    where
      word : (j : ℕ) → g.header.entries ≤ j → j < cycled_at g.header → get_or plan j 0 ≡ 1 → ⊥
      word j a b e = omega (arith, u.unlived j a b)

      unlive : (m : ℕ) → is_set (live_at g.header) g.header.modules plan m ≡ false
      unlive m = go (dec_lt m g.header.modules)
        where
          go : Dec (m < g.header.modules) → is_set (live_at g.header) g.header.modules plan m ≡ false
          go (yes h) = set_not (live_at g.header) g.header.modules plan m (word (g.header.entries + m) (omega arith) (omega arith))
          go (no h) = set_beyond (live_at g.header) g.header.modules plan m (omega arith)

      undead : (x : ℕ) → is_set (dead_at g.header) g.header.entries plan x ≡ false
      undead x = go (dec_lt x g.header.entries)
        where
          go : Dec (x < g.header.entries) → is_set (dead_at g.header) g.header.entries plan x ≡ false
          go (yes h) = set_not (dead_at g.header) g.header.entries plan x (word (g.header.entries + g.header.modules + x) (omega arith) (omega arith))
          go (no h) = set_beyond (dead_at g.header) g.header.entries plan x (omega arith)

  pub main_is : (d : ℕ) → Unlived g plan → Started g 0 (users_starts g (user_entries g)) [] partners marks row (Ok d)
      → rounds_from g (last_verdicts g) (goes_on g) (2 * g.header.modules + 1) 0 0 (progress_in g.header (lines_of d row) plan) ≡ main_part g (last_verdicts g)
  unfolding main_part
  main_is d u s = ap (rounds_from g (last_verdicts g) (goes_on g) (2 * g.header.modules + 1) 0 0) (begun_is d u s)

  pub main_full : (plan' : List ℕ) → Started g 0 (users_starts g (user_entries g)) [] partners marks row no_room → MainEnds g users (main_part g (last_verdicts g)) partners marks row plan' no_room
  unfolding main_part begun starting
  main_full plan' s = too_short g users (main_part g (last_verdicts g)) partners marks row plan' (omega (arith, s.grown.full refl, rounds-longer g (last_verdicts g) (goes_on g) (2 * g.header.modules + 1) 0 0 (begun g (last_verdicts g))))

pub main_ended : (g : Graph) (users : ℕ) (a b : Ended) → a ≡ b → (partners marks row plan : List ℕ) (r : Result Reached Full) → MainEnds g users a partners marks row plan r → MainEnds g users b partners marks row plan r
main_ended g users a b e partners marks row plan r s = subst (λ (x : Ended). MainEnds g users x partners marks row plan r) e s
