-- From the last completed down: a root's group, and what is left.
use Prim.Native.Nat.{ℕ, zero, suc, ◌+◌, ◌-◌, ◌*◌, ◌<◌, ◌≤◌}
use mathlib.Core.Path.{◌≡◌, refl, ap, ◌∙◌, sym, subst}
use mathlib.Core.Logic.{⊎_elim}
use mathlib.Core.Bool.{Bool, true, false, ◌||◌}
use mathlib.Core.List.{List, [], ◌∷◌, ◌++◌}
use native.Mathlib.Omega.{arith}
use native.Mathlib.Nat.{le_refl}
use borrow.Author.Tests.{lt-ltb, le-ltb, ltb-true, ltb-false}
use lib.Dec.{eqb, ltb}
use lib.ListN.{length, get_or}
use Rattle.bit_row.specs.Row.{bit_at}
use Rattle.graph_access.specs.Words.{tabulate}
use Rattle.keep_record.specs.Lines.{elem}
use Rattle.keep_record.proofs.Adding.{elem-append}
use Rattle.entry_order.specs.Order.{those}
use Rattle.entry_order.specs.Plan.{Untouched}
use Rattle.cycles.specs.Search.{Search, none, walk}
use Rattle.cycles.specs.Cycles.{Edge, several, groups}
use Rattle.cycles.specs.Memory.{last_first}
use Rattle.cycles.specs.Walked.{preds_in, search_of, Walked, Marked}
use Rattle.cycles.proofs.Members.{In, in_none, in_head, in_tail, in_single, those_in, count_in}
use Rattle.cycles.proofs.Paths.{handed}
use Rattle.cycles.proofs.Walks.{Walks, walk_is, fresh_few}
use Rattle.cycles.proofs.Ranks.{went}
use Rattle.cycles.proofs.Roots.{Clear, no_bits}
use Rattle.cycles.proofs.Marks.{untouched_start, untouched_both}

-- ---- the last first

pub in_last : (i c : ℕ) (xs : List ℕ) → i < c → In (last_first c xs) (get_or xs i 0)
unfolding last_first
in_last i zero xs h = absurd (omega arith)
in_last i (suc c) xs h = go (λ l. in_last i c xs l) (ltb i c) refl
  where
    go : (i < c → In (last_first c xs) (get_or xs i 0)) → (b : Bool) → ltb i c ≡ b → In (last_first (suc c) xs) (get_or xs i 0)
    go f true e = in_tail (get_or xs i 0) (get_or xs c 0) (last_first c xs) (f (ltb-true i c e))
    go f false e = let l = ltb-false i c e in let q : i ≡ c = omega (arith, l) in rw q (in_head (get_or xs c 0) (last_first c xs))

length_last : (c : ℕ) (xs : List ℕ) → length (last_first c xs) ≡ c
unfolding last_first
length_last zero xs = refl
length_last (suc c) xs = ap suc (length_last c xs)

last_turn : (k : ℕ) (xs : List ℕ) → 0 < k → last_first k xs ≡ get_or xs (k - 1) 0 ∷ last_first (k - 1) xs
unfolding last_first
last_turn k xs h = let e : k ≡ suc (k - 1) = omega arith in ap (λ (n : ℕ). last_first n xs) e

-- ---- a group's members are nodes

pub preds_below : (modules : ℕ) (edges : List ℕ) (v u : ℕ) → Edge (preds_in modules edges) v u → u < modules
unfolding preds_in
preds_below modules edges v u i = go (ltb v modules) refl
  where
    go : (b : Bool) → ltb v modules ≡ b → u < modules
    go true e =
        let j : In (those (λ x. bit_at edges (v * modules + x)) (tabulate (λ x. x) 0 modules)) u = rw (e, preds_in) at i in
        let l = count_in u 0 modules (those_in (λ x. bit_at edges (v * modules + x)) u (tabulate (λ x. x) 0 modules) j).0 in
        omega (arith, l.1)
    go false e = absurd (in_none u (rw (e, preds_in) at i))

module _ (p : ℕ → List ℕ) (modules : ℕ) (below : (v u : ℕ) → Edge p v u → u < modules) (r : ℕ) (group : List ℕ) {seen seen' group' : List ℕ} {size : ℕ}
    (w : Walked (walk p modules r (search_of seen group 0)) modules seen 0 seen' group' size) where
  pub group_few : size ≤ modules
  group_few = let l = w.left in let f = fresh_few modules (bit_at seen) in omega (arith, l, f)

  pub group_below : r < modules → (i : ℕ) → i < size → get_or group' i 0 < modules
  unfolding search_of last_first
  group_below h i l =
      let s : Search = record { seen = bit_at seen; done = [] } in
      let a : Walks p (r ∷ []) s (walk p modules r s) = walk_is p modules (λ v u k e. below v u e) modules r s h (le_refl modules) in
      let d : last_first size group' ≡ (walk p modules r s).done = ap (λ (q : Search). q.done) w.is in
      let m : In (walk p modules r s).done (get_or group' i 0) = subst (λ (xs : List ℕ). In xs (get_or group' i 0)) d (in_last i size group' l) in
      ⊎_elim (λ j. absurd (in_none (get_or group' i 0) j))
      (λ n. handed (λ x. x < modules) (λ x y e k. below x y e.1.1) n.path (let q = in_single n.root r n.listed in omega (arith, q, h)))
      ((went p a).only (get_or group' i 0) m)

-- ---- what is left of the roots, with what is marked, is the whole

pub record Marking (p : ℕ → List ℕ) (modules at : ℕ) (all plan₀ rest seen plan : List ℕ) : Type 0 where
  pub on : (m : ℕ) → m < modules → (elem m (groups p modules rest (bit_at seen)) || eqb (get_or plan (at + m) 0) 1) ≡ (elem m (groups p modules all none) || eqb (get_or plan₀ (at + m) 0) 1)
  pub others : Untouched at (at + modules) plan₀ plan

pub marking_start : (p : ℕ → List ℕ) (modules at : ℕ) (all plan seen : List ℕ) → Clear seen → Marking p modules at all plan all seen plan
marking_start p modules at all plan seen z =
    record {
      on = λ m h. ap (λ (f : ℕ → Bool). elem m (groups p modules all f) || eqb (get_or plan (at + m) 0) 1) (no_bits seen z);
      others = untouched_start at (at + modules) plan;
    }

or_turned : (a b c : Bool) → (a || (b || c)) ≡ ((b || a) || c)
or_turned true true c = refl
or_turned true false c = refl
or_turned false b c = ap (λ (x : Bool). x || c) (sym (or-false b))
  where
    or-false : (x : Bool) → (x || false) ≡ x
    or-false true = refl
    or-false false = refl

module _ (p : ℕ → List ℕ) (modules at : ℕ) (order : List ℕ) (k : ℕ) {all plan₀ seen plan : List ℕ} (g : Marking p modules at all plan₀ (last_first k order) seen plan) where
  module _ (z : 0 < k) (group : List ℕ) {seen' group' : List ℕ} {size : ℕ} (w : Walked (walk p modules (get_or order (k - 1) 0) (search_of seen group 0)) modules seen 0 seen' group' size) where
    rest : List ℕ
    rest = groups p modules (last_first (k - 1) order) (bit_at seen')

    groups-turn : groups p modules (last_first k order) (bit_at seen) ≡ several (last_first size group') ++ rest
    unfolding groups search_of last_first rest
    groups-turn =
        ap (λ (xs : List ℕ). groups p modules xs (bit_at seen)) (last_turn k order z)
        ∙ ap (λ (q : Search). several q.done ++ groups p modules (last_first (k - 1) order) q.seen) (sym w.is)

    pub mark-none : size ≤ 1 → Marking p modules at all plan₀ (last_first (k - 1) order) seen' plan
    unfolding several rest
    mark-none l =
        let t : ltb 1 (length (last_first size group')) ≡ false = le-ltb 1 (length (last_first size group')) (let q = length_last size group' in omega (arith, q, l)) in
        let d : several (last_first size group') ≡ [] = rw (t, several) in
        let e : groups p modules (last_first k order) (bit_at seen) ≡ rest = groups-turn ∙ ap (λ (xs : List ℕ). xs ++ rest) d in
        record { on = λ m h. ap (λ (xs : List ℕ). elem m xs || eqb (get_or plan (at + m) 0) 1) (sym e) ∙ g.on m h; others = g.others }

    pub mark-all : 1 < size → (plan' : List ℕ) → Marked (last_first size group') modules at plan plan' → Marking p modules at all plan₀ (last_first (k - 1) order) seen' plan'
    unfolding several rest
    mark-all l plan' s =
        let t : ltb 1 (length (last_first size group')) ≡ true = lt-ltb 1 (length (last_first size group')) (let q = length_last size group' in omega (arith, q, l)) in
        let d : several (last_first size group') ≡ last_first size group' = rw (t, several) in
        let e : groups p modules (last_first k order) (bit_at seen) ≡ last_first size group' ++ rest = groups-turn ∙ ap (λ (xs : List ℕ). xs ++ rest) d in
        record {
          on = λ m h.
              ap (λ (x : Bool). elem m rest || x) (s.set m h)
              ∙ or_turned (elem m rest) (elem m (last_first size group')) (eqb (get_or plan (at + m) 0) 1)
              ∙ ap (λ (x : Bool). x || eqb (get_or plan (at + m) 0) 1) (sym (elem-append m (last_first size group') rest) ∙ ap (λ (xs : List ℕ). elem m xs) (sym e))
              ∙ g.on m h;
          others = untouched_both at (at + modules) plan₀ plan plan' g.others s.others;
        }

  pub marking_done : k ≤ 0 → Marked (groups p modules all none) modules at plan₀ plan
  unfolding groups last_first elem
  marking_done l =
      let e : k ≡ 0 = omega arith in
      let b : (m : ℕ) → elem m (groups p modules (last_first k order) (bit_at seen)) ≡ false = λ m. rw (e, last_first, groups, elem) in
      record { set = λ m h. ap (λ (x : Bool). x || eqb (get_or plan (at + m) 0) 1) (sym (b m)) ∙ g.on m h; others = g.others }
