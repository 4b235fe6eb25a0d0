-- A plan whose marks of liveness and of death are written: its order and its cycles stay.
use Prim.Native.Nat.{ℕ, ◌+◌, ◌<◌, ◌≤◌}
use mathlib.Core.Path.{◌≡◌, refl, ap, ◌∙◌, sym}
use mathlib.Core.Logic.{◌≢◌}
use mathlib.Core.Bool.{Bool, true, false, ◌||◌, ◌&&◌}
use mathlib.Core.List.{List, ◌∷◌}
use native.Mathlib.Decide.{dec_lt}
use native.Mathlib.Numerals.{add-one}
use native.Mathlib.Omega.{arith}
use borrow.Author.Tests.{eqb-true, eqb-false, ne_eqb, lt-ltb, le-ltb}
use lib.Dec.{eqb, ltb}
use lib.ListN.{length, get_or, take, drop, set, length-set}
use lib.Seq.{drop-cons, get_or-take, get_or-set_same, get_or-set_other, length-take-le, ext_get_or}
use Rattle.determine_side_effects.specs.graph_format_crate.declared.Header.{Header}
use Rattle.determine_side_effects.specs.graph_crate.Check.{Graph}
use Rattle.keep_record.specs.declared.Line.{Line}
use Rattle.entry_order.specs.Plan.{is_set, live_in, dead_in, live_at, dead_at, cycled_at, plan_size, Untouched}
use Rattle.dynamic_entries.specs.Tries.{progress_in, now_dead, Planned}

-- the entry at a place, and those behind it
pub order_next : (n : ℕ) (plan : List ℕ) (i : ℕ) → n ≤ length plan → i < n → drop i (take n plan) ≡ get_or plan i 0 ∷ drop (i + 1) (take n plan)
order_next n plan i l h =
    let k : i < length (take n plan) = omega (arith, length-take-le n plan l) in
    rw (drop-cons (take n plan) i 0 k, get_or-take n plan i 0 h, ← add-one i)

-- words that were not written
pub untouched_none : (from to : ℕ) (xs : List ℕ) → Untouched from to xs xs
untouched_none from to xs = record { same_length = refl; same = λ i h. refl }

pub untouched_set : (from to : ℕ) (xs ys : List ℕ) (k x : ℕ) → Untouched from to xs ys → from ≤ k → k < to → Untouched from to xs (set ys k x)
untouched_set from to xs ys k x u a b =
    record {
      same_length = length-set ys k x ∙ u.same_length;
      same = λ i h. (let d : i ≢ k = λ e. h (omega arith) (omega arith) in get_or-set_other ys k i x 0 d) ∙ u.same i h;
    }

-- the order and the cycles stay where only marks of liveness and of death are written
module _ (g : Graph) (plan₀ plan : List ℕ) (from to : ℕ) (u : Untouched from to plan₀ plan) (low : g.header.entries ≤ from) (high : to ≤ cycled_at g.header) where
  pub place_kept : (i : ℕ) → i < g.header.entries → get_or plan i 0 ≡ get_or plan₀ i 0
  place_kept i h = u.same i (λ a b. omega arith)

  pub order_kept : plan_size g.header ≤ length plan₀ → take g.header.entries plan ≡ take g.header.entries plan₀
  order_kept l =
      let l₀ : length (take g.header.entries plan₀) ≡ g.header.entries = length-take-le g.header.entries plan₀ (omega arith) in
      let l₁ : length (take g.header.entries plan) ≡ g.header.entries = length-take-le g.header.entries plan (omega (arith, u.same_length)) in
      ext_get_or 0 (take g.header.entries plan) (take g.header.entries plan₀) (l₁ ∙ sym l₀)
      (λ i h. (let j : i < g.header.entries = omega arith in get_or-take g.header.entries plan i 0 j ∙ place_kept i j ∙ sym (get_or-take g.header.entries plan₀ i 0 j)))

  pub planned_kept : (users : ℕ) → Planned g plan₀ users → Planned g plan users
  planned_kept users p =
      record {
        long = omega (arith, u.same_length, p.long);
        few = omega (arith, u.same_length, p.few);
        users_are = p.users_are;
        all = p.all;
        order = order_kept p.long ∙ p.order;
        are_entries = record { long = omega (arith, u.same_length, p.are_entries.long); below = λ i h. rw (place_kept i h) (p.are_entries.below i h) };
        cycles = λ m h. (let s : get_or plan (cycled_at g.header + m) 0 ≡ get_or plan₀ (cycled_at g.header + m) 0 = u.same (cycled_at g.header + m) (λ a b. omega arith) in ap (λ (x : ℕ). eqb x 1) s ∙ p.cycles m h);
      }

-- a mark of a part
module _ (at count : ℕ) (plan : List ℕ) (i : ℕ) where
  pub set_is : i < count → get_or plan (at + i) 0 ≡ 1 → is_set at count plan i ≡ true
  unfolding is_set
  set_is h e = rw (lt-ltb i count h, e)

  pub set_not : (get_or plan (at + i) 0 ≡ 1 → ⊥) → is_set at count plan i ≡ false
  unfolding is_set
  set_not n = rw (ne_eqb (get_or plan (at + i) 0) 1 n) (go (ltb i count))
    where
      go : (b : Bool) → (b && false) ≡ false
      go true = refl
      go false = refl

  -- a word outside of the part was written
  pub set_elsewhere : (k x : ℕ) → (at ≤ k → k < at + count → ⊥) → is_set at count (set plan k x) i ≡ is_set at count plan i
  unfolding is_set
  set_elsewhere k x o = go (dec_lt i count)
    where
      go : Dec (i < count) → is_set at count (set plan k x) i ≡ is_set at count plan i
      go (yes h) = let d : at + i ≢ k = λ e. o (omega arith) (omega arith) in rw (get_or-set_other plan k (at + i) x 0 d)
      go (no h) = let l : count ≤ i = omega arith in rw (le-ltb i count l)

  -- a word of the part was set
  pub set_there : (e : ℕ) → e < count → at + e < length plan → is_set at count (set plan (at + e) 1) i ≡ (eqb i e || is_set at count plan i)
  unfolding is_set
  set_there e h l = go (eqb i e) refl
    where
      go : (b : Bool) → eqb i e ≡ b → is_set at count (set plan (at + e) 1) i ≡ (b || is_set at count plan i)
      go true q =
          let z : i ≡ e = eqb-true i e q in
          let k : i < count = omega arith in
          rw (z, get_or-set_same plan (at + e) 1 0 l, lt-ltb e count h)
      go false q =
          let d : at + i ≢ at + e = λ z. eqb-false i e q (omega arith) in
          rw (get_or-set_other plan (at + e) (at + i) 1 0 d)

-- the progress of a plan in which an entry was marked dead, a module live
module _ (h : Header) (plan : List ℕ) (long : plan_size h ≤ length plan) (lines : List Line) where
  pub progress_dead : (e : ℕ) → e < h.entries → progress_in h lines (set plan (h.entries + h.modules + e) 1) ≡ now_dead e (progress_in h lines plan)
  unfolding progress_in now_dead live_in dead_in
  progress_dead e k = λ i. record { lines = lines; live = λ m. live_same m i; dead = λ x. dead-more x i }
    where
      live_same : (m : ℕ) → is_set (live_at h) h.modules (set plan (h.entries + h.modules + e) 1) m ≡ is_set (live_at h) h.modules plan m
      live_same m = set_elsewhere (live_at h) h.modules plan m (h.entries + h.modules + e) 1 (λ a b. omega arith)

      dead-more : (x : ℕ) → is_set (dead_at h) h.entries (set plan (h.entries + h.modules + e) 1) x ≡ (eqb x e || is_set (dead_at h) h.entries plan x)
      dead-more x = set_there (dead_at h) h.entries plan x e k (omega (arith, long))
