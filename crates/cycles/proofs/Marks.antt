-- The words of the modules on a cycle.
use Prim.Native.Nat.{ℕ, ◌+◌, ◌<◌, ◌≤◌}
use mathlib.Core.Path.{◌≡◌, refl, ◌∙◌, subst}
use mathlib.Core.Bool.{Bool, true, false, ◌||◌}
use mathlib.Core.List.{List}
use native.Mathlib.Numerals.{add-one}
use native.Mathlib.Omega.{arith}
use borrow.Author.Tests.{eqb-true, eqb-false}
use lib.Dec.{eqb}
use lib.ListN.{length, get_or, set, length-set}
use lib.Seq.{get_or-set_same, get_or-set_other}
use Rattle.keep_record.specs.Lines.{elem}
use Rattle.entry_order.specs.Plan.{Untouched}
use Rattle.cycles.specs.Memory.{last_first}
use Rattle.cycles.specs.Walked.{Marked}

-- ---- writes to a part of a row

pub untouched_start : (from to : ℕ) (xs : List ℕ) → Untouched from to xs xs
untouched_start from to xs = record { same_length = refl; same = λ i h. refl }

pub untouched_set : (from to : ℕ) (xs ys : List ℕ) (k x : ℕ) → Untouched from to xs ys → from ≤ k → k < to → Untouched from to xs (set ys k x)
untouched_set from to xs ys k x u a b =
    record {
      same_length = length-set ys k x ∙ u.same_length;
      same = λ i h. get_or-set_other ys k i x 0 (λ e. h (omega arith) (omega arith)) ∙ u.same i h;
    }

pub untouched_both : (from to : ℕ) (xs ys zs : List ℕ) → Untouched from to xs ys → Untouched from to ys zs → Untouched from to xs zs
untouched_both from to xs ys zs u v = record { same_length = v.same_length ∙ u.same_length; same = λ i h. v.same i h ∙ u.same i h }

-- ---- a group

pub marked_start : (group : List ℕ) (modules at : ℕ) (plan : List ℕ) → Marked (last_first 0 group) modules at plan plan
unfolding last_first elem
marked_start group modules at plan = record { set = λ m h. refl; others = untouched_start at (at + modules) plan }

elem_last : (i m : ℕ) (group : List ℕ) → elem m (last_first (i + 1) group) ≡ (eqb m (get_or group i 0) || elem m (last_first i group))
unfolding last_first elem
elem_last i m group = rw (add-one i, last_first, elem)

pub marked_step : (group : List ℕ) (modules at i : ℕ) (plan₀ plan : List ℕ) → get_or group i 0 < modules → at + modules ≤ length plan → Marked (last_first i group) modules at plan₀ plan
    → Marked (last_first (i + 1) group) modules at plan₀ (set plan (at + get_or group i 0) 1)
marked_step group modules at i plan₀ plan h l k =
    record { set = bit; others = untouched_set at (at + modules) plan₀ plan (at + get_or group i 0) 1 k.others (omega arith) (omega arith) }
  where
    bit : (m : ℕ) → m < modules → eqb (get_or (set plan (at + get_or group i 0) 1) (at + m) 0) 1 ≡ (elem m (last_first (i + 1) group) || eqb (get_or plan₀ (at + m) 0) 1)
    bit m a = go (eqb m (get_or group i 0)) refl
      where
        go : (b : Bool) → eqb m (get_or group i 0) ≡ b → eqb (get_or (set plan (at + get_or group i 0) 1) (at + m) 0) 1 ≡ (elem m (last_first (i + 1) group) || eqb (get_or plan₀ (at + m) 0) 1)
        go true e = let q = eqb-true m (get_or group i 0) e in rw (elem_last i m group, e, q, get_or-set_same plan (at + get_or group i 0) 1 0 (omega arith))
        go false e = let d = eqb-false m (get_or group i 0) e in rw (elem_last i m group, e, get_or-set_other plan (at + get_or group i 0) (at + m) 1 0 (λ p. d (omega arith))) (k.set m a)

pub marked_whole : (group : List ℕ) (modules at i size : ℕ) (plan₀ plan : List ℕ) → i ≡ size → Marked (last_first i group) modules at plan₀ plan → Marked (last_first size group) modules at plan₀ plan
marked_whole group modules at i size plan₀ plan e k = subst (λ (n : ℕ). Marked (last_first n group) modules at plan₀ plan) e k
