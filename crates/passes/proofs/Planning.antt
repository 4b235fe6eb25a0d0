-- Words written into the plan, one for each module.
use Prim.Native.Nat.{ℕ, ◌+◌, ◌<◌, ◌≤◌}
use mathlib.Core.Path.{◌≡◌, refl, ap, ◌∙◌, sym}
use mathlib.Core.Logic.{◌≢◌}
use mathlib.Core.List.{List}
use native.Mathlib.Decide.{dec_lt}
use native.Mathlib.Omega.{arith}
use lib.ListN.{length, get_or, set, length-set}
use lib.Seq.{get_or-set_same, get_or-set_other}
use Rattle.entry_order.specs.Plan.{Untouched}

-- the first m words of a part from `from` up to `to` are written
pub record Planned (word : ℕ → ℕ) (from to m : ℕ) (before plan : List ℕ) : Type 0 where
  pub untouched : Untouched from to before plan
  pub done : (j : ℕ) → j < m → (get_or plan (from + j) 0 ≡ word j) × (get_or plan (from + j) 0 < 4294967296)

module _ (word : ℕ → ℕ) (from to : ℕ) where
  pub planned_start : (plan : List ℕ) → Planned word from to 0 plan plan
  planned_start plan = record { untouched = record { same_length = refl; same = λ i h. refl }; done = λ j l. absurd (omega arith) }

  module _ (m : ℕ) (before plan : List ℕ) (p : Planned word from to m before plan) (at x : ℕ) (e : at ≡ from) (inside : from + m < to) (long : to ≤ length before) (is : x ≡ word m) (small : x < 4294967296) where
    there : at + m < length plan
    there = omega (arith, e, inside, long, p.untouched.same_length)

    pub planned-step : Planned word from to (m + 1) before (set plan (at + m) x)
    planned-step =
        record {
          untouched =
              record {
                same_length = length-set plan (at + m) x ∙ p.untouched.same_length;
                same = λ i h. (let d : i ≢ at + m = λ q. h (omega (arith, q, e)) (omega (arith, q, e)) in get_or-set_other plan (at + m) i x 0 d ∙ p.untouched.same i h);
              };
          done = λ j l. written j l (dec_lt j m);
        }
      where
        written : (j : ℕ) → j < m + 1 → Dec (j < m) → (get_or (set plan (at + m) x) (from + j) 0 ≡ word j) × (get_or (set plan (at + m) x) (from + j) 0 < 4294967296)
        written j l (yes h) =
            let d : from + j ≢ at + m = λ q. omega (arith, q, e, h) in
            let o = get_or-set_other plan (at + m) (from + j) x 0 d in
            let w = p.done j h in
            (o ∙ w.0, omega (arith, o, w.1))
        written j l (no h) =
            let q : j ≡ m = omega arith in
            let z : from + j ≡ at + m = omega (arith, e) in
            let o : get_or (set plan (at + m) x) (from + j) 0 ≡ x = ap (λ i. get_or (set plan (at + m) x) i 0) z ∙ get_or-set_same plan (at + m) x 0 there in
            (o ∙ is ∙ ap word (sym q), omega (arith, o, small))
