-- What the function gives, the relation has.
use Rattle.std.proofs.Common.{◌≡◌, ℕ, zero, suc, Bool, true, false, List, [], ◌∷◌, refl, ap, subst}
use mathlib.Core.Bool.{false≢true}
use Rattle.determine_side_effects.specs.graph_crate.Check.{Graph}
use Rattle.rust_engine.specs.Context.{Context, WorkItem, rest}
use Rattle.rust_engine.specs.Engine.{listed, Drains, returns, pops, handle, Returned, not_yet, returned, drain_work_items}

unfoldable is_returned : Returned → Bool
is_returned not_yet = false
is_returned (returned c) = true

unfoldable the_context : Context → Returned → Context
the_context d not_yet = d
the_context d (returned c) = c

never : (d : Context) → not_yet ≡ returned d → ⊥
unfolding is_returned
never d e = false≢true (ap (λ r. is_returned r) e)

same : (c d : Context) → returned c ≡ returned d → c ≡ d
unfolding the_context
same c d e = ap (λ r. the_context c r) e

pub drain_returns : (g : Graph) (v : List ℕ) (fuel : ℕ) (c d : Context) → drain_work_items g v fuel c ≡ returned d → Drains g v c d
unfolding drain_work_items
drain_returns g v zero c d e = go c.pending refl e
  where
    go : (is : List WorkItem) → c.pending ≡ is → (elim is [ [] ↦ returned c | i ∷ js ↦ not_yet ]) ≡ returned d → Drains g v c d
    go [] q r = subst (λ z. Drains g v c z) (same c d r) (returns c q)
    go (i ∷ is) q r = absurd (never d r)
drain_returns g v (suc fuel) c d e = go c.pending refl e (λ i is r. drain_returns g v fuel (handle g v listed i (rest is c)) d r)
  where
    go : (is : List WorkItem) → c.pending ≡ is → (elim is [ [] ↦ returned c | i ∷ js ↦ drain_work_items g v fuel (handle g v listed i (rest js c)) ]) ≡ returned d
        → ((i : WorkItem) (is : List WorkItem) → drain_work_items g v fuel (handle g v listed i (rest is c)) ≡ returned d
        → Drains g v (handle g v listed i (rest is c)) d) → Drains g v c d
    go [] q r more = subst (λ z. Drains g v c z) (same c d r) (returns c q)
    go (i ∷ is) q r more = pops c d i is listed (record { from_imports = λ xs x h. h; back_imports = λ xs x h. h; from_exports = λ xs x h. h; back_exports = λ xs x h. h }) q (more i is r)
