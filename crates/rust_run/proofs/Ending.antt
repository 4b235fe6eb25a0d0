-- An executed function that has ended: with what, and by which steps. A drain that has ended is one of the relation's.
use Rattle.std.proofs.Common.{◌≡◌, ℕ, Bool, true, false, List, refl, ap, subst}
use mathlib.Core.Bool.{false≢true}
use Rattle.determine_side_effects.specs.graph_crate.Check.{Graph}
use Rattle.rust_engine.specs.Context.{Context}
use Rattle.rust_engine.specs.Engine.{Drains, Returned, not_yet as not_drained, returned, drain_work_items}
use Rattle.rust_engine.proofs.Returning.{drain_returns}
use Rattle.rust_run.proofs.Executed.{Ended, not_yet, ended, then, drained}

unfoldable has_ended : {A : Type 0} → Ended A → Bool
has_ended not_yet = false
has_ended (ended a) = true

unfoldable end_or : {A : Type 0} → A → Ended A → A
end_or a not_yet = a
end_or a (ended b) = b

pub never_ends : {A : Type 0} (a : A) → not_yet ≡ ended a → ⊥
unfolding has_ended
never_ends a e = false≢true (ap (λ r. has_ended r) e)

pub same_end : {A : Type 0} (a b : A) → ended a ≡ ended b → a ≡ b
unfolding end_or
same_end a b e = ap (λ r. end_or a r) e

-- one thing after another has ended: so has the first, and the second from where that ended
pub record Through {A B : Type 0} (x : Ended A) (k : A → Ended B) (b : B) : Type 0 where
  pub middle : A
  pub first : x ≡ ended middle
  pub second : k middle ≡ ended b

pub through : {A B : Type 0} (x : Ended A) (k : A → Ended B) (b : B) → then x k ≡ ended b → Through x k b
unfolding then
through not_yet k b e = absurd (never_ends b e)
through (ended a) k b e = record { middle = a; first = refl; second = e }

-- a drain
pub drained_returns : (g : Graph) (v : List ℕ) (fuel : ℕ) (c d : Context) → drained g v fuel c ≡ ended d → Drains g v c d
unfolding drained
drained_returns g v fuel c d e = go (drain_work_items g v fuel c) refl e
  where
    go : (r : Returned) → drain_work_items g v fuel c ≡ r → (elim r [ not_drained ↦ not_yet | returned y ↦ ended y ]) ≡ ended d → Drains g v c d
    go not_drained q r = absurd (never_ends d r)
    go (returned y) q r = subst (λ z. Drains g v c z) (same_end y d r) (drain_returns g v fuel c y q)
