-- The drain ends where no line is left, and only appends.
use Prim.Native.Nat.{ℕ, zero, suc, ◌+◌, ◌<◌, ◌≤◌}
use mathlib.Core.Path.{◌≡◌, refl, ap}
use mathlib.Core.List.{List, [], ◌∷◌}
use native.Mathlib.Decide.{dec_lt}
use native.Mathlib.Omega.{arith}
use borrow.Author.Tests.{lt-ltb, le-ltb}
use lib.ListN.{length}
use Rattle.determine_side_effects.specs.graph_crate.Check.{Graph}
use Rattle.determine_side_effects.specs.facts_crate.declared.Fact.{Fact}
use Rattle.determine_side_effects.specs.facts_crate.Facts.{mark_count}
use Rattle.keep_record.specs.declared.Line.{Line}
use Rattle.keep_record.specs.Lines.{added, adds}
use Rattle.keep_record.proofs.Adding.{added_longer, adds_longer}
use Rattle.worklist.specs.Drain.{line, news, drained, started, drained_all}

module _ (g : Graph) (v : List ℕ) (base : ℕ) where
  pub drained_stop : (fuel k : ℕ) (lines : List Line) → length lines ≤ k → drained g v base fuel k lines ≡ lines
  unfolding drained
  drained_stop zero k lines h = refl
  drained_stop (suc fuel) k lines h = rw (le-ltb k (length lines) h, drained)

  pub drained_next : (fuel k : ℕ) (lines : List Line) → k < length lines → drained g v base (suc fuel) k lines ≡ drained g v base fuel (k + 1) (adds g base lines (news g v base lines k))
  unfolding drained
  drained_next fuel k lines h = rw (lt-ltb k (length lines) h, drained)

  pub drained_longer : (fuel k : ℕ) (lines : List Line) → length lines ≤ length (drained g v base fuel k lines)
  unfolding drained
  drained_longer zero k lines = omega arith
  drained_longer (suc fuel) k lines = go (dec_lt k (length lines)) (drained_longer fuel (k + 1) (adds g base lines (news g v base lines k)))
    where
      go : Dec (k < length lines) → length (adds g base lines (news g v base lines k)) ≤ length (drained g v base fuel (k + 1) (adds g base lines (news g v base lines k)))
          → length lines ≤ length (drained g v base (suc fuel) k lines)
      go (yes h) q = omega (arith, ap length (drained_next fuel k lines h), q, adds_longer g base lines (news g v base lines k))
      go (no h) q = let l : length lines ≤ k = omega arith in omega (arith, ap length (drained_stop (suc fuel) k lines l))

  pub started_longer : (lines : List Line) (f : Fact) → length (added g base lines (line f 0 0 0)) ≤ length (started g v base lines f)
  unfolding started
  started_longer lines f = drained_longer (mark_count g) (length lines) (added g base lines (line f 0 0 0))

  pub all_longer : (fs : List Fact) (lines : List Line) → length lines ≤ length (drained_all g v base fs lines)
  unfolding drained_all
  all_longer [] lines = omega arith
  all_longer (f ∷ fs) lines = omega (arith, added_longer g base lines (line f 0 0 0), started_longer lines f, all_longer fs (started g v base lines f))
