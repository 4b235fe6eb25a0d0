-- A depth-first walk that has no bound is ours with enough fuel: both complete the nodes in the same order.
use Prim.Native.Nat.{ℕ, ◌<◌}
use mathlib.Core.Path.{◌≡◌, ap}
use mathlib.Core.Bool.{true}
use mathlib.Core.List.{List}
use native.Mathlib.Nat.{le_refl}
use Rattle.keep_record.specs.Lines.{elem}
use Rattle.cycles.specs.Search.{Search, none, with, nowhere, finished}
use Rattle.cycles.specs.Cycles.{Edge}
use Rattle.cycles.proofs.Walks.{Walks, walks_unique, each_is}
use Rattle.cycles.proofs.Walks.Walks.{stop, old, new}
use Rattle.rust_order.specs.DynamicEntries.{Entered, unentered, enter, complete, DepthFirst}
use Rattle.rust_order.specs.DynamicEntries.DepthFirst.{no_more, was_entered, enters}

unfoldable pub search_of : Entered → Search
search_of s = record { seen = λ m. elem m s.entered; done = s.completed }

pub walked_walks : {succs : ℕ → List ℕ} {us : List ℕ} {s z : Entered} → DepthFirst succs us s z → Walks succs us (search_of s) (search_of z)
unfolding search_of enter complete with elem
walked_walks (no_more s) = stop (search_of s)
walked_walks (was_entered m ms s z e p) = old m ms (search_of s) (search_of z) e (walked_walks p)
walked_walks (enters m ms s y z e p q) = new m ms (search_of s) (search_of y) (search_of z) e (walked_walks p) (walked_walks q)

-- roots below n, and every edge leads to a number below n
pub completed_is : (succs : ℕ → List ℕ) (n : ℕ) (roots : List ℕ) → ((x : ℕ) → elem x roots ≡ true → x < n) → ((u v : ℕ) → u < n → Edge succs u v → v < n)
    → {end : Entered} → DepthFirst succs roots unentered end → finished succs n roots ≡ end.completed
unfolding finished search_of none elem
completed_is succs n roots below bounded p =
    ap (λ (s : Search). s.done) (walks_unique succs (each_is succs n bounded n roots nowhere below (le_refl n)) (walked_walks p))
