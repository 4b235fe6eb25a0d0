-- What the ordering leaves, by its result: rows that are too small leave the plan as it was, and rows with room for every module are never too small.
use Prim.Native.Nat.{ℕ, ◌≤◌}
use mathlib.Core.Path.{◌≡◌, refl}
use mathlib.Core.List.{List}
use native.Mathlib.Omega.{arith}
use Rattle.determine_side_effects.specs.graph_tables_crate.Tables.{header_in}
use Rattle.determine_side_effects.specs.graph_crate.Check.{Graph, graph_in}
use Rattle.dynamic_entries.specs.declared.Ordered.{Ordered}
use Rattle.dynamic_entries.specs.declared.Ordered.TheVariants.{Done, Full}
use Rattle.dynamic_entries.specs.Tries.{Planned, Unlived}
use Rattle.dynamic_entries.specs.Parts.{Cleared, Parted, Orders}

pub orders_ready : (g : Graph) (cap users : ℕ) (plan₀ plan : List ℕ) (r : Ordered) → Orders g cap users plan₀ plan r → r ≡ Full
    → Parted g plan₀ users × Cleared g plan₀ → Parted g plan users × Cleared g plan
orders_ready g cap users plan₀ plan r o e p = rw (o.full e).1 p

never_full : (g : Graph) (cap users : ℕ) (plan₀ plan : List ℕ) (r : Ordered) → g.header.modules ≤ cap → Orders g cap users plan₀ plan r → Planned g plan users × Unlived g plan
never_full g cap users plan₀ plan Done h o = o.done refl
never_full g cap users plan₀ plan Full h o = let w = (o.full refl).0 in absurd (omega (arith, h, w))

pub full_done : (numbers : List ℕ) (cap users : ℕ) (plan₀ plan : List ℕ) (r : Ordered) → (header_in numbers).modules ≤ cap → Orders (graph_in numbers) cap users plan₀ plan r
    → Planned (graph_in numbers) plan users × Unlived (graph_in numbers) plan
unfolding graph_in
full_done numbers cap users plan₀ plan r h o = never_full (graph_in numbers) cap users plan₀ plan r h o
