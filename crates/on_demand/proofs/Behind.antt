-- The sections of the modules on demand and of the keys, where only sections behind them were written.
use Prim.Native.Nat.{ℕ, ◌≤◌}
use mathlib.Core.List.{List}
use native.Mathlib.Omega.{arith}
use Rattle.determine_side_effects.specs.tables_crate.Layout.{start_of, Kept}
use Rattle.determine_side_effects.proofs.tables_crate.Sections.{laid_kept, section_kept}
use Rattle.determine_side_effects.specs.graph_tables_crate.Tables.{header_in}
use Rattle.on_demand.specs.Tabled.{Demands, Keyed}

module _ {numbers xs ys : List ℕ} (j : ℕ) (b : j ≤ 10) (q : Kept (start_of (header_in numbers) j) xs ys) where
  pub demands_kept : 7 ≤ j → Demands numbers xs → Demands numbers ys
  demands_kept l d = record { laid = laid_kept d.laid j b q; of_demand = rw (section_kept d.laid j b q 6 (omega (arith, l))) d.of_demand }

  pub keyed_kept : 8 ≤ j → Keyed numbers xs → Keyed numbers ys
  keyed_kept l d = record { laid = laid_kept d.laid j b q; of_keys = rw (section_kept d.laid j b q 7 (omega (arith, l))) d.of_keys }
