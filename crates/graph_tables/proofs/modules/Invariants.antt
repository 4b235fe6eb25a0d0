use Prim.Native.Nat.{◌-◌, ◌≤◌}
use mathlib.Core.List.{List}
use Rattle.tables.specs.rows_crate.Walk.{Item}
use Rattle.tables.specs.graph_format_crate.Format.{module_at, less_module}
use Rattle.tables.specs.Layout.{start_of, at_modules}
use Rattle.graph_tables.proofs.Filling.{Filling}
use Rattle.graph_tables.proofs.modules.Given as goal

abbrev pub invariant-loop-k : goal.invariant-loop-k
invariant-loop-k l = (done : List Item) × (l.left ≤ l.h.statements) × Filling (module_at l.h l.numbers) less_module l.h.modules (record { statements = l.h.statements; modules = l.h.modules }) l.at (start_of l.h at_modules) l.initial.tables l.tables l.k l.q (record { statements = l.left; modules = l.h.modules - l.k }) done
