use mathlib.Core.Path.{refl}
use Prim.Native.Nat.{◌<◌}
use Rattle.graph_entries.specs.graph_tables_crate.Tables.{header_in}
use Rattle.graph_entries.proofs.graph_tables_crate.Facts.{modules_long, its-place, at-inside}
use Rattle.graph.proofs.LaterRules.{all_go, all_stop, all_end}
use native.Mathlib.Omega.{arith}
use Rattle.graph.proofs.namespaces.Goals as goal

pub loop-m-init : goal.loop-m-init
loop-m-init c = (omega arith, refl)

pub owns_namespace-requires : goal.owns_namespace-requires
owns_namespace-requires c = let n : c.loop-m.m < (header_in c.args.numbers.now).modules = omega (arith, c.requires.count_value, c.loop-m-test.true) in record { module_table = c.requires.module_table; symbol_table = c.requires.symbol_table; m_bound = n }

pub overflow_add-result : goal.overflow_add-result
overflow_add-result c = let n : c.loop-m.m < (header_in c.args.numbers.now).modules = omega (arith, c.requires.count_value, c.loop-m-test.true) in omega (arith, at-inside _ _ c.requires.module_table _ n 7 (omega arith))

pub returns-then-not-owns_namespace : goal.returns-then-not-owns_namespace
returns-then-not-owns_namespace c = let n : c.loop-m.m < (header_in c.args.numbers.now).modules = omega (arith, c.requires.count_value, c.loop-m-test.true) in all_stop _ _ _ _ c.loop-m.invariant.1 (omega (arith, modules_long _ _ c.requires.module_table, n)) c.owns_namespace.ensures (c.if-not-owns_namespace.true) (its-place _ _ c.requires.module_table _ n)

pub loop-m-preserved : goal.loop-m-preserved
loop-m-preserved c = (omega (arith, c.loop-m-test.true), all_go _ _ _ _ c.loop-m.invariant.1 (omega (arith, modules_long _ _ c.requires.module_table, c.requires.count_value, c.loop-m-test.true)) c.owns_namespace.ensures (c.if-not-owns_namespace.false))

pub returns : goal.returns
returns c = all_end _ _ _ _ c.loop-m.invariant.1 (omega (arith, modules_long _ _ c.requires.module_table, c.requires.count_value, c.loop-m-test.false))
