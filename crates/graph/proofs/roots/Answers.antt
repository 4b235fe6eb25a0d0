use mathlib.Core.Path.{refl}
use Prim.Native.Nat.{◌<◌}
use Rattle.graph_entries.specs.graph_tables_crate.Tables.{header_in}
use Rattle.graph_entries.proofs.graph_tables_crate.Facts.{symbols_long, symbol-place, symbol_inside}
use Rattle.graph.proofs.LaterRules.{all_go, all_stop, all_end}
use native.Mathlib.Omega.{arith}
use Rattle.graph.proofs.roots.Goals as goal

pub loop-s-init : goal.loop-s-init
loop-s-init c = (omega arith, refl)

pub root_is_root-requires : goal.root_is_root-requires
root_is_root-requires c = let n : c.loop-s.s < (header_in c.args.numbers.now).symbols = omega (arith, c.requires.count_value, c.loop-s-test.true) in record { symbol_table = c.requires.symbol_table; s_bound = n }

pub overflow_add-result : goal.overflow_add-result
overflow_add-result c = let n : c.loop-s.s < (header_in c.args.numbers.now).symbols = omega (arith, c.requires.count_value, c.loop-s-test.true) in omega (arith, symbol_inside _ _ c.requires.symbol_table _ n 2 (omega arith))

pub returns-then-not-root_is_root : goal.returns-then-not-root_is_root
returns-then-not-root_is_root c = let n : c.loop-s.s < (header_in c.args.numbers.now).symbols = omega (arith, c.requires.count_value, c.loop-s-test.true) in all_stop _ _ _ _ c.loop-s.invariant.1 (omega (arith, symbols_long _ _ c.requires.symbol_table, n)) c.root_is_root.ensures (c.if-not-root_is_root.true) (symbol-place _ _ c.requires.symbol_table _ n)

pub loop-s-preserved : goal.loop-s-preserved
loop-s-preserved c = (omega (arith, c.loop-s-test.true), all_go _ _ _ _ c.loop-s.invariant.1 (omega (arith, symbols_long _ _ c.requires.symbol_table, c.requires.count_value, c.loop-s-test.true)) c.root_is_root.ensures (c.if-not-root_is_root.false))

pub returns : goal.returns
returns c = all_end _ _ _ _ c.loop-s.invariant.1 (omega (arith, symbols_long _ _ c.requires.symbol_table, c.requires.count_value, c.loop-s-test.false))
