use native.Mathlib.Omega.{arith}
use Rattle.graph.proofs.LaterRules.{root_fits, root_same}
use Rattle.graph.proofs.root_is_root.Goals as goal

pub symbol_number-requires : goal.symbol_number-requires
symbol_number-requires c = record { symbol_table = c.requires.symbol_table; s_bound = (rw c.symbol_number-root.ensures (root_fits _ _ c.requires.symbol_table _ c.requires.s_bound), omega arith) }

pub returns : goal.returns
returns c = root_same _ _ _ _ _ c.symbol_number-root.ensures c.symbol_number.ensures
