use native.Mathlib.Omega.{arith}
use Rattle.graph.proofs.LaterRules.{namespace_fits, owns_none, owns_some}
use Rattle.graph.proofs.owns_namespace.Goals as goal

pub returns-then-namespace-eq0 : goal.returns-then-namespace-eq0
returns-then-namespace-eq0 c = owns_none _ _ _ _ c.module_number-namespace.ensures c.if-namespace-eq0.true

pub symbol_number-requires : goal.symbol_number-requires
symbol_number-requires c = let f = namespace_fits _ _ c.requires.module_table _ c.requires.m_bound in record { symbol_table = c.requires.symbol_table; s_bound = (omega (arith, f, c.module_number-namespace.ensures, c.if-namespace-eq0.false), omega arith) }

pub returns : goal.returns
returns c = owns_some _ _ _ _ c.module_number-namespace.ensures _ c.if-namespace-eq0.false c.symbol_number.ensures
