use mathlib.Core.Path.{sym}
use Rattle.graph.proofs.LaterRules.{runtime_kind, runtime_none}
use native.Mathlib.Omega.{arith}
use Rattle.graph.proofs.runtime_normal.Goals as goal

pub module_number-requires : goal.module_number-requires
module_number-requires c = record { module_table = c.requires.module_table; m_bound = (rw (sym c.requires.h_value) c.if-h.true, omega arith) }

pub returns-then-h : goal.returns-then-h
returns-then-h c = runtime_kind _ _ c.requires.h_value _ c.if-h.true c.module_number.ensures

pub returns : goal.returns
returns c = runtime_none _ _ c.requires.h_value c.if-h.false
