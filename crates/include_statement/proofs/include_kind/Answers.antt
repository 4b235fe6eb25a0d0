use borrow.Author.Tests.{eq-eqb, ne_eqb}
use Rattle.include_statement.proofs.Reasons.{reason_12, reason_4, reason_9, reason_1}
use mathlib.Core.Path.{◌∙◌, sym}
use native.Mathlib.Omega.{arith}
use Rattle.include_statement.proofs.include_kind.Goals as goal

pub returns-then-json : goal.returns-then-json
returns-then-json c = (reason_12 _ _ _ _ _ c.bits-bits.ensures c.module_type-json.ensures (sym c.flag.ensures ∙ c.if-flag.true) (eq-eqb _ _ c.if-json.true), omega arith, omega arith)

pub returns-then-flag : goal.returns-then-flag
returns-then-flag c = (reason_4 _ _ _ _ _ c.bits-bits.ensures c.module_type-json.ensures (sym c.flag.ensures ∙ c.if-flag.true) (ne_eqb _ _ c.if-json.false), omega arith, omega arith)

pub returns-then-json-2 : goal.returns-then-json-2
returns-then-json-2 c = (reason_9 _ _ _ _ _ c.bits-bits.ensures c.module_type-json.ensures (sym c.flag.ensures ∙ c.if-flag.false) (eq-eqb _ _ c.if-json-2.true), omega arith, omega arith)

pub returns : goal.returns
returns c = (reason_1 _ _ _ _ _ c.bits-bits.ensures c.module_type-json.ensures (sym c.flag.ensures ∙ c.if-flag.false) (ne_eqb _ _ c.if-json-2.false), omega arith, omega arith)
