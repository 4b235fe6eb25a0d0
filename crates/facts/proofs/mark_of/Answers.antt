use native.Mathlib.Omega.{arith}
use Rattle.graph_access.proofs.StatementNumbers.{small}
use Rattle.facts.proofs.Marking.{good_bailout, good_forward, good_use, good_checked, good_statement, good-number, module_mark, bailout-mark, statement-mark, forward-mark, use-mark, checked-mark}
use Rattle.facts.proofs.mark_of.Goals as goal

pub overflow_add-result : goal.overflow_add-result
overflow_add-result c =
    let b = small c.requires.loaded _ c.header_of-h.ensures in record { fits = omega (arith, b.0, b.1, b.2, good_bailout c.requires.loaded _ c.header_of-h.ensures _ c.requires.good _ c.in-Bailout.is) }

pub number_of-requires : goal.number_of-requires
number_of-requires c = record { loaded = c.requires.loaded; m_bound = good_statement c.requires.loaded _ c.header_of-h.ensures _ c.requires.good _ _ c.in-Statement.is }

pub overflow_add-result-in-Statement : goal.overflow_add-result-in-Statement
overflow_add-result-in-Statement c =
    let b = small c.requires.loaded _ c.header_of-h.ensures in record { fits = omega (arith, b.0, b.1, b.2, good-number c.requires.loaded _ c.header_of-h.ensures _ c.requires.good _ _ _ c.in-Statement.is c.number_of.ensures) }

pub overflow_add-result-in-Forward-2 : goal.overflow_add-result-in-Forward-2
overflow_add-result-in-Forward-2 c =
    let b = small c.requires.loaded _ c.header_of-h.ensures in record { fits = omega (arith, b.0, b.1, b.2, good_forward c.requires.loaded _ c.header_of-h.ensures _ c.requires.good _ c.in-Forward.is) }

pub overflow_mul-result-in-Use-2 : goal.overflow_mul-result-in-Use-2
overflow_mul-result-in-Use-2 c =
    let g = good_use c.requires.loaded _ c.header_of-h.ensures _ c.requires.good _ _ c.in-Use.is in let b = small c.requires.loaded _ c.header_of-h.ensures in record { fits = omega (arith, b.0, b.1, b.2, g.0, g.2) }

pub overflow_add-result-in-Use-3 : goal.overflow_add-result-in-Use-3
overflow_add-result-in-Use-3 c =
    let g = good_use c.requires.loaded _ c.header_of-h.ensures _ c.requires.good _ _ c.in-Use.is in let b = small c.requires.loaded _ c.header_of-h.ensures in record { fits = omega (arith, b.0, b.1, b.2, g.0, g.2) }

pub overflow_sub-result : goal.overflow_sub-result
overflow_sub-result c = omega (arith, (good_use c.requires.loaded _ c.header_of-h.ensures _ c.requires.good _ _ c.in-Use.is).1)

pub overflow_add-result-in-Use-4 : goal.overflow_add-result-in-Use-4
overflow_add-result-in-Use-4 c =
    let g = good_use c.requires.loaded _ c.header_of-h.ensures _ c.requires.good _ _ c.in-Use.is in let b = small c.requires.loaded _ c.header_of-h.ensures in record { fits = omega (arith, b.0, b.1, b.2, g.0, g.2) }

pub overflow_mul-result-in-CheckedUse-3 : goal.overflow_mul-result-in-CheckedUse-3
overflow_mul-result-in-CheckedUse-3 c =
    let g = good_checked c.requires.loaded _ c.header_of-h.ensures _ c.requires.good _ _ c.in-CheckedUse.is in let b = small c.requires.loaded _ c.header_of-h.ensures in record { fits = omega (arith, b.0, b.1, b.2, g.0, g.2) }

pub overflow_add-result-in-CheckedUse-3 : goal.overflow_add-result-in-CheckedUse-3
overflow_add-result-in-CheckedUse-3 c =
    let g = good_checked c.requires.loaded _ c.header_of-h.ensures _ c.requires.good _ _ c.in-CheckedUse.is in let b = small c.requires.loaded _ c.header_of-h.ensures in record { fits = omega (arith, b.0, b.1, b.2, g.0, g.2) }

pub overflow_sub-result-in-CheckedUse : goal.overflow_sub-result-in-CheckedUse
overflow_sub-result-in-CheckedUse c = omega (arith, (good_checked c.requires.loaded _ c.header_of-h.ensures _ c.requires.good _ _ c.in-CheckedUse.is).1)

pub overflow_add-result-in-CheckedUse-4 : goal.overflow_add-result-in-CheckedUse-4
overflow_add-result-in-CheckedUse-4 c =
    let g = good_checked c.requires.loaded _ c.header_of-h.ensures _ c.requires.good _ _ c.in-CheckedUse.is in let b = small c.requires.loaded _ c.header_of-h.ensures in record { fits = omega (arith, b.0, b.1, b.2, g.0, g.2) }

pub returns-in-Module : goal.returns-in-Module
returns-in-Module c = module_mark c.requires.loaded _ c.header_of-h.ensures _ c.requires.good _ c.in-Module.is

pub returns-in-Bailout : goal.returns-in-Bailout
returns-in-Bailout c = bailout-mark c.requires.loaded _ c.header_of-h.ensures _ c.requires.good _ c.in-Bailout.is

pub returns-in-Statement : goal.returns-in-Statement
returns-in-Statement c = statement-mark c.requires.loaded _ c.header_of-h.ensures _ c.requires.good _ _ _ c.in-Statement.is c.number_of.ensures

pub returns-in-Forward : goal.returns-in-Forward
returns-in-Forward c = forward-mark c.requires.loaded _ c.header_of-h.ensures _ c.requires.good _ c.in-Forward.is

pub returns-in-Use : goal.returns-in-Use
returns-in-Use c = use-mark c.requires.loaded _ c.header_of-h.ensures _ c.requires.good _ _ c.in-Use.is

pub returns-in-CheckedUse : goal.returns-in-CheckedUse
returns-in-CheckedUse c = checked-mark c.requires.loaded _ c.header_of-h.ensures _ c.requires.good _ _ c.in-CheckedUse.is
