use Rattle.consequences.proofs.BySegment.{good_statement, placed_first, width_inside, placed-next, placed_other}
use Rattle.determine_side_effects.specs.facts_crate.Facts.{kind_of}
use native.Mathlib.Omega.{arith}
use mathlib.Core.Path.{ap}
use Rattle.consequences.proofs.place_behind.Goals as goal

pub first_reference-requires : goal.first_reference-requires
first_reference-requires c = let b = good_statement _ _ c.requires.good _ _ c.in-Statement.is in record { loaded = c.requires.prepared.loaded; m_bound = (b.0, b.1) }

pub returns-then-j-eq0 : goal.returns-then-j-eq0
returns-then-j-eq0 c = placed_first _ _ _ _ _ _ c.in-Statement.is c.first_reference.ensures c.if-j-eq0.true

pub reference_width-requires : goal.reference_width-requires
reference_width-requires c = (width_inside _ _ _ _ _ _ c.in-Statement.is c.requires.j_in_bounds.0 c.if-j-eq0.false c.requires.j_in_bounds.1)

pub overflow_add-result : goal.overflow_add-result
overflow_add-result c = omega (arith, c.reference_width.ensures, width_inside _ _ _ _ _ _ c.in-Statement.is c.requires.j_in_bounds.0 c.if-j-eq0.false c.requires.j_in_bounds.1)

pub returns-in-Module : goal.returns-in-Module
returns-in-Module c = let e = ap kind_of c.in-Module.is in placed_other _ _ _ _ (λ k. omega (arith, e, k))

pub returns-else-j-eq0 : goal.returns-else-j-eq0
returns-else-j-eq0 c = rw c.reference_width.ensures (placed-next _ _ _ _ _ _ c.in-Statement.is c.requires.j_in_bounds.0 c.if-j-eq0.false c.requires.j_in_bounds.1)

pub returns-in-CheckedUse : goal.returns-in-CheckedUse
returns-in-CheckedUse c = let e = ap kind_of c.in-CheckedUse.is in placed_other _ _ _ _ (λ k. omega (arith, e, k))

pub returns-in-Use : goal.returns-in-Use
returns-in-Use c = let e = ap kind_of c.in-Use.is in placed_other _ _ _ _ (λ k. omega (arith, e, k))

pub returns-in-Forward : goal.returns-in-Forward
returns-in-Forward c = let e = ap kind_of c.in-Forward.is in placed_other _ _ _ _ (λ k. omega (arith, e, k))

pub returns-in-Bailout : goal.returns-in-Bailout
returns-in-Bailout c = let e = ap kind_of c.in-Bailout.is in placed_other _ _ _ _ (λ k. omega (arith, e, k))
