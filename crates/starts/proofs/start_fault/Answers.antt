use borrow.Author.Tests.{ne_eqb}
use Rattle.starts.proofs.Starting.{modules_are, at_kind, module_kept, module_not, bailout_in, bailout_out, kind_none}
use native.Mathlib.Omega.{arith}
use mathlib.Core.Path.{◌∙◌, sym}
use Rattle.starts.proofs.start_fault.Goals as goal

pub returns-then-is_normal_index : goal.returns-then-is_normal_index
returns-then-is_normal_index c = at_kind _ _ _ _ 1 _ c.if-kind-eq1.true (c.unused_fault.ensures ∙ module_kept _ _ _ (sym c.is_normal_index.ensures ∙ c.if-is_normal_index.true))

pub returns-then-kind-eq1 : goal.returns-then-kind-eq1
returns-then-kind-eq1 c = at_kind _ _ _ _ 1 _ c.if-kind-eq1.true (module_not _ _ _ (sym c.is_normal_index.ensures ∙ c.if-is_normal_index.false))

pub returns-then-kind-eq2 : goal.returns-then-kind-eq2
returns-then-kind-eq2 c = at_kind _ _ _ _ 2 _ c.if-kind-eq2.true c.statement_fault.ensures

pub returns-then-kind-eq3 : goal.returns-then-kind-eq3
returns-then-kind-eq3 c = at_kind _ _ _ _ 3 _ c.if-kind-eq3.true c.use_fault.ensures.0

pub returns-then-kind-eq4 : goal.returns-then-kind-eq4
returns-then-kind-eq4 c = at_kind _ _ _ _ 4 _ c.if-kind-eq4.true c.use_fault-then-kind-eq4.ensures.1

pub header_of-h-requires : goal.header_of-h-requires
header_of-h-requires c = c.requires.long

pub returns-then-a-h : goal.returns-then-a-h
returns-then-a-h c = at_kind _ _ _ _ 6 _ c.if-kind-eq6.true (c.unused_fault-then-a-h.ensures ∙ bailout_in _ _ _ (omega (arith, c.if-a-h.true, modules_are _ c.header_of-h.ensures)))

pub returns-then-kind-eq6 : goal.returns-then-kind-eq6
returns-then-kind-eq6 c = at_kind _ _ _ _ 6 _ c.if-kind-eq6.true (bailout_out _ _ _ (omega (arith, c.if-a-h.false, modules_are _ c.header_of-h.ensures)))

pub returns : goal.returns
returns c = kind_none _ _ _ _ (ne_eqb _ 1 c.if-kind-eq1.false) (ne_eqb _ 2 c.if-kind-eq2.false) (ne_eqb _ 3 c.if-kind-eq3.false) (ne_eqb _ 4 c.if-kind-eq4.false) (ne_eqb _ 6 c.if-kind-eq6.false)
