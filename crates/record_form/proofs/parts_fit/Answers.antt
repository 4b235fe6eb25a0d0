use native.Mathlib.Omega.{arith}
use Rattle.starts.proofs.Starting.{symbols_are}
use Rattle.record_form.proofs.Forms.{forward_out, forward_in, other_parts}
use Rattle.record_form.proofs.parts_fit.Goals as goal

pub returns-then-a-h : goal.returns-then-a-h
returns-then-a-h c = forward_out _ _ _ _ c.if-kind-eq5.true (omega (arith, c.if-a-h.true, symbols_are _ c.header_of-h.ensures))

pub returns-then-kind-eq5 : goal.returns-then-kind-eq5
returns-then-kind-eq5 c = forward_in _ _ _ _ c.if-kind-eq5.true (omega (arith, c.if-a-h.false, symbols_are _ c.header_of-h.ensures))

pub returns : goal.returns
returns c = other_parts _ _ _ _ c.if-kind-eq5.false _ c.start_fault.ensures
