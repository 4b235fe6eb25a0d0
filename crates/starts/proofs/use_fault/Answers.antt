use Rattle.starts.proofs.Starting.{symbols_are, use_out, use-none, use-in, use-many}
use native.Mathlib.Omega.{arith}
use Rattle.starts.proofs.use_fault.Goals as goal

pub returns-then-a-h : goal.returns-then-a-h
returns-then-a-h c = use_out _ _ _ (omega (arith, c.if-a-h.true, symbols_are _ c.header_of-h.ensures))

pub returns-then-b-eq0 : goal.returns-then-b-eq0
returns-then-b-eq0 c = use-none _ _ _ (omega (arith, c.if-a-h.false, symbols_are _ c.header_of-h.ensures)) c.if-b-eq0.true

pub returns-then-b-lt32 : goal.returns-then-b-lt32
returns-then-b-lt32 c = use-in _ _ _ (omega (arith, c.if-a-h.false, symbols_are _ c.header_of-h.ensures)) c.if-b-eq0.false c.if-b-lt32.true

pub returns : goal.returns
returns c = use-many _ _ _ (omega (arith, c.if-a-h.false, symbols_are _ c.header_of-h.ensures)) c.if-b-eq0.false (omega (arith, c.if-b-lt32.false))
