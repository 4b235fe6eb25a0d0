use mathlib.Core.Path.{refl}
use native.Mathlib.Omega.{arith}
use Rattle.entry_graph.proofs.put_node.Goals as goal

pub returns-then-outs-m-gt0 : goal.returns-then-outs-m-gt0
returns-then-outs-m-gt0 c = record { old = λ h. (refl, refl, refl); new = λ z. absurd (omega (arith, c.if-outs-m-gt0.true)) }

pub returns : goal.returns
returns c = record { old = λ h. absurd (omega (arith, c.if-outs-m-gt0.false)); new = λ z. (refl, refl, refl) }
