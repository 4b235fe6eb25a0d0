use mathlib.Core.Path.{sym}
use native.Mathlib.Omega.{arith}
use Rattle.listing.proofs.Pieces.{emits_none, emits_as}
use Rattle.listing.proofs.Lines.{only_true, only_false}
use Rattle.listing.proofs.put_line_if.Goals as goal

pub returns-then-holds : goal.returns-then-holds
returns-then-holds c = (emits_as (sym (only_true _ _ c.if-holds.true)) c.put_line.ensures.0, c.put_line.ensures.1)

pub returns : goal.returns
returns c = (emits_as (sym (only_false _ _ c.if-holds.false)) emits_none, omega arith)
