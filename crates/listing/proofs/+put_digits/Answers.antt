use mathlib.Core.Path.{sym}
use native.Mathlib.Omega.{arith}
use Rattle.listing.proofs.Pieces.{emits_none, emits_both, emits_as, digits_none, digits_one, digits_more}
use Rattle.listing.proofs.+put_digits.Goals as goal

pub returns-then-fuel-eq0 : goal.returns-then-fuel-eq0
returns-then-fuel-eq0 t c = (emits_as (sym (digits_none _ _ c.if-fuel-eq0.true)) emits_none, omega arith)

pub returns-then-n-lt10 : goal.returns-then-n-lt10
returns-then-n-lt10 t c = (emits_as (sym (digits_one _ _ (omega (arith, c.if-fuel-eq0.false)) c.if-n-lt10.true)) c.put_byte.ensures, omega (arith, c.put_byte.ensures.counts, c.if-fuel-eq0.false))

pub returns : goal.returns
returns t c = (emits_as (sym (digits_more _ _ (omega (arith, c.if-fuel-eq0.false)) c.if-n-lt10.false)) (emits_both c.put_digits-end.ensures.0 c.put_byte-2.ensures), omega (arith, c.put_digits-end.ensures.1, c.put_byte-2.ensures.counts, c.if-fuel-eq0.false))
