use native.Mathlib.Omega.{arith}
use Rattle.listing.specs.Text.{decimal}
use Rattle.listing.proofs.Pieces.{emits_both}
use Rattle.listing.proofs.put_number.Goals as goal

pub returns : goal.returns
unfolding decimal
returns c = (emits_both c.put_byte-end.ensures c.put_digits.ensures.0, omega (arith, c.put_byte-end.ensures.counts, c.put_digits.ensures.1))
