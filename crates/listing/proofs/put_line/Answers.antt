use native.Mathlib.Omega.{arith}
use Rattle.listing.specs.Text.{line}
use Rattle.listing.proofs.Pieces.{emits_both}
use Rattle.listing.proofs.put_line.Goals as goal

pub returns : goal.returns
unfolding line
returns c = (emits_both c.put_word-end.ensures.0 c.put_numbers.ensures.0, omega (arith, c.put_word-end.ensures.1, c.put_numbers.ensures.1))
