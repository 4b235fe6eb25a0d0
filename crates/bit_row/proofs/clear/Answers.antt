-- `clear` meets its contract: the part that was filled stands before the rest.
use Rattle.bit_row.proofs.Cleared.{cleared_filled}
use Rattle.bit_row.proofs.clear.Goals as goal

pub returns : goal.returns
returns c = cleared_filled _ _ _ c.requires (c.fill.ensures.after (λ y e. e))
