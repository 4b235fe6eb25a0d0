use Rattle.listing.proofs.Pieces.{emits_as, emits_all}
use Rattle.listing.proofs.Lines.{refused_is}
use Rattle.listing.proofs.refuse.Goals as goal

pub returns : goal.returns
returns c = emits_all (emits_as (refused_is _ _ c.wide.ensures) c.put_line.ensures.0)
