use Rattle.listing.proofs.Pieces.{emits_as}
use Rattle.listing.proofs.Lines.{entry_is}
use Rattle.listing.proofs.put_entry.Goals as goal

pub returns : goal.returns
returns c = (emits_as (entry_is _ _ _ _ _ _ c.wide.ensures c.entry_module-m.ensures.0 c.entry_kind.ensures.0) c.put_line.ensures.0, c.put_line.ensures.1)
