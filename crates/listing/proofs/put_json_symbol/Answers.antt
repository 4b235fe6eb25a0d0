use Rattle.listing.proofs.Pieces.{emits_as}
use Rattle.listing.proofs.Lines.{json_is}
use Rattle.listing.proofs.put_json_symbol.Goals as goal

pub returns : goal.returns
returns c = (emits_as (json_is _ _ _ _ _ c.is_json-holds.ensures) c.put_line_if.ensures.0, c.put_line_if.ensures.1)
