use Rattle.listing.proofs.Pieces.{emits_as}
use Rattle.listing.proofs.Lines.{module_is}
use Rattle.listing.proofs.put_module.Goals as goal

pub returns : goal.returns
returns c = (emits_as (module_is _ _ _ _ _ _ _ _ _ _ c.is_normal-is_normal.ensures c.bit_value-is_kept.ensures c.wide-effects.ensures c.wide-helper_bits.ensures) c.put_line_if.ensures.0, c.put_line_if.ensures.1)
