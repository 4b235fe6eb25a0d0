-- `set_in_part` meets its contract: the part goes to `set` and comes back in its place.
use Rattle.bit_row.proofs.Mark.{set_in_part_back}
use Rattle.bit_row.proofs.set_in_part.Goals as goal

pub returns : goal.returns
returns c =
    set_in_part_back c.args.base c.args.row.now c.args.i c.set.new.row c.requires.base_in_bounds c.set.ensures
