use Rattle.completeness.proofs.are_closed.Goals as goal

pub first_open-requires : goal.first_open-requires
first_open-requires c = (c.requires.prepared, c.requires.by_index.0, c.requires.by_index.1)

pub returns : goal.returns
returns c = c.first_open.ensures
