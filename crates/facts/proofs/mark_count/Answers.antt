use Rattle.facts.proofs.Marking.{count_is}
use Rattle.facts.proofs.mark_count.Goals as goal

pub returns : goal.returns
returns c = count_is c.requires _ c.header_of-h.ensures
