use Rattle.justification.proofs.Joining.{joins_first, joins_second}
use Rattle.justification.proofs.joins.Goals as goal

pub returns-in-Some : goal.returns-in-Some
returns-in-Some c = joins_first _ _ _ _ _ _ c.joined_by.ensures c.in-Some.is

pub returns-in-None : goal.returns-in-None
returns-in-None c = joins_second _ _ _ _ _ _ c.joined_by.ensures c.in-None.is c.joined_by-in-None.ensures
