use Rattle.justification.proofs.Joining.{declared_found, declared_all}
use Rattle.justification.proofs.find_declaring.Goals as goal

pub returns-in-Some : goal.returns-in-Some
returns-in-Some c = declared_found _ _ _ _ _ _ c.seek_declaring.ensures c.in-Some.is

pub returns-in-None : goal.returns-in-None
returns-in-None c = declared_all _ _ _ _ c.seek_declaring-in-None.ensures
