use Rattle.entry_starts.proofs.Together.{started_one}
use Rattle.entry_starts.proofs.start_one.Goals as goal

pub returns : goal.returns
returns c = started_one _ _ _ _ _ _ _ _ c.start.ensures
