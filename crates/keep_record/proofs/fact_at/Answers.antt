use Rattle.keep_record.specs.Held.{line_at}
use Rattle.keep_record.proofs.fact_at.Goals as goal

pub returns : goal.returns
unfolding line_at
returns c = rw (c.wide.ensures, c.wide-2.ensures, c.wide-3.ensures) at c.fact_of.ensures
