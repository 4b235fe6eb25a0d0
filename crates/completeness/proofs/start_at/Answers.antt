use Rattle.completeness.proofs.start_at.Goals as goal

pub returns : goal.returns
returns c = rw (c.wide.ensures, c.wide-2.ensures, c.wide-3.ensures) at c.fact_of.ensures
