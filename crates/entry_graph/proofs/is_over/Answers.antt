use borrow.Author.Tests.{eq-eqb, ne_eqb}
use Rattle.entry_graph.proofs.is_over.Goals as goal

pub returns-then-fuel-eq0 : goal.returns-then-fuel-eq0
returns-then-fuel-eq0 c = rw (eq-eqb c.args.fuel 0 c.if-fuel-eq0.true)

pub returns : goal.returns
returns c = rw (ne_eqb c.args.fuel 0 c.if-fuel-eq0.false) c.test.ensures
