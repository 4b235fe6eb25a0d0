use Rattle.entry_graph.specs.Steps.{behind_edge}
use Rattle.entry_graph.proofs.behind_edge.Goals as goal

pub returns-then-seen : goal.returns-then-seen
unfolding behind_edge
returns-then-seen c = rw (c.in-Nodes.is, c.if-seen.true)

pub returns-else-seen : goal.returns-else-seen
unfolding behind_edge
returns-else-seen c = rw (c.in-Nodes.is, c.if-seen.false)

pub returns-in-Full : goal.returns-in-Full
unfolding behind_edge
returns-in-Full c = rw c.in-Full.is
