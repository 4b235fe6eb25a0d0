use mathlib.Core.Path.{refl}
use Rattle.entry_graph.proofs.Imports.{left_unresolved, left_same_root, left-edge}
use Rattle.entry_graph.proofs.take_import.Goals as goal

pub add_edge-built-requires-clause-stored : goal.add_edge-built-requires-clause-stored
add_edge-built-requires-clause-stored c = rw c.header_of-h.ensures c.requires.stored

pub add_edge-built-requires-clause-from_lt_modules : goal.add_edge-built-requires-clause-from_lt_modules
add_edge-built-requires-clause-from_lt_modules c = rw c.header_of-h.ensures (c.requires.root_bound.0, c.requires.root_bound.1.edge_below _ c.in-Edge.is)

pub returns-in-Unresolved : goal.returns-in-Unresolved
returns-in-Unresolved c = rw c.in-Unresolved.is (left_unresolved _ _ _ _ _ _ _ c.requires.stored c.args.root c.requires.root_bound.0)

pub returns-in-SameRoot : goal.returns-in-SameRoot
returns-in-SameRoot c = rw c.in-SameRoot.is (left_same_root _ _ _ _ _ _ _ c.requires.stored c.args.root c.requires.root_bound.0 _ (c.requires.root_bound.1.below _ c.in-SameRoot.is))

pub returns-in-Edge : goal.returns-in-Edge
returns-in-Edge c =
    rw (c.behind_edge.ensures, c.in-Edge.is) (left-edge _ _ _ _ _ _ _ c.requires.stored c.args.root c.requires.root_bound.0 _ (c.requires.root_bound.1.edge_below _ c.in-Edge.is) _ _ _ _ c.add_edge-built.result _ refl (rw c.header_of-h.ensures at c.add_edge-built.ensures))
