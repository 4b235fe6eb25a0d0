use mathlib.Core.Path.{◌≡◌}
use Rattle.graph_access.specs.Lists.{place_of}
use Rattle.graph_access.proofs.lists.list_place.Given as goal

abbrev pub invariant-loop-i : goal.invariant-loop-i
invariant-loop-i l = l.p ≡ place_of l.numbers l.at l.widths l.i
