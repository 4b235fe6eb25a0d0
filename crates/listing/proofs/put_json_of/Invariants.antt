use Prim.Native.Nat.{◌+◌, ◌*◌, ◌≤◌}
use Rattle.graph_access.specs.graph_crate.Check.{graph_in}
use Rattle.listing.specs.Listing.{json_text}
use Rattle.listing.specs.Parts.{of_json}
use Rattle.listing.proofs.Pieces.{Going}
use Rattle.listing.proofs.put_json_of.Given as goal

abbrev pub invariant-loop-s : goal.invariant-loop-s
invariant-loop-s l = Going l.skip (json_text (graph_in l.numbers) (of_json l.row) l.m) l.count l.s l.at l.initial.out l.out l.end × (l.end ≤ l.at + 128 * l.s)
