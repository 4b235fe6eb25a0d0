use Prim.Native.Nat.{◌+◌, ◌*◌, ◌≤◌}
use Rattle.graph_access.specs.graph_crate.Check.{graph_in}
use Rattle.listing.specs.Listing.{entry_text}
use Rattle.listing.specs.Parts.{of_entries}
use Rattle.listing.proofs.Pieces.{Going}
use Rattle.listing.proofs.put_entries.Given as goal

abbrev pub invariant-loop-k : goal.invariant-loop-k
invariant-loop-k l = Going l.skip (entry_text (graph_in l.numbers) (of_entries l.row)) l.count l.k l.at l.initial.out l.out l.end × (l.end ≤ l.at + 128 * l.k)
