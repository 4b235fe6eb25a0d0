use Prim.Native.Nat.{◌+◌, ◌*◌, ◌≤◌}
use Rattle.graph_access.specs.graph_crate.Check.{graph_in}
use Rattle.listing.specs.Text.{text_of}
use Rattle.listing.specs.Listing.{json_text}
use Rattle.listing.specs.Parts.{of_json}
use Rattle.listing.proofs.Pieces.{Going}
use Rattle.listing.proofs.put_json.Given as goal

abbrev pub invariant-loop-m : goal.invariant-loop-m
invariant-loop-m l = Going l.skip (λ k. text_of (json_text (graph_in l.numbers) (of_json l.row) k) 0 l.symbols) l.count l.m l.at l.initial.out l.out l.end × (l.end ≤ l.at + 2097152 * l.m)
