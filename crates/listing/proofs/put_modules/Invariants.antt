use Prim.Native.Nat.{◌+◌, ◌*◌, ◌≤◌}
use Rattle.graph_access.specs.graph_crate.Check.{graph_in}
use Rattle.listing.specs.Listing.{module_text}
use Rattle.listing.specs.Parts.{of_modules}
use Rattle.listing.proofs.Pieces.{Going}
use Rattle.listing.proofs.put_modules.Given as goal

abbrev pub invariant-loop-m : goal.invariant-loop-m
invariant-loop-m l = Going l.skip (module_text (graph_in l.numbers) (of_modules l.verdicts l.kept l.reason l.helpers)) l.count l.m l.at l.initial.out l.out l.end × (l.end ≤ l.at + 128 * l.m)
