use Prim.Native.Nat.{◌+◌, ◌*◌, ◌≤◌}
use mathlib.Core.Path.{◌≡◌}
use lib.ListN.{length}
use Rattle.graph_access.specs.graph_crate.Check.{graph_in}
use Rattle.graph_access.specs.Names.{import_records}
use Rattle.graph_access.specs.Words.{module_of}
use Rattle.dynamic_entries.specs.Alive.{records_before}
use Rattle.listing.specs.Text.{text_of}
use Rattle.listing.specs.Listing.{dead_text}
use Rattle.listing.specs.Parts.{of_dead}
use Rattle.listing.proofs.Pieces.{Going}
use Rattle.listing.proofs.put_dead.Given as goal

abbrev pub invariant-loop-m : goal.invariant-loop-m
invariant-loop-m l =
    Going l.skip (λ k. text_of (dead_text (graph_in l.numbers) (of_dead l.row) k) 0 (length (import_records (module_of (graph_in l.numbers) k)))) l.count l.m l.at l.initial.out l.out l.end × (l.end ≤ l.at + 2097152 * l.m)
    × (l.first ≡ records_before (graph_in l.numbers).modules l.m) × (l.first ≤ 16384 * l.m)
