use Prim.Native.Nat.{◌+◌, ◌*◌, ◌≤◌}
use mathlib.Core.Path.{◌≡◌}
use lib.ListN.{length}
use Rattle.graph_access.specs.graph_crate.Check.{graph_in}
use Rattle.graph_access.specs.Words.{statement_list}
use Rattle.answer_rows.specs.Shown.{bytes_before}
use Rattle.listing.specs.Text.{text_of}
use Rattle.listing.specs.Listing.{statement_text}
use Rattle.listing.specs.Parts.{of_statements}
use Rattle.listing.proofs.Pieces.{Going}
use Rattle.listing.proofs.put_statements.Given as goal

abbrev pub invariant-loop-m : goal.invariant-loop-m
invariant-loop-m l =
    Going l.skip (λ k. text_of (statement_text (graph_in l.numbers) (of_statements l.row) k) 0 (length (statement_list (graph_in l.numbers) k))) l.count l.m l.at l.initial.out l.out l.end × (l.end ≤ l.at + 2097152 * l.m)
    × (l.first ≡ bytes_before (graph_in l.numbers).statements l.m) × (l.first ≤ 16384 * l.m)
