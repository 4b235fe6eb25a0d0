-- Where the parts of a statement of an accepted graph stand, by its place.
use Prim.Native.Nat.{ℕ, ◌+◌, ◌<◌}
use mathlib.Core.Path.{◌≡◌, ◌∙◌}
use mathlib.Core.List.{List}
use lib.ListN.{length, get_or}
use Rattle.graph.specs.rows_crate.Walk.{Item}
use Rattle.graph.specs.graph_tables_crate.Tables.{header_in}
use Rattle.graph.specs.Check.{graph_in}
use Rattle.graph.specs.Loaded.{Loaded}
use Rattle.graph_access.specs.Names.{statement_bits, statement_import_records, references}
use Rattle.graph_access.specs.Words.{statement_list, statement_of}
use Rattle.graph_access.proofs.OfStatements.{bits_inside, bits_same, ImportRecordsAt, records-at, ReferencesCounted, references_counted}

module _ {numbers tables : List ℕ} (t : Loaded numbers tables) {m i p : ℕ} (h : m < (header_in numbers).modules) (l : i < length (statement_list (graph_in numbers) m)) (e : p ≡ (statement_of (graph_in numbers) m i).place) where
  abbrev it : Item
  it = statement_of (graph_in numbers) m i

  pub bits_there : p < length numbers
  unfolding statement_list statement_of graph_in
  bits_there = rw e (bits_inside numbers _ _ _ t.of_modules t.of_statements m h i l)

  pub bits_are : get_or numbers p 0 ≡ statement_bits it
  unfolding statement_bits statement_list statement_of graph_in
  bits_are = rw e (bits_same numbers _ _ _ t.of_modules t.of_statements m h i l)

  pub import_records : ImportRecordsAt numbers p (statement_import_records it)
  unfolding statement_import_records statement_list statement_of graph_in
  import_records = rw e (records-at numbers _ _ _ t.of_modules t.of_statements m h i l)

  -- behind its n import records
  pub references_behind : {n : ℕ} → n ≡ get_or numbers (p + 1) 0 → ReferencesCounted numbers p n (references it)
  unfolding references statement_import_records statement_list statement_of graph_in
  references_behind c =
      let n = c ∙ import_records.counted in
      rw (n, e) (references_counted numbers _ _ _ t.of_modules t.of_statements m h i l)
