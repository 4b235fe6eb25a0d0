-- The program's rows are long enough for every graph of at most 8,192 numbers, but for the lines of its run.
use Prim.Native.Nat.{ℕ, zero, suc, ◌+◌, ◌*◌, ◌<◌, ◌≤◌}
use mathlib.Core.Path.{◌≡◌, sym}
use mathlib.Core.Bool.{Bool, true, ◌&&◌}
use mathlib.Core.List.{List, []}
use native.Mathlib.Numerals.{add-one}
use native.Mathlib.Omega.{arith}
use borrow.Author.Tests.{le-leb}
use lib.Dec.{leb}
use lib.ListN.{length, get_or}
use Rattle.bit_row.specs.Row.{bytes_for}
use Rattle.bit_row.proofs.Size.{bytes_no_more}
use Rattle.determine_side_effects.specs.rows_crate.Walk.{no_item}
use Rattle.determine_side_effects.specs.graph_format_crate.Format.{statements_of}
use Rattle.determine_side_effects.specs.graph_tables_crate.Tables.{header_in, modules_in, first_of}
use Rattle.determine_side_effects.proofs.graph_tables_crate.Facts.{modules_long}
use Rattle.determine_side_effects.proofs.graph_tables_crate.ByModule.{first_step, first_fits}
use Rattle.determine_side_effects.specs.graph_crate.Check.{Graph, graph_in}
use Rattle.determine_side_effects.specs.graph_crate.Loaded.{Loaded}
use Rattle.determine_side_effects.specs.graph_access_crate.Words.{statement_list}
use Rattle.determine_side_effects.proofs.graph_access_crate.StatementNumbers.{all_long}
use Rattle.determine_side_effects.specs.facts_crate.Facts.{mark_count}
use Rattle.answer_rows.specs.Shown.{bytes_before, row_bytes, rows_enough}
use Rattle.answer_rows.proofs.FirstBytes.{before_step}
use Rattle.dead_records.specs.Dead.{record_count}
use Rattle.run_parts.specs.Operation.{enough}
use Rattle.answer_text.specs.Program.{program_rooms}
use Rattle.rust_engine.proofs.Demanding.{and_true}
use Rattle.rust_listing.proofs.Onward.{records_few}

-- one test more that passes
long_too : (a b : ℕ) (rest : Bool) → a ≤ b → rest ≡ true → (leb a b && rest) ≡ true
long_too a b rest l e = rw (le-leb a b l) e

bytes_few : (bits n : ℕ) → bits ≤ 8 * n → bytes_for bits ≤ n
unfolding bytes_for
bytes_few bits n l = omega arith

module _ {numbers tables : List ℕ} (t : Loaded numbers tables) where
  abbrev g : Graph
  g = graph_in numbers

  counted : (m : ℕ) → m < (header_in numbers).modules → length (get_or g.statements m []) ≡ statements_of (get_or (modules_in numbers) m no_item)
  unfolding statement_list statements_of
  counted m h = all_long t m h

  -- each module's statements begin at a whole byte: at most seven bits are spare for each
  statement_bytes : (m : ℕ) → m ≤ (header_in numbers).modules → 8 * bytes_before g.statements m ≤ first_of (modules_in numbers) m + 7 * m
  unfolding bytes_before
  statement_bytes zero l = omega arith
  statement_bytes (suc m) l =
      let b = before_step g.statements m in
      let f = first_step (modules_in numbers) m (omega (arith, l, modules_long numbers _ t.of_modules)) in
      let n : length (get_or g.statements m []) ≡ statements_of (get_or (modules_in numbers) m no_item) = counted m (omega arith) in
      rw (sym (add-one m)) (omega (arith, b, f, n, bytes_no_more (length (get_or g.statements m [])), statement_bytes m (omega arith)))

  few_bytes : bytes_before g.statements (header_in numbers).modules ≤ 3072
  few_bytes = omega (arith, statement_bytes (header_in numbers).modules (omega arith), first_fits numbers _ t.of_modules (header_in numbers).modules, t.few_modules, t.few_statements)

  few_marks : bytes_for (mark_count g) ≤ 131328
  unfolding mark_count bytes_for graph_in
  few_marks = omega (arith, t.few_modules, t.few_symbols, t.few_statements)

  rows_suffice : rows_enough g (record { modules = 128; statements = 3072; used = 2048; external = 2048; json = 2048; reason = 1024 }) ≡ true
  unfolding rows_enough row_bytes graph_in
  rows_suffice =
      let h = header_in numbers in
      let n = bytes_few h.symbols 2048 (omega (arith, t.few_symbols)) in
      long_too (bytes_for h.modules) 128 _ (bytes_few h.modules 128 (omega (arith, t.few_modules)))
      (long_too (bytes_before g.statements h.modules) 3072 _ few_bytes
      (long_too (bytes_for h.symbols) 2048 _ n
      (long_too (bytes_for h.symbols) 2048 _ n
      (long_too (bytes_for h.symbols) 2048 _ n
      (le-leb h.modules 1024 t.few_modules)))))

  pub rooms_suffice : length numbers ≤ 8192 → enough g program_rooms ≡ true
  unfolding enough graph_in
  rooms_suffice l =
      let h = header_in numbers in
      long_too (bytes_for (mark_count g)) 131328 _ few_marks
      (and_true _ _ rows_suffice
      (long_too (bytes_for (record_count g)) 1024 _ (bytes_few (record_count g) 1024 (omega (arith, l, records_few t)))
      (long_too h.modules 1024 _ t.few_modules
      (le-leb h.entries 1024 t.few_entries))))
