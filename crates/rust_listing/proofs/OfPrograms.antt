-- What the program prints for a file of at most 8,192 bytes: for a graph the Rust's listing, or 5 where its run has more than 1,024 lines.
use Prim.Native.Nat.{ℕ, ◌*◌, ◌≤◌}
use mathlib.Core.Path.{◌≡◌, refl, ap, ◌∙◌, sym}
use mathlib.Core.Logic.{◌⊎◌, inl, inr}
use mathlib.Core.Bool.{Bool, true, false}
use mathlib.Core.List.{List}
use native.Mathlib.Omega.{arith}
use borrow.Author.Tests.{ltb-true, ltb-false, lt-ltb, le-ltb}
use lib.Dec.{ltb}
use lib.ListN.{length}
use Rattle.leb128.specs.Read.{all, read_of}
use Rattle.determine_side_effects.specs.graph_crate.Check.{Graph, graph_in}
use Rattle.determine_side_effects.specs.graph_access_crate.Words.{option}
use Rattle.run_rows.specs.Run.{Run, run_of}
use Rattle.run_parts.specs.Operation.{short, done, worked, outcome_of}
use Rattle.run_choices.proofs.Done.{outcome_work, outcome_accepted}
use Rattle.listing.specs.Listing.{listing_of, refused_text}
use Rattle.answer_text.specs.Program.{program_rooms, shown_of, outcome_text, decoded_text, file_text}
use Rattle.rust_values.specs.Values.{has_pair}
use Rattle.rust_run.proofs.Level.{loaded}
use Rattle.rust_run.specs.IncludeStatements.{Outcome, Returns}
use Rattle.rust_run.specs.Agreement.{AsRust}
use Rattle.rust_returns.proofs.OnCircles.{returns_and_agrees}
use Rattle.rust_listing.specs.Listing.{dead_lines, listing_before, rust_listing}
use Rattle.rust_listing.specs.Operation.{dead_import, Graphs, ReadsOrRefusesOne, FiveForLinesOnly, KeepListsRust, KeepListsRustButDead, KeepListsRustUnlessCircles}
use Rattle.rust_listing.proofs.Reading.{Numbered, RefusedOne, read_numbered, numbers_few}
use Rattle.rust_listing.proofs.Rooms.{rooms_suffice}
use Rattle.rust_listing.proofs.Same.{listing-same}
use Rattle.rust_listing.proofs.Showing.{shows_rust, dead_rust, dead_run}

-- every file that is short enough is read, or refused 1
pub reads_or_refuses_one : ReadsOrRefusesOne
reads_or_refuses_one file l = go (read_numbered file 8192 l)
  where
    go : Numbered (length file) (read_of file 8192) ⊎ RefusedOne (read_of file 8192) → ((numbers : List ℕ) × (read_of file 8192 ≡ all numbers)) ⊎ RefusedOne (read_of file 8192)
    go (inl r) = inl (r.numbers, r.is)
    go (inr r) = inr r

-- six numbers for each line
sixes : (n : ℕ) → ltb 6144 (6 * n) ≡ ltb 1024 n
sixes n = go (ltb 1024 n) refl
  where
    go : (b : Bool) → ltb 1024 n ≡ b → ltb 6144 (6 * n) ≡ ltb 1024 n
    go true e = lt-ltb 6144 (6 * n) (omega (arith, ltb-true 1024 n e)) ∙ sym e
    go false e = le-ltb 6144 (6 * n) (omega (arith, ltb-false 1024 n e)) ∙ sym e

-- the text of the work
worked_text : (g : Graph) (r : Run) → outcome_text (worked g r 6144) ≡ elim (ltb 1024 (length r.lines)) [ true ↦ refused_text 5 | false ↦ listing_of g (shown_of g r) ]
unfolding worked outcome_text
worked_text g r = go (ltb 1024 (length r.lines)) refl
  where
    go : (b : Bool) → ltb 1024 (length r.lines) ≡ b → outcome_text (worked g r 6144) ≡ elim (ltb 1024 (length r.lines)) [ true ↦ refused_text 5 | false ↦ listing_of g (shown_of g r) ]
    go true e = rw (e, sixes (length r.lines) ∙ e, worked)
    go false e = rw (e, sixes (length r.lines) ∙ e, worked)

module _ (file numbers : List ℕ) (k : Graphs file numbers) where
  abbrev g : Graph
  g = graph_in numbers

  few : length numbers ≤ 8192
  few = omega (arith, k.short, numbers_few file 8192 numbers k.short k.read)

  file_read : file_text file ≡ outcome_text (outcome_of numbers program_rooms)
  unfolding file_text decoded_text
  file_read = rw (le-ltb 8192 (length file) k.short, k.read, file_text)

  is_worked : outcome_of numbers program_rooms ≡ worked g (run_of g) 6144
  is_worked = outcome_accepted numbers program_rooms k.accepted ∙ outcome_work g program_rooms (rooms_suffice (loaded numbers k.accepted) few)

  is_done : length (run_of g).lines ≤ 1024 → outcome_of numbers program_rooms ≡ done g (run_of g)
  unfolding worked
  is_done l = is_worked ∙ rw (le-ltb 6144 (6 * length (run_of g).lines) (omega (arith, l)), worked)

  listed : length (run_of g).lines ≤ 1024 → AsRust g → option g 6 ≡ false → (o : Outcome) → Returns g o → file_text file ≡ rust_listing g o
  unfolding outcome_text rust_listing
  listed l way off o x =
      file_read ∙ ap outcome_text (is_done l)
      ∙ listing-same g o (shown_of g (run_of g)) (shows_rust numbers k.accepted way o x (is_done l)) (λ m i. has_pair m i o.dead) (dead_rust numbers k.accepted way o x (is_done l) off)

  listed_but_dead : length (run_of g).lines ≤ 1024 → AsRust g → (o : Outcome) → Returns g o → file_text file ≡ listing_before g o (dead_lines g (dead_import g (run_of g)))
  unfolding outcome_text
  listed_but_dead l way o x =
      file_read ∙ ap outcome_text (is_done l)
      ∙ listing-same g o (shown_of g (run_of g)) (shows_rust numbers k.accepted way o x (is_done l)) (dead_import g (run_of g)) (dead_run g (run_of g))

pub five_for_lines_only : FiveForLinesOnly
five_for_lines_only file numbers k = file_read file numbers k ∙ ap outcome_text (is_worked file numbers k) ∙ worked_text (graph_in numbers) (run_of (graph_in numbers))

pub keep_lists_rust : KeepListsRust
keep_lists_rust file numbers k l way off o x = listed file numbers k l way off o x

pub keep_lists_rust_but_dead : KeepListsRustButDead
keep_lists_rust_but_dead file numbers k l way o x = listed_but_dead file numbers k l way o x

pub keep_lists_rust_unless_circles : KeepListsRustUnlessCircles
keep_lists_rust_unless_circles file numbers k l way off none ch =
    let z = returns_and_agrees numbers k.accepted way none ch in
    (z.0, z.1, z.2, listed file numbers k l way off z.0 z.1)
