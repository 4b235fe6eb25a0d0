-- What the program `keep` prints for a file of at most 8,192 bytes, and when it refuses. The theorems are in proofs/OfPrograms.antt.
use Rattle.std.specs.Prelude.{ℕ, ◌+◌, ◌≤◌, ◌≡◌, ◌⊎◌, Bool, true, false, List, ltb, length}
use Rattle.leb128.specs.Read.{all, refused, read_of}
use Rattle.determine_side_effects.specs.graph_crate.Check.{Graph, graph_in, check_of, answer_of}
use Rattle.determine_side_effects.specs.graph_access_crate.Words.{option}
use Rattle.dynamic_entries.specs.Alive.{records_before}
use Rattle.dead_records.specs.Dead.{dead_record}
use Rattle.run_rows.specs.Run.{Run, run_of}
use Rattle.listing.specs.Listing.{listing_of, refused_text}
use Rattle.answer_text.specs.Program.{shown_of, file_text}
use Rattle.rust_run.specs.IncludeStatements.{Outcome, Returns}
use Rattle.rust_run.specs.Agreement.{AsRust}
use Rattle.rust_returns.specs.Following.{Choosing, Follows}
use Rattle.rust_returns.specs.Circle.{Circle}
use Rattle.rust_listing.specs.Listing.{dead_lines, listing_before, rust_listing}
use Rattle.std.specs.Prelude.{Ok}
use Rattle.determine_side_effects.specs.refusal_crate.declared.Refusal.TheVariants.{NoNumber}

-- import record k of module m is dead by a run
unfoldable pub dead_import : Graph → Run → ℕ → ℕ → Bool
dead_import g r m k = dead_record g r.main r.live r.dead (records_before g.modules m + k)

-- the numbers of a file that is no longer than the program's buffer, and a graph of them that is accepted
pub record Graphs (file numbers : List ℕ) : Type 0 where
  pub short : length file ≤ 8192
  pub read : read_of file 8192 ≡ all numbers
  pub accepted : answer_of (check_of numbers) ≡ Ok tt

-- A file of at most 8,192 bytes is read, or refused 1: the numbers have room.
abbrev pub ReadsOrRefusesOne : Type 0
ReadsOrRefusesOne =
    (file : List ℕ) → length file ≤ 8192 → ((numbers : List ℕ) × (read_of file 8192 ≡ all numbers)) ⊎ ((p : ℕ) × (read_of file 8192 ≡ refused (NoNumber p)))

-- A graph is refused 5 exactly if its run has more than 1,024 lines; all other rows of the program are long enough for every graph of such a file.
abbrev pub FiveForLinesOnly : Type 0
FiveForLinesOnly =
    (file numbers : List ℕ) → Graphs file numbers
    → file_text file ≡ elim (ltb 1024 (length (run_of (graph_in numbers)).lines)) [ true ↦ refused_text 5 | false ↦ listing_of (graph_in numbers) (shown_of (graph_in numbers) (run_of (graph_in numbers))) ]

-- Up to 1,024 lines what is printed is the Rust's listing, for every outcome that it has, where the options ask for no other rounds: without bit 6 whole,
abbrev pub KeepListsRust : Type 0
KeepListsRust =
    (file numbers : List ℕ) → Graphs file numbers → length (run_of (graph_in numbers)).lines ≤ 1024 → AsRust (graph_in numbers) → option (graph_in numbers) 6 ≡ false
    → (o : Outcome) → Returns (graph_in numbers) o → file_text file ≡ rust_listing (graph_in numbers) o

-- with or without it but for the dead lines, which are those of `dead_record`,
abbrev pub KeepListsRustButDead : Type 0
KeepListsRustButDead =
    (file numbers : List ℕ) → Graphs file numbers → length (run_of (graph_in numbers)).lines ≤ 1024 → AsRust (graph_in numbers)
    → (o : Outcome) → Returns (graph_in numbers) o → file_text file ≡ listing_before (graph_in numbers) o (dead_lines (graph_in numbers) (dead_import (graph_in numbers) (run_of (graph_in numbers))))

-- and without a circle it has one, whatever the hash orders.
abbrev pub KeepListsRustUnlessCircles : Type 0
KeepListsRustUnlessCircles =
    (file numbers : List ℕ) → Graphs file numbers → length (run_of (graph_in numbers)).lines ≤ 1024 → AsRust (graph_in numbers) → option (graph_in numbers) 6 ≡ false
    → (Circle (graph_in numbers) → ⊥) → (ch : Choosing (graph_in numbers))
    → (o : Outcome) × (r : Returns (graph_in numbers) o) × Follows (graph_in numbers) ch o r × (file_text file ≡ rust_listing (graph_in numbers) o)
