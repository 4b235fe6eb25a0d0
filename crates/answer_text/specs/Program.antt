-- What the program prints for a file (docs/OPERATIONS.md, Program keep).
use Rattle.std.specs.Prelude.{ℕ, ◌≡◌, true, false, List, ltb, length, replicate, take, drop}
use Rattle.leb128.specs.Read.{Decoded, all, refused, read_of}
use Rattle.determine_side_effects.specs.graph_crate.Check.{Graph}
use Rattle.determine_side_effects.specs.Effects.{last_verdicts}
use Rattle.answer_rows.specs.declared.Row.TheVariants.{Modules, Statements, Used, External, Json, NamespaceReason}
use Rattle.tree_shaking.specs.Rounds.{final_entries}
use Rattle.run_rows.specs.Run.{Run}
use Rattle.run_parts.specs.Operation.{Rooms, Outcome, before, short, done, outcome_of, row_after, dead_after, helpers_after, entries_after}
use Rattle.determine_side_effects.specs.refusal_crate.Number.{number_of}
use Rattle.listing.specs.Listing.{Shown, listing_of, refused_text}

-- The rows of the program: for the largest counts of a graph, but import records (8,192 numbers hold fewer than 8,192) and record lines
-- (1,024; a run with more is refused 5).
abbrev pub program_rooms : Rooms
program_rooms =
    record {
      marks = 131328;
      lines = 6144;
      modules = 128;
      statements = 3072;
      used = 2048;
      external = 2048;
      json = 2048;
      reason = 1024;
      dead = 1024;
      helpers = 1024;
      entries = 1024;
    }

-- what is shown of an answer: the rows that were lent cleared
unfoldable pub shown_of : Graph → Run → Shown
shown_of g r =
    record {
      rounds = r.rounds;
      count = length (final_entries g r.live);
      verdicts = last_verdicts g;
      entries = entries_after (done g r) (replicate 1024 0);
      modules = row_after Modules (done g r) (replicate 128 0);
      statements = row_after Statements (done g r) (replicate 3072 0);
      used = row_after Used (done g r) (replicate 2048 0);
      external = row_after External (done g r) (replicate 2048 0);
      json = row_after Json (done g r) (replicate 2048 0);
      reason = row_after NamespaceReason (done g r) (replicate 1024 0);
      dead = dead_after (done g r) (replicate 1024 0);
      helpers = helpers_after (done g r) (replicate 1024 0);
    }

unfoldable pub outcome_text : Outcome → List ℕ
outcome_text (before why) = refused_text (number_of why)
outcome_text short = refused_text 5
outcome_text (done g r) = listing_of g (shown_of g r)

unfoldable pub decoded_text : Decoded → List ℕ
decoded_text (all numbers) = outcome_text (outcome_of numbers program_rooms)
decoded_text (refused why) = refused_text (number_of why)

-- the text for a file: one of more than 8,192 bytes is refused 2, before anything is read as numbers
unfoldable pub file_text : List ℕ → List ℕ
file_text file = elim (ltb 8192 (length file)) [ true ↦ refused_text 2 | false ↦ decoded_text (read_of file 8192) ]

-- The text for what two buffers hold: the front of a file, and what was read behind it once the first buffer was full. If the second holds a byte,
-- the file is longer than 8,192 bytes. The text is that of the whole file (`TextOfFile`).
unfoldable pub program_text : List ℕ → List ℕ → List ℕ
program_text front behind = elim (ltb 0 (length behind)) [ true ↦ refused_text 2 | false ↦ file_text front ]

abbrev pub TextOfFile : Type 0
TextOfFile = (file : List ℕ) → program_text (take 8192 file) (take 1 (drop 8192 file)) ≡ file_text file
