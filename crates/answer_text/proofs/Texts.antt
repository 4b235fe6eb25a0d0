-- The text for a file, stage by stage.
use Prim.Native.Nat.{ℕ, ◌<◌, ◌≤◌}
use mathlib.Core.Path.{◌≡◌, refl, ap, ◌∙◌, sym, subst}
use mathlib.Core.Bool.{Bool, true, false}
use mathlib.Core.List.{List, ◌++◌}
use native.Mathlib.Omega.{arith}
use borrow.Author.Tests.{ltb-true, ltb-false, lt-ltb, le-ltb}
use lib.Dec.{ltb}
use lib.ListN.{length, take, drop, replicate, length-append, length-replicate, length-drop, drop_of_length-le}
use lib.Seq.{take_at, take_all, length-take-le}
use Rattle.leb128.specs.Read.{Decoded, all, refused, read_of, answer_of, lent_of}
use Rattle.determine_side_effects.specs.graph_format_crate.declared.Header.{Header}
use Rattle.determine_side_effects.specs.graph_tables_crate.Tables.{header_in}
use Rattle.determine_side_effects.specs.graph_crate.Check.{Graph, graph_in}
use Rattle.determine_side_effects.specs.graph_crate.Loaded.{Loaded}
use Rattle.determine_side_effects.proofs.graph_crate.WellFormed.{accepted_is}
use Rattle.determine_side_effects.specs.Effects.{last_verdicts}
use Rattle.determine_side_effects.specs.Operation.{effects_row}
use Rattle.determine_side_effects.proofs.Loading.{last-length}
use Rattle.run_rows.specs.Run.{Run, entries_row}
use Rattle.run_parts.specs.Operation.{Rows, rows, rooms_of, Outcome, done, outcome_of, entries_after}
use Rattle.listing.specs.Text.{shown_in}
use Rattle.listing.specs.Listing.{shown, Fits, listing_of, refused_text}
use Rattle.answer_text.specs.Program.{program_rooms, outcome_text, decoded_text, file_text, program_text, TextOfFile}
use Rattle.std.specs.Prelude.{Ok, Err}
use Rattle.determine_side_effects.specs.refusal_crate.Number.{number_of}
use Rattle.determine_side_effects.specs.refusal_crate.declared.Refusal.{Refusal}

-- a text by another name
pub told_as : (skip : ℕ) (lent : List ℕ) {r : ℕ} {a b out : List ℕ} → a ≡ b → (r ≡ length a) × (out ≡ shown_in skip a lent) → (r ≡ length b) × (out ≡ shown_in skip b lent)
told_as skip lent e p = (p.0 ∙ ap length e, p.1 ∙ ap (λ t. shown_in skip t lent) e)

-- a file with something behind its first 8,192 bytes, one of which more was handed over, and any other
module _ (front behind : List ℕ) where
  pub text_behind : 0 < length behind → refused_text 2 ≡ program_text front behind
  unfolding program_text
  text_behind l = rw (lt-ltb 0 (length behind) l, program_text)

  pub text_over : length behind ≤ 0 → 8192 < length front → refused_text 2 ≡ program_text front behind
  unfolding program_text file_text
  text_over l m = rw (le-ltb 0 (length behind) l, lt-ltb 8192 (length front) m, program_text, file_text)

  pub text_whole : length behind ≤ 0 → length front ≤ 8192 → decoded_text (read_of front 8192) ≡ program_text front behind
  unfolding program_text file_text
  text_whole l m = rw (le-ltb 0 (length behind) l, le-ltb 8192 (length front) m, program_text, file_text)

-- what the two buffers hold of a whole file
pub text_of_file : TextOfFile
unfolding file_text
text_of_file file = go (ltb 8192 (length file)) refl
  where
    go : (b : Bool) → ltb 8192 (length file) ≡ b → program_text (take 8192 file) (take 1 (drop 8192 file)) ≡ file_text file
    go true e =
        let l = ltb-true 8192 (length file) e in
        let n : length (take 1 (drop 8192 file)) ≡ 1 = length-take-le 1 (drop 8192 file) (omega (arith, l, length-drop 8192 file)) in
        sym (text_behind (take 8192 file) (take 1 (drop 8192 file)) (omega (arith, n))) ∙ rw (e, file_text)
    go false e =
        let l = ltb-false 8192 (length file) e in
        let n : length (take 1 (drop 8192 file)) ≤ 0 = omega (arith, ap (λ (xs : List ℕ). length (take 1 xs)) (drop_of_length-le file l)) in
        let k : take 8192 file ≡ file = take_all 8192 file l in
        sym (text_whole (take 8192 file) (take 1 (drop 8192 file)) n (omega (arith, l, ap length k))) ∙ rw (k, e, file_text)

-- what was read
module _ (d : Decoded) where
  pub decoded_refused : {why : Refusal} → Err why ≡ answer_of d → refused_text (number_of why) ≡ decoded_text d
  unfolding answer_of decoded_text
  decoded_refused {why} e = go d e
    where
      go : (x : Decoded) → Err why ≡ answer_of x → refused_text (number_of why) ≡ decoded_text x
      go (all xs) i = absurd cc
      go (refused q) i = let j : why ≡ q = cc in ap (λ w. refused_text (number_of w)) j

  pub decoded_read : {n : ℕ} → Ok n ≡ answer_of d → (lent numbers : List ℕ) → numbers ≡ lent_of d lent
      → (n ≤ length numbers) × (outcome_text (outcome_of (take n numbers) program_rooms) ≡ decoded_text d)
  unfolding answer_of lent_of decoded_text
  decoded_read {n} e lent numbers i = go d e i
    where
      go : (x : Decoded) → Ok n ≡ answer_of x → numbers ≡ lent_of x lent → (n ≤ length numbers) × (outcome_text (outcome_of (take n numbers) program_rooms) ≡ decoded_text x)
      go (all xs) j k =
          let l : length xs ≡ n = cc in
          (omega (arith, l, ap length k, length-append xs (drop (length xs) lent)), ap (λ ys. outcome_text (outcome_of ys program_rooms)) (ap (take n) k ∙ take_at xs (drop (length xs) lent) n l))
      go (refused why) j k = absurd cc

-- the row that is lent to be read into has room for 8,192 numbers
pub room_is : (file : List ℕ) → decoded_text (read_of file (length (replicate {A = ℕ} 8192 0))) ≡ decoded_text (read_of file 8192)
room_is file = ap (λ n. decoded_text (read_of file n)) (length-replicate {A = ℕ} 8192 0)

-- the program's rows
abbrev pub lent_rows : Rows
lent_rows =
    rows (replicate 131328 0) (replicate 6144 0) (replicate 128 0) (replicate 3072 0) (replicate 2048 0) (replicate 2048 0) (replicate 2048 0) (replicate 1024 0) (replicate 1024 0) (replicate 1024 0)
    (replicate 1024 0)

pub rooms_are : rooms_of lent_rows ≡ program_rooms
unfolding rooms_of
rooms_are =
    let n : (k : ℕ) → length (replicate {A = ℕ} k 0) ≡ k = λ k. length-replicate k 0 in
    λ x. record {
      marks = n 131328 x;
      lines = n 6144 x;
      modules = n 128 x;
      statements = n 3072 x;
      used = n 2048 x;
      external = n 2048 x;
      json = n 2048 x;
      reason = n 1024 x;
      dead = n 1024 x;
      helpers = n 1024 x;
      entries = n 1024 x;
    }

pub rooms_text : (numbers : List ℕ) → outcome_text (outcome_of numbers (rooms_of lent_rows)) ≡ outcome_text (outcome_of numbers program_rooms)
rooms_text numbers = ap (λ room. outcome_text (outcome_of numbers room)) rooms_are

pub entries_done : (g : Graph) (r : Run) (o : Outcome) (lent entries : List ℕ) → o ≡ done g r → entries ≡ entries_after o lent → entries ≡ entries_row g r.live lent
unfolding entries_after
entries_done g r o lent entries e i = i ∙ ap (λ q. entries_after q lent) e

-- the verdicts of an accepted graph, in a row of 1,024 numbers
module _ {numbers tables : List ℕ} (t : Loaded numbers tables) (h : Header) (is : h ≡ header_in numbers) where
  pub modules_few : h.modules ≤ 1024
  modules_few = omega (arith, t.few_modules, ap (λ x. x.modules) is)

  pub verdicts_are : (lent row : List ℕ) → 1024 ≤ length lent → row ≡ effects_row numbers lent → take h.modules row ≡ last_verdicts (graph_in numbers)
  unfolding effects_row graph_in
  verdicts_are lent row l e =
      let g = graph_in numbers in
      let n : length (last_verdicts g) ≡ h.modules = last-length g ∙ ap (λ x. x.modules) (sym is) in
      let r : effects_row numbers lent ≡ last_verdicts g ++ drop g.header.modules lent = rw ((accepted_is numbers t.accepted).1, le-ltb (length lent) g.header.modules (omega (arith, l, t.few_modules)), effects_row) in
      ap (take h.modules) (e ∙ r) ∙ take_at (last_verdicts g) (drop g.header.modules lent) h.modules n

-- other verdicts that are the same
module _ (g : Graph) (rounds count : ℕ) (v w entries modules statements used external json reason dead helpers : List ℕ) (e : v ≡ w) where
  pub fits_as : Fits g (shown rounds count w entries modules statements used external json reason dead helpers) → Fits g (shown rounds count v entries modules statements used external json reason dead helpers)
  fits_as f = subst (λ x. Fits g (shown rounds count x entries modules statements used external json reason dead helpers)) (sym e) f

  pub listing_as : listing_of g (shown rounds count v entries modules statements used external json reason dead helpers) ≡ listing_of g (shown rounds count w entries modules statements used external json reason dead helpers)
  listing_as = ap (λ x. listing_of g (shown rounds count x entries modules statements used external json reason dead helpers)) e
