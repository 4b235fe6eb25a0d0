-- The rows of an answer are long enough for its listing, and show what the program shows.
use Prim.Native.Nat.{ℕ, ◌<◌, ◌≤◌}
use mathlib.Core.Path.{◌≡◌, ap, ◌∙◌, sym}
use mathlib.Core.Bool.{true}
use mathlib.Core.List.{List}
use native.Mathlib.Omega.{arith}
use lib.ListN.{length, get_or, drop, replicate, length-append, get_or-append}
use Rattle.bit_row.proofs.Size.{bytes_hold}
use Rattle.determine_side_effects.specs.graph_crate.Check.{Graph, graph_in}
use Rattle.determine_side_effects.specs.graph_crate.Loaded.{Loaded}
use Rattle.determine_side_effects.specs.Effects.{last_verdicts}
use Rattle.determine_side_effects.proofs.Loading.{last-length}
use Rattle.answer_rows.specs.declared.Row.TheVariants.{Modules, Statements, Used, External, Json, NamespaceReason}
use Rattle.answer_rows.specs.Shown.{row_bytes}
use Rattle.answer_rows.proofs.Fitting.{fits as six-fit}
use Rattle.tree_shaking.specs.Rounds.{final_entries}
use Rattle.dead_records.specs.Dead.{record_count}
use Rattle.run_rows.specs.Run.{Run, run_of, entries_row}
use Rattle.run_parts.specs.Operation.{Rows, rooms_of, enough, Outcome, done, row_after, dead_after, helpers_after, entries_after}
use Rattle.run_parts.proofs.Ending.{fits}
use Rattle.listing.specs.Listing.{shown, Fits, listing_of}
use Rattle.answer_text.specs.Program.{shown_of, outcome_text}
use Rattle.answer_text.proofs.Finals.{final-below, final_few, run_rounds}

module _ {numbers tables : List ℕ} (t : Loaded numbers tables) (lent : Rows) (has_room : enough (graph_in numbers) (rooms_of lent) ≡ true) where
  abbrev g : Graph
  g = graph_in numbers

  few : g.header.modules ≤ 1024
  unfolding graph_in
  few = t.few_modules

  entry_is : (k : ℕ) (entries : List ℕ) → entries ≡ entries_row g (run_of g).live lent.entries → k < length (final_entries g (run_of g).live) → get_or entries k 0 < g.header.entries
  unfolding entries_row
  entry_is k entries e l =
      let final = final_entries g (run_of g).live in
      let i : get_or entries k 0 ≡ get_or final k 0 = ap (λ (row : List ℕ). get_or row k 0) e ∙ get_or-append final (drop (length final) lent.entries) 0 k l in
      omega (arith, i, final-below g (run_of g).live k l)

  -- an answer's rounds, final entries and rows, each as long as it was lent
  pub rows_fit : (rounds count : ℕ) (entries modules statements used external json reason dead helpers : List ℕ)
      → rounds ≡ (run_of g).rounds → count ≡ length (final_entries g (run_of g).live) → entries ≡ entries_row g (run_of g).live lent.entries
      → length modules ≡ length lent.modules → length statements ≡ length lent.statements → length used ≡ length lent.used → length external ≡ length lent.external
      → length json ≡ length lent.json → length reason ≡ length lent.reason → length dead ≡ length lent.dead → length helpers ≡ length lent.helpers
      → Fits g (shown rounds count (last_verdicts g) entries modules statements used external json reason dead helpers)
  unfolding row_bytes record_count entries_row
  rows_fit rounds count entries modules statements used external json reason dead helpers i j k a b c d e h l m =
      let final = final_entries g (run_of g).live in
      let w = fits g lent has_room in
      let s = six-fit g _ w.1 in
      record {
        few_rounds = omega (arith, i, run_rounds g, few);
        count_few = omega (arith, j, final_few t (run_of g).live);
        entries_long = omega (arith, j, ap length k, length-append final (drop (length final) lent.entries));
        entries_below = λ x y. entry_is x entries k (omega (arith, j, y));
        verdicts_long = omega (arith, last-length g);
        modules_long = omega (arith, a, s.modules_fit, bytes_hold g.header.modules);
        statements_long = omega (arith, b, s.statements_fit);
        used_long = omega (arith, c, s.used_fit, bytes_hold g.header.symbols);
        external_long = omega (arith, d, s.external_fit, bytes_hold g.header.symbols);
        json_long = omega (arith, e, s.json_fit, bytes_hold g.header.symbols);
        reason_long = omega (arith, h, s.reason_fit);
        dead_long = omega (arith, l, w.2.dead_fit, bytes_hold (record_count g));
        helpers_long = omega (arith, m, w.2.helpers_fit);
      }

-- the rows by the outcome
module _ (g : Graph) (r : Run) (o : Outcome) (is : o ≡ done g r) where
  pub shown_is : (rounds count : ℕ) (entries modules statements used external json reason dead helpers : List ℕ)
      → rounds ≡ r.rounds → count ≡ length (final_entries g r.live) → entries ≡ entries_after o (replicate 1024 0) → modules ≡ row_after Modules o (replicate 128 0)
      → statements ≡ row_after Statements o (replicate 3072 0) → used ≡ row_after Used o (replicate 2048 0) → external ≡ row_after External o (replicate 2048 0)
      → json ≡ row_after Json o (replicate 2048 0) → reason ≡ row_after NamespaceReason o (replicate 1024 0) → dead ≡ dead_after o (replicate 1024 0) → helpers ≡ helpers_after o (replicate 1024 0)
      → listing_of g (shown rounds count (last_verdicts g) entries modules statements used external json reason dead helpers) ≡ outcome_text o
  unfolding outcome_text shown_of
  shown_is rounds count entries modules statements used external json reason dead helpers a b c d e f h i j k l =
      let same : shown rounds count (last_verdicts g) entries modules statements used external json reason dead helpers ≡ shown_of g r = λ x. record {
        rounds = a x;
        count = b x;
        verdicts = last_verdicts g;
        entries = (c ∙ ap (λ q. entries_after q (replicate 1024 0)) is) x;
        modules = (d ∙ ap (λ q. row_after Modules q (replicate 128 0)) is) x;
        statements = (e ∙ ap (λ q. row_after Statements q (replicate 3072 0)) is) x;
        used = (f ∙ ap (λ q. row_after Used q (replicate 2048 0)) is) x;
        external = (h ∙ ap (λ q. row_after External q (replicate 2048 0)) is) x;
        json = (i ∙ ap (λ q. row_after Json q (replicate 2048 0)) is) x;
        reason = (j ∙ ap (λ q. row_after NamespaceReason q (replicate 1024 0)) is) x;
        dead = (k ∙ ap (λ q. dead_after q (replicate 1024 0)) is) x;
        helpers = (l ∙ ap (λ q. helpers_after q (replicate 1024 0)) is) x;
      } in
      ap (listing_of g) same ∙ sym (ap outcome_text is)
