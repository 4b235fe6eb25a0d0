-- The rows of an answer over an accepted graph show what the Rust has.
use Prim.Native.Nat.{ℕ, ◌+◌, ◌*◌, ◌<◌}
use mathlib.Core.Path.{◌≡◌, refl, ap, ◌∙◌, sym, subst}
use mathlib.Core.Logic.{◌↔◌}
use mathlib.Core.Bool.{Bool, true, false, ◌&&◌}
use mathlib.Core.List.{List}
use borrow.Author.Tests.{eqb-true, eq-eqb}
use lib.Dec.{eqb}
use lib.ListN.{length, get_or, replicate}
use Rattle.bit_row.specs.Row.{bit_at}
use Rattle.determine_side_effects.specs.graph_crate.Check.{Graph, graph_in, check_of, answer_of}
use Rattle.determine_side_effects.specs.graph_access_crate.Names.{owner, import_records}
use Rattle.determine_side_effects.specs.graph_access_crate.Words.{option, module_of, symbol_of}
use Rattle.determine_side_effects.specs.Effects.{last_verdicts}
use Rattle.determine_side_effects.proofs.Lists.{both}
use Rattle.keep_record.specs.Lines.{elem}
use Rattle.answer_rows.specs.declared.Row.TheVariants.{Modules, Statements, Used, External, Json, NamespaceReason}
use Rattle.cycles.proofs.Members.{same_test}
use Rattle.dynamic_entries.specs.Alive.{records_before}
use Rattle.dead_records.proofs.Numbering.{record_inside}
use Rattle.tree_shaking.specs.Rounds.{final_entries}
use Rattle.run_rows.specs.Run.{Run, run_of}
use Rattle.run_parts.specs.Operation as operation
use Rattle.run_parts.specs.Operation.{Rows, rows, rooms_of, outcome_of, done, totals_of, answered, marks_after, record_after, row_after, dead_after, helpers_after, entries_after, Ends}
use Rattle.run_choices.proofs.OfDead.{dead_shown}
use Rattle.listing.specs.Listing.{Shown}
use Rattle.answer_text.specs.Program.{program_rooms, shown_of}
use Rattle.answer_text.proofs.Texts.{lent_rows, rooms_are}
use Rattle.rust_values.specs.Values.{Pair, pair, has_pair, In}
use Rattle.rust_values.proofs.Members.{elem_in, in_elem}
use Rattle.rust_engine.proofs.HandlingStatements.{pair_in, in_pair}
use Rattle.rust_engine.proofs.Demanding.{and_true}
use Rattle.rust_run.specs.IncludeStatements.{Outcome, Returns}
use Rattle.rust_run.specs.Agreement.{AsRust}
use Rattle.rust_run.specs.Boundary.{RowsAgree}
use Rattle.rust_run.proofs.OfRuns.{rust_agrees}
use Rattle.rust_run.proofs.Boundary.{run_shows_rust}
use Rattle.rust_listing.specs.Listing.{one_if, reason_number}
use Rattle.rust_listing.specs.Operation.{dead_import}
use Rattle.rust_listing.proofs.Same.{Shows}
use Rattle.rust_listing.proofs.Reasons.{reason_value}
use Rattle.std.specs.Prelude.{Ok}

-- a bit that is set exactly for a member is the member's test
member_same : (b : Bool) (x : ℕ) (xs : List ℕ) → (b ≡ true) ↔ In x xs → b ≡ elem x xs
member_same b x xs e = same_test b (elem x xs) (λ q. in_elem x xs (e.0 q)) (λ q. e.1 (elem_in x xs q))

pair_same : (b : Bool) (m k : ℕ) (ps : List Pair) → (b ≡ true) ↔ In (pair m k) ps → b ≡ has_pair m k ps
pair_same b m k ps e = same_test b (has_pair m k ps) (λ q. in_pair m k ps (e.0 q)) (λ q. e.1 (pair_in m k ps q))

-- pairs all of which have `own` for their first part, asked for with any first part
owned_same : (b : Bool) (own m k : ℕ) (ps : List Pair) → (b ≡ true) ↔ In (pair own k) ps → (In (pair m k) ps → m ≡ own) → (b && eqb own m) ≡ has_pair m k ps
owned_same b own m k ps e only =
    pair_same (b && eqb own m) m k ps (
      (λ q. let t = both b (eqb own m) q in subst (λ n. In (pair n k) ps) (eqb-true own m t.1) (e.0 t.0)),
      λ q. and_true b (eqb own m) (e.1 (subst (λ n. In (pair n k) ps) (only q) q)) (eq-eqb own m (sym (only q))),
    )

-- the rows after an answer, and that they are
abbrev after_rows : Graph → Run → Rows → Rows
after_rows g r lent =
    let o = done g r in
    rows (marks_after o lent.marks) (record_after o lent.lines) (row_after Modules o lent.modules) (row_after Statements o lent.statements) (row_after Used o lent.used)
    (row_after External o lent.external) (row_after Json o lent.json) (row_after NamespaceReason o lent.reason) (dead_after o lent.dead) (helpers_after o lent.helpers) (entries_after o lent.entries)

ends : (g : Graph) (r : Run) (lent : Rows)
    → Ends (done g r) (Ok (totals_of g r)) lent (after_rows g r lent)
unfolding answered
ends g r lent =
    record {
      answer = refl;
      marks_are = refl;
      record_is = refl;
      modules_are = refl;
      statements_are = refl;
      used_are = refl;
      external_are = refl;
      json_are = refl;
      reasons_are = refl;
      dead_are = refl;
      helpers_are = refl;
      entries_are = refl;
    }

-- what is shown of them
abbrev shown_with : Graph → Run → Rows → Shown
shown_with g r lent =
    let a = after_rows g r lent in
    record {
      rounds = r.rounds;
      count = length (final_entries g r.live);
      verdicts = last_verdicts g;
      entries = a.entries;
      modules = a.modules;
      statements = a.statements;
      used = a.used;
      external = a.external;
      json = a.json;
      reason = a.reason;
      dead = a.dead;
      helpers = a.helpers;
    }

module _ (numbers : List ℕ) (ok : answer_of (check_of numbers) ≡ Ok tt) (way : AsRust (graph_in numbers)) (o : Outcome) (x : Returns (graph_in numbers) o) where
  abbrev g : Graph
  g = graph_in numbers

  abbrev r : Run
  r = run_of (graph_in numbers)

  module _ (lent : Rows) (is : outcome_of numbers (rooms_of lent) ≡ done g r) where
    abbrev after : Rows
    after = after_rows g r lent

    agree : RowsAgree g o r.rounds (length (final_entries g r.live)) after
    agree =
        run_shows_rust numbers lent after (totals_of g r)
        (subst (λ (w : operation.Outcome). Ends w (Ok (totals_of g r)) lent after) (sym is) (ends g r lent)) way o x

    reason-byte : (m : ℕ) → m < g.header.modules → get_or after.reason m 0 ≡ reason_number o m
    unfolding row_after reason_number
    reason-byte m l =
        let a = pair_same (bit_at after.reason (8 * m)) m 1 o.main.reasons (agree.unknown_bits m l) in
        let b = pair_same (bit_at after.reason (8 * m + 1)) m 2 o.main.reasons (agree.re_export_bits m l) in
        reason_value numbers ok lent.reason m l ∙ (λ i. one_if (a i) + 2 * one_if (b i))

    shows-with : Shows g o (shown_with g r lent)
    shows-with =
        let a = agree in
        let all = rust_agrees numbers ok way o x in
        record {
          rounds_are = a.rounds_are;
          count_is = a.entry_count;
          entries_are = a.entries_are;
          verdicts_are = sym all.verdicts_are;
          module_bits = λ m l. member_same _ m o.context.modules (a.module_bits m l);
          reason_bytes = reason-byte;
          helper_words = a.helper_words;
          statement_bits = λ m i l u. pair_same _ m i o.context.statements (a.statement_bits m i l u);
          used_bits = λ s l. member_same _ s o.context.used (a.used_bits s l);
          external_bits = λ s l. member_same _ s o.context.external (a.external_bits s l);
          json_bits = λ m s l u. owned_same _ (owner (symbol_of g s)) m s o.main.json (a.json_bits s u) (λ q. ((all.json_are m s).0 q).0);
        }

    dead-with : option g 6 ≡ false → (m k : ℕ) → m < g.header.modules → k < length (import_records (module_of g m)) → bit_at (shown_with g r lent).dead (records_before g.modules m + k) ≡ has_pair m k o.dead
    dead-with off m k l u = pair_same _ m k o.dead (agree.dead_bits off m k l u)

  -- the program's rows, lent cleared
  pub shows_rust : outcome_of numbers program_rooms ≡ done g r → Shows g o (shown_of g r)
  unfolding shown_of
  shows_rust is = shows-with lent_rows (ap (λ room. outcome_of numbers room) rooms_are ∙ is)

  pub dead_rust : outcome_of numbers program_rooms ≡ done g r → option g 6 ≡ false → (m k : ℕ) → m < g.header.modules → k < length (import_records (module_of g m))
      → bit_at (shown_of g r).dead (records_before g.modules m + k) ≡ has_pair m k o.dead
  unfolding shown_of
  dead_rust is off m k l u = dead-with lent_rows (ap (λ room. outcome_of numbers room) rooms_are ∙ is) off m k l u

-- its dead bits, with or without options bit 6
pub dead_run : (g : Graph) (r : Run) (m k : ℕ) → m < g.header.modules → k < length (import_records (module_of g m)) → bit_at (shown_of g r).dead (records_before g.modules m + k) ≡ dead_import g r m k
unfolding shown_of dead_after dead_import
dead_run g r m k l u = dead_shown g r.main r.live r.dead (replicate 1024 0) (records_before g.modules m + k) (record_inside g m k l u)
