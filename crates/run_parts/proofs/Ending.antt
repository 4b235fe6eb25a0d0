-- Rows and tables that are long enough; a refusal before the work.
use Prim.Native.Nat.{ℕ, ◌+◌, ◌*◌, ◌≤◌}
use mathlib.Core.Path.{◌≡◌, refl, ap}
use mathlib.Core.Bool.{true}
use mathlib.Core.List.{List}
use native.Mathlib.Omega.{arith}
use borrow.Author.Tests.{leb-true}
use lib.Dec.{leb}
use lib.ListN.{length}
use Rattle.bit_row.specs.Row.{bytes_for}
use Rattle.determine_side_effects.specs.graph_format_crate.declared.Header.{Header}
use Rattle.determine_side_effects.specs.graph_tables_crate.Tables.{header_in}
use Rattle.determine_side_effects.specs.graph_crate.Check.{Graph}
use Rattle.determine_side_effects.specs.facts_crate.Facts.{mark_count}
use Rattle.determine_side_effects.proofs.Lists.{both}
use Rattle.entry_order.specs.Plan.{plan_size}
use Rattle.answer_rows.specs.Shown.{rows_enough}
use Rattle.answer_rows.specs.Together.{SixRows, six_rows, lengths_of}
use Rattle.dead_records.specs.Dead.{record_count}
use Rattle.run_parts.specs.declared.Totals.{Totals}
use Rattle.run_parts.specs.Operation.{Rows, rooms_of, Outcome, before, enough, answered, marks_after, record_after, row_after, dead_after, helpers_after, entries_after, Ends}
use Rattle.run_parts.specs.Parts.{ScratchFits, RowsFit}
use Rattle.std.specs.Prelude.{Result, Err}
use Rattle.determine_side_effects.specs.refusal_crate.declared.Refusal.{Refusal}

-- the rows that a drain has too
abbrev pub six_of : Rows → SixRows
six_of r = six_rows r.modules r.statements r.used r.external r.json r.reason

-- rows that are enough are long enough, each of them
pub fits : (g : Graph) (lent : Rows) → enough g (rooms_of lent) ≡ true
    → (bytes_for (mark_count g) ≤ length lent.marks) × (rows_enough g (lengths_of (six_of lent)) ≡ true) × RowsFit g (length lent.dead) (length lent.helpers) (length lent.entries)
unfolding enough rooms_of
fits g lent e =
    let a = both (leb (bytes_for (mark_count g)) (length lent.marks)) _ e in
    let s = both (rows_enough g (lengths_of (six_of lent))) _ a.1 in
    let d = both (leb (bytes_for (record_count g)) (length lent.dead)) _ s.1 in
    let h = both (leb g.header.modules (length lent.helpers)) _ d.1 in (
      leb-true (bytes_for (mark_count g)) (length lent.marks) a.0,
      s.0,
      record {
        dead_fit = leb-true (bytes_for (record_count g)) (length lent.dead) d.0;
        helpers_fit = leb-true g.header.modules (length lent.helpers) h.0;
        entries_fit = leb-true g.header.entries (length lent.entries) h.1;
      },
    )

-- the lent tables by the header in the numbers
module _ (numbers : List ℕ) (h : Header) (e : h ≡ header_in numbers) (n : ℕ) where
  pub partners_fit : 3 * h.modules + h.symbols ≤ n → 3 * (header_in numbers).modules + (header_in numbers).symbols ≤ n
  partners_fit l =
      let i : h.modules ≡ (header_in numbers).modules = ap (λ w. w.modules) e in
      let j : h.symbols ≡ (header_in numbers).symbols = ap (λ w. w.symbols) e in
      omega (arith, i, j, l)

  pub scratch_fits : ScratchFits h n → ScratchFits (header_in numbers) n
  scratch_fits s = rw e at s

  pub plan_fits : plan_size h ≤ n → plan_size (header_in numbers) ≤ n
  plan_fits l =
      let i : h.modules ≡ (header_in numbers).modules = ap (λ w. w.modules) e in
      let j : h.entries ≡ (header_in numbers).entries = ap (λ w. w.entries) e in
      omega (arith, i, j, l)

-- a refusal before the work leaves every row
stopped : (why : Refusal) (lent : Rows) → Ends (before why) (Err why) lent lent
unfolding answered marks_after record_after row_after dead_after helpers_after entries_after
stopped why lent =
    record {
      answer = refl;
      marks_are = refl;
      record_is = refl;
      modules_are = refl;
      statements_are = refl;
      used_are = refl;
      external_are = refl;
      json_are = refl;
      reasons_are = refl;
      dead_are = refl;
      helpers_are = refl;
      entries_are = refl;
    }

pub ends_before : (o : Outcome) (why : Refusal) (lent : Rows) → o ≡ before why → Ends o (Err why) lent lent
ends_before o why lent e = rw e (stopped why lent)

pub ends_same : (o q : Outcome) (r : Result Totals Refusal) (lent after : Rows) → o ≡ q → Ends q r lent after → Ends o r lent after
ends_same o q r lent after e h = rw e h
