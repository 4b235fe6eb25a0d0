-- The six rows after the lines of both parts.
use Prim.Native.Nat.{ℕ, ◌<◌, ◌≤◌}
use mathlib.Core.Path.{◌≡◌, ap, sym, ◌∙◌}
use mathlib.Core.Bool.{true, false}
use mathlib.Core.List.{List, [], ◌++◌}
use native.Mathlib.Omega.{arith}
use lib.ListN.{length, get_or, drop, take-append-drop}
use Rattle.determine_side_effects.specs.graph_crate.Check.{Graph, graph_in}
use Rattle.determine_side_effects.specs.graph_crate.Loaded.{Loaded}
use Rattle.determine_side_effects.specs.facts_crate.Facts.{Good}
use Rattle.keep_record.specs.declared.Line.{Line}
use Rattle.keep_record.specs.Held.{line_at, lines_of}
use Rattle.keep_record.proofs.Rows.{lines-take}
use Rattle.answer_rows.specs.declared.Lengths.{Lengths}
use Rattle.answer_rows.specs.declared.Row.{Row}
use Rattle.answer_rows.specs.declared.Row.TheVariants.{Modules, Statements, Used, External, Json, NamespaceReason}
use Rattle.answer_rows.specs.Shown.{row_bytes, shown_row}
use Rattle.answer_rows.specs.Together.{SixRows, lengths_of, ShowsLines, LinesShown, RowsShown}
use Rattle.answer_rows.proofs.InRow.{shown_over}
use Rattle.answer_rows.proofs.Turned.{shows_more}
use Rattle.answer_rows.proofs.Fitting.{Fit}

abbrev Bytes : List ℕ → Type 0
Bytes row = (i : ℕ) → get_or row i 0 < 256

pub record SmallRows (r : SixRows) : Type 0 where
  pub modules_small : Bytes r.modules
  pub statements_small : Bytes r.statements
  pub used_small : Bytes r.used
  pub external_small : Bytes r.external
  pub json_small : Bytes r.json
  pub reason_small : Bytes r.reason

module _ {numbers tables : List ℕ} (t : Loaded numbers tables) (lines : List ℕ) (main total : ℕ) where
  abbrev g : Graph
  g = graph_in numbers

  -- one row: of all lines, or of the main part alone
  module _ (row : Row) (lent bare mid after : List ℕ) (before : main ≤ total) (good : (k : ℕ) → k < total → Good g (line_at lines k).fact) (long : row_bytes g row ≤ length lent)
      (same : length after ≡ length lent) (small : Bytes after) (small-lent : Bytes lent) (cleared : bare ≡ shown_row g row [] lent)
      (first : ShowsLines g row true (drop 0 (lines_of main lines)) bare mid) where
    of-all : ShowsLines g row true (drop main (lines_of total lines)) mid after → after ≡ shown_row g row (lines_of total lines) lent
    of-all second =
        let e : lines_of main lines ++ drop main (lines_of total lines) ≡ lines_of total lines = ap (λ (l : List Line). l ++ drop main (lines_of total lines)) (sym (lines-take total lines main before)) ∙ take-append-drop main (lines_of total lines) in
        shown_over t row lines total lent bare after cleared good long same small small-lent
        (rw e at (shows_more g row true (lines_of main lines) bare mid after (drop main (lines_of total lines)) first second))

    of-main : ShowsLines g row false (drop main (lines_of total lines)) mid after → after ≡ shown_row g row (lines_of main lines) lent
    unfolding ShowsLines
    of-main second = shown_over t row lines main lent bare after cleared (λ k l. good k (omega (arith, l, before))) long same small small-lent (λ j. second j ∙ first j)

  pub rows_shown : (lent bare mid after : SixRows) → main ≤ total → ((k : ℕ) → k < total → Good g (line_at lines k).fact) → Fit g (lengths_of lent) → lengths_of after ≡ lengths_of lent
      → SmallRows after → SmallRows lent → RowsShown g [] [] lent bare → LinesShown g true (drop 0 (lines_of main lines)) bare mid
      → LinesShown g false (drop main (lines_of total lines)) mid after → RowsShown g (lines_of main lines) (lines_of total lines) lent after
  rows_shown lent bare mid after before good long same small small-lent c p q =
      record {
        modules_shown = of-all Modules _ _ _ _ before good long.modules_fit (ap (λ (l : Lengths). l.modules) same) small.modules_small small-lent.modules_small c.modules_shown p.modules_shown q.modules_shown;
        statements_shown = of-all Statements _ _ _ _ before good long.statements_fit (ap (λ (l : Lengths). l.statements) same) small.statements_small small-lent.statements_small c.statements_shown p.statements_shown q.statements_shown;
        used_shown = of-all Used _ _ _ _ before good long.used_fit (ap (λ (l : Lengths). l.used) same) small.used_small small-lent.used_small c.used_shown p.used_shown q.used_shown;
        external_shown = of-all External _ _ _ _ before good long.external_fit (ap (λ (l : Lengths). l.external) same) small.external_small small-lent.external_small c.external_shown p.external_shown q.external_shown;
        json_shown = of-main Json _ _ _ _ before good long.json_fit (ap (λ (l : Lengths). l.json) same) small.json_small small-lent.json_small c.json_shown p.json_shown q.json_shown;
        reason_shown = of-main NamespaceReason _ _ _ _ before good long.reason_fit (ap (λ (l : Lengths). l.reason) same) small.reason_small small-lent.reason_small c.reason_shown p.reason_shown q.reason_shown;
      }
