-- The six answer rows together, as a drain and a run write them.
use Rattle.std.specs.Prelude.{ℕ, ◌≡◌, Bool, true, ◌&&◌, ◌||◌, List, length}
use Rattle.determine_side_effects.specs.graph_crate.Check.{Graph}
use Rattle.bit_row.specs.Row.{bit_at}
use Rattle.determine_side_effects.specs.facts_crate.declared.Fact.{Fact}
use Rattle.keep_record.specs.declared.Line.{Line}
use Rattle.keep_record.specs.Lines.{elem}
use Rattle.answer_rows.specs.declared.Row.{Row}
use Rattle.answer_rows.specs.declared.Lengths.{Lengths}
use Rattle.answer_rows.specs.declared.Row.TheVariants.{Modules, Statements, Used, External, Json, NamespaceReason}
use Rattle.answer_rows.specs.Shown.{shows, shown, shown_row}

-- the rows of docs/RULES.md, "What the rows show"
pub record SixRows : Type 0 where
  pub modules : List ℕ
  pub statements : List ℕ
  pub used : List ℕ
  pub external : List ℕ
  pub json : List ℕ
  pub reason : List ℕ

abbrev pub six_rows : List ℕ → List ℕ → List ℕ → List ℕ → List ℕ → List ℕ → SixRows
six_rows modules statements used external json reason =
    record { modules = modules; statements = statements; used = used; external = external; json = json; reason = reason }

abbrev pub lengths_of : SixRows → Lengths
lengths_of r =
    record {
      modules = length r.modules;
      statements = length r.statements;
      used = length r.used;
      external = length r.external;
      json = length r.json;
      reason = length r.reason;
    }

-- A row shows what a fact shows in it, where the condition holds, and what it showed before; the same of lines (docs/RULES.md, "What the rows
-- show": each bit is set by a line and cleared by none).
unfoldable pub Shows : Graph → Row → Bool → Fact → List ℕ → List ℕ → Type 0
Shows g row b f before after = (j : ℕ) → bit_at after j ≡ ((b && elem j (shows g row f)) || bit_at before j)

unfoldable pub ShowsLines : Graph → Row → Bool → List Line → List ℕ → List ℕ → Type 0
ShowsLines g row b lines before after = (j : ℕ) → bit_at after j ≡ ((b && shown g row lines j) || bit_at before j)

-- the rows behind a fact, of the main part or not (docs/RULES.md, "What the rows show" and Step 6)
pub record FactShown (g : Graph) (main : Bool) (f : Fact) (before after : SixRows) : Type 0 where
  pub modules_shown : Shows g Modules true f before.modules after.modules
  pub statements_shown : Shows g Statements true f before.statements after.statements
  pub used_shown : Shows g Used true f before.used after.used
  pub external_shown : Shows g External true f before.external after.external
  pub json_shown : Shows g Json main f before.json after.json
  pub reason_shown : Shows g NamespaceReason main f before.reason after.reason

-- the rows behind lines, of the main part or not (docs/RULES.md, "What the rows show" and Step 6)
pub record LinesShown (g : Graph) (main : Bool) (lines : List Line) (before after : SixRows) : Type 0 where
  pub modules_shown : ShowsLines g Modules true lines before.modules after.modules
  pub statements_shown : ShowsLines g Statements true lines before.statements after.statements
  pub used_shown : ShowsLines g Used true lines before.used after.used
  pub external_shown : ShowsLines g External true lines before.external after.external
  pub json_shown : ShowsLines g Json main lines before.json after.json
  pub reason_shown : ShowsLines g NamespaceReason main lines before.reason after.reason

-- Each row shows what the lines show: modules, statements and the two rows of used symbols all of them, Json and REASON those of the main part alone
-- (docs/RULES.md, Step 6). A drain has one part.
pub record RowsShown (g : Graph) (main all : List Line) (lent after : SixRows) : Type 0 where
  pub modules_shown : after.modules ≡ shown_row g Modules all lent.modules
  pub statements_shown : after.statements ≡ shown_row g Statements all lent.statements
  pub used_shown : after.used ≡ shown_row g Used all lent.used
  pub external_shown : after.external ≡ shown_row g External all lent.external
  pub json_shown : after.json ≡ shown_row g Json main lent.json
  pub reason_shown : after.reason ≡ shown_row g NamespaceReason main lent.reason
