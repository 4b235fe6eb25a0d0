-- Rows that are enough are long enough, each of them.
use Prim.Native.Nat.{◌*◌, ◌≤◌}
use mathlib.Core.Path.{◌≡◌, ap, ◌∙◌}
use mathlib.Core.Bool.{true}
use native.Mathlib.Omega.{arith}
use borrow.Author.Tests.{leb-true}
use lib.Dec.{leb}
use Rattle.bit_row.proofs.Size.{bytes_hold}
use Rattle.determine_side_effects.specs.graph_crate.Check.{Graph}
use Rattle.determine_side_effects.proofs.Lists.{both}
use Rattle.answer_rows.specs.declared.Lengths.{Lengths}
use Rattle.answer_rows.specs.declared.Row.TheVariants.{Modules, Statements, Used, External, Json, NamespaceReason}
use Rattle.answer_rows.specs.Shown.{bytes_before, row_bytes, rows_enough}

pub record Fit (g : Graph) (l : Lengths) : Type 0 where
  pub modules_fit : row_bytes g Modules ≤ l.modules
  pub statements_fit : row_bytes g Statements ≤ l.statements
  pub used_fit : row_bytes g Used ≤ l.used
  pub external_fit : row_bytes g External ≤ l.external
  pub json_fit : row_bytes g Json ≤ l.json
  pub reason_fit : row_bytes g NamespaceReason ≤ l.reason

pub fits : (g : Graph) (l : Lengths) → rows_enough g l ≡ true → Fit g l
unfolding rows_enough
fits g l e =
    let b = both (leb (row_bytes g Modules) l.modules) _ e in
    let c = both (leb (row_bytes g Statements) l.statements) _ b.1 in
    let d = both (leb (row_bytes g Used) l.used) _ c.1 in
    let f = both (leb (row_bytes g External) l.external) _ d.1 in
    let h = both (leb (row_bytes g Json) l.json) _ f.1 in
    record {
      modules_fit = leb-true (row_bytes g Modules) l.modules b.0;
      statements_fit = leb-true (row_bytes g Statements) l.statements c.0;
      used_fit = leb-true (row_bytes g Used) l.used d.0;
      external_fit = leb-true (row_bytes g External) l.external f.0;
      json_fit = leb-true (row_bytes g Json) l.json h.0;
      reason_fit = leb-true (row_bytes g NamespaceReason) l.reason h.1;
    }

-- each row has a bit for each of its things
pub record Wide (g : Graph) (l : Lengths) : Type 0 where
  pub modules_wide : g.header.modules ≤ 8 * l.modules
  pub statements_wide : bytes_before g.statements g.header.modules ≤ l.statements
  pub used_wide : g.header.symbols ≤ 8 * l.used
  pub external_wide : g.header.symbols ≤ 8 * l.external
  pub json_wide : g.header.symbols ≤ 8 * l.json
  pub reason_wide : g.header.modules ≤ l.reason

pub wide : (g : Graph) (l : Lengths) → rows_enough g l ≡ true → Wide g l
unfolding row_bytes
wide g l e =
    let f = fits g l e in
    let symbols = bytes_hold g.header.symbols in
    record {
      modules_wide = omega (arith, f.modules_fit, bytes_hold g.header.modules);
      statements_wide = f.statements_fit;
      used_wide = omega (arith, f.used_fit, symbols);
      external_wide = omega (arith, f.external_fit, symbols);
      json_wide = omega (arith, f.json_fit, symbols);
      reason_wide = f.reason_fit;
    }

-- rows of the same lengths, as a call leaves them, are enough too
abbrev pub SameLengths : Lengths → Lengths → Type 0
SameLengths l h =
    (h.modules ≡ l.modules) × ((h.statements ≡ l.statements) × ((h.used ≡ l.used) × ((h.external ≡ l.external) × ((h.json ≡ l.json) × ((h.reason ≡ l.reason) × Unit {0})))))

module _ (l h : Lengths) where
  pub same_lengths : SameLengths l h → h ≡ l
  same_lengths e =
      λ i.
      record {
        modules = e.0 i;
        statements = e.1.0 i;
        used = e.1.1.0 i;
        external = e.1.1.1.0 i;
        json = e.1.1.1.1.0 i;
        reason = e.1.1.1.1.1.0 i;
      }

  pub still_enough : (g : Graph) → h ≡ l → rows_enough g l ≡ true → rows_enough g h ≡ true
  still_enough g e p = ap (rows_enough g) e ∙ p
