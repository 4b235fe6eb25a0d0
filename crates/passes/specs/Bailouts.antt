-- The exports of CommonJS modules that were bailed out (004:26-42, `include_cjs_bailout_exports`).
use Rattle.std.specs.Prelude.{ℕ, true, false, List, [], ◌∷◌, ◌++◌, eqb}
use Rattle.determine_side_effects.specs.graph_crate.Check.{Graph}
use Rattle.determine_side_effects.specs.graph_access_crate.Names.{resolved_exports, export_symbol, export_from_common_js}
use Rattle.determine_side_effects.specs.graph_access_crate.Words.{module_of}
use Rattle.determine_side_effects.specs.facts_crate.declared.Fact.{Fact}
use Rattle.determine_side_effects.specs.facts_crate.declared.Fact.TheVariants.{Module, Statement, Use, CheckedUse, Forward, Bailout}
use Rattle.determine_side_effects.specs.facts_crate.Facts.{checked_fact}
use Rattle.keep_record.specs.declared.Line.{Line}

-- a checked use, with Normal, for each resolved export that is from CommonJS (docs/RULES.md, Step 3)
unfoldable pub export_starts : List (List ℕ) → List Fact
export_starts [] = []
export_starts (row ∷ rows) =
    elim (eqb (export_from_common_js row) 1) [ true ↦ checked_fact (export_symbol row) 1 ∷ export_starts rows | false ↦ export_starts rows ]

unfoldable pub bailout_starts : Graph → Fact → List Fact
bailout_starts g (Module m) = []
bailout_starts g (Statement m i) = []
bailout_starts g (Use s x) = []
bailout_starts g (CheckedUse s x) = []
bailout_starts g (Forward s) = []
bailout_starts g (Bailout m) = export_starts (resolved_exports (module_of g m.0))

-- of these lines, in their order
unfoldable pub bailouts_starts : Graph → List Line → List Fact
bailouts_starts g [] = []
bailouts_starts g (l ∷ ls) = bailout_starts g l.fact ++ bailouts_starts g ls
