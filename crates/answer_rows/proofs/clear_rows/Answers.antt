use Rattle.answer_rows.proofs.Fitting.{fits}
use Rattle.answer_rows.proofs.InRow.{cleared_row}
use Rattle.answer_rows.specs.Shown.{row_bytes}
use Rattle.answer_rows.specs.declared.Row.TheVariants.{Modules, Statements, Used, External, Json, NamespaceReason}
use native.Mathlib.Omega.{arith}
use Rattle.answer_rows.proofs.clear_rows.Goals as goal

pub clear-requires : goal.clear-requires
clear-requires c = let f = (fits _ _ c.requires.reason_value).modules_fit in omega (arith, c.row_bytes.ensures, f)

pub clear-requires-2 : goal.clear-requires-2
clear-requires-2 c = let f = (fits _ _ c.requires.reason_value).statements_fit in omega (arith, c.row_bytes-2.ensures, f)

pub clear-requires-3 : goal.clear-requires-3
clear-requires-3 c = let f = (fits _ _ c.requires.reason_value).used_fit in omega (arith, c.row_bytes-symbols.ensures, f)

pub clear-requires-4 : goal.clear-requires-4
unfolding row_bytes
clear-requires-4 c = let f = (fits _ _ c.requires.reason_value).external_fit in omega (arith, c.row_bytes-symbols.ensures, f)

pub clear-requires-5 : goal.clear-requires-5
unfolding row_bytes
clear-requires-5 c = let f = (fits _ _ c.requires.reason_value).json_fit in omega (arith, c.row_bytes-symbols.ensures, f)

pub clear-requires-6 : goal.clear-requires-6
clear-requires-6 c = let f = (fits _ _ c.requires.reason_value).reason_fit in omega (arith, c.row_bytes-3.ensures, f)

pub returns : goal.returns
unfolding row_bytes
returns c =
    record {
      modules_shown = cleared_row _ Modules _ _ _ c.row_bytes.ensures c.clear.ensures;
      statements_shown = cleared_row _ Statements _ _ _ c.row_bytes-2.ensures c.clear-2.ensures;
      used_shown = cleared_row _ Used _ _ _ c.row_bytes-symbols.ensures c.clear-3.ensures;
      external_shown = cleared_row _ External _ _ _ c.row_bytes-symbols.ensures c.clear-4.ensures;
      json_shown = cleared_row _ Json _ _ _ c.row_bytes-symbols.ensures c.clear-5.ensures;
      reason_shown = cleared_row _ NamespaceReason _ _ _ c.row_bytes-3.ensures c.clear-6.ensures;
    }
