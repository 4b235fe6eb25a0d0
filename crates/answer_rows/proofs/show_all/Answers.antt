use Rattle.answer_rows.proofs.Fitting.{fits, same_lengths, still_enough}
use Rattle.answer_rows.proofs.Ending.{rows_shown}
use mathlib.Core.Path.{◌∙◌}
use native.Mathlib.Omega.{arith}
use Rattle.answer_rows.proofs.show_all.Goals as goal

pub show_lines-requires : goal.show_lines-requires
show_lines-requires c = record { prepared = c.requires.prepared; reason_value = still_enough _ _ _ (same_lengths _ _ (c.clear_rows.auto.modules_row, (c.clear_rows.auto.statements_row, (c.clear_rows.auto.used, (c.clear_rows.auto.external, (c.clear_rows.auto.json, (c.clear_rows.auto.reason, tt))))))) c.requires.reason_value; from_le_to = (omega arith, omega (arith, c.requires.main_le_total.0, c.requires.main_le_total.1), λ k l. c.requires.main_le_total.2 k (omega (arith, l, c.requires.main_le_total.0))) }

pub show_lines-requires-2 : goal.show_lines-requires-2
show_lines-requires-2 c = record { prepared = c.requires.prepared; reason_value = still_enough _ _ _ (same_lengths _ _ (c.show_lines.auto.modules_row, (c.show_lines.auto.statements_row, (c.show_lines.auto.used, (c.show_lines.auto.external, (c.show_lines.auto.json, (c.show_lines.auto.reason, tt)))))) ∙ same_lengths _ _ (c.clear_rows.auto.modules_row, (c.clear_rows.auto.statements_row, (c.clear_rows.auto.used, (c.clear_rows.auto.external, (c.clear_rows.auto.json, (c.clear_rows.auto.reason, tt))))))) c.requires.reason_value; from_le_to = c.requires.main_le_total }

pub returns : goal.returns
returns c =
    rows_shown c.requires.prepared.0.loaded _ _ _ _ _ _ _ c.requires.main_le_total.0 c.requires.main_le_total.2 (fits _ _ c.requires.reason_value)
    (same_lengths _ _ (c.show_lines-2.auto.modules_row, (c.show_lines-2.auto.statements_row, (c.show_lines-2.auto.used, (c.show_lines-2.auto.external, (c.show_lines-2.auto.json, (c.show_lines-2.auto.reason, tt)))))) ∙ same_lengths _ _ (c.show_lines.auto.modules_row, (c.show_lines.auto.statements_row, (c.show_lines.auto.used, (c.show_lines.auto.external, (c.show_lines.auto.json, (c.show_lines.auto.reason, tt)))))) ∙ same_lengths _ _ (c.clear_rows.auto.modules_row, (c.clear_rows.auto.statements_row, (c.clear_rows.auto.used, (c.clear_rows.auto.external, (c.clear_rows.auto.json, (c.clear_rows.auto.reason, tt)))))))
    (search arith)
    (search arith)
    c.clear_rows.ensures c.show_lines.ensures c.show_lines-2.ensures
