use mathlib.Core.Path.{◌∙◌}
use Rattle.keep_record.proofs.Rows.{cleared_whole}
use native.Mathlib.Omega.{arith}
use Rattle.keep_record.proofs.clear.Goals as goal

pub returns : goal.returns
returns c = (c.clear.ensures ∙ cleared_whole _ _ (omega arith), c.clear_lines.ensures)
