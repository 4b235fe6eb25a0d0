use Rattle.keep_record.proofs.Growing.{line_written}
use mathlib.Core.Path.{◌∙◌}
use Rattle.keep_record.proofs.write_line.Goals as goal

pub returns : goal.returns
returns c = line_written _ _ _ _ _ _ _ _ _ c.requires.k_in_bounds (c.narrow.ensures ∙ c.kind_of.ensures) (c.narrow-2.ensures ∙ c.first_part.ensures) (c.narrow-3.ensures ∙ c.second_part.ensures) c.narrow-4.ensures c.narrow-5.ensures c.narrow-6.ensures
