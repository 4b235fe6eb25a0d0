use Rattle.determine_side_effects.specs.graph_crate.Check.{graph_in}
use Rattle.determine_side_effects.specs.tables_crate.Layout.{sizes}
use Rattle.determine_side_effects.proofs.tables_crate.Sections.{ends_inside, inside}
use native.Mathlib.Omega.{arith}
use mathlib.Core.Path.{ap, ◌∙◌}
use lib.ListN.{length, get_or}
use Rattle.answer_rows.proofs.first_byte_of.Goals as goal

pub section-bytes-requires : goal.section-bytes-requires
section-bytes-requires c = inside c.requires.first_bytes.laid 9 (omega arith)

pub offset_bounds-bytes-i : goal.offset_bounds-bytes-i
unfolding sizes
offset_bounds-bytes-i c = record { fits = omega (arith, c.requires.m_bound, c.requires.first_bytes.laid.few, ends_inside c.requires.first_bytes.laid 9 (omega arith)) }

pub bounds-bytes-i : goal.bounds-bytes-i
unfolding graph_in
bounds-bytes-i c = omega (arith, ap length c.section-bytes.ensures, c.requires.first_bytes.of_bytes.long, c.requires.m_bound)

pub returns : goal.returns
unfolding graph_in
returns c = ap (λ xs. get_or xs c.args.m.0 0) c.section-bytes.ensures ∙ c.requires.first_bytes.of_bytes.has _ c.requires.m_bound
