use mathlib.Core.Path.{ap, ◌∙◌}
use native.Mathlib.Omega.{arith}
use lib.ListN.{length, get_or}
use Rattle.facts.specs.tables_crate.Layout.{sizes}
use Rattle.facts.proofs.tables_crate.Sections.{inside, kept_none}
use Rattle.determine_side_effects.proofs.InSection.{word_fits, verdicts_long}
use Rattle.determine_side_effects.proofs.verdict.Goals as goal

pub section-verdicts-requires : goal.section-verdicts-requires
section-verdicts-requires c = inside c.requires.settled.laid 5 (omega arith)

pub offset_bounds-verdicts-i : goal.offset_bounds-verdicts-i
unfolding sizes
offset_bounds-verdicts-i c = record { fits = omega (arith, word_fits c.requires.settled.laid 5 (omega arith) kept_none c.args.m.0 c.requires.m_bound, c.requires.settled.laid.few) }

pub bounds-verdicts-i : goal.bounds-verdicts-i
bounds-verdicts-i c = omega (arith, ap length c.section-verdicts.ensures, verdicts_long c.requires.settled.laid, c.requires.m_bound)

pub returns : goal.returns
returns c = ap (λ v. get_or v c.args.m.0 0) (c.section-verdicts.ensures ∙ c.requires.settled.are_last)
