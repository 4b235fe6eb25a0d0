use mathlib.Core.Path.{ap, ◌∙◌}
use Rattle.facts.proofs.tables_crate.Sections.{kept_both}
use Rattle.facts.specs.graph_crate.Check.{graph_in}
use Rattle.determine_side_effects.specs.Effects.{settle, last_verdicts}
use Rattle.determine_side_effects.proofs.InSection.{verdicts_kept}
use Rattle.determine_side_effects.proofs.last_verdicts.Goals as goal

pub first_verdicts-requires : goal.first_verdicts-requires
first_verdicts-requires c = c.requires

pub settle-requires : goal.settle-requires
settle-requires c = verdicts_kept c.requires c.first_verdicts.ensures.1

pub returns : goal.returns
unfolding last_verdicts
returns c =
    let f = c.first_verdicts.ensures in
    let s = c.settle.ensures in
    (s.0 ∙ ap (settle (graph_in c.args.numbers.now)) f.0, kept_both f.1 s.1)
