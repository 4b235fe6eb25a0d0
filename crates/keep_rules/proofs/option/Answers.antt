use Rattle.determine_side_effects.specs.graph_access_crate.Words.{option, flag}
use Rattle.determine_side_effects.specs.graph_crate.Check.{graph_in}
use mathlib.Core.Path.{ap, ◌∙◌}
use Rattle.keep_rules.proofs.option.Goals as goal

pub returns : goal.returns
unfolding graph_in option
returns c = c.flag.ensures ∙ ap (λ h. flag c.args.k h.options) c.header_of-h.ensures
