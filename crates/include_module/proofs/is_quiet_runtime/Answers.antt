use Rattle.include_module.proofs.Sweeping.{another_module, the_runtime}
use mathlib.Core.Path.{ap}
use Rattle.determine_side_effects.specs.graph_crate.Check.{graph_in}
use Rattle.include_module.proofs.is_quiet_runtime.Goals as goal

pub returns-then-m-h : goal.returns-then-m-h
unfolding graph_in
returns-then-m-h c = another_module _ _ _ _ (ap (λ h. h.runtime) c.header_of-h.ensures) c.if-m-h.true

pub returns : goal.returns
unfolding graph_in
returns c = the_runtime _ _ _ _ (ap (λ h. h.runtime) c.header_of-h.ensures) c.if-m-h.false c.has_effects.ensures
