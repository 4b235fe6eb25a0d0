use Rattle.determine_side_effects.specs.graph_crate.Check.{graph_in}
use Rattle.entry_liveness.proofs.Related.{module_inside, import_record_inside, target-some, impure, pure-by-bits}
use mathlib.Core.List.{[]}
use mathlib.Core.Path.{◌∙◌, sym}
use native.Mathlib.Omega.{arith}
use Rattle.entry_liveness.proofs.is_pure.Goals as goal

pub import_record_target-target-requires-clause-m_bound : goal.import_record_target-target-requires-clause-m_bound
unfolding graph_in
import_record_target-target-requires-clause-m_bound c = (module_inside _ _ _ c.related_statement-r.ensures, import_record_inside _ _ _ c.related_statement-r.ensures)

pub overflow_sub-target : goal.overflow_sub-target
overflow_sub-target c = let n = target-some _ _ _ c.related_statement-r.ensures [] _ c.import_record_target-target.ensures.0 in omega arith

pub has_effects-requires-clause-m_bound : goal.has_effects-requires-clause-m_bound
has_effects-requires-clause-m_bound c =
    let n = target-some _ _ _ c.related_statement-r.ensures [] _ c.import_record_target-target.ensures.0 in
    omega (arith, c.import_record_target-target.ensures.1)

pub returns-then-has_effects : goal.returns-then-has_effects
returns-then-has_effects c = impure _ _ _ c.related_statement-r.ensures _ _ c.import_record_target-target.ensures.0 (sym c.has_effects.ensures ∙ c.if-has_effects.true)

pub import_record_bits-requires-clause-m_bound : goal.import_record_bits-requires-clause-m_bound
unfolding graph_in
import_record_bits-requires-clause-m_bound c = (module_inside _ _ _ c.related_statement-r.ensures, import_record_inside _ _ _ c.related_statement-r.ensures)

pub returns : goal.returns
returns c = c.flag.ensures ∙ pure-by-bits _ _ _ c.related_statement-r.ensures _ _ c.import_record_target-target.ensures.0 (sym c.has_effects.ensures ∙ c.if-has_effects.false) _ c.import_record_bits.ensures
