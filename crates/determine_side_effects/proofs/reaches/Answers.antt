use Prim.Native.Nat.{◌-◌}
use mathlib.Core.Path.{ap, ◌∙◌, sym}
use native.Mathlib.Omega.{arith}
use lib.ListN.{length, get_or}
use Rattle.facts.proofs.tables_crate.Sections.{inside}
use Rattle.determine_side_effects.specs.Effects.{effectful}
use Rattle.determine_side_effects.proofs.InSection.{verdicts_long}
use Rattle.determine_side_effects.proofs.Reading.{reaches_none, reaches_by}
use Rattle.determine_side_effects.proofs.reaches.Goals as goal

pub import_record_target-target-requires : goal.import_record_target-target-requires
import_record_target-target-requires c = record { loaded = c.requires.has_verdicts.loaded; m_bound = c.requires.m_bound }

pub returns-then-target-eq0 : goal.returns-then-target-eq0
returns-then-target-eq0 c = reaches_none _ _ (sym c.import_record_target-target.ensures.0 ∙ c.if-target-eq0.true)

pub section-verdicts-requires : goal.section-verdicts-requires
section-verdicts-requires c = inside c.requires.has_verdicts.laid 5 (omega arith)

pub overflow_sub-target : goal.overflow_sub-target
overflow_sub-target c = omega (arith, c.if-target-eq0.false)

pub offset_bounds-verdicts-target : goal.offset_bounds-verdicts-target
offset_bounds-verdicts-target c = record { fits = omega (arith, c.if-target-eq0.false, c.import_record_target-target.ensures.1, c.requires.has_verdicts.loaded.few_modules) }

pub bounds-verdicts-target : goal.bounds-verdicts-target
bounds-verdicts-target c = omega (arith, c.if-target-eq0.false, c.import_record_target-target.ensures.1, ap length c.section-verdicts.ensures, verdicts_long c.requires.has_verdicts.laid)

pub returns : goal.returns
returns c = reaches_by _ _ _ c.import_record_target-target.ensures.0 c.if-target-eq0.false (c.effectful.ensures ∙ ap (λ v. effectful (get_or v (c.import_record_target-target.result - 1) 0)) c.section-verdicts.ensures)
