use Rattle.consequences.proofs.BySegment.{module_five, use_five, segment_module, segment_use, segment_checked, segment_record, segment_reference, none_forward, none_bailout, good_module, good_statement, good_use, here}
use Rattle.keep_rules.specs.Rules.{reference_segment}
use mathlib.Core.Path.{ap, ◌∙◌, sym}
use Rattle.consequences.proofs.segment_candidates.Goals as goal

pub module_candidates-requires : goal.module_candidates-requires
module_candidates-requires c = record { prepared = c.requires.prepared; m_bound = ((good_module _ _ c.requires.good _ c.in-Module.is).0, module_five _ _ _ c.requires.j_in_bounds.0 _ c.in-Module.is) }

pub import_record_count-requires : goal.import_record_count-requires
import_record_count-requires c = let b = good_statement _ _ c.requires.good _ _ c.in-Statement.is in record { loaded = c.requires.prepared.loaded; m_bound = (b.0, b.1) }

pub returns-then-j-eq0 : goal.returns-then-j-eq0
returns-then-j-eq0 c = c.import_record_count.ensures.0 ∙ ap (λ x. x.count) (sym (segment_record _ _ _ c.requires.j_in_bounds.0 _ _ c.in-Statement.is c.if-j-eq0.true))

pub reference_candidates-requires : goal.reference_candidates-requires
reference_candidates-requires c = record { prepared = c.requires.prepared; here = here _ _ _ _ _ _ c.in-Statement.is c.requires.j_in_bounds.0 c.if-j-eq0.false c.requires.j_in_bounds.1 c.requires.good }

pub use_candidates-requires : goal.use_candidates-requires
use_candidates-requires c = record { prepared = c.requires.prepared; s_bound = ((good_use _ _ c.requires.good _ _ c.in-Use.is).0, use_five _ _ _ c.requires.j_in_bounds.0 _ _ c.in-Use.is) }

pub returns-in-Module : goal.returns-in-Module
returns-in-Module c = c.module_candidates.ensures ∙ ap (λ x. x.count) (sym (segment_module _ _ _ c.requires.j_in_bounds.0 _ c.in-Module.is))

pub returns-else-j-eq0 : goal.returns-else-j-eq0
unfolding reference_segment
returns-else-j-eq0 c = c.reference_candidates.ensures ∙ ap (λ x. x.count) (sym (segment_reference _ _ _ c.requires.j_in_bounds.0 _ _ c.in-Statement.is c.if-j-eq0.false))

pub returns-in-CheckedUse : goal.returns-in-CheckedUse
returns-in-CheckedUse c = ap (λ x. x.count) (sym (segment_checked _ _ _ c.requires.j_in_bounds.0 _ _ c.in-CheckedUse.is))

pub returns-in-Use : goal.returns-in-Use
returns-in-Use c = c.use_candidates.ensures ∙ ap (λ x. x.count) (sym (segment_use _ _ _ c.requires.j_in_bounds.0 _ _ c.in-Use.is))

pub returns-in-Forward : goal.returns-in-Forward
returns-in-Forward c = absurd (none_forward _ _ _ c.requires.j_in_bounds.0 _ c.in-Forward.is)

pub returns-in-Bailout : goal.returns-in-Bailout
returns-in-Bailout c = absurd (none_bailout _ _ _ c.requires.j_in_bounds.0 _ c.in-Bailout.is)
