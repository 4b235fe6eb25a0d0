use Rattle.consequences.proofs.BySegment.{module_five, use_five, segment_module, segment_use, segment_checked, segment_record, segment_reference, none_forward, none_bailout, good_module, good_statement, good_checked, good_use, here}
use Rattle.keep_rules.specs.Rules.{reference_segment}
use native.Mathlib.Omega.{arith}
use mathlib.Core.Path.{ap, ◌∙◌, sym}
use Rattle.consequences.proofs.segment_candidate.Goals as goal

pub module_candidate-requires : goal.module_candidate-requires
module_candidate-requires c = let e = c.in-Module.is in let b = ap (λ x. x.count) (segment_module _ _ _ c.requires.j_in_bounds.0 _ e) in record { prepared = c.requires.prepared; m_bound = ((good_module _ _ c.requires.good _ e).0, module_five _ _ _ c.requires.j_in_bounds.0 _ e, omega (arith, b, c.requires.j_in_bounds.2)); m_value = (good_module _ _ c.requires.good _ e).1 }

pub import_record_candidate-requires : goal.import_record_candidate-requires
import_record_candidate-requires c = let e = c.in-Statement.is in let d = good_statement _ _ c.requires.good _ _ e in let b = ap (λ x. x.count) (segment_record _ _ _ c.requires.j_in_bounds.0 _ _ e c.if-j-eq0.true) in record { prepared = c.requires.prepared; m_bound = (d.0, d.1, omega (arith, b, c.requires.j_in_bounds.2)) }

pub returns-then-j-eq0 : goal.returns-then-j-eq0
returns-then-j-eq0 c = let r = c.import_record_candidate.ensures in (r.0 ∙ ap (λ x. x.candidate c.args.k) (sym (segment_record _ _ _ c.requires.j_in_bounds.0 _ _ c.in-Statement.is c.if-j-eq0.true)), r.1)

pub reference_candidate-requires : goal.reference_candidate-requires
unfolding reference_segment
reference_candidate-requires c = let e = c.in-Statement.is in let b = ap (λ x. x.count) (segment_reference _ _ _ c.requires.j_in_bounds.0 _ _ e c.if-j-eq0.false) in record { prepared = c.requires.prepared; here = here _ _ _ _ _ _ e c.requires.j_in_bounds.0 c.if-j-eq0.false c.requires.j_in_bounds.1 c.requires.good; k_bound = omega (arith, b, c.requires.j_in_bounds.2) }

pub checked_candidate-requires : goal.checked_candidate-requires
checked_candidate-requires c = let e = c.in-CheckedUse.is in let d = good_checked _ _ c.requires.good _ _ e in let b = ap (λ x. x.count) (segment_checked _ _ _ c.requires.j_in_bounds.0 _ _ e) in record { prepared = c.requires.prepared; s_bound = (d.0, d.1, d.2, omega (arith, b, c.requires.j_in_bounds.2)) }

pub use_candidate-requires : goal.use_candidate-requires
use_candidate-requires c = let e = c.in-Use.is in let b = ap (λ x. x.count) (segment_use _ _ _ c.requires.j_in_bounds.0 _ _ e) in record { prepared = c.requires.prepared; s_bound = ((good_use _ _ c.requires.good _ _ e).0, use_five _ _ _ c.requires.j_in_bounds.0 _ _ e, omega (arith, b, c.requires.j_in_bounds.2)) }

pub returns-in-Module : goal.returns-in-Module
returns-in-Module c = let r = c.module_candidate.ensures in (r.0 ∙ ap (λ x. x.candidate c.args.k) (sym (segment_module _ _ _ c.requires.j_in_bounds.0 _ c.in-Module.is)), r.1)

pub returns-else-j-eq0 : goal.returns-else-j-eq0
unfolding reference_segment
returns-else-j-eq0 c = let r = c.reference_candidate.ensures in (r.0 ∙ ap (λ x. x.candidate c.args.k) (sym (segment_reference _ _ _ c.requires.j_in_bounds.0 _ _ c.in-Statement.is c.if-j-eq0.false)), r.1)

pub returns-in-CheckedUse : goal.returns-in-CheckedUse
returns-in-CheckedUse c = let r = c.checked_candidate.ensures in (r.0 ∙ ap (λ x. x.candidate c.args.k) (sym (segment_checked _ _ _ c.requires.j_in_bounds.0 _ _ c.in-CheckedUse.is)), r.1)

pub returns-in-Use : goal.returns-in-Use
returns-in-Use c = let r = c.use_candidate.ensures in (r.0 ∙ ap (λ x. x.candidate c.args.k) (sym (segment_use _ _ _ c.requires.j_in_bounds.0 _ _ c.in-Use.is)), r.1)

pub returns-in-Forward : goal.returns-in-Forward
returns-in-Forward c = absurd (none_forward _ _ _ c.requires.j_in_bounds.0 _ c.in-Forward.is)

pub returns-in-Bailout : goal.returns-in-Bailout
returns-in-Bailout c = absurd (none_bailout _ _ _ c.requires.j_in_bounds.0 _ c.in-Bailout.is)
